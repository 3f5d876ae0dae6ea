use Rattle.std.proofs.Common.{rules, codes, map}
use Rattle.clap.specs.Words.{app_of, rule_of}
use Rattle.tool_base.specs.declared.options.OptionRow.{OptionRow}
use Rattle.tool_base.proofs.ClapFind.{all_rules, find_dashes, find_err, find_ok, one_rule}
use Rattle.tool_base.proofs.options.find_options.Goals as goal

pub returns-then-has_dashes : goal.returns-then-has_dashes
returns-then-has_dashes c = find_dashes _ c.args.words.now (search rules)

pub loop-option-preserved : goal.loop-option-preserved
loop-option-preserved c =
    one_rule (app_of c.loop-option.command) (app_of c.in_ok-command.command) (codes "eperftool")
    c.args.options.now c.loop-option.option-index _ c.new-in-loop-option.result.id
    (rule_of c.action-arg.result)
    c.loop-option-test.true c.new-in-loop-option.ensures.id (search rules)
    (c.in_ok-command.ensures.shape (search rules)) c.loop-option.invariant

pub returns-in-Ok : goal.returns-in-Ok
returns-in-Ok c =
    find_ok (app_of c.loop-option.command) (codes "eperftool") (map (λ (o : OptionRow). o.name.now)
    c.args.options.now) c.args.words.now c.in-Ok.matches
    (all_rules _ (codes "eperftool") c.args.options.now c.loop-option.option-index
    c.loop-option-test.false c.loop-option.invariant)
    c.requires (search rules) c.in-Ok.ensures.kinds c.in-Ok.ensures.matches

pub returns-else-eq : goal.returns-else-eq
returns-else-eq c =
    find_err (app_of c.loop-option.command) (codes "eperftool") (map (λ (o : OptionRow). o.name.now)
    c.args.options.now) c.args.words.now c.in-Err.error
    (all_rules _ (codes "eperftool") c.args.options.now c.loop-option.option-index
    c.loop-option-test.false c.loop-option.invariant)
    c.requires c.in-Err.ensures.kinds (λ memory. search rules)
