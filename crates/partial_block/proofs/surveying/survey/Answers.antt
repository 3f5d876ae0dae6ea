use Rattle.std.proofs.Common.{sym, subst, ◌∙◌}
use Rattle.sparse_rows.specs.Codeword.{symbol_at}
use Rattle.peeling.proofs.Decided.{codeword_consistent}
use Rattle.gauss.specs.Equations.{System}
use Rattle.gauss.specs.Reductions.{IsReduction}
use Rattle.gauss.specs.declared.reducing.Reduction.TheVariants as answer
use Rattle.fec_session.specs.Pairing.{open_symbols}
use Rattle.partial_block.proofs.Kept.{has_sources}
use Rattle.partial_block.proofs.surveying.survey.Goals as goal

pub returns-then-clashed-clause-survey : goal.returns-then-clashed-clause-survey
returns-then-clashed-clause-survey c arrivals stands word fits =
    let d = c.args.core.now in
    stands.contradicts (sym c.clashed.ensures ∙ c.if-clashed.true) (symbol_at d.len word)
    (codeword_consistent d.matrix d.len arrivals word fits.codeword fits.fits)

pub returns-in-Clash-clause-survey : goal.returns-in-Clash-clause-survey
returns-in-Clash-clause-survey c arrivals stands word fits =
    let d = c.args.core.now in
    let unsolved = subst (λ (s : System). IsReduction s answer.Clash)
    c.in_ok-columns.ensures.equations
    (subst (IsReduction c.in_ok-columns.field-0.equations) c.in-Clash.is c.in_ok-reduce.ensures) in
    let pairs = c.codewords_pair_with_solutions.ensures d arrivals c.code.ensures.decoder stands
    (sym c.clashed.ensures ∙ c.if-clashed.false) in
    unsolved (open_symbols d word) (pairs.solution word fits)

pub returns-clause-survey : goal.returns-clause-survey
returns-clause-survey c arrivals stands =
    let d = c.args.core.now in
    let form = subst (λ (s : System). IsReduction s (answer.Reduced c.in-Reduced.reduced))
    c.in_ok-columns.ensures.equations
    (subst (IsReduction c.in_ok-columns.field-0.equations) c.in-Reduced.is c.in_ok-reduce.ensures)
    in
    c.what_is_read_off_is_saved.ensures d arrivals c.in-Reduced.reduced
    c.in_ok-partial-in-Reduced.partial c.code.ensures.decoder stands
    (sym c.clashed.ensures ∙ c.if-clashed.false) form c.in_ok-partial-in-Reduced.ensures

pub returns-clause-holds : goal.returns-clause-holds
returns-clause-holds c =
    let d = c.args.core.now in
    let form = subst (λ (s : System). IsReduction s (answer.Reduced c.in-Reduced.reduced))
    c.in_ok-columns.ensures.equations
    (subst (IsReduction c.in_ok-columns.field-0.equations) c.in-Reduced.is c.in_ok-reduce.ensures)
    in
    has_sources d c.in-Reduced.reduced c.in_ok-partial-in-Reduced.partial c.code.ensures.decoder
    form (c.null_words_pair_with_null_sets.ensures.places d) c.in_ok-partial-in-Reduced.ensures
