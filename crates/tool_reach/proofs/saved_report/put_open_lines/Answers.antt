use Rattle.std.proofs.Common.{◌≡◌, ◌<◌, ◌+◌, ◌++◌, List, ℕ, length, get_or, take, drop, subst, sym, arith}
use Rattle.std.proofs.Common.{◌∙◌}
use Rattle.std.specs.List.{flat_map}
use Rattle.std.proofs.lemmas.List.{take_all}
use Rattle.std.proofs.lemmas.List.FromFn.{get_or-range_with_len, length-range_with_len}
use Rattle.std.specs.Io.KnownBytes.{Appends}
use Rattle.std.proofs.KnownBytes.{Appends-trans}
use Rattle.fec_base.specs.Bytes.{AppendsFront}
use Rattle.fec_base.proofs.Cuts.{cut_behind, cut_longer, on_err}
use Rattle.tool_base.proofs.Blocks.{all_blocks, one_more}
use Rattle.tool_reach.specs.Salvaged.{count_of, open_line, sources_of}
use Rattle.tool_reach.proofs.saved_report.put_open_lines.Goals as goal

pub loop-e-preserved : goal.loop-e-preserved
loop-e-preserved g c =
    let held = g.R.Sink.held in
    let saved = c.args.partial.now in
    let xs = sources_of saved in
    let i = c.loop-e.e in
    let below : i < count_of saved = omega arith in
    let lt : i < length xs = omega (arith, below, length-range_with_len 0 (count_of saved)) in
    let is : i ≡ get_or xs i i = sym (get_or-range_with_len 0 (count_of saved) i i below
    ∙ (let at : 0 + i ≡ i = omega arith in at)) in
    record {
      told = subst (Appends (held c.args.report.now) (held c.put_open_line.new.report))
          (sym (one_more (open_line saved) xs i i lt is))
          (Appends-trans (held c.args.report.now) (held c.loop-e.report)
          (held c.put_open_line.new.report) (flat_map (open_line saved) (take i xs))
          (open_line saved i) c.loop-e.invariant.told c.in_ok-put_open_line.ensures.written);
      later = omega (arith, c.loop-e.invariant.later, c.put_open_line.ensures.cause.later);
    }

pub returns-clause-written : goal.returns-clause-written
returns-clause-written g c =
    let held = g.R.Sink.held in
    let saved = c.args.partial.now in
    let xs = sources_of saved in
    let all : take c.loop-e.e xs ≡ xs = take_all c.loop-e.e xs
    (omega (arith, length-range_with_len 0 (count_of saved))) in
    subst (λ (l : List ℕ). Appends (held c.args.report.now) (held c.loop-e.report)
    (flat_map (open_line saved) l)) all c.loop-e.invariant.told

pub returns-in_err-put_open_line-clause-cut : goal.returns-in_err-put_open_line-clause-cut
returns-in_err-put_open_line-clause-cut g c =
    let held = g.R.Sink.held in
    let saved = c.args.partial.now in
    let xs = sources_of saved in
    let i = c.loop-e.e in
    let h = held c.args.report.now in
    let n = held c.put_open_line.new.report in
    let below : i < count_of saved = omega arith in
    let lt : i < length xs = omega (arith, below, length-range_with_len 0 (count_of saved)) in
    let is : i ≡ get_or xs i i = sym (get_or-range_with_len 0 (count_of saved) i i below
    ∙ (let at : 0 + i ≡ i = omega arith in at)) in
    let before : List ℕ = flat_map (open_line saved) (take i xs) in
    let after : List ℕ = flat_map (open_line saved) (drop (i + 1) xs) in
    on_err _ _ (subst (AppendsFront h n) (sym (all_blocks (open_line saved) xs i i lt is))
    (cut_behind h (held c.loop-e.report) n before (open_line saved i ++ after)
    c.loop-e.invariant.told (cut_longer (held c.loop-e.report) n (open_line saved i) after
    c.in_err-put_open_line.ensures.cut)))
