use Rattle.std.proofs.Common.{◌≡◌, ◌+◌, ℕ, List, [], get_or, set, fold, ap, ◌∙◌, arith}
use Rattle.fec_base.specs.Symbol.{xor}
use Rattle.fec_session.proofs.Rows.{row_below, added_all}
use Rattle.fec_session.proofs.encode.add_row.Goals as goal

pub add_all-requires-clause-sources : goal.add_all-requires-clause-sources
add_all-requires-clause-sources g c = λ i d lt.
    let m = c.args.code.now in
    let low = row_below m c.k.ensures.code c.args.r c.requires.row c.as_slice.result.now
    (c.as_slice.ensures.value ∙ c.read_before.ensures.columns) i d lt in
    omega (arith, low, c.requires.count, c.requires.row)

pub add_all-requires-clause-apart : goal.add_all-requires-clause-apart
add_all-requires-clause-apart g c = λ i d lt same.
    let m = c.args.code.now in
    let low = row_below m c.k.ensures.code c.args.r c.requires.row c.as_slice.result.now
    (c.as_slice.ensures.value ∙ c.read_before.ensures.columns) i d lt in
    absurd (omega (arith, low, same, c.k.ensures.value))

pub returns-clause-sum : goal.returns-clause-sum
returns-clause-sum g c = λ len each none.
    let m = c.args.code.now in let start : List (List ℕ) = c.args.symbols.now in
    let columns : List ℕ = c.as_slice.result.now in
    let own : c.k.result + c.args.r ≡ m.k + c.args.r = omega (arith, c.k.ensures.value) in
    c.add_all.ensures.sum ∙ ap (λ (at : ℕ). set start at (fold (λ s d. xor s (get_or start d []))
    (get_or start at []) columns)) own
    ∙ ap (set start (m.k + c.args.r)) (added_all m c.k.ensures.code c.args.r c.requires.row len
    start c.requires.count each none columns (c.as_slice.ensures.value
    ∙ c.read_before.ensures.columns))
