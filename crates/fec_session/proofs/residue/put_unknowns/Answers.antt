use Rattle.std.proofs.Common.{◌≡◌, ◌++◌, ◌∷◌, [], ◌∙◌, ℕ, List, not, map, take, get_or, ap, sym}
use Rattle.std.proofs.Common.{arith}
use Rattle.std.proofs.lemmas.List.{map-append}
use Rattle.sparse_rows.specs.Matrix.{row_of}
use Rattle.sparse_rows.specs.Closure.{flagged, outside}
use Rattle.gauss.specs.Filling.{equation_at, with_equation}
use Rattle.fec_session.specs.Residue.{place}
use Rattle.fec_session.specs.Residual.{with_unknowns}
use Rattle.fec_session.proofs.Places.{rank_below}
use Rattle.fec_session.proofs.Opened.{IsRead, is_read, pass_yes, pass_no, unknown_is, places_long}
use Rattle.fec_session.proofs.Opened.{place_at, places_before}
use Rattle.fec_session.proofs.Assembled.{more_unknown, unknowns_are, all_below_same}
use Rattle.fec_session.proofs.residue.put_unknowns.Goals as goal
use Rattle.fec_session.proofs.residue.put_unknowns.Goals.{then-is_none, else-is_none}

pub symbol-requires : goal.symbol-requires
symbol-requires c =
    (is_read c.args.core.now c.code.ensures.decoder c.args.row c.requires.row c.code.result.now
    c.code-in-loop-i.result.now c.code.ensures.value c.code-in-loop-i.ensures.value c.loop-i.i
    c.row_len-i-end.result c.row_entry-column.result
    c.row_len-i-end.ensures c.loop-i-test.true c.row_entry-column.ensures.value).below

pub bounds-places-column : goal.bounds-places-column
bounds-places-column c =
    let d = c.args.core.now in
    let column = c.row_entry-column.result in
    let read : IsRead d c.args.row c.loop-i.i column =
    is_read d c.code.ensures.decoder c.args.row c.requires.row c.code.result.now
    c.code-in-loop-i.result.now c.code.ensures.value c.code-in-loop-i.ensures.value c.loop-i.i
    c.row_len-i-end.result column
    c.row_len-i-end.ensures c.loop-i-test.true c.row_entry-column.ensures.value in
    omega (arith, read.below, places_long d c.args.places.now c.requires.places)

pub add_column-requires-clause-unknown : goal.add_column-requires-clause-unknown
add_column-requires-clause-unknown c =
    let d = c.args.core.now in
    let column = c.row_entry-column.result in
    let read : IsRead d c.args.row c.loop-i.i column =
    is_read d c.code.ensures.decoder c.args.row c.requires.row c.code.result.now
    c.code-in-loop-i.result.now c.code.ensures.value c.code-in-loop-i.ensures.value c.loop-i.i
    c.row_len-i-end.result column
    c.row_len-i-end.ensures c.loop-i-test.true c.row_entry-column.ensures.value in
    let unknown : not (flagged d.known column) ≡ c.is_none.result = unknown_is c.symbol.result
    (flagged d.known column) c.is_none.result c.symbol.ensures.known c.is_none.ensures in
    omega (
      arith,
      place_at d c.args.places.now c.requires.places column read.below,
      rank_below (λ b. not (flagged d.known b)) d.matrix.n column read.below (unknown
          ∙ c.if-is_none.true),
      ap (λ s. s.unknowns) c.loop-i.invariant,
      c.requires.unknowns,
    )

pub add_column-requires-clause-behind : goal.add_column-requires-clause-behind
add_column-requires-clause-behind c =
    let d = c.args.core.now in
    let column = c.row_entry-column.result in
    let read : IsRead d c.args.row c.loop-i.i column =
    is_read d c.code.ensures.decoder c.args.row c.requires.row c.code.result.now
    c.code-in-loop-i.result.now c.code.ensures.value c.code-in-loop-i.ensures.value c.loop-i.i
    c.row_len-i-end.result column
    c.row_len-i-end.ensures c.loop-i-test.true c.row_entry-column.ensures.value in
    let places : List ℕ = map (place d)
    (outside (flagged d.known) (take c.loop-i.i (row_of d.matrix c.args.row))) in
    all_below_same (equation_at c.loop-i.eqs c.args.r).unknowns places
    (get_or c.args.places.now column 0) (place d column)
    (unknowns_are c.args.eqs.now c.loop-i.eqs c.args.r places c.requires.equation
    c.loop-i.invariant)
    (place_at d c.args.places.now c.requires.places column read.below)
    (places_before d c.code.ensures.decoder c.args.row c.loop-i.i column c.requires.row read)

pub loop-i-preserved : goal.loop-i-preserved
loop-i-preserved c =
    let d = c.args.core.now in
    let column = c.row_entry-column.result in
    let read : IsRead d c.args.row c.loop-i.i column =
    is_read d c.code.ensures.decoder c.args.row c.requires.row c.code.result.now
    c.code-in-loop-i.result.now c.code.ensures.value c.code-in-loop-i.ensures.value c.loop-i.i
    c.row_len-i-end.result column
    c.row_len-i-end.ensures c.loop-i-test.true c.row_entry-column.ensures.value in
    let unknown : not (flagged d.known column) ≡ c.is_none.result = unknown_is c.symbol.result
    (flagged d.known column) c.is_none.result c.symbol.ensures.known c.is_none.ensures in
    let before : List ℕ = outside (flagged d.known) (take c.loop-i.i (row_of d.matrix c.args.row))
    in
    let eqs = c.args.eqs.now in
    elim c.if-is_none.branch [
      | then-is_none w ↦ more_unknown eqs c.loop-i.eqs c.if-is_none.eqs c.args.r
          (map (place d) before) (get_or c.args.places.now column 0) c.requires.equation
          c.loop-i.invariant (w.eqs-is ∙ w.add_column.ensures)
          ∙ ap (λ (us : List ℕ). with_equation eqs c.args.r
          (with_unknowns us (equation_at eqs c.args.r)))
          (ap (λ (p : ℕ). map (place d) before ++ p ∷ [])
          (place_at d c.args.places.now c.requires.places column read.below)
          ∙ sym (map-append (place d) before (column ∷ []))
          ∙ ap (map (place d)) (sym (pass_yes d c.args.row c.loop-i.i column read
          (λ b. not (flagged d.known b)) (unknown ∙ w.if-is_none.true))))
      | else-is_none w ↦ w.eqs-is ∙ c.loop-i.invariant
          ∙ ap (λ (xs : List ℕ). with_equation eqs c.args.r
          (with_unknowns (map (place d) xs) (equation_at eqs c.args.r)))
          (sym (pass_no d c.args.row c.loop-i.i column read (λ b. not (flagged d.known b)) (unknown
          ∙ w.if-is_none.false)))
    ]
