use Rattle.std.proofs.Common.{◌≡◌, ◌+◌, ◌∷◌, ◌++◌, [], ℕ, List, not, ap, ap₂, ◌∙◌, sym, arith}
use Rattle.std.proofs.lemmas.List.FromFn.{map-range_with_len_more}
use Rattle.sparse_rows.specs.Closure.{flagged}
use Rattle.peeling.proofs.Flags.{members_few}
use Rattle.fec_session.specs.Residue.{place}
use Rattle.fec_session.proofs.Places.{rank_yes, rank_no}
use Rattle.fec_session.proofs.Opened.{unknown_is}
use Rattle.fec_session.proofs.residue.places.Goals as goal
use Rattle.fec_session.proofs.residue.places.Goals.{then-is_none, else-is_none}

pub overflow_add-unknown : goal.overflow_add-unknown
overflow_add-unknown c = omega (
  arith,
  c.loop-column.invariant.unknown,
  members_few c.loop-column.column (λ b. not (flagged c.args.core.now.known b)),
  c.code.ensures.decoder.code.most,
  c.n-n.ensures.value,
  ap (λ m. m.n) c.code.ensures.value,
)

pub loop-column-preserved : goal.loop-column-preserved
loop-column-preserved c =
    let column = c.loop-column.column in
    let known = c.args.core.now.known in
    let unknown : not (flagged known column) ≡ c.is_none.result = unknown_is c.symbol.result
    (flagged known column) c.is_none.result c.symbol.ensures.known c.is_none.ensures in
    record {
      places = c.in_ok-push.ensures.items ∙ ap₂ (λ (xs : List ℕ) (p : ℕ). xs ++ p ∷ [])
          c.loop-column.invariant.places c.loop-column.invariant.unknown
          ∙ sym (map-range_with_len_more (place c.args.core.now) 0 column column (omega arith));
      unknown = elim c.if-is_none.branch [
        | then-is_none w ↦ w.unknown-is ∙ ap (λ (p : ℕ). p + 1) c.loop-column.invariant.unknown
            ∙ sym (rank_yes (λ b. not (flagged known b)) column (unknown ∙ w.if-is_none.true))
        | else-is_none w ↦ w.unknown-is ∙ c.loop-column.invariant.unknown
            ∙ sym (rank_no (λ b. not (flagged known b)) column (unknown ∙ w.if-is_none.false))
      ];
    }
