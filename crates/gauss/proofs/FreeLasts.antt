-- The free unknowns of a packed system, by its rows in echelon form.
use Rattle.std.proofs.Common.{◌≡◌, ◌↔◌, ℕ, ◌*◌, ◌<◌, ◌≤◌, ⊎_elim, not, true, false, List, length}
use Rattle.std.proofs.Common.{◌∙◌, refl, sym, subst, true≢false, ltb}
use Rattle.std.specs.List.{range_with_len}
use Rattle.std.proofs.lemmas.Bool.{cases_lt, le-ltb, lt-ltb, not-true}
use Rattle.sparse_rows.specs.Closure.{Set, members}
use Rattle.sparse_rows.specs.Matrix.{is_in}
use Rattle.sparse_rows.specs.NullWord.{last_of}
use Rattle.sparse_rows.proofs.Null.{in_all, members_below, members_in, members_rise, passes}
use Rattle.null_witness.specs.ReducedWords.{IsLate}
use Rattle.gauss.specs.Elimination.{IsStageIn, lead_of, pivot_row}
use Rattle.gauss.specs.Freedom.{AreFree}
use Rattle.gauss.specs.Masks.{free_unknowns}
use Rattle.gauss.specs.Reduction.{IsNullSet}
use Rattle.gauss.specs.Packed.{IsPacked, bits_of, packed_system, width_of}
use Rattle.gauss.proofs.Past.{bits_past}
use Rattle.gauss.proofs.NullSets.{free_is_last, last_below, last_is_free}
use Rattle.gauss.proofs.Read.{as_first, count, ok, stage}

module _ (u len r : ℕ) (first words : List ℕ) (sums : List (List ℕ)) (pivots leads : List ℕ)
    (packed : IsPacked u len r first sums) (same_long : length words ≡ r * width_of u)
    (st : IsStageIn u r u (bits_of (width_of u) first) (bits_of (width_of u) words) pivots leads)
  where
    abbrev is_free : Set
    is_free p = not (ltb (pivot_row r pivots p) r)

    abbrev eqs : ℕ
    eqs = length (packed_system u len r first sums).equations

    count_is : eqs ≡ r
    count_is = count u len r first words sums pivots leads packed st

    rows_past : (p c : ℕ) → eqs ≤ pivot_row r pivots p
        → bits_of (width_of u) words (pivot_row r pivots p) c ≡ false
    rows_past p c le = bits_past r (width_of u) (pivot_row r pivots p) words same_long
        (rw count_is at le) c

    unled : (p : ℕ) → is_free p ≡ true → r ≤ pivot_row r pivots p
    unled p e = ⊎_elim (λ pivot. absurd (true≢false (sym (lt-ltb (pivot_row r pivots p) r pivot)
        ∙ not-true (ltb (pivot_row r pivots p) r) e)))
        (λ le. le) (cases_lt (pivot_row r pivots p) r)

    -- those below u are the unknowns at which null sets end
    are_free : AreFree (packed_system u len r first sums) (members u is_free)
    are_free = record {
      late = record { rising = members_rise u is_free; each = each };
      below = members_below u is_free;
    }
      where
        each : (p : ℕ) → (is_in (members u is_free) p ≡ true)
            ↔ IsLate (IsNullSet (packed_system u len r first sums)) p
        each p = (
          λ e. free_is_last (packed_system u len r first sums) (ok u len r first words sums pivots
              leads packed st) (bits_of (width_of u) first) (bits_of (width_of u) words)
              (pivot_row r pivots) (lead_of u leads)
              (stage u len r first words sums pivots leads packed st) (as_first u len r first words
              sums pivots leads packed st) rows_past p
              (in_all (λ d. d < u) (members u is_free) (members_below u is_free) p e)
              (rw count_is (unled p (passes is_free (range_with_len 0 u) p e))),
          λ late. let low = last_below
              (packed_system u len r first sums) (ok u len r first words sums
              pivots leads packed st) (bits_of (width_of u) first) (bits_of (width_of u) words)
              (pivot_row r pivots) (lead_of u leads)
              (stage u len r first words sums pivots leads packed st) (as_first u len r first words
              sums pivots leads packed st) late.0 late.1 in
              let free = last_is_free
              (packed_system u len r first sums) (ok u len r first words sums
              pivots leads packed st) (bits_of (width_of u) first) (bits_of (width_of u) words)
              (pivot_row r pivots) (lead_of u leads)
              (stage u len r first words sums pivots leads packed st) (as_first u len r first words
              sums pivots leads packed st) late.0 late.1 in
              subst (λ q. is_in (members u is_free) q ≡ true) late.2
              (members_in u is_free (last_of late.0) low
              (rw (le-ltb (pivot_row r pivots (last_of late.0)) r (rw count_is at free)) refl)),
        )

    pub read_free_unknowns : AreFree (packed_system u len r first sums) (free_unknowns r pivots)
    read_free_unknowns = subst (λ n. AreFree (packed_system u len r first sums) (members n is_free))
        (sym st.pivot_count) are_free
