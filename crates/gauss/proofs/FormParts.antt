-- The parts of a reduced form that is kept as bits.
use Rattle.std.proofs.Common.{◌≡◌, ℕ, ◌<◌, ◌≤◌, ◌*◌, ◌+◌, true≢false, true, false, List, [], length}
use Rattle.std.proofs.Common.{sym, ap, ◌∙◌, arith, zero-add}
use Rattle.std.proofs.lemmas.Bool.{false_from_ne_true}
use Rattle.std.proofs.lemmas.List.FromFn.{get_or-map-range_with_len, length-map-range_with_len}
use Rattle.sparse_rows.specs.Closure.{members}
use Rattle.sparse_rows.specs.Matrix.{is_in}
use Rattle.sparse_rows.proofs.Null.{members_same}
use Rattle.sparse_rows.proofs.Sets.{any_at, any_from}
use Rattle.gauss.specs.Masks.{AreMasks, form_of, set_of, stride_of}
use Rattle.gauss.specs.Reduction.{IsFirstWith, ReducedForm, is_open, set_at}
use Rattle.gauss.proofs.Words.{row_room}

module _ (symbols : List (List ℕ)) (sets : ℕ) (bytes : List ℕ) where
  pub set_count : length (form_of symbols sets bytes).sets ≡ sets
  set_count = length-map-range_with_len
      (λ i. members (length symbols) (set_of (stride_of sets) bytes i)) 0 sets

  pub set_at_is : (i : ℕ) → i < sets → set_at (form_of symbols sets bytes) i
      ≡ members (length symbols) (set_of (stride_of sets) bytes i)
  set_at_is i lt = get_or-map-range_with_len
      (λ j. members (length symbols) (set_of (stride_of sets) bytes j)) 0 sets i i [] lt
      (zero-add i)

  -- a null set holds an unknown where its bit is one
  pub holds_is : (i c : ℕ) → i < sets → c < length symbols → set_of (stride_of sets) bytes i c
      ≡ is_in (set_at (form_of symbols sets bytes) i) c
  holds_is i c lt low = sym (ap (λ w. is_in w c) (set_at_is i lt) ∙ members_same (length symbols)
      (set_of (stride_of sets) bytes i) c low)

  -- the bits of an unknown lie within the bytes
  pub mask_room : AreMasks (length symbols) sets bytes → (c : ℕ) → c < length symbols
      → c * stride_of sets + stride_of sets ≤ length bytes
  mask_room masks c low = omega (
    arith,
    row_room (length symbols) (stride_of sets) c low,
    masks.long,
  )

-- no null set holds an unknown
pub closed_from : (r : ReducedForm) (c : ℕ)
    → ((i : ℕ) → i < length r.sets → is_in (set_at r i) c ≡ false) → is_open r c ≡ false
closed_from r c none = false_from_ne_true (is_open r c) (λ e. let w = any_at (λ set. is_in set c) []
    r.sets e in true≢false (sym w.2 ∙ none w.0 w.1))

-- the first null set with an unknown holds it
pub open_by_first : (r : ReducedForm) (c i : ℕ) → IsFirstWith r c i → is_open r c ≡ true
open_by_first r c i first = any_from (λ set. is_in set c) [] r.sets i first.inside first.holds
