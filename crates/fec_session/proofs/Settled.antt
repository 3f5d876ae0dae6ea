-- Lists that are made one after the other, item by item.
use Rattle.std.proofs.Common.{◌≡◌, ℕ, ◌<◌, List, [], ◌∷◌, ◌++◌, length, get_or, refl, sym, subst₂}
use Rattle.std.proofs.Common.{arith, length-append, ⊎_elim, eq-or-lt_of_le}
use Rattle.std.proofs.lemmas.List.{get_or_append_left, get_or_push}
use Rattle.sparse_rows.specs.Matrix.{Matrix}
use Rattle.peeling.specs.Decoder.{Decoder}
use Rattle.peeling.specs.Lookups.{IsEmpty}
use Rattle.peeling.specs.Stands.{StandsFor}
use Rattle.fec_session.specs.Session.{AreNew, ComeOut, ComesOut, HoldsOutcome}
use Rattle.fec_session.specs.declared.outcome.Outcome.{Outcome}

-- what holds of the items at each place holds with one item more in both
items_more : {A B : Type 0} (R : A → B → Type 0) (xs : List A) (ys : List B) (x : A) (y : B)
    → length ys ≡ length xs
    → ((b : ℕ) (d : A) (e : B) → b < length xs → R (get_or xs b d) (get_or ys b e)) → R x y
    → (b : ℕ) (d : A) (e : B) → b < length (xs ++ x ∷ [])
    → R (get_or (xs ++ x ∷ []) b d) (get_or (ys ++ y ∷ []) b e)
items_more R xs ys x y same each one b d e lt =
    ⊎_elim own before (eq-or-lt_of_le (omega (arith, lt, length-append xs (x ∷ [])))) where
      before : b < length xs → R (get_or (xs ++ x ∷ []) b d) (get_or (ys ++ y ∷ []) b e)
      before inside = subst₂ R (sym (get_or_append_left xs (x ∷ []) d b inside))
          (sym (get_or_append_left ys (y ∷ []) e b (omega (arith, same, inside))))
          (each b d e inside)

      own : b ≡ length xs → R (get_or (xs ++ x ∷ []) b d) (get_or (ys ++ y ∷ []) b e)
      own at = subst₂ R (sym (get_or_push xs x d b (sym at)))
          (sym (get_or_push ys y e b (omega (arith, same, at)))) one

counted_more : {A B : Type 0} (xs : List A) (ys : List B) (x : A) (y : B) → length ys ≡ length xs
    → length (ys ++ y ∷ []) ≡ length (xs ++ x ∷ [])
counted_more xs ys x y same = omega (
  arith,
  same,
  length-append xs (x ∷ []),
  length-append ys (y ∷ []),
)

-- no block came out yet, and one more
pub come_none : ComeOut [] []
come_none = record {
  counted = refl;
  each = λ b d o lt. absurd (omega (arith, lt));
  holds = λ b d o lt. absurd (omega (arith, lt));
}

pub come_more : (decoders : List Decoder) (outcomes : List Outcome) (d : Decoder) (o : Outcome)
    → ComeOut decoders outcomes → ComesOut d o → HoldsOutcome d o
    → ComeOut (decoders ++ d ∷ []) (outcomes ++ o ∷ [])
come_more decoders outcomes d o out one held = record {
  counted = counted_more decoders outcomes d o out.counted;
  each = items_more ComesOut decoders outcomes d o out.counted out.each one;
  holds = items_more HoldsOutcome decoders outcomes d o out.counted out.holds held;
}

-- no decoder was made yet, and one more
pub new_none : (len : ℕ) → AreNew [] len []
new_none len = record {
  counted = refl;
  empty = λ b m d lt. absurd (omega (arith, lt));
  stand = λ b d lt. absurd (omega (arith, lt));
}

pub new_more : (codes : List Matrix) (len : ℕ) (decoders : List Decoder) (m : Matrix) (d : Decoder)
    → AreNew codes len decoders → IsEmpty m len d → StandsFor d []
    → AreNew (codes ++ m ∷ []) len (decoders ++ d ∷ [])
new_more codes len decoders m d are empty stands = record {
  counted = counted_more codes decoders m d are.counted;
  empty = items_more (λ code decoder. IsEmpty code len decoder) codes decoders m d are.counted
      are.empty empty;
  stand = λ b e lt. items_more (λ (code : Matrix) decoder. StandsFor decoder []) codes decoders m d
      are.counted (λ i code decoder inside. are.stand i decoder inside) stands b m e lt;
}
