-- What blocks have, one after the other, and cut to a size.
use Rattle.std.proofs.Common.{◌≡◌, ℕ, ◌+◌, ◌-◌, ◌<◌, List, [], ◌∷◌, ◌++◌, length, get_or, take}
use Rattle.std.proofs.Common.{drop, sym, ap, ◌∙◌, arith, append-nil, length-append, ⊎_elim, ◌≤◌}
use Rattle.std.specs.List.{flat_map}
use Rattle.std.proofs.lemmas.List.{drop_more, take-append-drop, take_all, take_more}
use Rattle.std.proofs.lemmas.List.Concat.{flat_map-append}
use Rattle.std.proofs.Math.Seq.{take-append-add, take-append-le}
use Rattle.std.proofs.lemmas.Bool.{cases_lt}

-- a front of two lists is one of the first, and then of the second
take_split : (size : ℕ) (xs ys : List ℕ) → take size (xs ++ ys) ≡ take size xs
    ++ take (size - length xs) ys
take_split size xs ys = ⊎_elim
    (λ (lt : size < length xs).
    let none : size - length xs ≡ 0 = omega arith in
    take-append-le size xs ys (omega arith) ∙ sym (ap (λ (n : ℕ). take size xs ++ take n ys) none
    ∙ append-nil (take size xs)))
    (λ (le : length xs ≤ size).
    let whole : size ≡ length xs + (size - length xs) = omega arith in
    ap (λ (n : ℕ). take n (xs ++ ys)) whole ∙ take-append-add xs ys (size - length xs)
    ∙ sym (ap (λ (l : List ℕ). l ++ take (size - length xs) ys) (take_all size xs le)))
    (cases_lt size (length xs))

module _ {X : Type 0} (f : X → List ℕ) (xs : List X) (i : ℕ) (x : X) (lt : i < length xs)
    (is : x ≡ get_or xs i x) where
  -- what the blocks before have
  abbrev before : List ℕ
  before = flat_map f (take i xs)

  abbrev after : List ℕ
  after = flat_map f (drop (i + 1) xs)

  -- one block more
  pub one_more : flat_map f (take (i + 1) xs) ≡ before ++ f x
  one_more = ap (flat_map f) (take_more xs i x lt ∙ ap (λ (y : X). take i xs ++ y ∷ []) (sym is))
      ∙ flat_map-append f (take i xs) (x ∷ []) ∙ ap (λ (l : List ℕ). before ++ l) (append-nil (f x))

  -- and those behind
  pub all_blocks : flat_map f xs ≡ before ++ (f x ++ after)
  all_blocks = ap (flat_map f) (sym (take-append-drop i xs) ∙ ap (λ (l : List X). take i xs ++ l)
      (drop_more xs i x lt ∙ ap (λ (y : X). y ∷ drop (i + 1) xs) (sym is)))
      ∙ flat_map-append f (take i xs) (x ∷ drop (i + 1) xs)

  module _ (size rest : ℕ) (left : rest ≡ size - length before) where
    -- the blocks up to one, and this one, cut to what is left
    pub blocks_more : take size (flat_map f (take (i + 1) xs)) ≡ take size before ++ take rest (f x)
    blocks_more = ap (take size) one_more ∙ take_split size before (f x)
        ∙ ap (λ (n : ℕ). take size before ++ take n (f x)) (sym left)

    -- what is left behind it
    pub blocks_left : rest - length (f x) ≡ size - length (flat_map f (take (i + 1) xs))
    blocks_left = omega (arith, left, ap length one_more, length-append before (f x))

    -- these are a front of the whole
    pub blocks_front : (more : List ℕ)
        × (take size before ++ (take rest (f x) ++ more) ≡ take size (flat_map f xs))
    blocks_front =
        let more : List ℕ = take (rest - length (f x)) after in (
          more,
          ap (λ (l : List ℕ). take size before ++ l) (sym (take_split rest (f x) after))
              ∙ ap (λ (n : ℕ). take size before ++ take n (f x ++ after)) left
              ∙ sym (take_split size before (f x ++ after))
              ∙ ap (take size) (sym all_blocks),
        )
