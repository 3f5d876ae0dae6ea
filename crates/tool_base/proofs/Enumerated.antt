-- Lines for the items of a list, each with its place: one item more.
use Rattle.std.proofs.Common.{◌≡◌, ℕ, ◌+◌, ◌<◌, List, [], ◌∷◌, ◌++◌, length, get_or, take, drop}
use Rattle.std.proofs.Common.{sym, ap, ◌∙◌, arith, add-one, append_assoc, append-nil}
use Rattle.std.proofs.Common.{take-append-drop, length-take-le}
use Rattle.std.specs.List.{enumerate_from, flat_map}
use Rattle.std.proofs.Math.Seq.{take-suc}

module _ {A : Type 0} (line : ℕ → A → List ℕ) where
  -- the lines of the items, the first of which has place n
  abbrev pub lines_from : ℕ → List A → List ℕ
  lines_from n xs = flat_map (λ (p : ℕ × A). line p.0 p.1) (enumerate_from n xs)

  pub lines_append : (n : ℕ) (xs ys : List A) → lines_from n (xs ++ ys) ≡ lines_from n xs
      ++ lines_from (n + length xs) ys
  lines_append n [] ys = ap (λ (k : ℕ). lines_from k ys) (let same : n ≡ n + 0 = omega arith in
      same)
  lines_append n (x ∷ xs) ys =
      let place : n + 1 + length xs ≡ n + length (x ∷ xs) = omega arith in
      ap (λ l. line n x ++ l) (lines_append (n + 1) xs ys
      ∙ ap (λ (k : ℕ). lines_from (n + 1) xs ++ lines_from k ys) place)
      ∙ sym (append_assoc (line n x) (lines_from (n + 1) xs)
      (lines_from (n + length (x ∷ xs)) ys))

  -- the lines of one item more
  pub lines_more : (xs : List A) (i : ℕ) (d : A) → i < length xs
      → lines_from 0 (take (i + 1) xs) ≡ lines_from 0 (take i xs) ++ line i (get_or xs i d)
  lines_more xs i d lt =
      let long : length (take i xs) ≡ i = length-take-le i xs (omega arith) in
      ap (λ (k : ℕ). lines_from 0 (take k xs)) (add-one i) ∙ ap (lines_from 0) (take-suc xs i d lt)
      ∙ lines_append 0 (take i xs) (get_or xs i d ∷ [])
      ∙ ap (λ (k : ℕ). lines_from 0 (take i xs) ++ lines_from k (get_or xs i d ∷ []))
      (let place : 0 + length (take i xs) ≡ i = omega (arith, long) in place)
      ∙ ap (λ l. lines_from 0 (take i xs) ++ l) (append-nil (line i (get_or xs i d)))

  -- the lines of the first items are a front of all
  pub lines_front : (xs : List A) (i : ℕ)
      → lines_from 0 (take i xs) ++ lines_from (0 + length (take i xs)) (drop i xs) ≡ lines_from 0
      xs
  lines_front xs i = sym (lines_append 0 (take i xs) (drop i xs))
      ∙ ap (lines_from 0) (take-append-drop i xs)
