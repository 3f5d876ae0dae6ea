-- Pieces of bytes that follow one another, one for each item of a list: the packets of a block, and
-- the blocks of a file.
use Rattle.std.proofs.Common.{◌≡◌, ℕ, ◌+◌, ◌<◌, List, [], ◌∷◌, ◌++◌, length, get_or, take, drop}
use Rattle.std.proofs.Common.{Option, sym, ap, ◌∙◌, subst, arith, append_assoc, append-nil}
use Rattle.std.proofs.Common.{take-append-drop}
use Rattle.std.specs.List.{enumerate_from, flat_map}
use Rattle.std.proofs.lemmas.List.{take_more, length-take-le}
use Rattle.fec_base.specs.Bytes.{AppendsFront}
use Rattle.fec_base.proofs.Cuts.{cut_longer}
use Rattle.object_file.specs.Staged.{PassesOn}
use Rattle.object_file.proofs.Passing.{passes_after, cut_after}

module _ {X : Type 0} (piece : ℕ → X → List ℕ) where
  -- the pieces of the items, which are numbered from some number on
  abbrev pub pieces_from : ℕ → List X → List ℕ
  pieces_from first xs = flat_map (λ (p : ℕ × X). piece p.0 p.1) (enumerate_from first xs)

  from_append : (first : ℕ) (xs ys : List X) → pieces_from first (xs ++ ys) ≡ pieces_from first xs
      ++ pieces_from (first + length xs) ys
  from_append first [] ys = ap (λ (n : ℕ). pieces_from n ys) (let e : first ≡ first + 0 = omega
      arith in e)
  from_append first (x ∷ xs) ys =
      let place : first + 1 + length xs ≡ first + length (x ∷ xs) = omega arith in
      ap (λ l. piece first x ++ l) (from_append (first + 1) xs ys
      ∙ ap (λ (n : ℕ). pieces_from (first + 1) xs ++ pieces_from n ys) place)
      ∙ sym (append_assoc (piece first x) (pieces_from (first + 1) xs)
      (pieces_from (first + length (x ∷ xs)) ys))

  -- one item more
  pub pieces_more : (xs : List X) (i : ℕ) (d : X) → i < length xs
      → pieces_from 0 (take (i + 1) xs) ≡ pieces_from 0 (take i xs) ++ piece i (get_or xs i d)
  pieces_more xs i d lt =
      let place : 0 + length (take i xs) ≡ i = omega (arith, length-take-le i xs (omega arith)) in
      ap (pieces_from 0) (take_more xs i d lt) ∙ from_append 0 (take i xs) (get_or xs i d ∷ [])
      ∙ ap (λ (n : ℕ). pieces_from 0 (take i xs) ++ pieces_from n (get_or xs i d ∷ [])) place
      ∙ ap (λ l. pieces_from 0 (take i xs) ++ l) (append-nil (piece i (get_or xs i d)))

  -- the pieces of the first items are a front of all
  pub pieces_front : (xs : List X) (i : ℕ) → pieces_from 0 xs ≡ pieces_from 0 (take i xs)
      ++ pieces_from (0 + length (take i xs)) (drop i xs)
  pieces_front xs i = ap (pieces_from 0) (sym (take-append-drop i xs))
      ∙ from_append 0 (take i xs) (drop i xs)

  -- a piece that passes on behind those before it, and one that is cut
  module _ (held mid now : Option (List ℕ)) (before between : List ℕ) (xs : List X) (i : ℕ) (d : X)
      (inside : i < length xs) (first : PassesOn held mid before between
      (pieces_from 0 (take i xs))) where
    pub pieces_pass : (after : List ℕ) → PassesOn mid now between after (piece i (get_or xs i d))
        → PassesOn held now before after (pieces_from 0 (take (i + 1) xs))
    pieces_pass after second = subst (PassesOn held now before after)
        (sym (pieces_more xs i d inside)) (passes_after held mid now before between after
        (pieces_from 0 (take i xs)) (piece i (get_or xs i d)) first second)

    pub pieces_cut : AppendsFront mid now (between ++ piece i (get_or xs i d))
        → AppendsFront held now (before ++ pieces_from 0 xs)
    pieces_cut cut =
        let front : List ℕ = pieces_from 0 (take i xs) ++ piece i (get_or xs i d) in
        let rest : List ℕ = pieces_from (0 + length (take (i + 1) xs)) (drop (i + 1) xs) in
        let whole : (before ++ front) ++ rest ≡ before ++ pieces_from 0 xs =
        append_assoc before front rest
        ∙ ap (λ l. before ++ l) (ap (λ l. l ++ rest) (sym (pieces_more xs i d inside))
        ∙ sym (pieces_front xs (i + 1))) in
        subst (AppendsFront held now) whole (cut_longer held now (before ++ front) rest
        (cut_after held mid now before between (pieces_from 0 (take i xs))
        (piece i (get_or xs i d)) first cut))
