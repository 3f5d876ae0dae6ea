-- Numbers that follow one another.
use Rattle.std.proofs.Common.{◌≡◌, ℕ, ◌+◌, List, [], ◌∷◌, ◌++◌, refl, sym, ap, ◌∙◌}
use Rattle.std.specs.List.{range_with_len}
use Rattle.std.proofs.lemmas.List.{map-id}
use Rattle.std.proofs.lemmas.List.FromFn.{map-range_with_len_more}

-- one number more stands behind the others
pub range_more : (first n : ℕ)
    → range_with_len first (n + 1) ≡ range_with_len first n ++ (first + n) ∷ []
range_more first n =
    sym (map-id (range_with_len first (n + 1)))
    ∙ (map-range_with_len_more (λ (k : ℕ). k) first n (first + n) refl
    ∙ ap (λ (l : List ℕ). l ++ (first + n) ∷ []) (map-id (range_with_len first n)))
