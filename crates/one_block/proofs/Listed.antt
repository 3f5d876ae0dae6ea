-- Lists that grow by one item.
use Rattle.std.proofs.Common.{◌≡◌, ℕ, suc, ◌+◌, List, [], ◌∷◌, ◌++◌, sym, ap, ◌∙◌, arith}
use Rattle.std.specs.List.{range_with_len}
use Rattle.park_miller.specs.Generator.{after, drawn, next}
use Rattle.one_block.specs.Numbers.{draws_of}
use Rattle.std.proofs.lemmas.List.{map-id}
use Rattle.std.proofs.lemmas.List.FromFn.{map-range_with_len_more}

-- one number more stands behind the others
pub range_more : (n : ℕ) → range_with_len 0 (n + 1) ≡ range_with_len 0 n ++ n ∷ []
range_more n =
    sym (map-id (range_with_len 0 (n + 1)))
    ∙ (map-range_with_len_more (λ (k : ℕ). k) 0 n n (omega arith)
    ∙ ap (λ (l : List ℕ). l ++ n ∷ []) (map-id (range_with_len 0 n)))

-- one draw more stands behind the others
pub draws_more : (seed below i old new value : ℕ) (items now : List ℕ)
    → old ≡ after i seed → new ≡ next old → value ≡ drawn below new
    → items ≡ draws_of seed below i → now ≡ items ++ value ∷ []
    → (new ≡ after (i + 1) seed) × (now ≡ draws_of seed below (i + 1))
draws_more seed below i old new value items now was step is so_far grown =
    let place : i + 1 ≡ suc i = omega arith in
    let state : new ≡ after (i + 1) seed =
    step ∙ (ap next was ∙ sym (ap (λ (k : ℕ). after k seed) place)) in
    let draws : now ≡ draws_of seed below (i + 1) =
    grown ∙ (ap (λ (l : List ℕ). l ++ value ∷ []) so_far
    ∙ (ap (λ (v : ℕ). draws_of seed below i ++ v ∷ []) (is ∙ ap (drawn below) state)
    ∙ sym (map-range_with_len_more (λ (j : ℕ). drawn below (after (j + 1) seed)) 0 i i
    (omega arith)))) in
    (state, draws)
