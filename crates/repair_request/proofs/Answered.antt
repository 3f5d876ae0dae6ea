-- A request that is answered in part, and one that other arrivals overtake.
use Rattle.std.proofs.Common.{◌≡◌, ℕ, Bool, true, false, ◌==◌, ◌||◌, ◌++◌, List}
use Rattle.std.proofs.Common.{length, refl, sym, ap, ◌∙◌, arith, length-append}
use Rattle.std.proofs.lemmas.List.Folds.{list_any-append}
use Rattle.sparse_rows.specs.Matrix.{Matrix, is_in}
use Rattle.sparse_rows.specs.Closure.{Set}
use Rattle.sparse_rows.specs.NullWord.{IsNullWord}
use Rattle.null_witness.specs.ReducedWords.{AreLate}
use Rattle.null_witness.proofs.Subsets.{null_subset}
use Rattle.repair_request.specs.Settling.{IsDeficiency, Settles, together}
use Rattle.repair_request.proofs.Further.{together_null}

or_both : (a b c : Bool) → ((a || b) || c) ≡ (a || (b || c))
or_both true b c = refl
or_both false b c = refl

together_more : (s : Set) (part rest : List ℕ) (c : ℕ)
    → together (together s part) rest c ≡ together s (part ++ rest) c
together_more s part rest c = or_both (s c) (is_in part c) (is_in rest c)
    ∙ ap (λ b. s c || b) (sym (list_any-append (λ d. d == c) part rest))

-- what the one part of a list leaves the other settles
pub settles_part : (m : Matrix) (s : Set) (part rest : List ℕ) → Settles m s (part ++ rest)
    → Settles m (together s part) rest
settles_part m s part rest settles word null = settles word
    (null_subset m (together s (part ++ rest)) (together (together s part) rest) word
    (λ c e. together_more s part rest c ∙ e) null)

part_settles : (m : Matrix) (s : Set) (part rest : List ℕ) → Settles m (together s part) rest
    → Settles m s (part ++ rest)
part_settles m s part rest settles word null = settles word
    (null_subset m (together (together s part) rest) (together s (part ++ rest)) word
    (λ c e. sym (together_more s part rest c) ∙ e) null)

pub part_counts : (m : Matrix) (s : Set) (part rest : List ℕ)
    → IsDeficiency m s (length (part ++ rest)) → Settles m s (part ++ rest)
    → IsDeficiency m (together s part) (length rest)
part_counts m s part rest d settles = record {
  enough = (rest, settles_part m s part rest settles, refl);
  least = λ request enough.
      let le = d.least (part ++ request) (part_settles m s part request enough) in
      omega (arith, le, length-append part rest, length-append part request);
}

-- what is late after further arrivals was late before
pub late_shrink : (m : Matrix) (s : Set) (more late later : List ℕ) → AreLate (IsNullWord m s) late
    → AreLate (IsNullWord m (together s more)) later → (p : ℕ) → is_in later p ≡ true
    → is_in late p ≡ true
late_shrink m s more late later h g p e =
    let l = (g.each p).0 e in
    (h.each p).1 (l.0, together_null m s more l.0 l.1, l.2)
