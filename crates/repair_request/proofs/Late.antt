-- The late positions settle a block, and no fewer positions do.
use Rattle.std.proofs.Common.{⊎_elim, ◌⊎◌, inl, inr, ◌≡◌, ℕ, suc, ◌<◌, ◌≤◌, Bool, true, false}
use Rattle.std.proofs.Common.{◌==◌, ◌||◌, List, [], ◌∷◌, length, refl, sym, ◌∙◌}
use Rattle.std.proofs.Common.{subst, arith, eq-eqb, true≢false, le_antisymm, zero-le}
use Rattle.std.specs.List.{range_with_len}
use Rattle.std.proofs.lemmas.Bool.{cases_lt}
use Rattle.sparse_rows.specs.Matrix.{Matrix, is_in}
use Rattle.sparse_rows.specs.Closure.{Set, adding, members}
use Rattle.sparse_rows.specs.NullWord.{IsNullWord, last_of}
use Rattle.sparse_rows.proofs.Increasing.{rising_same}
use Rattle.sparse_rows.proofs.Null.{in_all, members_in, members_rise, passes}
use Rattle.sparse_rows.proofs.Sets.{or_first, or_second, same_test}
use Rattle.sparse_rows.proofs.Sets.{true_or_false}
use Rattle.null_witness.specs.ReducedWords.{AreLate, IsLate}
use Rattle.null_witness.proofs.Increasing.{last_in}
use Rattle.null_witness.proofs.NullWords.{null_decided}
use Rattle.null_witness.proofs.Subsets.{null_subset}
use Rattle.repair_request.specs.Settling.{IsDeficiency, IsInnovative, Settles, together}
use Rattle.repair_request.proofs.Counting.{fewer, some_out, without, without_in, without_shorter}
use Rattle.repair_request.proofs.Further.{holds_it, late_after, late_before, one_gone, some_gone}
use Rattle.repair_request.proofs.Further.{together_lacks, together_null}

-- ---- the list of the late positions

test_of : {A : Type 0} → A ⊎ (A → ⊥) → Bool
test_of (inl a) = true
test_of (inr none) = false

test_true : {A : Type 0} → (t : A ⊎ (A → ⊥)) → test_of t ≡ true → A
unfolding test_of
test_true (inl a) e = a
test_true (inr none) e = absurd (true≢false (sym e))

true_test : {A : Type 0} → (t : A ⊎ (A → ⊥)) → A → test_of t ≡ true
unfolding test_of
true_test (inl a) b = refl
true_test (inr none) b = absurd (none b)

module _ (m : Matrix) (s : Set) where
  abbrev IsWord : List ℕ → Type 0
  IsWord = IsNullWord m s

  is_late : Set
  is_late p = test_of (null_decided m s p)

  late_below : (p : ℕ) → IsLate IsWord p → p < m.n
  late_below p late = subst (λ (q : ℕ). q < m.n) late.2
      (in_all (λ c. c < m.n) late.0 late.1.below (last_of late.0) (last_in late.0 late.1.nonempty))

  pub late_list : List ℕ
  late_list = members m.n is_late

  pub late_list_is : AreLate (IsNullWord m s) late_list
  unfolding late_list is_late
  late_list_is = record {
    rising = members_rise m.n is_late;
    each = λ p. (
      λ e. test_true (null_decided m s p) (passes is_late (range_with_len 0 m.n) p e),
      λ late. members_in m.n is_late p (late_below p late) (true_test (null_decided m s p) late),
    );
  }

  pub late_is_one : (late other : List ℕ) → AreLate (IsNullWord m s) late
      → AreLate (IsNullWord m s) other → other ≡ late
  late_is_one late other h g = rising_same other late g.rising h.rising (λ c. same_test _ _
      (λ e. (h.each c).1 ((g.each c).0 e)) (λ e. (g.each c).1 ((h.each c).0 e)))

  -- a null word holds a late position: its last one
  pub late_settles : (late : List ℕ) → AreLate (IsNullWord m s) late → Settles m s late
  late_settles late h word null =
      let is = together_null m s late word null in
      let last : is_in late (last_of word) ≡ true = (h.each (last_of word)).1 (word, is, refl) in
      true≢false (sym (last_in word null.nonempty)
      ∙ together_lacks m s late word null (last_of word) last)

  -- with no null word nothing is late
  none_late : ((word : List ℕ) → ¬ IsWord word) → (late : List ℕ)
      → AreLate (IsNullWord m s) late → late ≡ []
  none_late none [] h = refl
  none_late none (p ∷ late) h =
      let l = (h.each p).0 (or_first (p == p) _ (eq-eqb p p refl)) in
      absurd (none l.0 l.1)

-- ---- one further position

module _ (m : Matrix) (s : Set) (e : ℕ) (late later : List ℕ) (h : AreLate (IsNullWord m s) late)
    (g : AreLate (IsNullWord m (adding e s)) later) where
  stays : (c : ℕ) → is_in later c ≡ true → is_in late c ≡ true
  stays c f = (h.each c).1 (late_before m s e c ((g.each c).0 f))

  gone : (c : ℕ) → is_in later c ≡ false → ¬ IsLate (IsNullWord m (adding e s)) c
  gone c f l = true≢false (sym ((g.each c).1 l) ∙ f)

  -- it takes at most one late position away
  pub at_most_one : length late ≤ suc (length later)
  at_most_one = ⊎_elim
      (λ q. fewer late (q.0 ∷ later) h.rising (λ c in_late. ⊎_elim
      (λ f. or_second (q.0 == c) _ f)
      (λ f. or_first (q.0 == c) _ (eq-eqb q.0 c (one_gone m s e q.0 c
      ((h.each q.0).0 q.1) (gone q.0 q.2) ((h.each c).0 in_late) (gone c f))))
      (true_or_false (is_in later c))))
      (λ all. let le : length late ≤ length later = fewer late later h.rising all in omega arith)
      (some_out late later)

  -- and one where a null word holds it
  pub exactly_one : IsInnovative m s e → length late ≡ suc (length later)
  exactly_one some = le_antisymm at_most_one less
    where
      less : length later < length late
      less = ⊎_elim (λ (lt : length later < length late). lt)
          (λ (le : length late ≤ length later).
          absurd (some_gone m s e some (λ p l. ⊎_elim (λ f. (g.each p).0 f)
          (λ f.
          let into = fewer later (without p late) g.rising
          (λ c k. without_in p late c (stays c k)
          (λ same. true≢false (sym k ∙ subst (λ d. is_in later d ≡ false) same f))) in
          let short = without_shorter p late ((h.each p).1 l) in absurd (omega arith))
          (true_or_false (is_in later p)))))
          (cases_lt (length later) (length late))

  -- and none where no null word does
  pub just_same : (¬ IsInnovative m s e) → length late ≡ length later
  just_same none = le_antisymm
      (fewer late later h.rising
      (λ c f. (g.each c).1 (late_after m s e none c ((h.each c).0 f))))
      (fewer later late g.rising stays)

-- a further position is innovative exactly where it takes a late one away, and that can be told
pub innovative_or_not : (m : Matrix) (s : Set) (e : ℕ)
    → IsInnovative m s e ⊎ (¬ IsInnovative m s e)
innovative_or_not m s e =
    let late = late_list m s in
    let later = late_list m (adding e s) in
    let h = late_list_is m s in
    let g = late_list_is m (adding e s) in
    ⊎_elim
    (λ q. let l = (h.each q.0).0 q.1 in
    inl (l.0, l.1, holds_it m s e q.0 l (gone m s e late later h g q.0 q.2)))
    (λ all. inr (λ some. some_gone m s e some (λ p l. (g.each p).0 (all p ((h.each p).1 l)))))
    (some_out late later)

-- ---- no fewer positions settle it

or_again : (a b c : Bool) → (a || (b || c)) ≡ true → ((a || b) || c) ≡ true
or_again true b c e = refl
or_again false b c e = e

-- what is left to settle after the first position of a request
pub settles_rest : (m : Matrix) (s : Set) (e : ℕ) (request : List ℕ) → Settles m s (e ∷ request)
    → Settles m (adding e s) request
settles_rest m s e request settles word null = settles word
    (null_subset m (together s (e ∷ request)) (together (adding e s) request) word
    (λ c f. or_again (s c) (e == c) (is_in request c) f) null)

pub none_left : (m : Matrix) (s : Set) → Settles m s [] → (word : List ℕ) → ¬ IsNullWord m s word
none_left m s settles word null = settles word
    (null_subset m (together s []) s word (λ c f. or_false (s c) f) null)
  where
    or_false : (b : Bool) → (b || false) ≡ true → b ≡ true
    or_false true f = refl
    or_false false f = f

pub no_fewer : (m : Matrix) (s : Set) (request late : List ℕ) → Settles m s request
    → AreLate (IsNullWord m s) late → length late ≤ length request
no_fewer m s [] late settles h = rw (none_late m s (none_left m s settles) late h) zero-le
no_fewer m s (e ∷ request) late settles h =
    let rest : length (late_list m (adding e s)) ≤ length request = no_fewer m (adding e s) request
    (late_list m (adding e s)) (settles_rest m s e request settles)
    (late_list_is m (adding e s)) in
    let step = at_most_one m s e late (late_list m (adding e s)) h (late_list_is m (adding e s)) in
    omega arith

pub fewest : (m : Matrix) (s : Set) (late : List ℕ) → AreLate (IsNullWord m s) late
    → IsDeficiency m s (length late)
fewest m s late h = record {
  enough = (late, late_settles m s late h, refl);
  least = λ request settles. no_fewer m s request late settles h;
}

-- the deficiency is the number of late positions
pub deficiency_is : (m : Matrix) (s : Set) (count : ℕ) → IsDeficiency m s count
    → count ≡ length (late_list m s)
deficiency_is m s count d = le_antisymm
    (d.least (late_list m s) (late_settles m s (late_list m s) (late_list_is m s)))
    (subst (λ (n : ℕ). length (late_list m s) ≤ n) d.enough.2
    (no_fewer m s d.enough.0 (late_list m s) d.enough.1 (late_list_is m s)))
