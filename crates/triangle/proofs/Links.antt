-- The numbers of a chain, and how many links it has.
use Rattle.std.proofs.Common.{◌≡◌, ℕ, zero, suc, ◌+◌, ◌<◌, ◌≤◌, ⊎_elim, Bool, true, false, nat_le}
use Rattle.std.proofs.Common.{Some, refl, ap, ◌∙◌, arith, add-one, eq-or-lt_of_le}
use Rattle.std.specs.List.{find, range_with_len}
use Rattle.std.proofs.lemmas.Bool.{cases_lt, both_ways, le-leb, lt-leb}
use Rattle.std.proofs.lemmas.Option.{same_Some}
use Rattle.park_miller.specs.Generator.{after, drawn}
use Rattle.triangle.specs.Triangle.{link, link_count}

module _ (p : ℕ → Bool) where
  -- the first number of a range that passes
  first_in_range : (a n i : ℕ) → a ≤ i → i < a + n → ((l : ℕ) → a ≤ l → l < i → p l ≡ false)
      → p i ≡ true → find p (range_with_len a n) ≡ Some i
  first_in_range a zero i le lt before here = absurd (omega arith)
  first_in_range a (suc n) i le lt before here = ⊎_elim
      (λ (e : a ≡ i). rw (e, here) refl)
      (λ (less : a < i). let fails : p a ≡ false = before a (omega arith) less in
      rw fails (first_in_range (a + 1) n i (omega arith) (omega arith)
      (λ l le' lt'. before l (omega arith) lt') here))
      (eq-or-lt_of_le le)

  -- what is found in a range is not among the numbers that fail
  found_beyond : (a n i found : ℕ) → ((l : ℕ) → a ≤ l → l < i → p l ≡ false)
      → find p (range_with_len a n) ≡ Some found → i ≤ found
  found_beyond a zero i found before e = absurd (cc)
  found_beyond a (suc n) i found before e =
      by_case (p a) refl e (found_beyond (a + 1) n i found (λ l le lt. before l (omega arith) lt))
    where
      by_case : (b : Bool) → p a ≡ b → find p (range_with_len a (suc n)) ≡ Some found
          → (find p (range_with_len (a + 1) n) ≡ Some found → i ≤ found) → i ≤ found
      by_case true here e rest =
          let same : a ≡ found = same_Some a found (rw here at e) in
          ⊎_elim (λ (lt : a < i). absurd (both_ways (p a) (before a (omega arith) lt) here))
          (λ (le : i ≤ a). omega arith) (cases_lt a i)
      by_case false here e rest = rest (rw here at e)

-- a chain that has gone on for so many links, and the number that it has reached
pub record IsGoing (start state links reached : ℕ) : Type 0 where
  pub reached_is : reached ≡ link start state links
  pub above : (l : ℕ) → l < links → l < link start state l
  pub falls : reached + links ≤ start

pub IsGoing-none : (start state : ℕ) → IsGoing start state 0 start
IsGoing-none start state = record {
  reached_is = refl;
  above = λ l lt. absurd (omega arith);
  falls = omega arith;
}

module _ (start state links reached : ℕ) (going : IsGoing start state links reached) where
  -- one link more
  pub IsGoing-more : links < reached → (lower : ℕ) → lower ≡ drawn reached (after (suc links) state)
      → lower < reached → IsGoing start state (links + 1) lower
  IsGoing-more more lower drew less = record {
    reached_is = rw add-one (drew ∙ ap (λ below. drawn below (after (suc links) state))
        going.reached_is);
    above = λ l lt. ⊎_elim (λ (e : l ≡ links). rw (e, ← going.reached_is) more)
        (λ (before : l < links). going.above l before)
        (eq-or-lt_of_le (let le : l ≤ links = omega arith in le));
    falls = let h : reached + links ≤ start = going.falls in omega arith;
  }

  fails : (l : ℕ) → 0 ≤ l → l < links → nat_le (link start state l) l ≡ false
  fails l le lt = lt-leb (link start state l) l (going.above l lt)

  -- a chain whose number is not above the count of its links ends there
  pub count_is : reached ≤ links → link_count start state ≡ Some links
  count_is ends = first_in_range (λ l. nat_le (link start state l) l) 0 (start + 1) links
      (omega arith) (let h : reached + links ≤ start = going.falls in omega arith) fails
      (le-leb (link start state links) links (rw (← going.reached_is) ends))

  -- and one whose number is above it has more links
  pub count_above : links < reached → (count : ℕ) → link_count start state ≡ Some count
      → links < count
  count_above more count e = let le : links + 1 ≤ count =
      found_beyond (λ l. nat_le (link start state l) l) 0 (start + 1) (links + 1) count below e in
      omega arith
    where
      below : (l : ℕ) → 0 ≤ l → l < links + 1 → nat_le (link start state l) l ≡ false
      below l le lt = ⊎_elim (λ (same : l ≡ links). lt-leb (link start state l) l
          (rw (same, ← going.reached_is) more)) (λ (before : l < links). fails l le before)
          (eq-or-lt_of_le (let bound : l ≤ links = omega arith in bound))
