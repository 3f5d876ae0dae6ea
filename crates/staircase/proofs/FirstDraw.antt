-- The first good draw, draw by draw.
use Rattle.std.proofs.Common.{◌≡◌, ℕ, zero, suc, ◌+◌, ◌-◌, ◌≤◌, Bool, true, false, Option, Some}
use Rattle.std.proofs.Common.{None, refl, sym, ap, ap₂, ◌∙◌, arith, add-one}
use Rattle.std.specs.List.{find, range_with_len}
use Rattle.std.specs.Option.{option_map}
use Rattle.park_miller.specs.Generator.{next, after, drawn}
use Rattle.park_miller.specs.LimitedDraws.{LimitedDraws}
use Rattle.staircase.specs.Pick.{after_draws, Picked, pick}
use Rattle.staircase.specs.Left.{HasDrawn}

-- a step more at the start is a step more at the end
after-next : (i x : ℕ) → after i (next x) ≡ next (after i x)
after-next zero x = refl
after-next (suc i) x = ap next (after-next i x)

after-suc : (i x : ℕ) → after (i + 1) x ≡ after i (next x)
after-suc i x = rw add-one (sym (after-next i x))

after-after : (i j x : ℕ) → after j (after i x) ≡ after (i + j) x
after-after i zero x = let none : i + 0 ≡ i = omega arith in rw none refl
after-after i (suc j) x = let more : i + suc j ≡ suc (i + j) = omega arith in
    rw more (ap next (after-after i j x))

-- no draw, and some draws more
pub HasDrawn-none : (g : LimitedDraws) → HasDrawn g g
HasDrawn-none g = record {
  count = 0;
  draws = let none : g.used ≡ g.used + 0 = omega arith in
      ap (λ (used : ℕ). record g { used = used }) none;
}

pub HasDrawn-trans : (a b c : LimitedDraws) → HasDrawn a b → HasDrawn b c → HasDrawn a c
HasDrawn-trans a b c first second = record {
  count = first.count + second.count;
  draws =
      let sum : a.used + first.count + second.count ≡ a.used + (first.count + second.count) =
      omega arith in
      second.draws ∙ ap (after_draws second.count) first.draws
      ∙ ap₂ (λ (state used : ℕ). record a { state = state; used = used })
      (after-after first.count second.count a.state) sum;
}

-- what a draw that was made tells of the generator
pub record IsOneDraw (m value : ℕ) (g g' : LimitedDraws) : Type 0 where
  pub scaled : value ≡ drawn m g'.state
  pub state : g'.state ≡ next g.state
  pub used : g'.used ≡ g.used + 1
  pub limit : g'.limit ≡ g.limit
  pub within : g'.used ≤ g'.limit

one_more : (m value : ℕ) (g g' : LimitedDraws) → IsOneDraw m value g g' → g' ≡ after_draws 1 g
one_more m value g g' h = ap (λ (s : ℕ). record g' { state = s }) h.state
    ∙ ap₂ (λ (u l : ℕ). record { state = next g.state; used = u; limit = l }) h.used h.limit

-- what the first good draw from the i-th on leaves, of so many
abbrev from_draw : ℕ → (ℕ → Bool) → LimitedDraws → ℕ → ℕ → Option Picked
from_draw m good g i n = option_map
    (λ j. record { value = drawn m (after j g.state); draws = after_draws j g })
    (find (λ j. good (drawn m (after j g.state))) (range_with_len i n))

-- the draws from the second on are those of the generator after the first
from_second : (m : ℕ) (good : ℕ → Bool) (g : LimitedDraws) (i n : ℕ)
    → from_draw m good g (i + 1) n ≡ from_draw m good (after_draws 1 g) i n
from_second m good g i zero = refl
from_second m good g i (suc n) = by_case (good (drawn m (after i (next g.state)))) refl
    (from_second m good g (i + 1) n)
  where
    by_case : (b : Bool) → good (drawn m (after i (next g.state))) ≡ b
        → from_draw m good g (i + 1 + 1) n ≡ from_draw m good (after_draws 1 g) (i + 1) n
        → from_draw m good g (i + 1) (suc n) ≡ from_draw m good (after_draws 1 g) i (suc n)
    by_case true e rest =
        let sum : g.used + (i + 1) ≡ g.used + 1 + i = omega arith in
        rw (after-suc i g.state, e, after-suc i g.state)
        (ap (λ (used : ℕ). Some (record {
          value = drawn m (after i (next g.state));
          draws = record g { state = after i (next g.state); used = used };
        })) sum)
    by_case false e rest = rw (after-suc i g.state, e) rest

-- the draws are those that `start` would make, none of which was good so far
pub record IsSearching (m : ℕ) (good : ℕ → Bool) (start g : LimitedDraws) : Type 0 where
  pub same : pick m good start ≡ pick m good g
  pub drawn : HasDrawn start g

pub IsSearching-none : (m : ℕ) (good : ℕ → Bool) (g : LimitedDraws) → IsSearching m good g g
IsSearching-none m good g = record { same = refl; drawn = HasDrawn-none g }

module _ (m : ℕ) (good : ℕ → Bool) (start g : LimitedDraws) (searching : IsSearching m good start g)
  where
    -- no draw is left
    pub search_ends : g.used ≡ g.limit → pick m good start ≡ None
    unfolding pick
    search_ends e = searching.same ∙ (let none : g.limit - g.used ≡ 0 = omega arith in rw none refl)

    module _ (value : ℕ) (g' : LimitedDraws) (h : IsOneDraw m value g g') where
      abbrev left : ℕ
      left = g.limit - (g.used + 1)

      some_left : g.limit - g.used ≡ suc left
      some_left = let u : g'.used ≡ g.used + 1 = h.used in let l : g'.limit ≡ g.limit = h.limit in
          let w : g'.used ≤ g'.limit = h.within in omega arith

      value_is : drawn m (next g.state) ≡ value
      value_is = ap (drawn m) (sym h.state) ∙ sym h.scaled

      pub searched : HasDrawn start g'
      searched = HasDrawn-trans start g g' searching.drawn
          (record { count = 1; draws = one_more m value g g' h })

      -- the draw was good
      pub search_finds : good value ≡ true
          → pick m good start ≡ Some (record { value = value; draws = g' })
      unfolding pick
      search_finds e = searching.same ∙ rw (some_left, value_is, e)
          (ap₂ (λ v draws. Some (record { value = v; draws = draws })) value_is
          (sym (one_more m value g g' h)))

      -- the draw was not
      pub search_goes_on : good value ≡ false → IsSearching m good start g'
      unfolding pick
      search_goes_on e = record {
        same = searching.same ∙ rw (some_left, value_is, e) (from_second m good g 1 left)
            ∙ ap (pick m good) (sym (one_more m value g g' h));
        drawn = searched;
      }
