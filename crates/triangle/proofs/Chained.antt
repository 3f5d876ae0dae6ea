-- A row that gains its chain.
use Rattle.std.proofs.Common.{◌≡◌, ℕ, zero, suc, ◌+◌, ◌-◌, ◌<◌, ◌≤◌, Option, Some, None, refl, sym}
use Rattle.std.proofs.Common.{ap, ap₂, ◌∙◌, arith, add-one}
use Rattle.std.specs.List.{fold, range_with_len}
use Rattle.std.proofs.lemmas.Bool.{le-leb, lt-leb}
use Rattle.park_miller.specs.Generator.{next, after, drawn}
use Rattle.park_miller.specs.LimitedDraws.{LimitedDraws}
use Rattle.sparse_rows.specs.Matrix.{Matrix, IsCode, with_entry}
use Rattle.staircase.specs.Pick.{after_draws}
use Rattle.staircase.specs.LeftSide.{DrawnMatrix, drawn_matrix}
use Rattle.staircase.proofs.FirstDraw.{IsOneDraw}
use Rattle.triangle.specs.Triangle.{link, link_count, with_links, chain}
use Rattle.triangle.proofs.Links.{IsGoing, IsGoing-none, IsGoing-more, count_is, count_above}
use Rattle.triangle.proofs.Shape.{code_with}

-- one more number at the end of a range
fold_range_more : {B : Type 0} (f : B → ℕ → B) (b : B) (a n : ℕ)
    → fold f b (range_with_len a (n + 1)) ≡ f (fold f b (range_with_len a n)) (a + n)
fold_range_more f b a zero = let none : a + 0 ≡ a = omega arith in rw none refl
fold_range_more f b a (suc n) =
    let more : suc n + 1 ≡ suc (n + 1) = omega arith in
    let last : a + suc n ≡ a + 1 + n = omega arith in
    rw (more, last) (fold_range_more f (f b a) (a + 1) n)

-- so many links of a row's chain are in it
pub record IsChained (i : ℕ) (start : DrawnMatrix) (links reached : ℕ) (m : Matrix)
    (g : LimitedDraws) : Type 0 where
  pub going : IsGoing (i - 1) start.draws.state links reached
  pub rows : m ≡ with_links i (i - 1) start.draws.state links start.matrix
  pub draws : g ≡ after_draws links start.draws
  pub source : m.k ≡ start.matrix.k
  pub encoding : m.n ≡ start.matrix.n
  pub code : IsCode m
  pub within : g.used ≤ g.limit

pub IsChained-none : (i : ℕ) (m : Matrix) (g : LimitedDraws) → IsCode m → g.used ≤ g.limit
    → IsChained i (drawn_matrix m g) 0 (i - 1) m g
IsChained-none i m g code within = record {
  going = IsGoing-none (i - 1) g.state;
  rows = refl;
  draws = let none : g.used ≡ g.used + 0 = omega arith in
      ap (λ (used : ℕ). record g { used = used }) none;
  source = refl;
  encoding = refl;
  code = code;
  within = within;
}

module _ (i : ℕ) (start : DrawnMatrix) (links reached : ℕ) (m : Matrix) (g : LimitedDraws)
    (so_far : IsChained i start links reached m g) where
  -- one link more
  pub IsChained-more : links < reached → i < m.n - m.k → (lower : ℕ) (g' : LimitedDraws)
      → IsOneDraw reached lower g g' → lower < reached → (m' : Matrix)
      → m' ≡ with_entry m i (start.matrix.k + lower) → IsChained i start (links + 1) lower m' g'
  IsChained-more more inside lower g' one less m' inserted = record {
    going = going;
    rows = inserted ∙ ap₂ (λ (gained : Matrix) number. with_entry gained i
        (start.matrix.k + number)) so_far.rows (going.reached_is
        ∙ ap (link (i - 1) start.draws.state) next_link)
        ∙ sym (fold_range_more (λ gained l. with_entry gained i
        (start.matrix.k + link (i - 1) start.draws.state l)) start.matrix 1 links);
    draws = drew;
    source = ap (λ (now : Matrix). now.k) inserted ∙ so_far.source;
    encoding = ap (λ (now : Matrix). now.n) inserted ∙ so_far.encoding;
    code = rw inserted (code_with m i (start.matrix.k + lower) so_far.code inside
        (omega (arith, so_far.going.falls, so_far.source)));
    within = one.within;
  }
    where
      next_link : links + 1 ≡ 1 + links
      next_link = omega arith

      state : g'.state ≡ after (suc links) start.draws.state
      state = one.state ∙ ap (λ (now : LimitedDraws). next now.state) so_far.draws

      going : IsGoing (i - 1) start.draws.state (links + 1) lower
      going = IsGoing-more (i - 1) start.draws.state links reached so_far.going more lower
          (one.scaled ∙ ap (drawn reached) state) less

      used : g'.used ≡ start.draws.used + (links + 1)
      used = let before : g.used ≡ start.draws.used + links = ap (λ (now : LimitedDraws). now.used)
          so_far.draws in omega (arith, one.used)

      limit : g'.limit ≡ start.draws.limit
      limit = one.limit ∙ ap (λ (now : LimitedDraws). now.limit) so_far.draws

      drew : g' ≡ after_draws (links + 1) start.draws
      drew = ap (λ (s : ℕ). record g' { state = s }) (rw add-one state)
          ∙ ap₂ (λ (u l : ℕ). record {
            state = after (links + 1) start.draws.state;
            used = u;
            limit = l;
          }) used limit

  -- the chain has ended
  pub chain_is : reached ≤ links → chain i start ≡ Some (drawn_matrix m g)
  unfolding chain
  chain_is ends =
      let draws : g ≡ after_draws links start.draws = so_far.draws in
      let fits : start.draws.used + links ≤ start.draws.limit = rw draws at so_far.within in
      rw (
        count_is (i - 1) start.draws.state links reached so_far.going ends,
        le-leb (start.draws.used + links) start.draws.limit fits,
      )
      (ap₂ (λ (now : Matrix) drawn. Some (drawn_matrix now drawn)) (sym so_far.rows)
      (sym draws))

  -- the chain goes on, and no draw is left
  pub chain_over : links < reached → g.used ≡ g.limit → chain i start ≡ None
  unfolding chain
  chain_over more over = by_count (link_count (i - 1) start.draws.state) refl
    where
      by_count : (count : Option ℕ) → link_count (i - 1) start.draws.state ≡ count
          → chain i start ≡ None
      by_count None e = rw e refl
      by_count (Some count) e =
          let higher : links < count = count_above (i - 1) start.draws.state links reached
          so_far.going more count e in
          let all : start.draws.used + links ≡ start.draws.limit = rw so_far.draws at over in
          rw (e, lt-leb (start.draws.used + count) start.draws.limit (omega arith)) refl
