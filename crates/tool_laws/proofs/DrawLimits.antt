-- The limit of draws decides whether a block has a matrix, and not which.
use Rattle.std.proofs.Common.{◌≡◌, ℕ, zero, suc, ◌+◌, ◌-◌, nat_le, Bool, true, false, if◌then◌else◌}
use Rattle.std.proofs.Common.{min, Option, Some, None, refl, ap, subst}
use Rattle.std.specs.Prelude.{⊤}
use Rattle.std.specs.List.{find, list_any, range_with_len}
use Rattle.std.specs.Option.{option_map, option_and_then}
use Rattle.park_miller.specs.Generator.{after, drawn}
use Rattle.park_miller.specs.LimitedDraws.{LimitedDraws}
use Rattle.sparse_rows.specs.Matrix.{Matrix, with_entry}
use Rattle.staircase.specs.Pick.{Picked, after_draws, pick}
use Rattle.staircase.specs.LeftSide.{DrawnMatrix, Filling, column, columns, drawn_matrix}
use Rattle.staircase.specs.LeftSide.{empty_filling, extras, first_extra, from_rest, from_rows}
use Rattle.staircase.specs.LeftSide.{in_order, lacks, left_side, second_extra, turn, with_picked}
use Rattle.staircase.specs.Staircase.{CountedMatrix, staircase_matrix}
use Rattle.triangle.specs.Triangle.{chain, link_count, triangle_matrix, with_drawn_stairs}
use Rattle.triangle.specs.Triangle.{with_links}
use Rattle.oti_fields.specs.declared.codec.Codec.{Codec}
use Rattle.oti_fields.specs.declared.codec.Codec.TheVariants.{Staircase, Triangle, Parity2d}
use Rattle.oti_fields.specs.declared.codec.Codec.TheVariants.{Corner2d}
use Rattle.packet_file.specs.Header.{HeaderFields, symbol_count}
use Rattle.tool_base.specs.BlockCode.{row_weight}
use Rattle.tool_laws.proofs.MatrixSizes.{by_codec, most_draws}
use Rattle.object_file.specs.Codes.{header_matrix}

-- ---- two values that are alike, if both are there

abbrev Alike : {A : Type 0} → (A → A → Type 0) → Option A → Option A → Type 0
Alike R None p = ⊤
Alike R (Some a) None = ⊤
Alike R (Some a) (Some b) = R a b

alike_map : {A B : Type 0} (R : A → A → Type 0) (S : B → B → Type 0) (f g : A → B)
    → ((a b : A) → R a b → S (f a) (g b)) → (o p : Option A) → Alike R o p
    → Alike S (option_map f o) (option_map g p)
alike_map R S f g step None p h = tt
alike_map R S f g step (Some a) None h = tt
alike_map R S f g step (Some a) (Some b) h = step a b h

none_right : {A : Type 0} (R : A → A → Type 0) (o : Option A) → Alike R o None
none_right R None = tt
none_right R (Some a) = tt

alike_then : {A B : Type 0} (R : A → A → Type 0) (S : B → B → Type 0) (f g : A → Option B)
    → ((a b : A) → R a b → Alike S (f a) (g b)) → (o p : Option A) → Alike R o p
    → Alike S (option_and_then f o) (option_and_then g p)
alike_then R S f g step None p h = tt
alike_then R S f g step (Some a) None h = none_right S (f a)
alike_then R S f g step (Some a) (Some b) h = step a b h

alike_if : {A : Type 0} (R : A → A → Type 0) (test : Bool) (o p other second : Option A)
    → Alike R o p → Alike R other second
    → Alike R (if test then o else other) (if test then p else second)
alike_if R true o p other second h g = h
alike_if R false o p other second h g = g

alike_is : {A : Type 0} (R : A → A → Type 0) (o p : Option A) (a b : A) → Alike R o p → o ≡ Some a
    → p ≡ Some b → R a b
alike_is {A} R o p a b h first second = subst (λ (x : Option A). Alike R x (Some b)) first
    (subst (λ (y : Option A). Alike R o y) second h)

in_order_alike : {S : Type 0} (R : S → S → Type 0) (step : ℕ → S → Option S)
    → ((i : ℕ) (s t : S) → R s t → Alike R (step i s) (step i t)) → (count : ℕ) (s t : S) → R s t
    → Alike R (in_order count step s) (in_order count step t)
in_order_alike R step alike zero s t h = h
in_order_alike R step alike (suc i) s t h = alike_then R R (step i) (step i) (alike i)
    (in_order i step s) (in_order i step t) (in_order_alike R step alike i s t h)

-- the first number that passes a test is the first of any range that has one
find_alike : (p : ℕ → Bool) (start a b : ℕ)
    → Alike (λ (i j : ℕ). j ≡ i) (find p (range_with_len start a)) (find p (range_with_len start b))
find_alike p start zero b = tt
find_alike p start (suc a) zero = none_right (λ (i j : ℕ). j ≡ i)
    (find p (range_with_len start (suc a)))
find_alike p start (suc a) (suc b) = alike_if (λ (i j : ℕ). j ≡ i) (p start) (Some start)
    (Some start) (find p (range_with_len (start + 1) a)) (find p (range_with_len (start + 1) b))
    refl (find_alike p (start + 1) a b)

-- ---- the same generator under another limit

module _ (limit : ℕ) where
  abbrev draws_to : LimitedDraws → LimitedDraws
  draws_to g = record g { limit = limit }

  abbrev filling_to : Filling → Filling
  filling_to f = record f { draws = draws_to f.draws }

  abbrev drawn_to : DrawnMatrix → DrawnMatrix
  drawn_to d = record d { draws = draws_to d.draws }

  abbrev picked_to : Picked → Picked
  picked_to p = record p { draws = draws_to p.draws }

  -- gives the same
  abbrev SameFilling : Filling → Filling → Type 0
  SameFilling f g = g ≡ filling_to f

  abbrev SameDrawn : DrawnMatrix → DrawnMatrix → Type 0
  SameDrawn d e = e ≡ drawn_to d

  abbrev SamePicked : Picked → Picked → Type 0
  SamePicked p q = q ≡ picked_to p

  pick_alike : (m : ℕ) (good : ℕ → Bool) (g : LimitedDraws)
      → Alike SamePicked (pick m good g) (pick m good (draws_to g))
  unfolding pick
  pick_alike m good g = alike_map (λ (i j : ℕ). j ≡ i) SamePicked _ _
      (λ i j same. ap (λ (n : ℕ). let p : Picked = record {
        value = drawn m (after n g.state);
        draws = draws_to (after_draws n g);
      } in p) same)
      (find (λ i. good (drawn m (after i g.state))) (range_with_len 1 (g.limit - g.used)))
      (find (λ i. good (drawn m (after i g.state))) (range_with_len 1 (limit - g.used)))
      (find_alike (λ i. good (drawn m (after i g.state))) 1 (g.limit - g.used) (limit - g.used))

  turn_alike : (c i : ℕ) (f g : Filling) → SameFilling f g → Alike SameFilling (turn c f) (turn c g)
  unfolding turn from_rest from_rows
  turn_alike c i f g same = rw same (alike_if SameFilling (list_any (lacks f.matrix c) f.rest)
      (from_rest c f) (from_rest c (filling_to f)) (from_rows c f) (from_rows c (filling_to f))
      (alike_map SamePicked SameFilling _ _ (λ p q is. rw is refl) (pick _ _ f.draws)
      (pick _ _ (draws_to f.draws)) (pick_alike _ _ f.draws))
      (alike_map SamePicked SameFilling _ _ (λ p q is. rw is refl) (pick _ _ f.draws)
      (pick _ _ (draws_to f.draws)) (pick_alike _ _ f.draws)))

  picked_alike : (r : ℕ) (d : DrawnMatrix) (p q : Option Picked) → Alike SamePicked p q
      → Alike SameDrawn (with_picked r d p) (with_picked r (drawn_to d) q)
  picked_alike r d p q h = alike_map SamePicked SameDrawn
      (λ (x : Picked). drawn_matrix (with_entry d.matrix r x.value) x.draws)
      (λ (x : Picked). drawn_matrix (with_entry d.matrix r x.value) x.draws) (λ a b is. rw is refl)
      p q h

  first_alike : (r : ℕ) (d : DrawnMatrix)
      → Alike SameDrawn (first_extra r d) (first_extra r (drawn_to d))
  unfolding first_extra
  first_alike r d = alike_if SameDrawn _ (with_picked r d _) (with_picked r (drawn_to d) _) (Some d)
      (Some (drawn_to d)) (picked_alike r d _ _ (pick_alike _ _ d.draws)) refl

  second_alike : (r : ℕ) (d e : DrawnMatrix) → SameDrawn d e
      → Alike SameDrawn (second_extra r d) (second_extra r e)
  unfolding second_extra
  second_alike r d e same = rw same (alike_if SameDrawn _ (with_picked r d _)
      (with_picked r (drawn_to d) _) (Some d) (Some (drawn_to d))
      (picked_alike r d _ _ (pick_alike _ _ d.draws)) refl)

  extras_alike : (r : ℕ) (d e : DrawnMatrix) → SameDrawn d e
      → Alike SameDrawn (extras r d) (extras r e)
  extras_alike r d e same = rw same (alike_then SameDrawn SameDrawn (second_extra r)
      (second_extra r) (second_alike r) (first_extra r d) (first_extra r (drawn_to d))
      (first_alike r d))

  left_alike : (k n n1 : ℕ) (g : LimitedDraws)
      → Alike SameDrawn (left_side k n n1 g) (left_side k n n1 (draws_to g))
  unfolding left_side
  left_alike k n n1 g =
      alike_then SameDrawn SameDrawn (in_order (n - k) extras) (in_order (n - k) extras)
      (λ d e same. in_order_alike SameDrawn extras extras_alike (n - k) d e same)
      (option_map (λ (f : Filling). drawn_matrix f.matrix f.draws) (columns k n n1 g))
      (option_map (λ (f : Filling). drawn_matrix f.matrix f.draws)
      (columns k n n1 (draws_to g)))
      (alike_map SameFilling SameDrawn (λ (f : Filling). drawn_matrix f.matrix f.draws)
      (λ (f : Filling). drawn_matrix f.matrix f.draws) (λ a b is. rw is refl) (columns k n n1 g)
      (columns k n n1 (draws_to g))
      (in_order_alike SameFilling (column (min n1 (n - k))) (λ c a b is. in_order_alike SameFilling
      (λ _. turn c) (turn_alike c) (min n1 (n - k)) a b is) k (empty_filling k n n1 g)
      (empty_filling k n n1 (draws_to g)) refl))

  chain_alike : (i : ℕ) (d e : DrawnMatrix) → SameDrawn d e
      → Alike SameDrawn (chain i d) (chain i e)
  unfolding chain
  chain_alike i d e same = rw same (by_case (link_count (i - 1) d.draws.state))
    where
      next : ℕ → DrawnMatrix → Option DrawnMatrix
      next count a = if nat_le (a.draws.used + count) a.draws.limit then Some
          (drawn_matrix (with_links i (i - 1) a.draws.state count a.matrix)
          (after_draws count a.draws)) else None

      two : (s t : Bool) (x : DrawnMatrix) → Alike SameDrawn (if s then Some x else None)
          (if t then Some (drawn_to x) else None)
      two true true x = refl
      two true false x = tt
      two false t x = tt

      by_case : (o : Option ℕ) → Alike SameDrawn (option_and_then (λ count. next count d) o)
          (option_and_then (λ count. next count (drawn_to d)) o)
      by_case None = tt
      by_case (Some count) = two (nat_le (d.draws.used + count) d.draws.limit)
          (nat_le (d.draws.used + count) limit)
          (drawn_matrix (with_links i (i - 1) d.draws.state count d.matrix)
          (after_draws count d.draws))

abbrev SameCounted : CountedMatrix → CountedMatrix → Type 0
SameCounted c d = d ≡ c

module _ (k n n1 seed limit other : ℕ) where
  abbrev start : LimitedDraws
  start = record { state = seed; used = 0; limit = limit }

  left : Alike (SameDrawn other) (left_side k n n1 start) (left_side k n n1 (draws_to other start))
  left = left_alike other k n n1 start

  staircase_alike : Alike SameCounted (staircase_matrix k n n1 seed limit)
      (staircase_matrix k n n1 seed other)
  unfolding staircase_matrix
  staircase_alike = alike_map (SameDrawn other) SameCounted _ _ (λ a b is. rw is refl)
      (left_side k n n1 start) (left_side k n n1 (draws_to other start)) left

  triangle_alike : Alike SameCounted (triangle_matrix k n n1 seed limit)
      (triangle_matrix k n n1 seed other)
  unfolding triangle_matrix
  triangle_alike =
      alike_map (SameDrawn other) SameCounted _ _ (λ a b is. rw is refl)
      (option_and_then (in_order (n - k) chain)
      (option_map with_drawn_stairs (left_side k n n1 start)))
      (option_and_then (in_order (n - k) chain)
      (option_map with_drawn_stairs (left_side k n n1 (draws_to other start))))
      (alike_then (SameDrawn other) (SameDrawn other) (in_order (n - k) chain)
      (in_order (n - k) chain)
      (λ d e same. in_order_alike (SameDrawn other) chain (chain_alike other) (n - k) d e same)
      (option_map with_drawn_stairs (left_side k n n1 start))
      (option_map with_drawn_stairs (left_side k n n1 (draws_to other start)))
      (alike_map (SameDrawn other) (SameDrawn other) with_drawn_stairs with_drawn_stairs
      (λ a b is. rw is refl) (left_side k n n1 start) (left_side k n n1 (draws_to other start))
      left))

-- ---- the matrix of a block

block_alike : (codec : Codec) (h : HeaderFields) (draws other : Option ℕ) (k : ℕ)
    → Alike SameCounted (by_codec codec h draws k) (by_codec codec h other k)
block_alike Staircase h draws other k = staircase_alike k (symbol_count h k) (row_weight h)
    h.oti.seed (most_draws h draws k) (most_draws h other k)
block_alike Triangle h draws other k = triangle_alike k (symbol_count h k) (row_weight h) h.oti.seed
    (most_draws h draws k) (most_draws h other k)
block_alike Parity2d h draws other k = refl
block_alike Corner2d h draws other k = refl

-- is one under all limits under which there is one
pub matrix_one : (h : HeaderFields) (draws other : Option ℕ) (k : ℕ) (m n : Matrix)
    → header_matrix h draws k ≡ Some m → header_matrix h other k ≡ Some n → n ≡ m
matrix_one h draws other k m n first second =
    alike_is (λ (a b : Matrix). b ≡ a) (header_matrix h draws k) (header_matrix h other k) m n
    (alike_map SameCounted (λ (a b : Matrix). b ≡ a) (λ (c : CountedMatrix). c.matrix)
    (λ (c : CountedMatrix). c.matrix) (λ a b is. ap (λ (c : CountedMatrix). c.matrix) is)
    (by_codec h.codec h draws k) (by_codec h.codec h other k) (block_alike h.codec h draws other
    k))
    first second
