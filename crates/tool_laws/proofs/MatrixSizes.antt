-- The matrix of a block has the block's numbers of symbols.
use Rattle.std.proofs.Common.{◌≡◌, ℕ, zero, suc, ◌+◌, ◌-◌, nat_le, Bool, true, false, if◌then◌else◌}
use Rattle.std.proofs.Common.{min, List, [], ◌∷◌, fold, Option, Some, None, IfSome, refl, sym, ap}
use Rattle.std.specs.List.{list_any, range_with_len}
use Rattle.std.specs.Option.{option_map, option_and_then}
use Rattle.park_miller.specs.LimitedDraws.{LimitedDraws}
use Rattle.sparse_rows.specs.Matrix.{Matrix, with_entry}
use Rattle.staircase.specs.Pick.{Picked, after_draws, pick}
use Rattle.staircase.specs.LeftSide.{DrawnMatrix, Filling, column, columns, drawn_matrix}
use Rattle.staircase.specs.LeftSide.{empty_filling, extras, first_extra, from_rest, from_rows}
use Rattle.staircase.specs.LeftSide.{in_order, lacks, left_side, second_extra, turn, with_picked}
use Rattle.staircase.specs.Staircase.{CountedMatrix, staircase_matrix}
use Rattle.triangle.specs.Triangle.{chain, link_count, triangle_matrix, with_drawn_stairs}
use Rattle.triangle.specs.Triangle.{with_links}
use Rattle.oti_fields.specs.declared.codec.Codec.{Codec}
use Rattle.oti_fields.specs.declared.codec.Codec.TheVariants.{Staircase, Triangle, Parity2d}
use Rattle.oti_fields.specs.declared.codec.Codec.TheVariants.{Corner2d}
use Rattle.packet_file.specs.Header.{HeaderFields, symbol_count, symbols_by}
use Rattle.tool_base.specs.BlockCode.{limit_by, matrix_by, row_weight}
use Rattle.object_file.specs.Codes.{header_matrix}

-- ---- what holds of a value, if there is one

if_map : {A B : Type 0} (P : B → Type 0) (f : A → B) (o : Option A) → IfSome o (λ a. P (f a))
    → IfSome (option_map f o) P
if_map P f None h = tt
if_map P f (Some a) h = h

map_any : {A B : Type 0} (P : B → Type 0) (f : A → B) (o : Option A) → ((a : A) → P (f a))
    → IfSome (option_map f o) P
map_any P f None h = tt
map_any P f (Some a) h = h a

if_then : {A B : Type 0} (P : B → Type 0) (Q : A → Type 0) (f : A → Option B) (o : Option A)
    → ((a : A) → Q a → IfSome (f a) P) → IfSome o Q → IfSome (option_and_then f o) P
if_then P Q f None h q = tt
if_then P Q f (Some a) h q = h a q

if_either : {A : Type 0} (P : A → Type 0) (test : Bool) (o other : Option A) → IfSome o P
    → IfSome other P → IfSome (if test then o else other) P
if_either P true o other h g = h
if_either P false o other h g = g

if_is : {A : Type 0} (P : A → Type 0) (o : Option A) (a : A) → IfSome o P → o ≡ Some a → P a
if_is P None a h is = absurd (cc)
if_is P (Some b) a h is = let same : b ≡ a = cc in rw (← same) h

-- steps that each keep a fact keep it together
in_order_keeps : {S : Type 0} (P : S → Type 0) (step : ℕ → S → Option S)
    → ((i : ℕ) (s : S) → P s → IfSome (step i s) P) → (count : ℕ) (s : S) → P s
    → IfSome (in_order count step s) P
in_order_keeps P step keeps zero s h = h
in_order_keeps P step keeps (suc i) s h = if_then P P (step i) (in_order i step s) (keeps i)
    (in_order_keeps P step keeps i s h)

fold_keeps : {S X : Type 0} (P : S → Type 0) (step : S → X → S)
    → ((s : S) (x : X) → P s → P (step s x)) → (s : S) (xs : List X) → P s → P (fold step s xs)
fold_keeps P step keeps s [] h = h
fold_keeps P step keeps s (x ∷ xs) h = fold_keeps P step keeps (step s x) xs (keeps s x h)

module _ (k n : ℕ) where
  -- a matrix of k source and n encoding symbols
  abbrev IsSized : Matrix → Type 0
  IsSized m = (m.k ≡ k) × (m.n ≡ n)

  abbrev SizedFilling : Filling → Type 0
  SizedFilling f = IsSized f.matrix

  abbrev SizedDrawn : DrawnMatrix → Type 0
  SizedDrawn d = IsSized d.matrix

  abbrev SizedCounted : CountedMatrix → Type 0
  SizedCounted c = IsSized c.matrix

  -- ---- the left side

  turn_sized : (c i : ℕ) (f : Filling) → SizedFilling f → IfSome (turn c f) SizedFilling
  unfolding turn from_rest from_rows
  turn_sized c i f sized = if_either SizedFilling (list_any (lacks f.matrix c) f.rest)
      (from_rest c f) (from_rows c f)
      (map_any SizedFilling _ (pick _ _ f.draws) (λ p. sized))
      (map_any SizedFilling _ (pick _ _ f.draws) (λ p. sized))

  picked_sized : (r : ℕ) (d : DrawnMatrix) (picked : Option Picked) → SizedDrawn d
      → IfSome (with_picked r d picked) SizedDrawn
  picked_sized r d picked sized =
      map_any SizedDrawn (λ (p : Picked). drawn_matrix (with_entry d.matrix r p.value) p.draws)
      picked (λ p. sized)

  first_sized : (r : ℕ) (d : DrawnMatrix) → SizedDrawn d → IfSome (first_extra r d) SizedDrawn
  unfolding first_extra
  first_sized r d sized = if_either SizedDrawn _ (with_picked r d _) (Some d)
      (picked_sized r d _ sized) sized

  second_sized : (r : ℕ) (d : DrawnMatrix) → SizedDrawn d → IfSome (second_extra r d) SizedDrawn
  unfolding second_extra
  second_sized r d sized = if_either SizedDrawn _ (with_picked r d _) (Some d)
      (picked_sized r d _ sized) sized

  extras_sized : (r : ℕ) (d : DrawnMatrix) → SizedDrawn d → IfSome (extras r d) SizedDrawn
  extras_sized r d sized = if_then SizedDrawn SizedDrawn (second_extra r) (first_extra r d)
      (second_sized r) (first_sized r d sized)

  left_sized : (n1 : ℕ) (g : LimitedDraws) → IfSome (left_side k n n1 g) SizedDrawn
  unfolding left_side
  left_sized n1 g =
      if_then SizedDrawn SizedDrawn (in_order (n - k) extras)
      (option_map (λ (f : Filling). drawn_matrix f.matrix f.draws) (columns k n n1 g))
      (λ d sized. in_order_keeps SizedDrawn extras extras_sized (n - k) d sized)
      (if_map SizedDrawn (λ (f : Filling). drawn_matrix f.matrix f.draws) (columns k n n1 g)
      (in_order_keeps SizedFilling (column (min n1 (n - k)))
      (λ c f sized. in_order_keeps SizedFilling (λ _. turn c) (turn_sized c) (min n1 (n - k)) f
      sized) k (empty_filling k n n1 g) (refl, refl)))

  -- ---- the right side

  staircase_sized : (n1 seed limit : ℕ) → IfSome (staircase_matrix k n n1 seed limit) SizedCounted
  unfolding staircase_matrix
  staircase_sized n1 seed limit =
      if_map SizedCounted _ (left_side k n n1 (record { state = seed; used = 0; limit = limit }))
      (left_sized n1 (record { state = seed; used = 0; limit = limit }))

  links_sized : (i start state count : ℕ) (m : Matrix) → IsSized m
      → IsSized (with_links i start state count m)
  links_sized i start state count m sized = fold_keeps IsSized _ (λ gained l is. is) m
      (range_with_len 1 count) sized

  chain_sized : (i : ℕ) (d : DrawnMatrix) → SizedDrawn d → IfSome (chain i d) SizedDrawn
  unfolding chain
  chain_sized i d sized = by_case (link_count (i - 1) d.draws.state)
    where
      next : ℕ → Option DrawnMatrix
      next count = if nat_le (d.draws.used + count) d.draws.limit then Some
          (drawn_matrix (with_links i (i - 1) d.draws.state count d.matrix)
          (after_draws count d.draws)) else None

      by_case : (o : Option ℕ) → IfSome (option_and_then next o) SizedDrawn
      by_case None = tt
      by_case (Some count) = if_either SizedDrawn (nat_le (d.draws.used + count) d.draws.limit)
          (Some (drawn_matrix (with_links i (i - 1) d.draws.state count d.matrix)
          (after_draws count d.draws))) None (links_sized i (i - 1) d.draws.state count d.matrix
          sized) tt

  triangle_sized : (n1 seed limit : ℕ) → IfSome (triangle_matrix k n n1 seed limit) SizedCounted
  unfolding triangle_matrix
  triangle_sized n1 seed limit =
      let left = left_side k n n1 (record { state = seed; used = 0; limit = limit }) in
      if_map SizedCounted _ (option_and_then (in_order (n - k) chain)
      (option_map with_drawn_stairs left))
      (if_then SizedDrawn SizedDrawn (in_order (n - k) chain) (option_map with_drawn_stairs left)
      (λ d sized. in_order_keeps SizedDrawn chain chain_sized (n - k) d sized)
      (if_map SizedDrawn with_drawn_stairs left
      (left_sized n1 (record { state = seed; used = 0; limit = limit }))))

-- ---- the matrix of a block

-- by a codec
abbrev pub by_codec : Codec → HeaderFields → Option ℕ → ℕ → Option CountedMatrix
by_codec codec h draws k = matrix_by codec (row_weight h) h.oti.seed draws k (symbol_count h k)

-- and how many draws it may take
abbrev pub most_draws : HeaderFields → Option ℕ → ℕ → ℕ
most_draws h draws k = limit_by draws (row_weight h) k (symbol_count h k)

sized_by : (codec : Codec) (h : HeaderFields) (draws : Option ℕ) (k : ℕ) → h.codec ≡ codec
    → IfSome (by_codec codec h draws k) (SizedCounted k (symbol_count h k))
sized_by Staircase h draws k is = staircase_sized k (symbol_count h k) (row_weight h) h.oti.seed
    (most_draws h draws k)
sized_by Triangle h draws k is = triangle_sized k (symbol_count h k) (row_weight h) h.oti.seed
    (most_draws h draws k)
sized_by Parity2d h draws k is = (refl, ap (λ (codec : Codec). symbols_by codec h.oti k) (sym is))
sized_by Corner2d h draws k is = (refl, ap (λ (codec : Codec). symbols_by codec h.oti k) (sym is))

-- has k source symbols, and as many encoding symbols as the header gives it
pub matrix_sized : (h : HeaderFields) (draws : Option ℕ) (k : ℕ) (m : Matrix)
    → header_matrix h draws k ≡ Some m → IsSized k (symbol_count h k) m
matrix_sized h draws k m is = if_is (IsSized k (symbol_count h k)) (header_matrix h draws k) m
    (if_map (IsSized k (symbol_count h k)) (λ (c : CountedMatrix). c.matrix)
    (by_codec h.codec h draws k) (sized_by h.codec h draws k refl)) is
