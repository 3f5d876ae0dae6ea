-- What a generator draws, and the source block of its draws.
use Rattle.std.proofs.Common.{◌≡◌, ℕ, zero, suc, ◌+◌, ◌*◌, ◌-◌, ◌/◌, ◌%◌, ◌<◌, if◌then◌else◌, List}
use Rattle.std.proofs.Common.{[], ◌∷◌, ◌++◌, length, All, sym, ap, ap₂, ◌∙◌, subst, arith, add-one}
use Rattle.std.proofs.Common.{add-mul, one-mul, zero-mul, mod-lt}
use Rattle.std.specs.List.{range_with_len}
use Rattle.std.proofs.lemmas.List.Elements.{All-from_get_or}
use Rattle.std.proofs.lemmas.List.FromFn.{get_or-map-range_with_len, length-map-range_with_len}
use Rattle.std.proofs.lemmas.List.FromFn.{map-range_with_len_more}
use Rattle.park_miller.specs.Generator.{after, drawn, modulus, multiplier, next}
use Rattle.sparse_rows.specs.Codeword.{IsEncoded}
use Rattle.sparse_rows.specs.Laws.{SourceHasCodeword}
use Rattle.sparse_rows.specs.Matrix.{HasShape}
use Rattle.sparse_rows.proofs.Symbols.{length_symbols, symbols_are}
use Rattle.loss_patterns.specs.Keeps.{draws_for, keeps}
use Rattle.loss_patterns.specs.Order.{order}
use Rattle.loss_runs.specs.Trials.{Trial, drawn_bytes, items_where, kept_by, loss_start}
use Rattle.loss_runs.specs.Trials.{order_draws, run_draws, source_of, start_of}

-- so many steps, and then as many again
pub after-after : (a b state : ℕ) → after a (after b state) ≡ after (b + a) state
after-after zero b state = ap (λ (k : ℕ). after k state) (let e : b ≡ b + 0 = omega arith in e)
after-after (suc a) b state =
    ap next (after-after a b state)
    ∙ ap (λ (k : ℕ). after k state) (let e : suc (b + a) ≡ b + suc a = omega arith in e)

-- one step more
pub after-more : (i state : ℕ) → after (i + 1) state ≡ next (after i state)
after-more i state = ap (λ (k : ℕ). after k state) (add-one i)

-- the state behind a run is the one with which the next run begins
pub start_next : (t : Trial) (r : ℕ)
    → after (draws_for t.loss t.matrix.n) (loss_start t r) ≡ start_of t (r + 1)
start_next t r =
    let order : ℕ = order_draws t in
    let losses : ℕ = draws_for t.loss t.matrix.n in
    let before : ℕ = t.matrix.k * t.len + r * run_draws t in
    let place : before + (order + losses) ≡ t.matrix.k * t.len + (r + 1) * run_draws t =
    omega (arith, add-mul r 1 (run_draws t), one-mul (run_draws t)) in
    after-after losses order (start_of t r)
    ∙ after-after (order + losses) before t.seed
    ∙ ap (λ (k : ℕ). after k t.seed) place

-- a run whose draws begin with this state, by how many positions it sends
module _ (t : Trial) (r n state mid : ℕ) (state_is : state ≡ start_of t r) (n_is : n ≡ t.matrix.n)
    (mid_is : mid ≡ after (if t.random then n - 1 else 0) state) where
  mid_here : mid ≡ loss_start t r
  mid_here = mid_is
      ∙ ap₂ (λ (k s : ℕ). after (if t.random then k - 1 else 0) s) n_is state_is

  -- keeps the stated positions
  pub kept_here : (sent kept : List ℕ)
      → sent ≡ (if t.random then order n state else range_with_len 0 n)
      → kept ≡ items_where (keeps t.loss mid) sent → kept ≡ kept_by t r
  kept_here sent kept sent_is kept_is = kept_is
      ∙ ap₂ (λ (s : ℕ) (l : List ℕ). items_where (keeps t.loss s) l) mid_here
      (sent_is ∙ ap₂ (λ (k s : ℕ). if t.random then order k s else range_with_len 0 k) n_is
      state_is)

  -- and stands then where the next run begins
  pub behind_here : (long last : ℕ) → long ≡ n → last ≡ after (draws_for t.loss long) mid
      → last ≡ start_of t (r + 1)
  behind_here long last long_is last_is = last_is
      ∙ ap₂ (λ (k s : ℕ). after (draws_for t.loss k) s) (long_is ∙ n_is) mid_here ∙ start_next t r

-- the first run begins behind the source block
pub start_first : (t : Trial) → after (t.matrix.k * t.len) t.seed ≡ start_of t 0
start_first t = ap (λ (k : ℕ). after k t.seed)
    (let e : t.matrix.k * t.len ≡ t.matrix.k * t.len + 0 * run_draws t =
    omega (arith, zero-mul (run_draws t)) in e)

-- one byte more
pub length-drawn : (count state : ℕ) → length (drawn_bytes count state) ≡ count
length-drawn count state =
    length-map-range_with_len (λ i. drawn 256 (after (i + 1) state)) 0 count

pub drawn_more : (i state : ℕ) → drawn_bytes (i + 1) state
    ≡ drawn_bytes i state ++ drawn 256 (after (i + 1) state) ∷ []
drawn_more i state = map-range_with_len_more (λ k. drawn 256 (after (k + 1) state)) 0 i i
    (let e : 0 + i ≡ i = omega arith in e)

-- a draw below 256 is a byte
byte_of_next : (state : ℕ) → drawn 256 (next state) < 256
unfolding drawn next
byte_of_next state = byte_below (multiplier * state % modulus)
    (mod-lt (multiplier * state) (let some : 0 < modulus = omega arith in some)) where
      byte_below : (x : ℕ) → x < modulus → 256 * x / modulus < 256
      byte_below x lt = omega arith

pub byte_drawn : (i state : ℕ) → drawn 256 (after (i + 1) state) < 256
byte_drawn i state =
    subst (λ (x : ℕ). drawn 256 x < 256) (sym (after-more i state)) (byte_of_next (after i state))

bytes_small : (count state : ℕ) → All (λ b. b < 256) (drawn_bytes count state)
bytes_small count state = All-from_get_or (λ b. b < 256) (drawn_bytes count state) 0 (λ i lt.
    let inside : i < count =
    omega (arith, lt, length-drawn count state) in
    subst (λ b. b < 256) (sym (get_or-map-range_with_len (λ k. drawn 256 (after (k + 1) state)) 0
    count i i 0 inside (let e : 0 + i ≡ i = omega arith in e))) (byte_drawn i state))

-- the source block of a trial has a codeword
pub source_has_codeword : SourceHasCodeword → (t : Trial) → HasShape t.matrix
    → (word : List (List ℕ)) × IsEncoded t.matrix t.len (source_of t) word
source_has_codeword law t shape =
    let count : ℕ = t.matrix.k * t.len in
    let bytes : List ℕ = drawn_bytes count t.seed in
    law t.matrix t.len (source_of t) shape (length_symbols t.len t.matrix.k bytes)
    (symbols_are t.len t.matrix.k bytes
    (omega (arith, length-drawn count t.seed))
    (bytes_small count t.seed))
