-- How many of the first packets are kept.
use Rattle.std.proofs.Common.{◌≡◌, ℕ, ◌+◌, ◌≤◌, Bool, true, false, cond, List, refl, sym, ap, ◌∙◌}
use Rattle.std.proofs.Common.{arith}
use mir.Val.{bool_byte}
use Rattle.std.specs.List.{count_by, range_with_len}
use Rattle.std.proofs.lemmas.List.{map-id}
use Rattle.std.proofs.lemmas.List.FromFn.{sum_by-map-range_with_len_more}
use Rattle.loss_patterns.specs.Keeps.{keeps}
use Rattle.loss_patterns.specs.declared.kind.LossKind.{LossKind}
use Rattle.packet_pass.specs.Thinned.{kept_of}

-- a test, counted over one number more
count_more : (p : ℕ → Bool) (n : ℕ)
    → count_by p (range_with_len 0 (n + 1)) ≡ count_by p (range_with_len 0 n) + cond (p n) 1 0
count_more p n =
    let one : ℕ → ℕ = λ (x : ℕ). cond (p x) 1 0 in
    let place : 0 + n ≡ n = omega arith in
    ap (count_by p) (sym (map-id (range_with_len 0 (n + 1))))
    ∙ (sum_by-map-range_with_len_more one (λ (x : ℕ). x) 0 n n place
    ∙ ap (λ (l : List ℕ). count_by p l + cond (p n) 1 0) (map-id (range_with_len 0 n)))

byte_of : (b : Bool) → bool_byte b ≡ cond b 1 0
byte_of true = refl
byte_of false = refl

byte_small : (b : Bool) → bool_byte b ≤ 1
byte_small true = omega arith
byte_small false = omega arith

-- one decision more
pub kept_next : (kind : LossKind) (seed n kept : ℕ) (keep : Bool) → keep ≡ keeps kind seed n
    → kept ≡ kept_of kind seed n → kept + bool_byte keep ≡ kept_of kind seed (n + 1)
kept_next kind seed n kept keep is before =
    let byte : bool_byte keep ≡ cond (keeps kind seed n) 1 0 = byte_of keep
    ∙ ap (λ b. cond b 1 0) is in
    let sum : kept + bool_byte keep ≡ kept_of kind seed n + cond (keeps kind seed n) 1 0 =
    omega (arith, byte, before) in
    sum ∙ sym (count_more (keeps kind seed) n)

pub kept_within : (keep : Bool) (kept n : ℕ) → kept ≤ n → kept + bool_byte keep ≤ n + 1
kept_within keep kept n within = omega (arith, byte_small keep, within)
