-- What a source in memory gives.
use Rattle.std.proofs.Common.{◌≡◌, ◌≢◌, ℕ, zero, suc, ◌+◌, ◌≤◌, ◌<◌, min, List, ◌++◌, Option, None}
use Rattle.std.proofs.Common.{Some, arith, length, take, drop, refl, sym, ap, ◌∙◌, length-take-le}
use Rattle.std.proofs.Common.{length-drop, take-append-drop, drop-drop}
use Rattle.std.proofs.lemmas.List.{take_at}
use Rattle.fec_base.specs.Memory.{before_stop}

-- where n items from a on were given, what was left is those and what is left now
pub give_front : (xs got rest : List ℕ) (a n : ℕ) → a + n ≤ length xs → got ≡ take n (drop a xs)
    → drop a xs ≡ take n (got ++ rest) ++ drop (a + n) xs
give_front xs got rest a n fits e =
    let long : length got ≡ n = ap length e ∙ length-take-le n (drop a xs)
    (omega (arith, length-drop a xs)) in
    sym (take-append-drop n (drop a xs)) ∙ ap (λ l. l ++ drop n (drop a xs)) (sym e
    ∙ sym (take_at got rest n long)) ∙ ap (λ l. take n (got ++ rest) ++ l) (drop-drop n a xs)

-- a read into a buffer with room, before the stop, gives nothing only where nothing is left
pub none_left : (stop : Option ℕ) (chunk room left : ℕ)
    → before_stop stop (min (min chunk room) left) ≡ 0 → 1 ≤ chunk → 0 < room → stop ≢ Some 0
    → left ≡ 0
none_left None chunk room left none c r going = omega arith
none_left (Some zero) chunk room left none c r going = absurd (going refl)
none_left (Some (suc stop)) chunk room left none c r going = omega arith
