-- Blocks that know all of their source, from the first on.
use Rattle.std.proofs.Common.{◌≡◌, ℕ, List, [], ◌∷◌, length, All, ⊎_elim, arith}
use Rattle.std.proofs.lemmas.Bool.{cases_lt}
use Rattle.peeling.specs.Decoder.{Decoder}
use Rattle.peeling.specs.Lookups.{HasAllSource}
use Rattle.fec_session.specs.Whole.{IsWholeFront}

-- the front is all exactly where each has all source
pub all_whole : (cores : List Decoder) (count : ℕ) → IsWholeFront cores count
    → count ≡ length cores → All HasAllSource cores
all_whole cores count is same i d lt = is.front.whole i d (omega (arith, same))

pub whole_all : (cores : List Decoder) (count : ℕ) → IsWholeFront cores count
    → All HasAllSource cores → count ≡ length cores
whole_all [] count is all = let le = is.front.within in omega (arith, le)
whole_all (core ∷ cores) count is all = ⊎_elim
    (λ less. absurd (is.next core less (all count core less)))
    (λ le. let le2 = is.front.within in omega (arith, le, le2))
    (cases_lt count (length (core ∷ cores)))
