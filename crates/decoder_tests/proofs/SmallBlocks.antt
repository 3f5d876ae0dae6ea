-- The blocks of the receivers that tests make.
use Rattle.std.proofs.Common.{◌≡◌, ℕ, zero, suc, ◌<◌, List, [], ◌∷◌, length, get_or, refl, sym, ◌∙◌}
use Rattle.std.proofs.Common.{subst, arith}
use Rattle.sparse_rows.specs.Matrix.{Matrix}
use Rattle.peeling.specs.Decoder.{Decoder}
use Rattle.fec_session.specs.Session.{AreNew}
use Rattle.decoder_tests.specs.Small.{AreSmall, AreSmallCodes, IsSmallCode}

-- three codes, each of them small
pub small_codes : (codes : List Matrix) (a b c : Matrix) → codes ≡ a ∷ b ∷ c ∷ []
    → IsSmallCode a → IsSmallCode b → IsSmallCode c → AreSmallCodes codes
small_codes codes a b c is first second third =
    subst AreSmallCodes (sym is) (record { three = refl; each = each })
  where
    each : (i : ℕ) (m : Matrix) → i < 3 → IsSmallCode (get_or (a ∷ b ∷ c ∷ []) i m)
    each zero m lt = first
    each (suc zero) m lt = second
    each (suc (suc zero)) m lt = third
    each (suc (suc (suc i))) m lt = absurd (omega arith)

-- new decoders of small codes
pub small_new : (codes : List Matrix) (decoders : List Decoder) → AreSmallCodes codes
    → AreNew codes 1 decoders → AreSmall decoders
small_new codes decoders small new = record {
  three = new.counted ∙ small.three;
  each = λ b d lt. subst IsSmallCode (sym (new.empty b d.matrix d (within b lt)).matrix)
      (small.each b d.matrix lt);
  byte = λ b d lt. (new.empty b d.matrix d (within b lt)).len;
}
  where
    within : (b : ℕ) → b < 3 → b < length codes
    within b lt = omega (arith, lt, small.three)
