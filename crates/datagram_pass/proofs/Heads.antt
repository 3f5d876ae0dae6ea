-- The flow and the length in front of a datagram, and fronts of datagrams.
use Rattle.std.proofs.Common.{◌≡◌, ℕ, ◌+◌, ◌*◌, ◌/◌, ◌%◌, ◌<◌, List, [], ◌∷◌, ◌++◌, length, inr}
use Rattle.std.proofs.Common.{slice_index, Option, ap, ap₂, arith, length-append, refl}
use Rattle.std.specs.Io.KnownBytes.{Consumes, IsAtEnd}
use Rattle.std.proofs.KnownBytes.{Consumes-trans}
use Rattle.byteorder.specs.Endian.{big_bytes}
use Rattle.fec_base.specs.Causes.{Rose}
use Rattle.adu_frames.specs.declared.reading.Frame.{Frame}
use Rattle.datagram_pass.specs.Faults.{IsCutDatagram}
use Rattle.datagram_pass.specs.Progress.{EndsReading, IsHead}
use Rattle.datagram_pass.specs.declared.kind.DatagramFault.TheVariants.{Short}
use Rattle.datagram_pass.specs.declared.kind.DatagramRefusal.TheVariants.{Fault, Read}
use Rattle.datagram_pass.specs.declared.kind.Way.TheVariants.{Framing}

-- three bytes, of which the latter two make a number
pub three_bytes : (bytes : List ℕ) (count : ℕ) → length bytes ≡ 3
    → ((i : ℕ) → slice_index bytes i < 256)
    → count ≡ slice_index bytes 1 * 256 + slice_index bytes 2
    → bytes ≡ slice_index bytes 0 ∷ (big_bytes 2 count ++ [])
three_bytes [] count long are_bytes is = absurd (omega arith)
three_bytes (a ∷ []) count long are_bytes is = absurd (omega arith)
three_bytes (a ∷ b ∷ []) count long are_bytes is = absurd (omega arith)
three_bytes (a ∷ b ∷ e ∷ []) count long are_bytes is =
    let high : b ≡ count / 256 % 256 = omega (arith, is, are_bytes 1, are_bytes 2) in
    let low : e ≡ count % 256 = omega (arith, is, are_bytes 1, are_bytes 2) in
    ap₂ (λ (x y : ℕ). a ∷ x ∷ y ∷ []) high low
three_bytes (a ∷ b ∷ e ∷ f ∷ l) count long are_bytes is = absurd (omega arith)

-- a head, and fewer bytes behind it than it says
cut_behind_head : (symbol index : ℕ) (head front : List ℕ) (frame : Frame)
    → IsHead symbol index head frame → length front < frame.length
    → IsCutDatagram symbol index (head ++ front)
cut_behind_head symbol index head front frame is short = inr (
  frame.flow,
  frame.length,
  front,
  ap (λ (l : List ℕ). l ++ front) is.spelled,
  is.within,
  is.room,
  short,
)

module _ (symbol index : ℕ) (head front : List ℕ) (frame : Frame)
    (before left now : Option (List ℕ)) (faults faults_now : ℕ)
    (is : IsHead symbol index head frame) (short : length front < frame.length)
    (behind : Consumes before left head) (taken : Consumes left now front) where
  pub failed_behind_head : Rose faults faults_now
      → EndsReading Framing symbol index before now faults faults_now Read
  failed_behind_head rose = (
    head ++ front,
    Consumes-trans before left now head front behind taken,
    cut_behind_head symbol index head front frame is short,
    rose,
  )

  pub ended_behind_head : (have : ℕ) → have ≡ 3 + length front → IsAtEnd now
      → EndsReading Framing symbol index before now faults faults_now (Fault (Short index have))
  ended_behind_head have counted ended =
      let three : length head ≡ 3 = ap (λ (l : List ℕ). length l) is.spelled in (
        head ++ front,
        Consumes-trans before left now head front behind taken,
        (
          refl,
          omega (arith, length-append head front, three, counted),
          omega (arith, counted),
          cut_behind_head symbol index head front frame is short,
          ended,
        ),
      )
