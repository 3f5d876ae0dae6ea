-- What sessions and receivers stand for, and what they tell their watch.
use Rattle.std.specs.Prelude.{◌≡◌, ◌<◌, ℕ, ⊤, List, [], length, map, take, Option}
use Rattle.std.specs.Prelude.{slice_index_or, slice_set}
use Rattle.sparse_rows.specs.Matrix.{Matrix}
use Rattle.sparse_rows.specs.Codeword.{Arrival}
use Rattle.fec_base.specs.Told.{Telling, GrowsTold}
use Rattle.peeling.specs.Decoder.{Decoder, kept}
use Rattle.peeling.specs.Lookups.{IsEmpty}
use Rattle.peeling.specs.Stands.{Receives, StandsFor}
use Rattle.fec_session.specs.Determines.{Determines}
use Rattle.fec_session.specs.declared.outcome.Outcome.{Outcome}
use Rattle.fec_session.specs.declared.outcome.Outcome.TheVariants as outcome

-- a decoder, the number of its block, and the watch that is told of what it rebuilds
pub record Watched (W : Type 0) : Type 0 where
  pub core : Decoder
  pub block : ℕ
  pub watch : W

-- the decoders of blocks, and the watch that is told of what they rebuild
pub record Receiving (W : Type 0) : Type 0 where
  pub cores : List Decoder
  pub watch : W

-- how blocks came out, and the watch
pub record Settled (W : Type 0) : Type 0 where
  pub outcomes : List Outcome
  pub watch : W

-- these positions of a block, each with the bytes that its decoder keeps
abbrev pub tellings : ℕ → Decoder → List ℕ → List Telling
tellings block d positions =
    map (λ e. record { block = block; esi = e; bytes = kept d e }) positions

-- what is told of a decoder's last arrival: the positions that it rebuilt, rising
abbrev pub rebuilt : ℕ → Decoder → List Telling
rebuilt block d = tellings block d d.fresh

-- of what the last arrival rebuilt the first `count` are told, which aren't all
abbrev pub TellsFront : Option (List Telling) → Option (List Telling) → ℕ → Decoder → ℕ → Type 0
TellsFront told told_now block d count =
    (count < length d.fresh) × GrowsTold told told_now (tellings block d (take count d.fresh))

-- the decoder of block b took in an arrival, and those of the other blocks stayed
pub record ReceivesAt (old new : List Decoder) (b position : ℕ) (bytes : List ℕ) : Type 0 where
  pub now : Decoder
  pub received : (d : Decoder) → Receives (slice_index_or old b d) now position bytes
  pub set : new ≡ slice_set old b now

-- decoders of these codes, in order, at which nothing has arrived
pub record AreNew (codes : List Matrix) (len : ℕ) (decoders : List Decoder) : Type 0 where
  pub counted : length decoders ≡ length codes
  pub empty : (b : ℕ) (m : Matrix) (d : Decoder) → b < length codes
      → IsEmpty (slice_index_or codes b m) len (slice_index_or decoders b d)
  pub stand : (b : ℕ) (d : Decoder) → b < length codes → StandsFor (slice_index_or decoders b d) []

-- a decoder's block comes out as the arrivals determine, whatever they are that it stands for
abbrev pub ComesOut : Decoder → Outcome → Type 0
ComesOut d o = (arrivals : List Arrival) → StandsFor d arrivals
    → Determines d.matrix d.len arrivals o

-- what an outcome holds, whatever the arrivals are: a block has k source symbols
abbrev pub HoldsOutcome : Decoder → Outcome → Type 0
HoldsOutcome d outcome.NoCodeword = ⊤
HoldsOutcome d (outcome.Block block) = length block.source ≡ d.matrix.k
HoldsOutcome d (outcome.Undetermined word) = ⊤

-- so the blocks come out, one after the other
pub record ComeOut (decoders : List Decoder) (outcomes : List Outcome) : Type 0 where
  pub counted : length outcomes ≡ length decoders
  pub each : (b : ℕ) (d : Decoder) (o : Outcome) → b < length decoders
      → ComesOut (slice_index_or decoders b d) (slice_index_or outcomes b o)
  pub holds : (b : ℕ) (d : Decoder) (o : Outcome) → b < length decoders
      → HoldsOutcome (slice_index_or decoders b d) (slice_index_or outcomes b o)
