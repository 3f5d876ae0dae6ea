-- Inside: what the sender and the receiver of the block promise.
use Rattle.std.specs.Prelude.{◌≡◌, ◌<◌, ℕ, Some, ⊤, List, length, map}
use Rattle.std.specs.List.{range_with_len}
use Rattle.fec_base.specs.Symbol.{symbols_of}
use Rattle.sparse_rows.specs.Matrix.{Matrix}
use Rattle.sparse_rows.specs.Codeword.{Arrival, IsEncoded}
use Rattle.staircase.specs.Staircase.{staircase_matrix}
use Rattle.peeling.specs.Decoder.{Decoder}
use Rattle.peeling.specs.Stands.{StandsFor}
use Rattle.fec_session.specs.Determines.{Determines}
use Rattle.fec_session.specs.Session.{Watched}
use Rattle.fec_session.specs.SessionVerdict.{outcome_of}
use Rattle.fec_session.specs.declared.session.SessionVerdict.{SessionVerdict}
use Rattle.fec_session.specs.declared.session.SessionVerdict.TheVariants as verdict
use Rattle.one_block.specs.declared.block.TheConstants.{K, N, LEN, N1, SEED, DRAW_LIMIT}
use Rattle.one_block.specs.declared.sender.Packet.{Packet}

-- the matrix of the block's code
pub record IsBlockCode (m : Matrix) : Type 0 where
  pub draws : ℕ
  pub built : staircase_matrix K N N1 SEED DRAW_LIMIT ≡ Some (record { matrix = m; draws = draws })
  pub source : m.k ≡ K
  pub symbols : m.n ≡ N

-- the packets that are sent: their bytes are the codeword of the source, and their identifiers
-- count up from 0
pub record AreItsPackets (source : List ℕ) (packets : List Packet) : Type 0 where
  pub matrix : Matrix
  pub code : IsBlockCode matrix
  pub bytes : IsEncoded matrix LEN (symbols_of LEN K source) (map (λ p. p.bytes.items) packets)
  pub identifiers : map (λ p. p.esi) packets ≡ range_with_len 0 N

-- a packet as an arrival: its identifier is the position
abbrev pub arrival_of : Packet → Arrival
arrival_of p = (p.esi, p.bytes.items)

-- packets as arrivals, in order
abbrev pub arrivals_of : List Packet → List Arrival
arrivals_of packets = map arrival_of packets

-- a packet of the block
pub record IsPacket (p : Packet) : Type 0 where
  pub inside : p.esi < N
  pub long : length p.bytes.items ≡ LEN

-- a decoder of the block
pub record IsOfBlock (d : Decoder) : Type 0 where
  pub code : IsBlockCode d.matrix
  pub len : d.len ≡ LEN

-- a session of the block that stands for these arrivals
pub record IsOpen {W : Type 0} (s : Watched W) (arrivals : List Arrival) : Type 0 where
  pub block : IsOfBlock s.core
  pub stands : StandsFor s.core arrivals

-- what a verdict holds: a block of K source symbols, or a session that stands for the arrivals
abbrev pub Holds : {W : Type 0} → List Arrival → SessionVerdict W → Type 0
Holds arrivals (verdict.NoCodeword session) = IsOpen session arrivals
Holds arrivals (verdict.Block block watch) = length block.source ≡ K
Holds arrivals (verdict.Undetermined session word) = IsOpen session arrivals

-- the verdict is what the arrivals determine
pub record IsVerdict {W : Type 0} (arrivals : List Arrival) (v : SessionVerdict W) : Type 0 where
  pub matrix : Matrix
  pub code : IsBlockCode matrix
  pub determined : Determines matrix LEN arrivals (outcome_of v)
  pub holds : Holds arrivals v

-- a block that was determined has K source symbols
abbrev pub TellsSource : {W : Type 0} → SessionVerdict W → Type 0
TellsSource (verdict.NoCodeword session) = ⊤
TellsSource (verdict.Block block watch) = length block.source ≡ K
TellsSource (verdict.Undetermined session word) = ⊤
