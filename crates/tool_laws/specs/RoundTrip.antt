-- What comes back of an object of whose packet file some packets came. The file was encoded under
-- one limit of draws, `draws`, and is decoded under another, `limit`.
use Rattle.std.specs.Prelude.{◌≡◌, ◌↔◌, ◌⊎◌, ◌<◌, ⊤, ℕ, Bool, true, List, ◌++◌, length}
use Rattle.std.specs.Prelude.{slice_index_or, All, Contains, Option, Some}
use Rattle.fec_base.specs.Told.{Telling}
use Rattle.sparse_rows.specs.Matrix.{Matrix}
use Rattle.sparse_rows.specs.Codeword.{positions}
use Rattle.sparse_rows.specs.Closure.{Set}
use Rattle.sparse_rows.specs.NullWord.{IsNullWord}
use Rattle.fec_session.specs.declared.outcome.Outcome.{Outcome}
use Rattle.fec_session.specs.declared.outcome.Outcome.TheVariants as outcome
use Rattle.packet_file.specs.Header.{HeaderFields, header_bytes, source_counts}
use Rattle.tool_base.specs.declared.status.Status.TheVariants as status
use Rattle.object_file.specs.Codes.{count_at, header_matrix}
use Rattle.object_file.specs.File.{IsEncoding, identifier, source_block}
use Rattle.packet_file.specs.Packets.{Packet, spelled}
use Rattle.fec_session.specs.Determines.{Determines}
use Rattle.packet_file.specs.Files.{IsPacketFile}
use Rattle.object_file.specs.Received.{arrivals_of}
use Rattle.object_file.specs.Told.{HasCodes, IsToldBy}
use Rattle.tool_commands.specs.DecodeRun.{Decodes}
use Rattle.tool_commands.specs.Outcomes.{object_of, outcome_status}

-- an object was encoded, under a header with its length, and these are the packets of its file
pub record AreSent (h : HeaderFields) (draws : Option ℕ) (object : List ℕ) (sent : List Packet) :
    Type 0 where
  pub long : h.oti.length ≡ length object
  pub file : List ℕ
  pub report : List ℕ
  pub most : ℕ
  pub encoding : IsEncoding h draws object file report
  pub packets_are : IsPacketFile h most sent file

-- each of these packets is one of the others, whatever their order, and however often it comes
abbrev pub AreAmong : List Packet → List Packet → Type 0
AreAmong packets others = All (Contains others) packets

-- block b of the file comes out so by these packets: as what arrived for it determines, by the
-- matrix for its size
pub record BlockComesOut (h : HeaderFields) (draws : Option ℕ) (packets : List Packet) (b : ℕ)
    (o : Outcome) : Type 0 where
  pub matrix : Matrix
  pub code : header_matrix h draws (count_at h b) ≡ Some matrix
  pub determined : Determines matrix h.oti.symbol (arrivals_of b packets) o

-- so the file's blocks come out by them, one after the other
pub record ComeOutBy (h : HeaderFields) (draws : Option ℕ) (packets : List Packet)
    (outcomes : List Outcome) : Type 0 where
  pub counted : length outcomes ≡ length (source_counts h)
  pub each : (b : ℕ) (o : Outcome) → b < length outcomes
      → BlockComesOut h draws packets b (slice_index_or outcomes b o)

-- a block that isn't contradicted, and that has this source where it has one
abbrev pub IsRight : List (List ℕ) → Outcome → Type 0
IsRight source outcome.NoCodeword = ⊥
IsRight source (outcome.Block block) = block.source ≡ source
IsRight source (outcome.Undetermined word) = ⊤

-- a block that has this source, by peeling alone
abbrev pub IsByPeeling : List (List ℕ) → Outcome → Type 0
IsByPeeling source outcome.NoCodeword = ⊥
IsByPeeling source (outcome.Block block) = (block.source ≡ source) × (block.by_peeling ≡ true)
IsByPeeling source (outcome.Undetermined word) = ⊥

-- each block comes out like this, by its source block of the object
abbrev pub EachBlock : (List (List ℕ) → Outcome → Type 0) → HeaderFields → List ℕ → List Outcome
    → Type 0
EachBlock P h object outcomes = (b : ℕ) (o : Outcome) → b < length outcomes
    → P (source_block h object b) (slice_index_or outcomes b o)

-- each block has its source, and together they are the object
abbrev pub GiveBack : HeaderFields → List ℕ → List Outcome → Type 0
GiveBack h object outcomes =
    (outcome_status outcomes ≡ status.Done) × (object_of outcomes h.oti.length ≡ object)

-- no null word of the set: no word of bits but zero is a codeword that is zero on the set
abbrev pub LacksNullWord : Matrix → Set → Type 0
LacksNullWord m s = (word : List ℕ) → ¬ IsNullWord m s word

-- in no block the positions that came have a null word
abbrev pub LackNullWords : HeaderFields → Option ℕ → List Packet → Type 0
LackNullWords h draws packets = (b : ℕ) (m : Matrix) → b < length (source_counts h)
    → header_matrix h draws (count_at h b) ≡ Some m
    → LacksNullWord m (positions (arrivals_of b packets))

-- what was encoded is never decoded wrong: by whichever packets of an object's file, no block is
-- contradicted, each block that has a source has that of the object, and so the outcomes give the
-- object, or some block is left undetermined
abbrev pub NeverDecodedWrong : Type 0
NeverDecodedWrong = (h : HeaderFields) (draws limit : Option ℕ) (object : List ℕ)
    (sent came : List Packet) (outcomes : List Outcome)
    → AreSent h draws object sent → AreAmong came sent → ComeOutBy h limit came outcomes
    → EachBlock IsRight h object outcomes
    × (GiveBack h object outcomes ⊎ (outcome_status outcomes ≡ status.Undetermined))

-- they give the object exactly where in no block the positions that came have a null word
abbrev pub GivenBackWithoutNullWords : Type 0
GivenBackWithoutNullWords = (h : HeaderFields) (draws limit : Option ℕ) (object : List ℕ)
    (sent came : List Packet) (outcomes : List Outcome)
    → AreSent h draws object sent → AreAmong came sent → ComeOutBy h limit came outcomes
    → GiveBack h object outcomes ↔ LackNullWords h draws came

-- all packets of a file, in any order and with repeats, give its object, each block by peeling
abbrev pub GivenBackByAll : Type 0
GivenBackByAll = (h : HeaderFields) (draws limit : Option ℕ) (object : List ℕ)
    (sent came : List Packet) (outcomes : List Outcome)
    → AreSent h draws object sent → AreAmong came sent → AreAmong sent came
    → ComeOutBy h limit came outcomes
    → EachBlock IsByPeeling h object outcomes × GiveBack h object outcomes

-- neither the order of packets nor repeats matter: the same packets let the blocks come out alike,
-- whoever made them
abbrev pub OutcomesGoBySet : Type 0
OutcomesGoBySet = (h : HeaderFields) (draws limit : Option ℕ) (packets others : List Packet)
    (outcomes second : List Outcome)
    → AreAmong packets others → AreAmong others packets
    → ComeOutBy h draws packets outcomes → ComeOutBy h limit others second → outcomes ≡ second

-- what is told is never wrong: each symbol that is told as packets of an object's file come is one
-- of the file's
abbrev pub NeverToldWrong : Type 0
NeverToldWrong = (h : HeaderFields) (draws limit : Option ℕ) (object : List ℕ)
    (sent came : List Packet) (code : ℕ → Matrix) (t : Telling)
    → AreSent h draws object sent → AreAmong came sent → HasCodes h limit code
    → IsToldBy code h.oti.symbol came t → Contains sent (identifier t.block t.esi, t.bytes)

-- ---- a whole `decode`

-- by packets that are chosen from an object's file it gives the object, or leaves some block
-- undetermined
abbrev pub ChosenDecodeRight : Type 0
ChosenDecodeRight = (h : HeaderFields) (draws limit : Option ℕ) (object : List ℕ)
    (sent came : List Packet) (early : Bool) (most : ℕ) (left : Option (List ℕ))
    (told told_now : Option (List Telling)) (outcomes : List Outcome) (made report : List ℕ)
    → AreSent h draws object sent → AreAmong came sent
    → Decodes limit early most (Some (header_bytes h ++ spelled h came)) left told told_now
    outcomes made report
    → ((outcome_status outcomes ≡ status.Done) × (made ≡ object))
    ⊎ (outcome_status outcomes ≡ status.Undetermined)

-- it gives the object exactly where in no block the positions that came have a null word
abbrev pub ChosenDecodeWithoutNullWords : Type 0
ChosenDecodeWithoutNullWords = (h : HeaderFields) (draws limit : Option ℕ) (object : List ℕ)
    (sent came : List Packet) (early : Bool) (most : ℕ) (left : Option (List ℕ))
    (told told_now : Option (List Telling)) (outcomes : List Outcome) (made report : List ℕ)
    → AreSent h draws object sent → AreAmong came sent
    → Decodes limit early most (Some (header_bytes h ++ spelled h came)) left told told_now
    outcomes made report
    → (outcome_status outcomes ≡ status.Done) ↔ LackNullWords h draws came

-- `decode` undoes `encode`: the packet file of an object decodes to the object, each block by
-- peeling
abbrev pub DecodeUndoesEncode : Type 0
DecodeUndoesEncode = (h : HeaderFields) (draws limit : Option ℕ) (object file text : List ℕ)
    (early : Bool) (most : ℕ) (left : Option (List ℕ)) (told told_now : Option (List Telling))
    (outcomes : List Outcome) (made report : List ℕ)
    → h.oti.length ≡ length object → IsEncoding h draws object file text
    → Decodes limit early most (Some file) left told told_now outcomes made report
    → (outcome_status outcomes ≡ status.Done) × (made ≡ object)
    × EachBlock IsByPeeling h object outcomes
