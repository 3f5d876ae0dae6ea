-- What is ready to be written.
use Rattle.std.specs.Prelude.{◌≡◌, ℕ, ◌*◌, ◌<◌, List, [], drop, length, slice_index_or, All}
use Rattle.std.specs.Prelude.{Contains, Option, Some, ⊤}
use Rattle.std.specs.Int.{div_ceil}
use Rattle.sparse_rows.specs.Matrix.{Matrix}
use Rattle.fec_base.specs.Symbol.{symbols_of}
use Rattle.sparse_rows.specs.Codeword.{IsEncoded}
use Rattle.packet_file.specs.Header.{HeaderFields, IsHeader, size_fault, source_counts}
use Rattle.packet_file.specs.Header.{symbol_count}
use Rattle.object_file.specs.BuiltCodes.{AreCodes, HasSize}
use Rattle.object_file.specs.Codes.{IsFirstOver, count_at}
use Rattle.object_file.specs.Options.{header_for}
use Rattle.packet_file.specs.Packets.{IsPacketOf, IsZeroFrom}
use Rattle.object_file.specs.File.{block_start, identifier, padded}
use Rattle.object_file.specs.declared.making.Made.{Made}
use Rattle.object_file.specs.declared.options.EncodeOptions.{EncodeOptions}
use Rattle.tool_base.specs.declared.causes.Refusal.{Refusal}
use Rattle.tool_base.specs.declared.causes.Refusal.TheVariants.{Memory, File, Draws, Watch}

-- the file of an object is ready: its header, the codes of its blocks, and the object with its last
-- source symbol padded; nothing waits yet
pub record IsMade (h : HeaderFields) (draws : Option ℕ) (object : List ℕ) (made : Made) : Type 0
  where
    pub header : made.header ≡ h
    pub codes : AreCodes h draws made.codes.items
    pub padded_is : made.object.items
        ≡ padded (div_ceil (length object) h.oti.symbol * h.oti.symbol) object
    pub empty : made.staging.bytes ≡ []
    pub room : made.staging.room ≡ 262144

-- the bytes have all source symbols of the file, the last one padded with zeros, and each block has
-- a matrix of its size
pub record IsReadyToWrite (h : HeaderFields) (matrices : List Matrix) (bytes : List ℕ) :
    Type 0 where
  pub long : length bytes ≡ div_ceil h.oti.length h.oti.symbol * h.oti.symbol
  pub padding : IsZeroFrom h.oti.length bytes
  pub each : (b : ℕ) → b < length (source_counts h) → HasSize matrices (count_at h b)
  pub sized : All (λ m. m.n ≡ symbol_count h m.k) matrices

-- the source symbols of block b, in the bytes of all source symbols
abbrev pub block_source : HeaderFields → List ℕ → ℕ → List (List ℕ)
block_source h bytes b = symbols_of h.oti.symbol (count_at h b)
    (drop (block_start h b * h.oti.symbol) bytes)

-- each symbol of a block's word makes a packet of the file
abbrev pub ArePackets : HeaderFields → ℕ → List (List ℕ) → Type 0
ArePackets h b word = (esi : ℕ) → esi < length word
    → IsPacketOf h (identifier b esi, slice_index_or word esi [])

-- the words are the codewords of the source blocks in the bytes, each by every matrix of its size
pub record AreCodewords (h : HeaderFields) (matrices : List Matrix) (bytes : List ℕ)
    (words : List (List (List ℕ))) : Type 0 where
  pub counted : length words ≡ length (source_counts h)
  pub each : (b : ℕ) (m : Matrix) → b < length words → Contains matrices m → m.k ≡ count_at h b
      → IsEncoded m h.oti.symbol (block_source h bytes b) (slice_index_or words b [])

-- no file is made of an object: memory lacked, its sizes pass a limit, or the code of a block takes
-- more draws than there may be
abbrev pub RefusesMaking : EncodeOptions → List ℕ → Refusal → Type 0
RefusesMaking o object Memory = ⊤
RefusesMaking o object (File fault) = size_fault (header_for o (length object)) ≡ Some fault
RefusesMaking o object (Draws b) = IsHeader (header_for o (length object))
    × IsFirstOver (header_for o (length object)) o.shape.draws b
RefusesMaking o object Watch = ⊥
