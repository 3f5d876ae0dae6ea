-- The packet file of an object.
use Rattle.std.specs.Prelude.{◌≡◌, ℕ, ◌-◌, ◌*◌, ◌<◌, List, [], ◌++◌, length, replicate}
use Rattle.std.specs.Prelude.{slice_index_or, sum, sum_by, take, drop, Option, Some, codes}
use Rattle.std.specs.Fmt.{decimal}
use Rattle.std.specs.Int.{div_ceil}
use Rattle.std.specs.List.{enumerate_from, flat_map}
use Rattle.sparse_rows.specs.Matrix.{HasShape, Matrix}
use Rattle.fec_base.specs.Symbol.{symbols_of}
use Rattle.sparse_rows.specs.Codeword.{IsEncoded}
use Rattle.packet_file.specs.Header.{HeaderFields, IsHeader, header_bytes, source_counts}
use Rattle.packet_file.specs.Packets.{packet_bytes}
use Rattle.oti_fields.specs.declared.identifier.PacketId.{PacketId}
use Rattle.object_file.specs.Codes.{count_at, header_matrix}

-- an identifier: the number of the source block, and that of the encoding symbol
abbrev pub identifier : ℕ → ℕ → PacketId
identifier b esi = record { sbn = b; esi = esi }

-- the bytes with zero bytes behind them, up to some length
abbrev pub padded : ℕ → List ℕ → List ℕ
padded size bytes = bytes ++ replicate (size - length bytes) 0

-- the source symbols of an object: its bytes in pieces of len bytes, the last one padded
abbrev pub source_symbols : ℕ → List ℕ → List (List ℕ)
source_symbols len object = let count = div_ceil (length object) len in symbols_of len count
    (padded (count * len) object)

-- how many source symbols the blocks before block b have
abbrev pub block_start : HeaderFields → ℕ → ℕ
block_start h b = sum (take b (source_counts h))

-- source block b of an object: the source symbols behind those of the blocks before it
abbrev pub source_block : HeaderFields → List ℕ → ℕ → List (List ℕ)
source_block h object b = take (count_at h b)
    (drop (block_start h b) (source_symbols h.oti.symbol object))

-- the word is the codeword of source block b, by the matrix for its size, which has the shape
pub record IsEncodedBlock (h : HeaderFields) (draws : Option ℕ) (object : List ℕ) (b : ℕ)
    (word : List (List ℕ)) : Type 0 where
  pub matrix : Matrix
  pub code : header_matrix h draws (count_at h b) ≡ Some matrix
  pub shape : HasShape matrix
  pub encoded : IsEncoded matrix h.oti.symbol (source_block h object b) word

-- the words are the codewords of the object's source blocks
pub record AreEncoded (h : HeaderFields) (draws : Option ℕ) (object : List ℕ)
    (words : List (List (List ℕ))) : Type 0 where
  pub counted : length words ≡ length (source_counts h)
  pub each : (b : ℕ) → b < length words
      → IsEncodedBlock h draws object b (slice_index_or words b [])

-- the packets of a block's codeword, in rising order of the ESI
abbrev pub block_packets : HeaderFields → ℕ → List (List ℕ) → List ℕ
block_packets h b word = flat_map (λ (p : ℕ × List ℕ). packet_bytes h (identifier b p.0, p.1))
    (enumerate_from 0 word)

-- the packets of all blocks, block by block
abbrev pub packets : HeaderFields → List (List (List ℕ)) → List ℕ
packets h words = flat_map (λ (p : ℕ × List (List ℕ)). block_packets h p.0 p.1)
    (enumerate_from 0 words)

-- what is reported of so many blocks and packets
abbrev pub encode_report : ℕ → ℕ → List ℕ
encode_report blocks count = codes "blocks " ++ decimal blocks ++ codes "\npackets " ++ decimal
    count ++ codes "\n"

-- the packet file of an object, and its report: each source block is encoded by its matrix, and the
-- file is the header and the packets of the codewords
pub record IsEncoding (h : HeaderFields) (draws : Option ℕ) (object file report : List ℕ) : Type 0
  where
    pub header : IsHeader h
    pub words : List (List (List ℕ))
    pub encoded : AreEncoded h draws object words
    pub file_is : file ≡ header_bytes h ++ packets h words
    pub report_is : report ≡ encode_report (length words) (sum_by length words)
