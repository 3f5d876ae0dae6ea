-- An object has one encoding.
use Rattle.std.proofs.Common.{◌≡◌, ℕ, List, [], ◌++◌, length, get_or, sum_by, Option, sym, ap, ◌∙◌}
use Rattle.std.proofs.Common.{subst, arith, ext_get_or}
use Rattle.std.proofs.lemmas.Option.{same_Some}
use Rattle.sparse_rows.specs.Matrix.{Matrix}
use Rattle.sparse_rows.specs.Codeword.{IsEncoded}
use Rattle.sparse_rows.proofs.Encode.{source_one}
use Rattle.packet_file.specs.Header.{HeaderFields, header_bytes}
use Rattle.object_file.specs.File.{AreEncoded, IsEncodedBlock, IsEncoding, encode_report, packets}
use Rattle.object_file.specs.File.{source_block}

module _ (h : HeaderFields) (draws : Option ℕ) (object : List ℕ) where
  -- a block has one codeword
  word_one : (b : ℕ) (word other : List (List ℕ)) → IsEncodedBlock h draws object b word
      → IsEncodedBlock h draws object b other → word ≡ other
  word_one b word other first second =
      let same : second.matrix ≡ first.matrix = same_Some second.matrix first.matrix
      (sym second.code ∙ first.code) in
      source_one first.matrix first.shape h.oti.symbol (source_block h object b) word other
      first.encoded (subst (λ (m : Matrix). IsEncoded m h.oti.symbol (source_block h object b)
      other) same second.encoded)

  -- an object has one list of codewords
  words_one : (words others : List (List (List ℕ))) → AreEncoded h draws object words
      → AreEncoded h draws object others → words ≡ others
  words_one words others first second = ext_get_or [] words others (first.counted
      ∙ sym second.counted)
      (λ b lt. word_one b (get_or words b []) (get_or others b []) (first.each b lt)
      (second.each b (omega (arith, lt, first.counted, second.counted))))

  -- and one packet file with one report
  pub encoding_one : (file other report other_report : List ℕ)
      → IsEncoding h draws object file report → IsEncoding h draws object other other_report
      → (file ≡ other) × (report ≡ other_report)
  encoding_one file other report other_report first second =
      let same = words_one first.words second.words first.encoded second.encoded in (
        first.file_is ∙ ap (λ ws. header_bytes h ++ packets h ws) same ∙ sym second.file_is,
        first.report_is ∙ ap (λ (ws : List (List (List ℕ))). encode_report (length ws)
            (sum_by length ws)) same ∙ sym second.report_is,
      )
