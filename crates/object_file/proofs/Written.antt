-- A file whose header was handed over before its packets passed through a staging buffer.
use Rattle.std.proofs.Common.{◌≡◌, List, [], ◌++◌, ℕ, Option, sym, ap, ◌∙◌, subst, refl}
use Rattle.std.proofs.Common.{append_assoc, append-nil}
use Rattle.std.specs.Io.KnownBytes.{Appends}
use Rattle.std.proofs.KnownBytes.{Appends-trans}
use Rattle.fec_base.specs.Bytes.{AppendsFront}
use Rattle.fec_base.specs.Parts.{AppendsPart}
use Rattle.fec_base.proofs.Cuts.{cut_longer}
use Rattle.object_file.specs.Staged.{PassesOn, PassesPart}
use Rattle.object_file.proofs.Passing.{packets_cut, end_cut, end_whole}

-- bytes that were handed over while nothing waited
handed_over : (held mid : Option (List ℕ)) (before header : List ℕ) → before ≡ []
    → Appends held mid header → PassesOn held mid before before header
handed_over held mid before header none appended =
    record {
      sent = header;
      appended = appended;
      rest = subst (λ (waiting : List ℕ). header ++ waiting ≡ waiting ++ header) (sym none)
          (append-nil header);
    }

-- the header was cut
pub header_cut : (held mid : Option (List ℕ)) (header rest : List ℕ) → AppendsFront held mid header
    → AppendsFront held mid (header ++ rest)
header_cut held mid header rest cut = cut_longer held mid header rest cut

module _ (held mid late : Option (List ℕ)) (waiting header rest : List ℕ) (none : waiting ≡ [])
    (first : Appends held mid header) where
  -- the packets were cut
  pub rest_cut : AppendsFront mid late (waiting ++ rest) → AppendsFront held late (header ++ rest)
  rest_cut cut = packets_cut held mid late waiting header header waiting waiting rest none refl
      (handed_over held mid waiting header none first) cut

  -- a part of the packets passed on
  pub rest_part : (after : List ℕ) → PassesPart mid late waiting after rest
      → AppendsPart held late (header ++ rest)
  rest_part after p =
      let sent : List ℕ = p.passed.sent in
      let passed : sent ++ after ≡ p.part = p.passed.rest ∙ ap (λ (bytes : List ℕ). bytes ++ p.part)
      none in
      let whole : rest ≡ sent ++ (after ++ p.rest) = p.whole
      ∙ ap (λ (bytes : List ℕ). bytes ++ p.rest) (sym passed)
      ∙ append_assoc sent after p.rest in (
        header ++ sent,
        after ++ p.rest,
        Appends-trans held mid late header sent first p.passed.appended,
        ap (λ (bytes : List ℕ). header ++ bytes) whole
            ∙ sym (append_assoc header sent (after ++ p.rest)),
      )

  module _ (now : Option (List ℕ)) (after : List ℕ) (second : PassesOn mid late waiting after rest)
    where
      -- the packets passed on, and what waited of them was cut
      pub last_cut : AppendsFront late now after → AppendsFront held now (header ++ rest)
      last_cut cut = end_cut held mid late waiting header header waiting after rest none refl
          (handed_over held mid waiting header none first) now second cut

      -- all was handed over
      pub all_written : Appends late now after → Appends held now (header ++ rest)
      all_written flushed = end_whole held mid late waiting header header waiting after rest none
          refl
          (handed_over held mid waiting header none first) now second flushed
