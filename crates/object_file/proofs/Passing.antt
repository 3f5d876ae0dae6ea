-- Bytes that pass through a staging buffer, one piece after the other.
use Rattle.std.proofs.Common.{◌≡◌, ℕ, ◌+◌, List, [], ◌++◌, length, take, sym, ap, ◌∙◌, subst}
use Rattle.std.proofs.Common.{arith, append_assoc, append-nil, length-append, Option}
use Rattle.std.specs.Io.KnownBytes.{Appends}
use Rattle.std.proofs.KnownBytes.{Appends-trans}
use Rattle.std.proofs.Math.Seq.{take-append-add}
use Rattle.fec_base.specs.Bytes.{AppendsFront}
use Rattle.object_file.specs.Staged.{PassesOn}

-- nothing more passes
pub passes_none : (held : Option (List ℕ)) (before : List ℕ) → Appends held held []
    → PassesOn held held before before []
passes_none held before same = record { sent = []; appended = same; rest = sym (append-nil before) }

-- one piece, and then another
pub passes_after : (held mid now : Option (List ℕ)) (before between after first second : List ℕ)
    → PassesOn held mid before between first → PassesOn mid now between after second
    → PassesOn held now before after (first ++ second)
passes_after held mid now before between after first second p q = record {
  sent = p.sent ++ q.sent;
  appended = Appends-trans held mid now p.sent q.sent p.appended q.appended;
  rest = append_assoc p.sent q.sent after ∙ ap (λ l. p.sent ++ l) q.rest
      ∙ sym (append_assoc p.sent between second) ∙ ap (λ l. l ++ second) p.rest
      ∙ append_assoc before first second;
}

-- a failure after a piece has passed leaves a front of both
pub cut_after : (held mid now : Option (List ℕ)) (before between first second : List ℕ)
    → PassesOn held mid before between first → AppendsFront mid now (between ++ second)
    → AppendsFront held now (before ++ (first ++ second))
cut_after held mid now before between first second p cut =
    let whole : p.sent ++ (between ++ second) ≡ before ++ (first ++ second) =
    sym (append_assoc p.sent between second) ∙ ap (λ l. l ++ second) p.rest
    ∙ append_assoc before first second in (
      length p.sent + cut.0,
      omega (arith, cut.1, length-append p.sent (between ++ second), ap length whole),
      subst (Appends held now) (sym (take-append-add p.sent (between ++ second) cut.0)
          ∙ ap (take (length p.sent + cut.0)) whole) (Appends-trans held mid now p.sent
          (take cut.0 (between ++ second)) p.appended cut.2),
    )

-- what waits is handed over at the end
pub passes_whole : (held mid now : Option (List ℕ)) (after bytes : List ℕ)
    → PassesOn held mid [] after bytes → Appends mid now after → Appends held now bytes
passes_whole held mid now after bytes p flushed = subst (Appends held now) p.rest
    (Appends-trans held mid now p.sent after p.appended flushed)

pub cut_whole : (held mid now : Option (List ℕ)) (after bytes : List ℕ)
    → PassesOn held mid [] after bytes → AppendsFront mid now after → AppendsFront held now bytes
cut_whole held mid now after bytes p cut = (
  length p.sent + cut.0,
  omega (arith, cut.1, length-append p.sent after, ap length p.rest),
  subst (Appends held now) (sym (take-append-add p.sent after cut.0)
      ∙ ap (take (length p.sent + cut.0)) p.rest) (Appends-trans held mid now p.sent
      (take cut.0 after) p.appended cut.2),
)

-- seven parts, each behind the ones before
pub seven_parts : (a b c d e f g l1 l2 l3 l4 l5 l6 l7 : List ℕ) → l1 ≡ a → l2 ≡ l1 ++ b
    → l3 ≡ l2 ++ c → l4 ≡ l3 ++ d → l5 ≡ l4 ++ e → l6 ≡ l5 ++ f → l7 ≡ l6 ++ g
    → l7 ≡ a ++ b ++ c ++ d ++ e ++ f ++ g
seven_parts a b c d e f g l1 l2 l3 l4 l5 l6 l7 h1 h2 h3 h4 h5 h6 h7 =
    h7 ∙ ap (λ l. l ++ g) (h6 ∙ ap (λ l. l ++ f)
    (h5 ∙ ap (λ l. l ++ e) (h4 ∙ ap (λ l. l ++ d)
    (h3 ∙ ap (λ l. l ++ c) (h2 ∙ ap (λ l. l ++ b) h1)))))

-- a file of a header and packets, where nothing waited: its front after a failure, and the whole
module _ (held mid late : Option (List ℕ)) (before seen header between after rest : List ℕ)
    (none : before ≡ []) (is : seen ≡ header) (first : PassesOn held mid before between seen) where
  begun : PassesOn held mid [] between header
  begun = subst (λ (b : List ℕ). PassesOn held mid b between header) none
      (subst (PassesOn held mid before between) is first)

  pub packets_cut : AppendsFront mid late (between ++ rest)
      → AppendsFront held late (header ++ rest)
  packets_cut cut = cut_after held mid late [] between header rest begun cut

  module _ (now : Option (List ℕ)) (second : PassesOn mid late between after rest) where
    pub end_cut : AppendsFront late now after → AppendsFront held now (header ++ rest)
    end_cut cut = cut_whole held late now after (header ++ rest)
        (passes_after held mid late [] between after header rest begun second) cut

    pub end_whole : Appends late now after → Appends held now (header ++ rest)
    end_whole flushed = passes_whole held late now after (header ++ rest)
        (passes_after held mid late [] between after header rest begun second) flushed
