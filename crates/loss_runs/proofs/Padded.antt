-- The results of runs that were not made, and the text of all.
use Rattle.std.proofs.Common.{◌≡◌, ℕ, zero, suc, ◌+◌, ◌<◌, ◌≤◌, ◌-◌, ⊎_elim, List, [], ◌∷◌, ◌++◌}
use Rattle.std.proofs.Common.{length, slice_index_or, Option, refl, sym, ap, ◌∙◌, subst, arith}
use Rattle.std.proofs.Common.{append_assoc, append-nil, length-append, eq-or-lt_of_le}
use Rattle.std.specs.Io.KnownBytes.{Appends}
use Rattle.std.proofs.KnownBytes.{Appends-nil, Appends-trans}
use Rattle.std.proofs.lemmas.List.{get_or_append_left, get_or_push}
use Rattle.fec_base.specs.Bytes.{AppendsFront}
use Rattle.fec_base.specs.Parts.{AppendsPart}
use Rattle.sparse_rows.specs.Matrix.{HasShape}
use Rattle.sparse_rows.specs.Codeword.{IsEncoded}
use Rattle.loss_runs.specs.Trials.{Trial, source_of}
use Rattle.loss_runs.specs.Ends.{AreRuns, IsRunOf}
use Rattle.loss_runs.specs.Lines.{code_line, run_line, run_lines, sum_line, trial_text}
use Rattle.loss_runs.specs.Written.{OfText}
use Rattle.loss_runs.specs.Laws.{RunHasResult}
use Rattle.loss_runs.specs.Kept.{AreFirst}
use Rattle.loss_runs.specs.declared.result.RunResult.{RunResult}
use Rattle.loss_runs.proofs.Texts.{cut_behind, cut_longer, lines_front, lines_more}

-- ---- one run more

pub first_none : (t : Trial) (word : List (List ℕ)) → AreFirst t word []
first_none t word r d lt = absurd (omega (arith, lt))

pub first_more : (t : Trial) (word : List (List ℕ)) (results : List RunResult) (made : RunResult)
    → AreFirst t word results → IsRunOf t word (length results) made
    → AreFirst t word (results ++ made ∷ [])
first_more t word results made are is r d lt = ⊎_elim
    (λ (same : r ≡ length results). subst (λ (n : ℕ). IsRunOf t word n
    (slice_index_or (results ++ made ∷ []) n d)) (sym same)
    (subst (IsRunOf t word (length results))
    (sym (get_or_push results made d (length results) refl))
    is))
    (λ (less : r < length results). subst (IsRunOf t word r)
    (sym (get_or_append_left results (made ∷ []) d r less)) (are r d less))
    (eq-or-lt_of_le (omega (arith, lt, length-append results (made ∷ []))))

-- the results so far, with their lines, and one run more
module _ (t its : Trial) (word its_word : List (List ℕ)) (results : List RunResult)
    (held mid now : Option (List ℕ)) (i done : ℕ) (made : RunResult) (trial_is : its ≡ t)
    (word_is : its_word ≡ word) (done_is : done ≡ i) (are : AreFirst t word results)
    (long : length results ≡ i) (lines : Appends held mid (run_lines results))
    (ran : IsRunOf its its_word done made) where
  abbrev with_one : List RunResult
  with_one = results ++ made ∷ []

  pub are_more : AreFirst t word with_one
  are_more = first_more t word results made are
      (subst (λ (n : ℕ). IsRunOf t word n made) (done_is ∙ sym long)
      (subst (λ (w : List (List ℕ)). IsRunOf t w done made) word_is
      (subst (λ (u : Trial). IsRunOf u its_word done made) trial_is ran)))

  pub long_more : length with_one ≡ i + 1
  long_more = omega (arith, long, length-append results (made ∷ []))

  line_is : run_lines with_one ≡ run_lines results ++ run_line (done + 1) made
  line_is = lines_more results made done (long ∙ sym done_is)

  pub lines_appended : Appends mid now (run_line (done + 1) made)
      → Appends held now (run_lines with_one)
  lines_appended line = subst (Appends held now) (sym line_is)
      (Appends-trans held mid now (run_lines results) (run_line (done + 1) made) lines line)

  pub line_cut : AppendsFront mid now (run_line (done + 1) made)
      → AppendsFront held now (run_lines with_one)
  line_cut cut = subst (AppendsFront held now) (sym line_is)
      (cut_behind held mid now (run_lines results) (run_line (done + 1) made) lines cut)

module _ (t : Trial) (word : List (List ℕ)) (shape : HasShape t.matrix) (some : 1 ≤ t.len)
    (encoded : IsEncoded t.matrix t.len (source_of t) word) (has : RunHasResult) where
  -- so many results more
  pad : (n : ℕ) (results : List RunResult) → AreFirst t word results → (more : List RunResult)
      × AreFirst t word (results ++ more) × (length (results ++ more) ≡ length results + n)
  pad zero results are = (
    [],
    subst (AreFirst t word) (sym (append-nil results)) are,
    omega (arith, length-append results []),
  )
  pad (suc n) results are =
      let made = has t word (length results) shape some encoded in
      let rest = pad n (results ++ made.0 ∷ []) (first_more t word results made.0 are made.1) in
      let joined : (results ++ made.0 ∷ []) ++ rest.0 ≡ results ++ (made.0 ∷ rest.0) =
      append_assoc results (made.0 ∷ []) rest.0 in (
        made.0 ∷ rest.0,
        subst (AreFirst t word) joined rest.1,
        ap length (sym joined) ∙ omega (arith, rest.2, length-append results (made.0 ∷ [])),
      )

  abbrev Padded : ℕ → List RunResult → Type 0
  Padded count results = (more : List RunResult) × AreRuns t (results ++ more)
      × (length (results ++ more) ≡ count)

  pub padded : (count : ℕ) (results : List RunResult) → AreFirst t word results
      → length results ≤ count → Padded count results
  padded count results are few =
      let rest = pad (count - length results) results are in (
        rest.0,
        record { word = word; encoded = encoded; each = rest.1 },
        omega (arith, rest.2, few),
      )

  -- ---- the text

  module _ (count : ℕ) (name : List ℕ) (draws : ℕ) (held mid late now : Option (List ℕ)) where
    abbrev head : List ℕ
    head = code_line name t.matrix draws

    -- all was written
    pub text_whole : (results : List RunResult) → AreFirst t word results
        → length results ≡ count → Appends held mid head → Appends mid late (run_lines results)
        → Appends late now (sum_line results) → OfText t count name draws (Appends held now)
    text_whole results are long first lines last = (
      results,
      record { word = word; encoded = encoded; each = are },
      long,
      Appends-trans held mid now head (run_lines results ++ sum_line results) first
          (Appends-trans mid late now (run_lines results) (sum_line results) lines last),
    )

    -- the line of the code was cut
    pub head_cut : AppendsFront held now head → OfText t count name draws (AppendsFront held now)
    head_cut cut =
        let all = padded count [] (first_none t word) (omega arith) in
        (all.0, all.1, all.2, cut_longer held now head (run_lines all.0 ++ sum_line all.0) cut)

    -- the line of a run was cut
    pub lines_cut : (results : List RunResult) → AreFirst t word results → length results ≤ count
        → Appends held mid head → AppendsFront mid now (run_lines results)
        → OfText t count name draws (AppendsFront held now)
    lines_cut results are few first cut =
        let all = padded count results are few in
        let whole : List RunResult = results ++ all.0 in
        let rest = lines_front results all.0 in (
          whole,
          all.1,
          all.2,
          cut_behind held mid now head (run_lines whole ++ sum_line whole) first
              (cut_longer mid now (run_lines whole) (sum_line whole)
              (subst (AppendsFront mid now) (sym rest.1)
              (cut_longer mid now (run_lines results) rest.0 cut))),
        )

    -- the line with the sums was cut
    pub sums_cut : (results : List RunResult) → AreFirst t word results → length results ≡ count
        → Appends held mid head → Appends mid late (run_lines results)
        → AppendsFront late now (sum_line results)
        → OfText t count name draws (AppendsFront held now)
    sums_cut results are long first lines cut = (
      results,
      record { word = word; encoded = encoded; each = are },
      long,
      cut_behind held mid now head (run_lines results ++ sum_line results) first
          (cut_behind mid late now (run_lines results) (sum_line results) lines cut),
    )

    -- nothing was written
    pub none_written : held ≡ now → OfText t count name draws (AppendsPart held now)
    none_written same =
        let all = padded count [] (first_none t word) (omega arith) in (
          all.0,
          all.1,
          all.2,
          (
            [],
            trial_text name draws t all.0,
            subst (λ (h : Option (List ℕ)). Appends held h []) same (Appends-nil held),
            refl,
          ),
        )

    -- the lines of some runs were written
    pub lines_written : (results : List RunResult) → AreFirst t word results
        → length results ≤ count → Appends held mid head → Appends mid now (run_lines results)
        → OfText t count name draws (AppendsPart held now)
    lines_written results are few first lines =
        let all = padded count results are few in
        let whole : List RunResult = results ++ all.0 in
        let rest = lines_front results all.0 in (
          whole,
          all.1,
          all.2,
          (
            head ++ run_lines results,
            rest.0 ++ sum_line whole,
            Appends-trans held mid now head (run_lines results) first lines,
            ap (λ l. head ++ (l ++ sum_line whole)) rest.1
                ∙ ap (λ l. head ++ l) (append_assoc (run_lines results) rest.0 (sum_line whole))
                ∙ sym (append_assoc head (run_lines results) (rest.0 ++ sum_line whole)),
          ),
        )
