-- The text of a trial, as it grows line by line.
use Rattle.std.proofs.Common.{◌≡◌, ℕ, ◌+◌, List, [], ◌∷◌, ◌++◌, length, take, Option, sym, ap, ◌∙◌}
use Rattle.std.proofs.Common.{subst, arith, append_assoc, append-nil, length-append}
use Rattle.std.specs.List.{enumerate_from, flat_map}
use Rattle.std.specs.Io.KnownBytes.{Appends}
use Rattle.std.proofs.KnownBytes.{Appends-trans}
use Rattle.std.proofs.Math.Seq.{take-append-add}
use Rattle.std.proofs.lemmas.List.{take-append-le}
use Rattle.fec_base.specs.Bytes.{AppendsFront}
use Rattle.loss_runs.specs.Lines.{run_line, run_lines}
use Rattle.loss_runs.specs.declared.result.RunResult.{RunResult}

-- ---- lines

-- the lines of runs, the first of which has the number n
abbrev lines_from : ℕ → List RunResult → List ℕ
lines_from n results = flat_map (λ (p : ℕ × RunResult). run_line p.0 p.1) (enumerate_from n results)

lines_append : (n : ℕ) (first second : List RunResult)
    → lines_from n (first ++ second) ≡ lines_from n first ++ lines_from (n + length first) second
lines_append n [] second =
    ap (λ (k : ℕ). lines_from k second) (let e : n ≡ n + 0 = omega arith in e)
lines_append n (r ∷ first) second =
    let place : n + 1 + length first ≡ n + length (r ∷ first) = omega arith in
    ap (λ l. run_line n r ++ l) (lines_append (n + 1) first second
    ∙ ap (λ (k : ℕ). lines_from (n + 1) first ++ lines_from k second) place)
    ∙ sym (append_assoc (run_line n r) (lines_from (n + 1) first)
    (lines_from (n + length (r ∷ first)) second))

-- the lines of one run more
pub lines_more : (results : List RunResult) (made : RunResult) (i : ℕ) → length results ≡ i
    → run_lines (results ++ made ∷ []) ≡ run_lines results ++ run_line (i + 1) made
lines_more results made i long =
    let place : 1 + length results ≡ i + 1 = omega (arith, long) in
    lines_append 1 results (made ∷ [])
    ∙ ap (λ (k : ℕ). run_lines results ++ lines_from k (made ∷ [])) place
    ∙ ap (λ l. run_lines results ++ l) (append-nil (run_line (i + 1) made))

-- the lines of more runs begin with those of the first
pub lines_front : (first second : List RunResult)
    → (rest : List ℕ) × (run_lines (first ++ second) ≡ run_lines first ++ rest)
lines_front first second = (lines_from (1 + length first) second, lines_append 1 first second)

-- ---- what is appended

-- a front of a text is one of a longer text
pub cut_longer : (held now : Option (List ℕ)) (first second : List ℕ)
    → AppendsFront held now first → AppendsFront held now (first ++ second)
cut_longer held now first second (n, short, written) = (
  n,
  omega (arith, short, length-append first second),
  subst (Appends held now) (sym (take-append-le n first second (omega (arith, short)))) written,
)

-- a text, and then a front of another
pub cut_behind : (held mid now : Option (List ℕ)) (first second : List ℕ)
    → Appends held mid first → AppendsFront mid now second → AppendsFront held now (first ++ second)
cut_behind held mid now first second written (n, short, front) = (
  length first + n,
  omega (arith, short, length-append first second),
  subst (Appends held now) (sym (take-append-add first second n))
      (Appends-trans held mid now first (take n second) written front),
)
