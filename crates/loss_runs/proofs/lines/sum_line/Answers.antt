use Rattle.std.proofs.Common.{◌≡◌, ℕ, List, ◌++◌, length, codes, decimal, Result, Ok, Err, IfOk}
use Rattle.std.proofs.Common.{string_bytes, append_assoc, sym, ap₂, ◌∙◌}
use Rattle.loss_runs.specs.Kept.{AreSums}
use Rattle.loss_runs.specs.Lines.{count_ends, is_peeled, is_solved, is_undetermined, sum_line}
use Rattle.loss_runs.specs.declared.lines.Sums.{Sums}
use Rattle.loss_runs.specs.declared.result.RunResult.{RunResult}
use Rattle.loss_runs.proofs.lines.sum_line.Goals as goal

-- the line of these numbers, as it is put together
abbrev text : ℕ → ℕ → ℕ → ℕ → List ℕ
text count peeled solved undetermined =
    codes "runs " ++ (decimal count ++ (codes " peeled " ++ (decimal peeled
    ++ (codes " solved " ++ (decimal solved
    ++ (codes " undetermined " ++ (decimal undetermined ++ codes "\n")))))))

regroup : (a b c d e f g h i : List ℕ)
    → (((((((a ++ b) ++ c) ++ d) ++ e) ++ f) ++ g) ++ h) ++ i
    ≡ a ++ (b ++ (c ++ (d ++ (e ++ (f ++ (g ++ (h ++ i)))))))
regroup a b c d e f g h i = simp append_assoc

text_is : (count : ℕ) (sums : Sums) (results : List RunResult) → length results ≡ count
    → AreSums results sums
    → text count sums.peeled sums.solved sums.undetermined ≡ sum_line results
text_is count sums results long are =
    ap₂ (λ (k p : ℕ). text k p sums.solved sums.undetermined) (sym long) are.peeled
    ∙ ap₂ (λ (s u : ℕ). text (length results) (count_ends is_peeled results) s u) are.solved
    are.undetermined
    ∙ sym (regroup (codes "runs ") (decimal (length results)) (codes " peeled ")
    (decimal (count_ends is_peeled results)) (codes " solved ")
    (decimal (count_ends is_solved results)) (codes " undetermined ")
    (decimal (count_ends is_undetermined results)) (codes "\n"))

of_text : {T E : Type 0} (bytes : T → List ℕ) (r : Result T E) (count : ℕ) (sums : Sums)
    → IfOk r (λ line. bytes line ≡ text count sums.peeled sums.solved sums.undetermined)
    → IfOk r (λ line. (results : List RunResult) → length results ≡ count
    → AreSums results sums → bytes line ≡ sum_line results)
of_text bytes (Ok line) count sums is =
    λ results long are. is ∙ text_is count sums results long are
of_text bytes (Err e) count sums is = is

pub returns : goal.returns
returns c = of_text (λ line. string_bytes line) c.format.result c.args.count c.args.sums
    c.format.ensures.ok
