use Rattle.std.proofs.Common.{◌≡◌, List, ◌++◌, codes, decimal, ℕ, IfOk, string_bytes, append_assoc}
use Rattle.std.proofs.Common.{sym, ap₂, ◌∙◌, subst}
use Rattle.loss_runs.specs.Lines.{end_text, least_text, run_line}
use Rattle.loss_runs.specs.declared.result.RunResult.{RunResult}
use Rattle.loss_runs.proofs.lines.run_line.Goals as goal

regroup : (a b c d e f g h : List ℕ)
    → ((((((a ++ b) ++ c) ++ d) ++ e) ++ f) ++ g) ++ h
    ≡ a ++ (b ++ (c ++ (d ++ (e ++ (f ++ (g ++ h))))))
regroup a b c d e f g h = simp append_assoc

-- the line of this number, of so many kept symbols, as it is put together
abbrev text : ℕ → ℕ → List ℕ → List ℕ → List ℕ
text number kept ended least =
    codes "run " ++ (decimal number ++ (codes " kept " ++ (decimal kept
    ++ (codes " needed " ++ (ended ++ (least ++ codes "\n"))))))

text_is : (number : ℕ) (made : RunResult) (ended least : List ℕ) → ended ≡ end_text made.end
    → least ≡ least_text made.least → text number made.kept ended least ≡ run_line number made
text_is number made ended least ended_is least_is =
    ap₂ (λ (e l : List ℕ). text number made.kept e l) ended_is least_is
    ∙ sym (regroup (codes "run ") (decimal number) (codes " kept ") (decimal made.kept)
    (codes " needed ") (end_text made.end) (least_text made.least) (codes "\n"))

pub returns : goal.returns
returns c = subst (λ (bs : List ℕ). IfOk c.format.result (λ line. string_bytes line ≡ bs))
    (text_is c.args.number c.args.made c.as_str-end.result.now c.as_str-least.result.now
    (c.as_str-end.ensures.value ∙ c.in_ok-end_text.ensures)
    (c.as_str-least.ensures.value ∙ c.in_ok-least_text.ensures)) c.format.ensures.ok
