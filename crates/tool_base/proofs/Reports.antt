-- Texts that are appended to a report, one after the other.
use Rattle.std.proofs.Common.{◌≡◌, ℕ, ◌+◌, ◌<◌, List, ◌++◌, length, get_or, take, drop, sym, ap}
use Rattle.std.proofs.Common.{◌∙◌, subst, append_assoc, Option}
use Rattle.std.specs.Io.KnownBytes.{Appends}
use Rattle.std.proofs.KnownBytes.{Appends-trans}
use Rattle.fec_base.specs.Bytes.{AppendsFront}
use Rattle.fec_base.proofs.Cuts.{cut_behind, cut_longer}
use Rattle.tool_base.proofs.Enumerated.{lines_from, lines_front, lines_more}

-- a line that is begun leaves a front of all lines
pub lines_cut : {A : Type 0} (line : ℕ → A → List ℕ) (held mid now : Option (List ℕ)) (xs : List A)
    (i : ℕ) (d : A) → i < length xs
    → Appends held mid (lines_from line 0 (take i xs))
    → AppendsFront mid now (line i (get_or xs i d))
    → AppendsFront held now (lines_from line 0 xs)
lines_cut line held mid now xs i d lt before cut =
    let front : List ℕ = lines_from line 0 (take (i + 1) xs) in
    let rest : List ℕ = lines_from line (0 + length (take (i + 1) xs)) (drop (i + 1) xs) in
    let next : AppendsFront held now front = subst (AppendsFront held now)
    (sym (lines_more line xs i d lt)) (cut_behind held mid now (lines_from line 0 (take i xs))
    (line i (get_or xs i d)) before cut) in
    subst (AppendsFront held now) (lines_front line xs (i + 1))
    (cut_longer held now front rest next)

-- one line more
pub lines_told : {A : Type 0} (line : ℕ → A → List ℕ) (held mid now : Option (List ℕ)) (xs : List A)
    (i : ℕ) (d : A) → i < length xs
    → Appends held mid (lines_from line 0 (take i xs)) → Appends mid now (line i (get_or xs i d))
    → Appends held now (lines_from line 0 (take (i + 1) xs))
lines_told line held mid now xs i d lt before next =
    subst (Appends held now) (sym (lines_more line xs i d lt))
    (Appends-trans held mid now (lines_from line 0 (take i xs)) (line i (get_or xs i d)) before
    next)

-- a line with a number, behind other lines
pub numbered_behind : (lines text number end : List ℕ) → lines ++ ((text ++ number) ++ end)
    ≡ ((lines ++ text) ++ number) ++ end
numbered_behind lines text number end = sym (append_assoc lines (text ++ number) end)
    ∙ ap (λ l. l ++ end) (sym (append_assoc lines text number))

-- two lines with a number, as one text
pub numbered_both : (first number between second other end : List ℕ)
    → ((first ++ number) ++ between) ++ ((second ++ other) ++ end)
    ≡ (((first ++ number) ++ (between ++ second)) ++ other) ++ end
numbered_both first number between second other end =
    numbered_behind ((first ++ number) ++ between) second other end ∙ ap (λ l. (l ++ other) ++ end)
    (append_assoc (first ++ number) between second)
