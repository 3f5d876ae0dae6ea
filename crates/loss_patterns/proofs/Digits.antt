-- The number that digits write, digit by digit.
use Rattle.std.proofs.Common.{◌≡◌, ◌∙◌, ◌+◌, ◌-◌, ◌*◌, ◌<◌, ℕ, Bool, cond, true, false, not, ◌&&◌}
use Rattle.std.proofs.Common.{refl, sym, arith, List, length, take, Some, None, nat_eq, nat_le}
use Rattle.std.specs.List.{list_all, slice_index_or}
use Rattle.std.specs.Char.{digit_value, is_ascii_digit}
use Rattle.std.specs.Str.Parse.{digits_value}
use Rattle.std.proofs.lemmas.Bool.{and_parts, true_from_ne_false, lt-leb, true≢false}
use Rattle.std.proofs.lemmas.Bool.Decides.{nat_tests}
use Rattle.std.proofs.lemmas.List.Folds.{list_all_at}
use Rattle.std.proofs.lemmas.Int.Digits.{digits_value_more}
use Rattle.std.proofs.lemmas.Str.Parse.{digits_value-take-le}
use Rattle.loss_patterns.specs.Numbers.{is_numeral, number_in}

digit_is : (c : ℕ) → is_ascii_digit c ≡ true → digit_value c ≡ c - 48
digit_is c e = grind (arith, nat_tests)

digit_at : (text : List ℕ) (i : ℕ) → is_numeral text ≡ true → i < length text
    → is_ascii_digit (slice_index_or text i 0) ≡ true
digit_at text i e lt =
    let all = (and_parts _ (list_all is_ascii_digit text) (and_parts (not (nat_eq (length text) 0))
    _ e).1).1 in
    true_from_ne_false _ (λ bad. true≢false (sym all ∙ list_all_at is_ascii_digit text i 0 lt bad))

pub one_more : (text : List ℕ) (i number : ℕ) → is_numeral text ≡ true → i < length text
    → number ≡ digits_value 10 (take i text)
    → number * 10 + (slice_index_or text i 0 - 48) ≡ digits_value 10 (take (i + 1) text)
one_more text i number e lt value =
    rw (value, ← digit_is (slice_index_or text i 0) (digit_at text i e lt))
    (sym (digits_value_more 10 text i lt))

pub too_large : (text : List ℕ) (i low high : ℕ) → high < digits_value 10 (take i text)
    → None ≡ number_in low high text
too_large text i low high over =
    let most = digits_value-take-le 10 text i (omega arith) in
    let above : nat_le (digits_value 10 text) high ≡ false = lt-leb _ _ (omega arith) in
    rw above (go (is_numeral text) (nat_le low (digits_value 10 text)))
  where
    go : (a b : Bool) → None ≡ cond (a && (b && false)) (Some (digits_value 10 text)) None
    go true true = refl
    go true false = refl
    go false b = refl
