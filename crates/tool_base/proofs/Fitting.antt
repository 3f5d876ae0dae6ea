-- From the items to what they give of the options.
use Rattle.std.proofs.Common.{◌≡◌, ◌∙◌, ◌&&◌, ◌||◌, ◌+◌, suc, arith, take, ℕ, Bool, cond, true}
use Rattle.std.proofs.Common.{false, not, refl, sym, ap, inl, inr, List, [], ◌∷◌, map, Option, Some}
use Rattle.std.proofs.Common.{None, is_some, true≢false, eqb-true}
use Rattle.std.specs.Prelude.{length, nat_eq, nat_le}
use Rattle.std.specs.Str.Parse.{digits_value}
use Rattle.std.specs.List.{after_first, before_first, list_all, position_or_len}
use Rattle.std.specs.Option.{option_map_or}
use Rattle.std.specs.Str.{bytes_eq}
use Rattle.std.proofs.lemmas.Bool.{and_parts, cases_Bool}
use Rattle.std.proofs.lemmas.Slice.Eq.{bytes_eq-Decides}
use Rattle.clap.specs.declared.parser.matches.ArgMatches.{ArgMatches}
use Rattle.loss_patterns.specs.Kinds.{is_colon, loss_named, loss_of}
use Rattle.tool_base.specs.Items.{Item, Text, is_among, items_of, names_once, value_of}
use Rattle.tool_base.specs.Options.{Given, CommandOption, given_by, is_value, names_of}
use Rattle.tool_base.specs.Options.{options_given, values_fit}
use Rattle.tool_base.specs.Reading.{HasValues, Matches, given_of, is_plain, listed}
use Rattle.tool_base.specs.declared.options.OptionRow.{OptionRow}
use Rattle.tool_base.specs.declared.options.ValueKind.{ValueKind}
use Rattle.tool_base.specs.declared.options.ValueKind.TheVariants.{Number, YesOrNo, CodecWord}
use Rattle.tool_base.specs.declared.options.ValueKind.TheVariants.{LossText, OrderWord}
use Rattle.tool_base.proofs.PlainItems.{all_plain}

stuck_false : (a b : Bool) (n : ℕ) → is_some (cond ((a && false) && b) (Some n) None) ≡ false
stuck_false true b n = refl
stuck_false false b n = refl

-- no loss begins with a hyphen, since its name does
no_loss : (rest : Text) → is_some (loss_of (45 ∷ rest)) ≡ false
no_loss rest =
    let n : ℕ = position_or_len is_colon rest in
    let next : 1 + n ≡ suc n = omega arith in
    let name : before_first is_colon (45 ∷ rest) ≡ 45 ∷ take n rest =
    ap (λ (k : ℕ). take k (45 ∷ rest)) next in
    ap (λ l. is_some (loss_named l (after_first is_colon (45 ∷ rest)))) name

-- no value begins with a hyphen
no_hyphen : (v : ValueKind) (rest : Text) → is_value v (45 ∷ rest) ≡ false
no_hyphen (Number low high) rest = stuck_false (not (nat_eq (length (45 ∷ rest)) 0))
    (nat_le low (digits_value 10 (45 ∷ rest)) && nat_le (digits_value 10 (45 ∷ rest)) high)
    (digits_value 10 (45 ∷ rest))
no_hyphen YesOrNo rest = refl
no_hyphen CodecWord rest = refl
no_hyphen LossText rest = no_loss rest
no_hyphen OrderWord rest = refl

value_plain : (v : ValueKind) (text : Text) → is_value v text ≡ true → is_plain text ≡ true
value_plain v [] e = refl
value_plain v (c ∷ rest) e = go (nat_eq c 45) refl
  where
    go : (b : Bool) → nat_eq c 45 ≡ b → is_plain (c ∷ rest) ≡ true
    go true is =
        let c_is : c ≡ 45 = eqb-true c 45 is in
        absurd (true≢false (sym e ∙ ap (λ x. is_value v (x ∷ rest)) c_is ∙ no_hyphen v rest))
    go false is = rw is refl

given_plain : (options : List CommandOption) (items : List Item) (n v : Text)
    → values_fit options items ≡ true → is_among (names_of options) n ≡ true
    → value_of n items ≡ Some v → is_plain v ≡ true
given_plain [] items n v fit known is = absurd (true≢false (sym known))
given_plain (o ∷ options) items n v fit known is = go (bytes_eq o.name n) refl known
    (λ k. given_plain options items n v p.1 k is)
  where
    p : (option_map_or (is_value o.values) (value_of o.name items) true ≡ true)
        × (values_fit options items ≡ true)
    p = and_parts _ _ fit

    go : (b : Bool) → bytes_eq o.name n ≡ b → (b || is_among (names_of options) n) ≡ true
        → (is_among (names_of options) n ≡ true → is_plain v ≡ true) → is_plain v ≡ true
    go true same k rest =
        let name : o.name ≡ n = (bytes_eq-Decides o.name n).0 same in
        value_plain o.values v (sym (ap (λ w. option_map_or (is_value o.values) w true)
        (ap (λ m. value_of m items) name ∙ is)) ∙ p.0)
    go false same k rest = rest k

names_listed : (rows : List OptionRow) → names_of (map listed rows) ≡ map (λ o. o.name.now) rows
names_listed [] = refl
names_listed (r ∷ rows) = ap (λ ns. r.name.now ∷ ns) (names_listed rows)

-- where clap finds no items, the words give nothing
pub none_given : (rows : List OptionRow) (words : List Text)
    → Matches (map (λ o. o.name.now) rows) words None → None ≡ options_given (map listed rows) words
none_given rows words none = go (items_of words) refl
  where
    options : List CommandOption
    options = map listed rows

    go : (o : Option (List Item)) → items_of words ≡ o
        → None ≡ options_given (map listed rows) words
    go None is = rw is refl
    go (Some items) is = elim (cases_Bool (names_once (names_of (map listed rows)) [] items &&
        values_fit (map listed rows) items)) [
          | inl both ↦
              let p = and_parts _ _ both in
              let once : names_once (map (λ o. o.name.now) rows) [] items ≡ true =
              ap (λ ns. names_once ns [] items) (sym (names_listed rows)) ∙ p.0 in
              absurd (none items is once (all_plain (names_of (map listed rows)) [] items p.0
              (λ n v k e. given_plain (map listed rows) items n v p.1 k e)))
          | inr other ↦ rw (is, other) refl
        ]

fit_is : (rows : List OptionRow) (items : List Item) (m : ArgMatches) → HasValues items m
    → values_fit (map listed rows) items
    ≡ list_all (λ (o : OptionRow). option_map_or (is_value o.values) (given_of m o.name.now)
    true) rows
fit_is [] items m h = refl
fit_is (r ∷ rows) items m h = (λ i. option_map_or (is_value r.values) (sym (h r.name.now) i) true &&
    fit_is rows items m h i)

-- where it finds items, they give what it finds, if the values fit
pub some_given : (rows : List OptionRow) (words : List Text) (m : ArgMatches)
    → Matches (map (λ o. o.name.now) rows) words (Some m)
    → list_all (λ (o : OptionRow). option_map_or (is_value o.values) (given_of m o.name.now) true)
    rows ≡ true → Some (given_of m) ≡ options_given (map listed rows) words
some_given rows words m found fit =
    let items = found.0 in
    let once : names_once (names_of (map listed rows)) [] items ≡ true =
    ap (λ ns. names_once ns [] items) (names_listed rows) ∙ found.2 in
    let fits : values_fit (map listed rows) items ≡ true = fit_is rows items m found.3 ∙ fit in
    let same : given_of m ≡ given_by items = λ i name. found.3 name i in
    rw (found.1, once, fits) (ap (λ (g : Given). Some g) same)

pub misfit : (rows : List OptionRow) (words : List Text) (m : ArgMatches)
    → Matches (map (λ o. o.name.now) rows) words (Some m)
    → list_all (λ (o : OptionRow). option_map_or (is_value o.values) (given_of m o.name.now) true)
    rows ≡ false → None ≡ options_given (map listed rows) words
misfit rows words m found fit =
    let items = found.0 in
    let once : names_once (names_of (map listed rows)) [] items ≡ true =
    ap (λ ns. names_once ns [] items) (names_listed rows) ∙ found.2 in
    let fits : values_fit (map listed rows) items ≡ false = fit_is rows items m found.3 ∙ fit in
    rw (found.1, once, fits) refl
