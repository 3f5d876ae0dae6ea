-- Items whose values don't begin with a hyphen.
use Rattle.std.proofs.Common.{◌≡◌, ◌∙◌, Bool, cond, true, false, not, refl, sym, ap, inl, inr, List}
use Rattle.std.proofs.Common.{[], ◌∷◌, ◌++◌, Option, Some, None, is_some, append_assoc, true≢false}
use Rattle.std.proofs.Common.{codes}
use Rattle.std.specs.Prelude.{option_map}
use Rattle.std.specs.List.{list_all, list_any}
use Rattle.std.specs.Str.{bytes_eq}
use Rattle.std.proofs.lemmas.Bool.{and_parts, and_from, cases_Bool, not-true, false_from_ne_true}
use Rattle.std.proofs.lemmas.Bool.{or_from}
use Rattle.std.proofs.lemmas.Slice.Eq.{bytes_eq-Decides}
use Rattle.tool_base.specs.Items.{Item, Text, after_hyphen, after_hyphens, and_item, from_name}
use Rattle.tool_base.specs.Items.{has_value_part, is_among, is_given, item_named, items_from}
use Rattle.tool_base.specs.Items.{name_part, names_once, value_of, value_part}
use Rattle.tool_base.specs.Reading.{is_dashes}
use Rattle.tool_base.specs.Reading.{has_plain, is_plain}

pub and_item_parts : (n v : Text) (o : Option (List Item)) (items : List Item)
    → and_item n v o ≡ Some items
    → (rest : List Item) × (o ≡ Some rest) × (record { name = n; value = v } ∷ rest ≡ items)
and_item_parts n v None items e = cc
and_item_parts n v (Some rest) items e = (rest, refl, cc)

dashes_are : (word : Text) → is_dashes word ≡ true → word ≡ codes "--"
dashes_are word e = (bytes_eq-Decides word (codes "--")).0 e

pub not_dashes : (word text : Text) → after_hyphens word ≡ Some text → is_dashes word ≡ false
not_dashes word text e = false_from_ne_true _ (λ d. let is = ap after_hyphens (dashes_are word d) in
    cc)

pub plain_not_dashes : (word : Text) → after_hyphen word ≡ None → is_dashes word ≡ false
plain_not_dashes word e = false_from_ne_true _ (λ d. let is = ap after_hyphen (dashes_are word d) in
    cc)

pub is_none : {X : Type 0} (o : Option X) → not (is_some o) ≡ true → o ≡ None
is_none None e = refl
is_none (Some x) e = absurd (true≢false (sym e))

-- where the words are such items, none of them is `--`
abbrev NoDashes : List Text → Option Text → Type 0
NoDashes words opened = (items : List Item) → items_from words opened ≡ Some items
    → list_all has_plain items ≡ true → list_any is_dashes words ≡ false

opened_no_dashes : (word : Text) (words : List Text) (name : Text) → NoDashes words None
    → NoDashes (word ∷ words) (Some name)
unfolding items_from
opened_no_dashes word words name ih items read plain =
    let q = and_item_parts name word (items_from words None) items read in
    let v = and_parts (has_plain (record { name = name; value = word })) _
    (ap (list_all has_plain) q.2 ∙ plain) in
    or_from _ _ (plain_not_dashes word (is_none (after_hyphen word) v.0)) (ih q.0 q.1 v.1)

first_no_dashes : (word : Text) (words : List Text)
    → ((opened : Option Text) → NoDashes words opened) → NoDashes (word ∷ words) None
unfolding items_from
first_no_dashes word words ih items read plain = go (after_hyphens word) refl
  where
    go : (o : Option Text) → after_hyphens word ≡ o → list_any is_dashes (word ∷ words) ≡ false
    go None is =
        let none : None ≡ Some items = ap (λ o. from_name o (items_from words)) (sym is) ∙ read in
        cc
    go (Some text) is =
        let some : from_name (Some text) (items_from words) ≡ Some items =
        ap (λ o. from_name o (items_from words)) (sym is) ∙ read in
        let cases = λ (b : Bool). cond b (and_item (name_part text) (value_part text)
        (items_from words None)) (items_from words (Some (name_part text))) in
        or_from _ _ (not_dashes word text is) (elim (cases_Bool (has_value_part text)) [
          | inl has ↦
              let q = and_item_parts (name_part text) (value_part text) (items_from words None)
              items (ap cases (sym has) ∙ some) in
              ih None q.0 q.1 (and_parts (has_plain
              (record { name = name_part text; value = value_part text })) _
              (ap (list_all has_plain) q.2 ∙ plain)).1
          | inr has ↦ ih (Some (name_part text)) items (ap cases (sym has) ∙ some) plain
        ])

pub no_dashes : (words : List Text) (opened : Option Text) → NoDashes words opened
no_dashes [] opened items read plain = refl
no_dashes (word ∷ words) None items read plain = first_no_dashes word words
    (λ opened. no_dashes words opened) items read plain
no_dashes (word ∷ words) (Some name) items read plain = opened_no_dashes word words name
    (no_dashes words None) items read plain

item_after : (n : Text) (before rest : List Item) → is_given n before ≡ false
    → item_named n (before ++ rest) ≡ item_named n rest
item_after n [] rest e = refl
item_after n (i ∷ before) rest e = go (bytes_eq i.name n) e (item_after n before rest)
  where
    go : (b : Bool) → is_some (cond b (Some i) (item_named n before)) ≡ false
        → (is_given n before ≡ false → item_named n (before ++ rest) ≡ item_named n rest)
        → cond b (Some i) (item_named n (before ++ rest)) ≡ item_named n rest
    go true bad ih = absurd (true≢false bad)
    go false e ih = ih e

first_named : (i : Item) (rest : List Item) → item_named i.name (i ∷ rest) ≡ Some i
first_named i rest =
    let same = (bytes_eq-Decides i.name i.name).1 refl in
    rw same refl

-- where each name comes once and each value by name is plain, each value is plain
pub all_plain : (names : List Text) (before rest : List Item) → names_once names before rest ≡ true
    → ((n v : Text) → is_among names n ≡ true → value_of n (before ++ rest) ≡ Some v
    → is_plain v ≡ true) → list_all has_plain rest ≡ true
all_plain names before [] once plain = refl
all_plain names before (i ∷ rest) once plain =
    let o = and_parts (is_among names i.name) _ once in
    let n = and_parts (not (is_given i.name before)) _ o.1 in
    let here : value_of i.name (before ++ i ∷ rest) ≡ Some i.value =
    ap (option_map (λ (j : Item). j.value)) (item_after i.name before (i ∷ rest)
    (not-true _ n.0) ∙ first_named i rest) in
    and_from _ _ (plain i.name i.value o.0 here) (all_plain names (before ++ i ∷ []) rest n.1
    (λ m v k e. plain m v k (ap (value_of m) (sym (append_assoc before (i ∷ []) rest)) ∙ e)))
