-- Where words are items of the options, each given once, and no value begins with a hyphen, clap
-- finds no fault.
use Rattle.std.proofs.Common.{◌≡◌, ◌∙◌, cond, true, false, not, refl, sym, ap, inl, inr, List, []}
use Rattle.std.proofs.Common.{◌∷◌, ◌++◌, Option, Some, None}
use Rattle.std.specs.Prelude.{option_map}
use Rattle.std.specs.List.{list_all}
use Rattle.std.proofs.lemmas.Bool.{and_parts, and_from, cases_Bool, not-true}
use Rattle.clap.specs.Lexer.{long_of}
use Rattle.clap.specs.Walk.{used}
use Rattle.clap.specs.Faults.{fault_of, use_fault}
use Rattle.tool_base.specs.Items.{Item, Text, after_hyphen, after_hyphens, and_item, from_name}
use Rattle.tool_base.specs.Items.{has_value_part, is_among, is_given, items_from, items_of}
use Rattle.tool_base.specs.Items.{name_part, names_once, value_part}
use Rattle.tool_base.specs.Reading.{has_plain}
use Rattle.tool_base.proofs.ClapRules.{fault_is, option_rule, options_app, rest_fault}
use Rattle.tool_base.proofs.ClapTurns.{idle_name-fault, idle_name-walk, idle_value-fault}
use Rattle.tool_base.proofs.ClapTurns.{idle_value-walk, idle_with, long_is, no_hyphen_long}
use Rattle.tool_base.proofs.ClapTurns.{no_hyphen_short, split_name, waits_plain-fault}
use Rattle.tool_base.proofs.ClapTurns.{waits_plain-walk, waits_with}
use Rattle.tool_base.proofs.PlainItems.{and_item_parts, is_none, not_dashes, plain_not_dashes}
use Rattle.tool_base.proofs.ClapUses.{between, ends, last_fits, next, none_of, pending_item}
use Rattle.tool_base.proofs.ClapUses.{rows_for, settle_takes, settled_at, settling, step, turn}
use Rattle.tool_base.proofs.ClapUses.{use_takes, whole}

module _ (name : Text) (names : List Text) where
  -- from between two items on, words that are items with plain values have no fault
  abbrev IdleTakes : List Text → Type 0
  IdleTakes words = (before : List Item) (last : Option Item) (items : List Item)
      → last_fits names before last ≡ true → items_from words None ≡ Some items
      → names_once names (whole before last) items ≡ true
      → list_all has_plain items ≡ true → rest_fault name names (between before last) words ≡ []

  -- nor have they from an open name on
  abbrev WaitsTakes : List Text → Type 0
  WaitsTakes words = (before : List Item) (opened : Text) (items : List Item)
      → items_from words (Some opened) ≡ Some items → names_once names before items ≡ true
      → list_all has_plain items ≡ true
      → rest_fault name names (waits_with (rows_for before) opened) words ≡ []

  idle_done : IdleTakes []
  idle_done before last items fits read once plain = ends name names (between before last)
      ∙ (settle_takes names before last fits).0

  waits_done : WaitsTakes []
  unfolding items_from
  waits_done before opened items read once plain = cc

  opened_known : (words : List Text) (before : List Item) (opened : Text) (items : List Item)
      → items_from words (Some opened) ≡ Some items → names_once names before items ≡ true
      → is_among names opened ≡ true
  unfolding items_from
  opened_known [] before opened items read once = cc
  opened_known (word ∷ words) before opened items read once =
      let q = and_item_parts opened word (items_from words None) items read in
      (and_parts (is_among names opened) _ (ap (names_once names before) q.2 ∙ once)).0

  waits_take : (word : Text) (words : List Text) → IdleTakes words → WaitsTakes (word ∷ words)
  unfolding items_from
  waits_take word words ih before opened items read once plain =
      let q = and_item_parts opened word (items_from words None) items read in
      let i : Item = record { name = opened; value = word } in
      let o = and_parts (is_among names opened) _ (ap (names_once names before) q.2 ∙ once) in
      let n = and_parts (not (is_given opened before)) _ o.1 in
      let v = and_parts (has_plain i) _ (ap (list_all has_plain) q.2 ∙ plain) in
      let bare = is_none (after_hyphen word) v.0 in
      let dd = plain_not_dashes word bare in
      let lo = no_hyphen_long word bare in
      let sh = no_hyphen_short word bare in
      step name names (waits_with (rows_for before) opened) word words
      ∙ none_of (turn name names (waits_with (rows_for before) opened) word)
      (rest_fault name names (next names (waits_with (rows_for before) opened) word) words)
      (waits_plain-fault name names (rows_for before) opened word dd lo sh)
      (ap (λ w. rest_fault name names w words) (waits_plain-walk name names (rows_for before) opened
      word dd lo sh o.0)
      ∙ ih before (Some i) q.0 (and_from _ _ o.0 n.0) q.1 n.1 v.1)

  idle_take : (word : Text) (words : List Text) → IdleTakes words → WaitsTakes words
      → IdleTakes (word ∷ words)
  unfolding items_from
  idle_take word words idle waits before last items fits read once plain = go (after_hyphens word)
      refl
    where
      attached : (text : Text) → after_hyphens word ≡ Some text → has_value_part text ≡ true
          → and_item (name_part text) (value_part text) (items_from words None) ≡ Some items
          → long_of word ≡ Some (name_part text, Some (value_part text))
          → rest_fault name names (between before last) (word ∷ words) ≡ []
      attached text is has read lo =
          let i : Item = record { name = name_part text; value = value_part text } in
          let q = and_item_parts i.name i.value (items_from words None) items read in
          let dd = not_dashes word text is in
          let o = and_parts (is_among names i.name) _ (ap (names_once names (whole before last)) q.2
          ∙ once) in
          let n = and_parts (not (is_given i.name (whole before last))) _ o.1 in
          let v = and_parts (has_plain i) _ (ap (list_all has_plain) q.2 ∙ plain) in
          let s = settle_takes names before last fits in
          let u = use_takes (whole before last) i.name i.value (not-true _ n.0) in
          step name names (between before last) word words
          ∙ none_of (turn name names (between before last) word)
          (rest_fault name names (next names (between before last) word) words)
          (idle_value-fault name names (rows_for before) (pending_item last) word i.name i.value
          dd lo o.0
          ∙ none_of (settling names before last) (use_fault false (option_rule i.name)
          (i.value ∷ []) (settled_at names before last)) s.0
          (ap (use_fault false (option_rule i.name) (i.value ∷ [])) s.1 ∙ u.0))
          (ap (λ w. rest_fault name names w words) (idle_value-walk name names (rows_for before)
          (pending_item last) word i.name i.value dd lo o.0
          ∙ ap (λ rows. idle_with (used (option_rule i.name) (i.value ∷ []) rows) None) s.1
          ∙ ap (λ rows. idle_with rows None) u.1)
          ∙ idle (whole before last ++ i ∷ []) None q.0 refl q.1 n.1 v.1)

      apart : (text : Text) → after_hyphens word ≡ Some text → has_value_part text ≡ false
          → items_from words (Some (name_part text)) ≡ Some items
          → long_of word ≡ Some (name_part text, None) → rest_fault name names (between before last)
          (word ∷ words) ≡ []
      apart text is has read lo =
          let dd = not_dashes word text is in
          let known = opened_known words (whole before last) (name_part text) items read once in
          let s = settle_takes names before last fits in
          step name names (between before last) word words
          ∙ none_of (turn name names (between before last) word)
          (rest_fault name names (next names (between before last) word) words)
          (idle_name-fault name names (rows_for before) (pending_item last) word
          (name_part text) dd lo known ∙ s.0)
          (ap (λ w. rest_fault name names w words) (idle_name-walk name names (rows_for before)
          (pending_item last) word (name_part text) dd lo known
          ∙ ap (λ rows. waits_with rows (name_part text)) s.1)
          ∙ waits (whole before last) (name_part text) items read once plain)

      go : (o : Option Text) → after_hyphens word ≡ o → rest_fault name names (between before last)
          (word ∷ words) ≡ []
      go None is =
          let none : None ≡ Some items = ap (λ o. from_name o (items_from words)) (sym is) ∙ read in
          cc
      go (Some text) is =
          let lo = long_is word ∙ ap (option_map split_name) is in
          let some : from_name (Some text) (items_from words) ≡ Some items =
          ap (λ o. from_name o (items_from words)) (sym is) ∙ read in
          elim (cases_Bool (has_value_part text)) [
            | inl has ↦ attached text is has
                (ap (λ b. cond b (and_item (name_part text) (value_part text)
                (items_from words None)) (items_from words (Some (name_part text)))) (sym has)
                ∙ some)
                (lo ∙ ap (λ b. Some (name_part text, cond b (Some (value_part text)) None)) has)
            | inr has ↦ apart text is has (ap
                (λ b. cond b (and_item (name_part text) (value_part text) (items_from words None))
                (items_from words (Some (name_part text)))) (sym has) ∙ some)
                (lo ∙ ap (λ b. Some (name_part text, cond b (Some (value_part text)) None)) has)
          ]

  takes : (words : List Text) → IdleTakes words × WaitsTakes words
  takes [] = (idle_done, waits_done)
  takes (word ∷ words) =
      let ih = takes words in
      (idle_take word words ih.0 ih.1, waits_take word words ih.0)

-- where the words are items of the options, each given once, and no value begins with a hyphen,
-- clap finds no fault
pub clap_takes : (name : Text) (names : List Text) (first : Text) (words : List Text)
    (items : List Item) → items_of words ≡ Some items → names_once names [] items ≡ true
    → list_all has_plain items ≡ true
    → fault_of (options_app name names) (first ∷ words) ≡ []
clap_takes name names first words items read once plain = fault_is name names first words
    ∙ (takes name names words).0 [] None items refl read once plain
