-- Where clap finds no fault in words without `--`, they are items of the options, each given once,
-- and clap finds their values.
use Rattle.std.proofs.Common.{◌≡◌, ◌∙◌, cond, true, false, refl, sym, ap, subst, inl, inr, List, []}
use Rattle.std.proofs.Common.{◌∷◌, ◌++◌, Option, Some, None, append-nil, append_assoc}
use Rattle.std.specs.Prelude.{option_map}
use Rattle.std.specs.List.{list_any}
use Rattle.std.proofs.lemmas.Bool.{and_parts, and_from, cases_Bool, not-true, not_from_false}
use Rattle.std.proofs.lemmas.Bool.{or_parts}
use Rattle.clap.specs.Lexer.{long_of}
use Rattle.clap.specs.Walk.{Walk, used}
use Rattle.clap.specs.Faults.{fault_of, use_fault}
use Rattle.clap.specs.Simple.{matches_of}
use Rattle.clap.specs.declared.error.kind.ErrorKind.TheVariants as kind
use Rattle.tool_base.specs.Items.{Item, Text, after_hyphens, and_item, has_value_part, is_among}
use Rattle.tool_base.specs.Items.{is_given, items_from, items_of, name_part, names_once, value_part}
use Rattle.tool_base.specs.Reading.{is_dashes}
use Rattle.tool_base.proofs.ClapRules.{by_id, fault_is, matches_are, option_rule, options_app}
use Rattle.tool_base.proofs.ClapRules.{rest_fault, rows_at_end}
use Rattle.tool_base.proofs.ClapTurns.{idle_name-fault, idle_name-walk, idle_other}
use Rattle.tool_base.proofs.ClapTurns.{idle_value-fault, idle_value-walk, idle_with, long_is}
use Rattle.tool_base.proofs.ClapTurns.{split_name, unknown-fault, waits_flag, waits_other}
use Rattle.tool_base.proofs.ClapTurns.{waits_with}
use Rattle.tool_base.proofs.ClapUses.{between, ends, last_fits, last_known, next, parts}
use Rattle.tool_base.proofs.ClapUses.{pending_item, rows_for, settle_gives, settle_takes}
use Rattle.tool_base.proofs.ClapUses.{settled_at, settling, step, turn, use_gives, use_takes, whole}

-- what the words after the walk w read
pub record Reads (names : List Text) (words : List Text) (opened : Option Text) (before : List Item)
    (w : Walk) : Type 0 where
  pub items : List Item
  pub read : items_from words opened ≡ Some items
  pub fits : names_once names before items ≡ true
  pub rows : rows_at_end names w words ≡ rows_for (before ++ items)

module _ (name : Text) (names : List Text) where
  -- where no fault is found from between two items on, the words are items
  abbrev IdleSound : List Text → Type 0
  IdleSound words = (before : List Item) (last : Option Item) → last_known names last ≡ true
      → list_any is_dashes words ≡ false → rest_fault name names (between before last) words ≡ []
      → (last_fits names before last ≡ true) × Reads names words None (whole before last)
      (between before last)

  -- where no fault is found from an open name on, the first word is its value, and the others are
  -- items
  abbrev WaitsSound : List Text → Type 0
  WaitsSound words = (before : List Item) (opened : Text) → is_among names opened ≡ true
      → list_any is_dashes words ≡ false
      → rest_fault name names (waits_with (rows_for before) opened) words ≡ []
      → Reads names words (Some opened) before (waits_with (rows_for before) opened)

  idle_ends : IdleSound []
  unfolding items_from
  idle_ends before last k none e =
      let fits = settle_gives names before last k (sym (ends name names (between before last))
      ∙ e) in (
        fits,
        record {
          items = [];
          read = refl;
          fits = refl;
          rows = (settle_takes names before last fits).1
              ∙ sym (ap rows_for (append-nil (whole before last)));
        },
      )

  waits_ends : WaitsSound []
  waits_ends before opened k none e =
      let bad : kind.InvalidValue ∷ [] ≡ [] = sym (rw (by_id names opened, k) refl)
      ∙ sym (ends name names (waits_with (rows_for before) opened)) ∙ e in
      cc

  fits_more : (before : List Item) (i : Item) (rest : List Item) → is_among names i.name ≡ true
      → is_given i.name before ≡ false → names_once names (before ++ i ∷ []) rest ≡ true
      → names_once names before (i ∷ rest) ≡ true
  fits_more before i rest k new fits = and_from _ _ k (and_from _ _ (not_from_false _ new) fits)

  rows_join : (before rest : List Item) (i : Item) → rows_for ((before ++ i ∷ []) ++ rest)
      ≡ rows_for (before ++ i ∷ rest)
  rows_join before rest i = ap rows_for (append_assoc before (i ∷ []) rest)

  waits_step : (word : Text) (words : List Text) → IdleSound words → WaitsSound (word ∷ words)
  unfolding items_from
  waits_step word words ih before opened k none e =
      let d = or_parts (is_dashes word) _ none in
      let p = parts (turn name names (waits_with (rows_for before) opened) word)
      (rest_fault name names (next names (waits_with (rows_for before) opened) word) words)
      (sym (step name names (waits_with (rows_for before) opened) word words) ∙ e) in
      go d p (after_hyphens word) refl
    where
      after : (list_any is_dashes words ≡ false)
          → (next names (waits_with (rows_for before) opened) word ≡ between before
          (Some (record { name = opened; value = word })))
          → rest_fault name names (next names (waits_with (rows_for before) opened) word) words ≡ []
          → Reads names (word ∷ words) (Some opened) before (waits_with (rows_for before) opened)
      after none is e =
          let i : Item = record { name = opened; value = word } in
          let r = ih before (Some i) k none (subst (λ w. rest_fault name names w words ≡ []) is
          e) in
          let new = and_parts (is_among names opened) _ r.0 in
          record {
            items = i ∷ r.1.items;
            read = ap (and_item opened word) r.1.read;
            fits = fits_more before i r.1.items k (not-true _ new.1) r.1.fits;
            rows = ap (λ w. rows_at_end names w words) is ∙ r.1.rows ∙ rows_join before r.1.items i;
          }

      go : (is_dashes word ≡ false) × (list_any is_dashes words ≡ false)
          → (turn name names (waits_with (rows_for before) opened) word ≡ [])
          × (rest_fault name names (next names (waits_with (rows_for before) opened) word) words
          ≡ [])
          → (o : Option Text) → after_hyphens word ≡ o
          → Reads names (word ∷ words) (Some opened) before
          (waits_with (rows_for before) opened)
      go d p None is =
          let lo = long_is word ∙ ap (option_map split_name) is in
          elim (waits_other name names (rows_for before) opened word d.0 lo k) [
            | inl bad ↦ let no : kind.UnknownArgument ∷ [] ≡ [] = sym bad ∙ p.0 in cc
            | inr ok ↦ after d.1 ok.1 p.1
          ]
      go d p (Some text) is =
          let lo = long_is word ∙ ap (option_map split_name) is in
          elim (cases_Bool (is_among names (name_part text))) [
            | inl known ↦ let no : kind.InvalidValue ∷ [] ≡ [] =
                sym (waits_flag name names (rows_for before) opened (name_part text) word _ d.0 lo k
                known) ∙ p.0 in cc
            | inr other ↦ let no : kind.UnknownArgument ∷ [] ≡ [] =
                sym (unknown-fault name names (rows_for before) (Some (opened, []))
                (Rattle.clap.specs.Walk.option opened) word (name_part text) _ d.0 lo other)
                ∙ p.0 in cc
          ]

  -- the last item was new, and the words read more
  abbrev IdleReads : List Item → Option Item → List Text → Type 0
  IdleReads before last words = (last_fits names before last ≡ true)
      × Reads names words None (whole before last) (between before last)

  idle_step : (word : Text) (words : List Text) → IdleSound words → WaitsSound words
      → IdleSound (word ∷ words)
  unfolding items_from
  idle_step word words idle waits before last k none e =
      let d = or_parts (is_dashes word) _ none in
      let p = parts (turn name names (between before last) word)
      (rest_fault name names (next names (between before last) word) words)
      (sym (step name names (between before last) word words) ∙ e) in
      go d p (after_hyphens word) refl
    where
      attached : (list_any is_dashes words ≡ false) → (is_dashes word ≡ false) → (text : Text)
          → after_hyphens word ≡ Some text → has_value_part text ≡ true
          → long_of word ≡ Some (name_part text, Some (value_part text))
          → is_among names (name_part text) ≡ true → turn name names (between before last) word ≡ []
          → rest_fault name names (next names (between before last) word) words ≡ []
          → IdleReads before last (word ∷ words)
      attached none dd text is has lo known turn rest =
          let i : Item = record { name = name_part text; value = value_part text } in
          let two = parts (settling names before last) (use_fault false (option_rule i.name)
          (i.value ∷ []) (settled_at names before last))
          (sym (idle_value-fault name names (rows_for before) (pending_item last) word i.name
          i.value dd lo known) ∙ turn) in
          let fits = settle_gives names before last k two.0 in
          let settled_rows = (settle_takes names before last fits).1 in
          let new = use_gives (whole before last) i.name i.value
          (ap (use_fault false (option_rule i.name) (i.value ∷ [])) (sym settled_rows)
          ∙ two.1) in
          let walks = idle_value-walk name names (rows_for before) (pending_item last) word i.name
          i.value dd lo known
          ∙ ap (λ rows. idle_with (used (option_rule i.name) (i.value ∷ []) rows) None) settled_rows
          ∙ ap (λ rows. idle_with rows None) (use_takes (whole before last) i.name i.value new).1 in
          let r = idle (whole before last ++ i ∷ []) None refl none
          (subst (λ w. rest_fault name names w words ≡ []) walks rest) in (
            fits,
            record {
              items = i ∷ r.1.items;
              read = rw (is, has) (ap (and_item i.name i.value) r.1.read);
              fits = fits_more (whole before last) i r.1.items known new r.1.fits;
              rows = ap (λ w. rows_at_end names w words) walks ∙ r.1.rows
                  ∙ rows_join (whole before last) r.1.items i;
            },
          )

      apart : (list_any is_dashes words ≡ false) → (is_dashes word ≡ false) → (text : Text)
          → after_hyphens word ≡ Some text → has_value_part text ≡ false
          → long_of word ≡ Some (name_part text, None)
          → is_among names (name_part text) ≡ true → turn name names (between before last) word ≡ []
          → rest_fault name names (next names (between before last) word) words ≡ []
          → IdleReads before last (word ∷ words)
      apart none dd text is has lo known turn rest =
          let fits = settle_gives names before last k
          (sym (idle_name-fault name names (rows_for before) (pending_item last) word
          (name_part text) dd lo known) ∙ turn) in
          let settled_rows = (settle_takes names before last fits).1 in
          let walks = idle_name-walk name names (rows_for before) (pending_item last) word
          (name_part text) dd lo known ∙ ap (λ rows. waits_with rows (name_part text))
          settled_rows in
          let r = waits (whole before last) (name_part text) known none
          (subst (λ w. rest_fault name names w words ≡ []) walks rest) in (
            fits,
            record {
              items = r.items;
              read = rw (is, has) r.read;
              fits = r.fits;
              rows = ap (λ w. rows_at_end names w words) walks ∙ r.rows;
            },
          )

      go : (is_dashes word ≡ false) × (list_any is_dashes words ≡ false)
          → (turn name names (between before last) word ≡ [])
          × (rest_fault name names (next names (between before last) word) words ≡ [])
          → (o : Option Text) → after_hyphens word ≡ o → IdleReads before last (word ∷ words)
      go d p None is =
          let no : kind.UnknownArgument ∷ [] ≡ [] =
          sym (idle_other name names (rows_for before) (pending_item last) word d.0
          (long_is word ∙ ap (option_map split_name) is)) ∙ p.0 in
          cc
      go d p (Some text) is =
          let lo = long_is word ∙ ap (option_map split_name) is in
          elim (cases_Bool (is_among names (name_part text))) [
            | inl known ↦ elim (cases_Bool (has_value_part text)) [
              | inl has ↦ attached d.1 d.0 text is has
                  (lo ∙ ap (λ b. Some (name_part text, cond b (Some (value_part text)) None)) has)
                  known p.0 p.1
              | inr has ↦ apart d.1 d.0 text is has
                  (lo ∙ ap (λ b. Some (name_part text, cond b (Some (value_part text)) None)) has)
                  known p.0 p.1
            ]
            | inr other ↦
                let no : kind.UnknownArgument ∷ [] ≡ [] =
                sym (unknown-fault name names (rows_for before) (pending_item last)
                Rattle.clap.specs.Walk.idle word (name_part text) _ d.0 lo other) ∙ p.0 in
                cc
          ]

  sound : (words : List Text) → IdleSound words × WaitsSound words
  sound [] = (idle_ends, waits_ends)
  sound (word ∷ words) =
      let ih = sound words in
      (idle_step word words ih.0 ih.1, waits_step word words ih.0)

-- where the words have no `--`, clap finds no fault only where they are items of the options, each
-- given once, and it finds their values
pub clap_sound : (name : Text) (names : List Text) (first : Text) (words : List Text)
    → list_any is_dashes words ≡ false → fault_of (options_app name names) (first ∷ words) ≡ []
    → (items : List Item) × (items_of words ≡ Some items) × (names_once names [] items ≡ true)
    × (matches_of (options_app name names) (first ∷ words) ≡ rows_for items)
clap_sound name names first words none e =
    let r = ((sound name names words).0 [] None refl none (sym (fault_is name names first words)
    ∙ e)).1 in
    (r.items, r.read, r.fits, matches_are name names first words ∙ r.rows)
