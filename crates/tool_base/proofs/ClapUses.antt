-- The rows that clap keeps are those of the items so far, each option used once.
use Rattle.std.proofs.Common.{◌≡◌, ◌∙◌, ◌&&◌, ◌||◌, Bool, cond, true, false, not, refl, sym, ap}
use Rattle.std.proofs.Common.{List, [], ◌∷◌, ◌++◌, map, Option, Some, None, is_some, append-nil}
use Rattle.std.specs.Str.{bytes_eq}
use Rattle.std.proofs.lemmas.Bool.{and_parts, and_from, not-true, not_from_false}
use Rattle.std.proofs.lemmas.Bool.{false_from_ne_true, or_parts}
use Rattle.std.proofs.lemmas.List.{map-append}
use Rattle.clap.specs.Walk.{Row, Walk, at_row, first_of, has_row, settled, used, walked}
use Rattle.clap.specs.Walk.{with_values, more_values}
use Rattle.clap.specs.Kinds.{Kinds, or_else}
use Rattle.clap.specs.Faults.{settle_fault, turn_fault, use_fault, walk_fault}
use Rattle.clap.specs.declared.parser.matches.ValueSource.TheVariants.{CommandLine}
use Rattle.clap.specs.declared.builder.value_parser.Reading.TheVariants as reading
use Rattle.clap.specs.declared.error.kind.ErrorKind.TheVariants as kind
use Rattle.tool_base.specs.Items.{Item, Text, is_among, is_given, item_named, value_of}
use Rattle.tool_base.proofs.ClapRules.{by_id, end_of, option_rule, options_shape, rest_fault}
use Rattle.tool_base.proofs.ClapRules.{rules_for}
use Rattle.tool_base.proofs.ClapTurns.{held_with, idle_with}

-- the row of an item
abbrev pub item_row : Item → Row
item_row i = record {
  id = i.name;
  values = i.value ∷ [];
  count = None;
  source = Some CommandLine;
  reading = reading.AsWritten;
}

-- the rows of items
abbrev pub rows_for : List Item → List Row
rows_for items = map item_row items

has_row_is : (n : Text) (items : List Item) → has_row n (rows_for items) ≡ is_given n items
has_row_is n [] = refl
has_row_is n (i ∷ rest) = go (bytes_eq i.name n) (has_row_is n rest)
  where
    go : (b : Bool) → has_row n (rows_for rest) ≡ is_given n rest → (b || has_row n (rows_for rest))
        ≡ is_some (cond b (Some i) (item_named n rest))
    go true e = refl
    go false e = e

pub first_is : (n : Text) (items : List Item) → first_of n (rows_for items) ≡ value_of n items
first_is n [] = refl
first_is n (i ∷ rest) = go (bytes_eq i.name n) refl (first_is n rest)
  where
    go : (b : Bool) → bytes_eq i.name n ≡ b → first_of n (rows_for rest) ≡ value_of n rest
        → first_of n (rows_for (i ∷ rest)) ≡ value_of n (i ∷ rest)
    go true e h = rw e refl
    go false e h = rw e h

at_none : (n : Text) (change : Row → List Row) (missing rows : List Row) → has_row n rows ≡ false
    → at_row n change missing rows ≡ rows ++ missing
at_none n change missing [] e = refl
at_none n change missing (r ∷ rows) e =
    let p = or_parts (bytes_eq r.id n) (has_row n rows) e in
    rw p.0 (ap (λ rs. r ∷ rs) (at_none n change missing rows p.1))

used_is : (n v : Text) (rows : List Row) → has_row n rows ≡ false
    → used (option_rule n) (v ∷ []) rows ≡ rows ++ item_row (record { name = n; value = v }) ∷ []
used_is n v rows e =
    let gone = at_none n (λ _. []) [] rows e ∙ append-nil rows in
    ap (λ rs. with_values n reading.AsWritten CommandLine (v ∷ []) rs) gone
    ∙ at_none n (more_values CommandLine (v ∷ [])) (item_row (record { name = n; value = v }) ∷ [])
    rows e

use_is : (n v : Text) (rows : List Row) → use_fault false (option_rule n) (v ∷ []) rows
    ≡ cond (has_row n rows) (kind.ArgumentConflict ∷ []) []
use_is n v rows = go (has_row n rows) refl
  where
    go : (b : Bool) → has_row n rows ≡ b → use_fault false (option_rule n) (v ∷ []) rows
        ≡ cond (has_row n rows) (kind.ArgumentConflict ∷ []) []
    go true e = rw e refl
    go false e = rw e refl

rows_more : (before : List Item) (i : Item) → rows_for before ++ item_row i ∷ []
    ≡ rows_for (before ++ i ∷ [])
rows_more before i = sym (map-append item_row before (i ∷ []))

pub parts : (a b : Kinds) → or_else a b ≡ [] → (a ≡ []) × (b ≡ [])
parts [] b e = (refl, e)
parts (k ∷ ks) b e = cc

pub none_of : (a b : Kinds) → a ≡ [] → b ≡ [] → or_else a b ≡ []
none_of a b e f = rw (e, f) refl

or_else_assoc : (a b c : Kinds) → or_else (or_else a b) c ≡ or_else a (or_else b c)
or_else_assoc [] b c = refl
or_else_assoc (k ∷ ks) b c = refl

-- the item that was read last, which clap has not used yet
abbrev pub pending_item : Option Item → Option (Text × List Text)
pending_item None = None
pending_item (Some i) = Some (i.name, i.value ∷ [])

-- the items with it
abbrev pub whole : List Item → Option Item → List Item
whole before None = before
whole before (Some i) = before ++ i ∷ []

-- it has the name of an option, and one that no item before it has
abbrev pub last_fits : List Text → List Item → Option Item → Bool
last_fits names before None = true
last_fits names before (Some i) = is_among names i.name && not (is_given i.name before)

-- it has the name of an option
abbrev pub last_known : List Text → Option Item → Bool
last_known names None = true
last_known names (Some i) = is_among names i.name

-- the walk between two items, of which the last is not used yet
abbrev pub between : List Item → Option Item → Walk
between before last = idle_with (rows_for before) (pending_item last)

-- the fault of using the last option
abbrev pub settling : List Text → List Item → Option Item → Kinds
settling names before last = settle_fault (rules_for names) false
    (held_with (rows_for before) (pending_item last))

-- the rows once it is used
abbrev pub settled_at : List Text → List Item → Option Item → List Row
settled_at names before last =
    (settled (rules_for names) (held_with (rows_for before) (pending_item last))).rows

settle_is : (names : List Text) (rows : List Row) (n v : Text) → is_among names n ≡ true
    → settle_fault (rules_for names) false (held_with rows (Some (n, v ∷ []))) ≡ use_fault false
    (option_rule n) (v ∷ []) rows
settle_is names rows n v k = rw (by_id names n, k) refl

settled_is : (names : List Text) (rows : List Row) (n v : Text) → is_among names n ≡ true
    → (settled (rules_for names) (held_with rows (Some (n, v ∷ [])))).rows ≡ used (option_rule n)
    (v ∷ []) rows
settled_is names rows n v k = rw (by_id names n, k) refl

new_row : (before : List Item) (n : Text) → is_given n before ≡ false
    → has_row n (rows_for before) ≡ false
new_row before n e = has_row_is n before ∙ e

-- one more use of an option
pub use_gives : (before : List Item) (n v : Text)
    → use_fault false (option_rule n) (v ∷ []) (rows_for before) ≡ [] → is_given n before ≡ false
use_gives before n v e = false_from_ne_true _ (λ given.
    let row : has_row n (rows_for before) ≡ true = has_row_is n before ∙ given in
    let bad : kind.ArgumentConflict ∷ [] ≡ [] = ap (λ b. cond b (kind.ArgumentConflict ∷ []) [])
    (sym row) ∙ sym (use_is n v (rows_for before)) ∙ e in
    cc)

pub use_takes : (before : List Item) (n v : Text) → is_given n before ≡ false
    → (use_fault false (option_rule n) (v ∷ []) (rows_for before) ≡ [])
    × (used (option_rule n) (v ∷ []) (rows_for before)
    ≡ rows_for (before ++ record { name = n; value = v } ∷ []))
use_takes before n v e =
    let row = new_row before n e in (
      use_is n v (rows_for before) ∙ ap (λ b. cond b (kind.ArgumentConflict ∷ []) []) row,
      used_is n v (rows_for before) row ∙ rows_more before (record { name = n; value = v }),
    )

pub settle_takes : (names : List Text) (before : List Item) (last : Option Item)
    → last_fits names before last ≡ true → (settling names before last ≡ [])
    × (settled_at names before last ≡ rows_for (whole before last))
settle_takes names before None e = (refl, refl)
settle_takes names before (Some i) e =
    let p = and_parts (is_among names i.name) _ e in
    let u = use_takes before i.name i.value (not-true _ p.1) in (
      settle_is names (rows_for before) i.name i.value p.0 ∙ u.0,
      settled_is names (rows_for before) i.name i.value p.0 ∙ u.1,
    )

pub settle_gives : (names : List Text) (before : List Item) (last : Option Item)
    → last_known names last ≡ true → settling names before last ≡ []
    → last_fits names before last ≡ true
settle_gives names before None k e = refl
settle_gives names before (Some i) k e =
    let new = use_gives before i.name i.value
    (sym (settle_is names (rows_for before) i.name i.value k) ∙ e) in
    and_from _ _ k (not_from_false _ new)

-- the fault of a word
abbrev pub turn : Text → List Text → Walk → Text → Kinds
turn name names w word = turn_fault (options_shape name names) [] w word

-- the walk after a word
abbrev pub next : List Text → Walk → Text → Walk
next names w word = walked (rules_for names) [] w word

pub step : (name : Text) (names : List Text) (w : Walk) (word : Text) (words : List Text)
    → rest_fault name names w (word ∷ words)
    ≡ or_else (turn_fault (options_shape name names) [] w word)
    (rest_fault name names (walked (rules_for names) [] w word) words)
unfolding walk_fault
step name names w word words = or_else_assoc (turn name names w word)
    (walk_fault (options_shape name names) [] (next names w word) words)
    (settle_fault (rules_for names) false (end_of names (next names w word) words))

pub ends : (name : Text) (names : List Text) (w : Walk)
    → rest_fault name names w [] ≡ settle_fault (rules_for names) false w.held
unfolding walk_fault
ends name names w = refl
