-- What clap makes of a command whose options each take one text and come once.
use Rattle.std.proofs.Common.{◌≡◌, ◌∙◌, ◌&&◌, ℕ, Bool, cond, true, false, not, refl, ap, List, []}
use Rattle.std.proofs.Common.{◌∷◌, map, Some, None, is_some}
use Rattle.std.specs.List.{fold, list_all, list_any, count_by}
use Rattle.std.specs.Str.{bytes_eq}
use Rattle.std.proofs.lemmas.Slice.Eq.{bytes_eq-Decides}
use Rattle.clap.specs.Walk.{Held, Row, Rule, Text, Walk, arg_by_id, arg_by_index, arg_by_long}
use Rattle.clap.specs.Walk.{arg_by_short, finished, has_row, is_early_multiple, nothing_held}
use Rattle.clap.specs.Walk.{settled, walk_from, walked, with_default, rows_after}
use Rattle.clap.specs.Simple.{App, Shape, built, filled_from, is_simple, new_rule, new_shape}
use Rattle.clap.specs.Simple.{matches_of}
use Rattle.clap.specs.Kinds.{Kinds, or_else}
use Rattle.clap.specs.Faults.{check_fault, defaults_fault, fault_of, is_simple_and_free}
use Rattle.clap.specs.Faults.{level_fault, settle_fault, walk_fault, built_fault}
use Rattle.clap.specs.Takes.{is_given}
use Rattle.clap.specs.declared.builder.action.ArgAction.TheVariants.{Set}
use Rattle.clap.specs.declared.builder.value_parser.ValueParser.TheVariants as vp
use Rattle.clap.proofs.FaultLemmas.{leaf_fault}
use Rattle.tool_base.specs.Items.{is_among}

-- the option as it is added
abbrev pub raw_rule : Text → Rule
raw_rule name = record (new_rule name) { long = Some name; action = Some Set }

-- the option as it is built
abbrev pub option_rule : Text → Rule
option_rule name = record (raw_rule name) {
  parser = Some vp.String;
  range = Some (record { start_inclusive = 1; end_inclusive = 1 });
}

-- the command as the options are added
abbrev pub options_app : Text → List Text → App
options_app name names = record {
  top = record (new_shape name) { rules = map raw_rule names; disable_help_flag = true };
  subs = [];
}

-- the options as they are built
abbrev pub rules_for : List Text → List Rule
rules_for names = map option_rule names

-- the command as it is built
abbrev pub options_shape : Text → List Text → Shape
options_shape name names = record (new_shape name) {
  rules = rules_for names;
  disable_help_flag = true;
  disable_help_subcommand = true;
  is_built = true;
}

filled_is : (names : List Text) (i : ℕ) → filled_from i (map raw_rule names) ≡ rules_for names
filled_is [] i = refl
filled_is (n ∷ ns) i = ap (λ rs. option_rule n ∷ rs) (filled_is ns i)

-- a command built of such rules
abbrev built_as : Text → List Rule → App
built_as name rules = record {
  top = record (new_shape name) {
    rules = rules;
    disable_help_flag = true;
    disable_help_subcommand = true;
    is_built = true;
  };
  subs = [];
}

pub built_is : (name : Text) (names : List Text) → built (options_app name names) ≡ built_as name
    (rules_for names)
built_is name names = ap (built_as name) (filled_is names 1)

raw_simple : (names : List Text) → list_all (λ (a : Rule). a.is_simple) (map raw_rule names) ≡ true
raw_simple [] = refl
raw_simple (n ∷ ns) = raw_simple ns

rules_simple : (names : List Text) → list_all (λ (a : Rule). a.is_simple) (rules_for names) ≡ true
rules_simple [] = refl
rules_simple (n ∷ ns) = rules_simple ns

rules_free : (names : List Text) → list_all (λ (a : Rule). a.is_free) (rules_for names) ≡ true
rules_free [] = refl
rules_free (n ∷ ns) = rules_free ns

none_early : (names : List Text) (k : ℕ) → list_any (is_early_multiple k) (rules_for names) ≡ false
none_early [] k = refl
none_early (n ∷ ns) k = none_early ns k

-- whether the command is as simple as clap's clauses ask for
abbrev ready_test : List Rule → List Rule → Bool
ready_test raw rules = list_all (λ a. a.is_simple) raw && true
    && ((list_all (λ a. a.is_simple) rules && not
    (list_any (is_early_multiple (count_by (λ a. is_some a.index) rules)) rules)) && true)

pub is_plain_app : (name : Text) (names : List Text) → is_simple (options_app name names) ≡ true
is_plain_app name names = rw (
  raw_simple names,
  filled_is names 1,
  rules_simple names,
  none_early names (count_by (λ (a : Rule). is_some a.index) (rules_for names)),
) refl

pub is_free : (name : Text) (names : List Text) → is_simple_and_free (options_app name names) ≡ true
is_free name names = rw (is_plain_app name names, filled_is names 1, rules_free names) refl

same_name : (n name : Text) → bytes_eq n name ≡ true → n ≡ name
same_name n name e = (bytes_eq-Decides n name).0 e

pub by_long : (names : List Text) (name : Text) → arg_by_long (rules_for names) name
    ≡ cond (is_among names name) (Some (option_rule name)) None
by_long [] name = refl
by_long (n ∷ ns) name = go (bytes_eq n name) refl (by_long ns name)
  where
    go : (b : Bool) → bytes_eq n name ≡ b
        → arg_by_long (rules_for ns) name ≡ cond (is_among ns name) (Some (option_rule name)) None
        → arg_by_long (rules_for (n ∷ ns)) name ≡ cond (is_among (n ∷ ns) name)
        (Some (option_rule name)) None
    go true e rest = rw e (ap (λ m. Some (option_rule m)) (same_name n name e))
    go false e rest = rw e rest

pub by_id : (names : List Text) (name : Text) → arg_by_id (rules_for names) name
    ≡ cond (is_among names name) (Some (option_rule name)) None
by_id [] name = refl
by_id (n ∷ ns) name = go (bytes_eq n name) refl (by_id ns name)
  where
    go : (b : Bool) → bytes_eq n name ≡ b → arg_by_id (rules_for ns) name ≡ cond (is_among ns name)
        (Some (option_rule name)) None
        → arg_by_id (rules_for (n ∷ ns)) name ≡ cond (is_among (n ∷ ns) name)
        (Some (option_rule name)) None
    go true e rest = rw e (ap (λ m. Some (option_rule m)) (same_name n name e))
    go false e rest = rw e rest

pub by_short : (names : List Text) (x : ℕ) → arg_by_short (rules_for names) x ≡ None
by_short [] x = refl
by_short (n ∷ ns) x = by_short ns x

pub by_index : (names : List Text) (i : ℕ) → arg_by_index (rules_for names) i ≡ None
by_index [] i = refl
by_index (n ∷ ns) i = by_index ns i

default_stays : (rows : List Row) (n : Text) → with_default rows (option_rule n) ≡ rows
default_stays rows n = go (has_row n rows)
  where
    go : (b : Bool) → cond b rows rows ≡ rows
    go true = refl
    go false = refl

pub defaults_stay : (names : List Text) (rows : List Row) → fold with_default rows (rules_for names)
    ≡ rows
defaults_stay [] rows = refl
defaults_stay (n ∷ ns) rows = ap (λ r. fold with_default r (rules_for ns)) (default_stays rows n)
    ∙ defaults_stay ns rows

pub no_default_fault : (names : List Text) (rows : List Row) → defaults_fault rows (rules_for names)
    ≡ []
unfolding defaults_fault
no_default_fault [] rows = refl
no_default_fault (n ∷ ns) rows = go (has_row n rows) refl (no_default_fault ns rows)
  where
    go : (b : Bool) → has_row n rows ≡ b → defaults_fault rows (rules_for ns) ≡ []
        → defaults_fault rows (rules_for (n ∷ ns)) ≡ []
    go true e rest = rw e rest
    go false e rest = rw e rest

none_required : (names : List Text) (rows : List Row)
    → list_any (λ (a : Rule). a.required && not (is_given a.id rows)) (rules_for names) ≡ false
none_required [] rows = refl
none_required (n ∷ ns) rows = none_required ns rows

pub no_check_fault : (name : Text) (names : List Text) (rows : List Row)
    → check_fault (options_shape name names) rows false ≡ []
no_check_fault name names rows = rw (none_required names rows) refl

-- where a walk ends after these words
abbrev pub end_of : List Text → Walk → List Text → Held
end_of names w words = (fold (walked (rules_for names) []) w words).held

-- the fault of the rest of a parse, from where the walk stands
abbrev pub rest_fault : Text → List Text → Walk → List Text → Kinds
rest_fault name names w words = or_else (walk_fault (options_shape name names) [] w words)
    (settle_fault (rules_for names) false (end_of names w words))

-- the rows that it finds
abbrev pub rows_at_end : List Text → Walk → List Text → List Row
rows_at_end names w words = (settled (rules_for names) (end_of names w words)).rows

pub or_else-nil : (a : Kinds) → or_else a [] ≡ a
or_else-nil [] = refl
or_else-nil (k ∷ ks) = refl

level_is : (name : Text) (names : List Text) (words : List Text)
    → level_fault (options_shape name names) [] nothing_held words false [] ≡ rest_fault name names
    (walk_from nothing_held) words
level_is name names words =
    let end = end_of names (walk_from nothing_held) words in
    rw (
      no_default_fault names (settled (rules_for names) end).rows,
      no_check_fault name names (finished (rules_for names) end),
    ) (
    ap (or_else (walk_fault (options_shape name names) [] (walk_from nothing_held) words))
    (or_else-nil (settle_fault (rules_for names) false end)))

-- the kinds of error at the words, of which the first is not read
pub fault_is : (name : Text) (names : List Text) (first : Text) (words : List Text)
    → fault_of (options_app name names) (first ∷ words) ≡ rest_fault name names
    (walk_from nothing_held) words
fault_is name names first words =
    ap (λ a. built_fault a nothing_held words) (built_is name names)
    ∙ leaf_fault (built_as name (rules_for names)) nothing_held words refl
    ∙ level_is name names words

-- and the matches
pub matches_are : (name : Text) (names : List Text) (first : Text) (words : List Text)
    → matches_of (options_app name names) (first ∷ words) ≡ rows_at_end names
    (walk_from nothing_held) words
matches_are name names first words =
    ap (λ (rules : List Rule). rows_after rules [] words) (filled_is names 1)
    ∙ defaults_stay names (rows_at_end names (walk_from nothing_held) words)
