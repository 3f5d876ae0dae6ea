-- From what clap promises of a parse to the items.
use Rattle.clap.specs.Simple.{is_simple, matches_of}
use Rattle.std.proofs.Common.{◌≡◌, ◌∙◌, ◌<◌, ◌≤◌, ◌+◌, ◌-◌, ℕ, true, false, refl, sym, ap, ap₂}
use Rattle.std.proofs.Common.{subst, arith, inl, inr, List, [], ◌∷◌, ◌++◌, map, length, drop, take}
use Rattle.std.proofs.Common.{Some, None, true≢false}
use Rattle.std.specs.List.{list_any, slice_index_or, list_all}
use Rattle.std.proofs.lemmas.List.{map-append, length-map, map_more, take_all}
use Rattle.clap.specs.Words.{App, HasKind, HasMatchesOf, Rule, fault_of, found_of}
use Rattle.clap.specs.Words.{is_simple_and_free, kind_of, with_rule}
use Rattle.clap.specs.Walk.{first_of}
use Rattle.clap.specs.declared.error.Error.{Error}
use Rattle.clap.specs.declared.error.kind.ErrorKind.TheVariants.{OutOfMemory}
use Rattle.clap.specs.declared.parser.matches.ArgMatches.{ArgMatches}
use Rattle.std.specs.Borrow.{Bor}
use Rattle.clap.proofs.WalkLemmas.{first_value-rows, list_any-map}
use Rattle.tool_base.specs.declared.options.OptionRow.{OptionRow}
use Rattle.tool_base.specs.Items.{Item, Text, items_of, names_once}
use Rattle.tool_base.specs.Reading.{is_dashes}
use Rattle.tool_base.specs.Reading.{Matches, has_plain}
use Rattle.tool_base.proofs.ClapRules.{is_free, is_plain_app, options_app, raw_rule}
use Rattle.tool_base.proofs.ClapSound.{clap_sound}
use Rattle.tool_base.proofs.ClapTakes.{clap_takes}
use Rattle.tool_base.proofs.ClapUses.{first_is}
use Rattle.tool_base.proofs.PlainItems.{no_dashes}

-- the texts of borrowed words
abbrev texts : List (Bor Text) → List Text
texts words = map (λ w. w.now) words

-- the words after the first, as the code cuts them off
abbrev after_first_word : List (Bor Text) → List (Bor Text)
after_first_word words = take (length words - 1) (drop 1 words)

dashes_after : (words : List (Bor Text)) → list_any (λ (w : Bor Text). is_dashes w.now)
    (after_first_word words) ≡ list_any is_dashes (drop 1 (texts words))
dashes_after [] = refl
dashes_after (first ∷ words) = ap (list_any (λ (w : Bor Text). is_dashes w.now))
    (take_all (length (first ∷ words) - 1) words (omega arith))
    ∙ list_any-map is_dashes (λ (w : Bor Text). w.now) words

pub find_dashes : (names : List Text) (words : List (Bor Text))
    → list_any (λ (w : Bor Text). is_dashes w.now) (after_first_word words) ≡ true
    → Matches names (drop 1 (texts words)) None
find_dashes names words dashes items read once plain = true≢false (sym dashes ∙ dashes_after words
    ∙ no_dashes (drop 1 (texts words)) None items read plain)

find_with : (app : App) (name : Text) (names words : List Text) (m : ArgMatches)
    → app ≡ options_app name names → 0 < length words → list_any is_dashes (drop 1 words) ≡ false
    → fault_of app words ≡ [] → HasMatchesOf app words m → Matches names (drop 1 words) (Some m)
find_with app name names [] m is some none fault matches = absurd (omega arith)
find_with app name names (first ∷ words) m is some none fault matches =
    let r = clap_sound name names first words none (sym (ap (λ a. fault_of a (first ∷ words)) is)
    ∙ fault) in
    let rows = (matches (ap is_simple is ∙ is_plain_app name names)).0
    ∙ ap (λ a. matches_of a (first ∷ words)) is ∙ r.3 in
    (r.0, r.1, r.2, λ n. first_value-rows (found_of m) n ∙ ap (first_of n) rows ∙ first_is n r.0)

-- what an `Ok` of the parse gives
pub find_ok : (app : App) (name : Text) (names : List Text) (words : List (Bor Text))
    (m : ArgMatches) → app ≡ options_app name names → 0 < length words
    → list_any (λ (w : Bor Text). is_dashes w.now) (after_first_word words) ≡ false
    → (is_simple_and_free app ≡ true → fault_of app (texts words) ≡ [])
    → HasMatchesOf app (texts words) m
    → Matches names (drop 1 (texts words)) (Some m)
find_ok app name names words m is some none kinds matches =
    find_with app name names (texts words) m is (rw length-map some) (sym (dashes_after words)
    ∙ none) (kinds (ap is_simple_and_free is ∙ is_free name names)) matches

no_kind : (e : Error) → HasKind [] e → kind_of e ≡ OutOfMemory
no_kind e (inl memory) = memory
no_kind e (inr none) = absurd none

no_fault : (app : App) (name : Text) (names : List Text) (words : List (Bor Text))
    (items : List Item) → app ≡ options_app name names → 0 < length words
    → items_of (drop 1 (texts words)) ≡ Some items → names_once names [] items ≡ true
    → list_all has_plain items ≡ true → fault_of app (texts words) ≡ []
no_fault app name names [] items is some read once plain = absurd (omega arith)
no_fault app name names (first ∷ words) items is some read once plain =
    ap (λ a. fault_of a (texts (first ∷ words))) is ∙ clap_takes name names first.now (texts words)
    items read once plain

-- and what an `Err` gives that isn't want of memory
pub find_err : (app : App) (name : Text) (names : List Text) (words : List (Bor Text)) (e : Error)
    → app ≡ options_app name names → 0 < length words
    → (is_simple_and_free app ≡ true → HasKind (fault_of app (texts words)) e)
    → (kind_of e ≡ OutOfMemory → ⊥) → Matches names (drop 1 (texts words)) None
find_err app name names words e is some kinds other items read once plain =
    other (no_kind e (subst (λ k. HasKind k e) (no_fault app name names words items is some read
    once plain) (kinds (ap is_simple_and_free is ∙ is_free name names))))

-- one more option
pub more_rules : (old : App) (name : Text) (names : List Text) (n : Text) (rule : Rule)
    → old ≡ options_app name names → rule ≡ raw_rule n
    → with_rule old rule ≡ options_app name (names ++ n ∷ [])
more_rules old name names n rule is raw =
    ap₂ with_rule is raw ∙ ap (λ (rules : List Rule). record (options_app name names)
    { top = record (options_app name names).top { rules = rules } })
    (sym (map-append raw_rule names (n ∷ [])))

pub one_rule : (old new : App) (name : Text) (options : List OptionRow) (i : ℕ) (d : OptionRow)
    (id : Bor Text) (rule : Rule) → i < length options → id ≡ (slice_index_or options i d).name
    → rule ≡ raw_rule id.now
    → new ≡ with_rule old rule → old ≡ options_app name (map (λ o. o.name.now) (take i options))
    → new ≡ options_app name (map (λ o. o.name.now) (take (i + 1) options))
one_rule old new name options i d id rule lt is raw added before =
    added ∙ more_rules old name (map (λ (o : OptionRow). o.name.now) (take i options))
    (slice_index_or options i d).name.now rule before
    (raw ∙ ap (λ (b : Bor Text). raw_rule b.now) is)
    ∙ ap (options_app name) (sym (map_more (λ (o : OptionRow). o.name.now) options i d lt))

pub all_rules : (app : App) (name : Text) (options : List OptionRow) (i : ℕ) → length options ≤ i
    → app ≡ options_app name (map (λ o. o.name.now) (take i options))
    → app ≡ options_app name (map (λ o. o.name.now) options)
all_rules app name options i past is = is
    ∙ ap (λ xs. options_app name (map (λ (o : OptionRow). o.name.now) xs)) (take_all i options past)
