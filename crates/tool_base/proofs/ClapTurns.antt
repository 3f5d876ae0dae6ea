-- What clap makes of one word, at a command whose options each take one text and come once.
use Rattle.std.proofs.Common.{◌≡◌, ◌∙◌, ◌⊎◌, ℕ, cond, true, false, refl, ap, zero, suc, inl, inr}
use Rattle.std.proofs.Common.{List, [], ◌∷◌, length, Option, Some, None}
use Rattle.std.specs.Prelude.{slice_get, option_and_then, option_map}
use Rattle.std.specs.Str.{bytes_eq, chars}
use Rattle.std.proofs.lemmas.Slice.Eq.{bytes_eq-Decides}
use Rattle.clap.specs.Lexer.{long_of, short_of, strip_byte, long_of_rest, short_of_rest}
use Rattle.clap.specs.Walk.{Held, Row, Text, Walk, Waiting, bundle_met, idle, option, plain}
use Rattle.clap.specs.Walk.{settled, used, walked, positional}
use Rattle.clap.specs.Faults.{flags_fault, react_fault, settle_fault, turn_fault}
use Rattle.clap.specs.declared.error.kind.ErrorKind.TheVariants as kind
use Rattle.tool_base.specs.Items.{after_hyphen, after_hyphens, has_value_part, is_among, name_part}
use Rattle.tool_base.specs.Items.{value_part, not_empty}
use Rattle.tool_base.proofs.ClapRules.{by_id, by_index, by_long, by_short, option_rule}
use Rattle.tool_base.proofs.ClapRules.{options_shape, or_else-nil, rules_for}

-- the rows of the options that were used, and the option that was read last with its value, which
-- isn't used yet
abbrev pub held_with : List Row → Option (Text × List Text) → Held
held_with rows pending = record { rows = rows; pending = pending; skip = 0 }

-- the walk where an item has to begin
abbrev pub idle_with : List Row → Option (Text × List Text) → Walk
idle_with rows pending = record {
  held = held_with rows pending;
  waiting = idle;
  position = 1;
  is_trailing = false;
  stopped = None;
}

-- the walk where the value of this option has to stand
abbrev pub waits_with : List Row → Text → Walk
waits_with rows name = record {
  held = held_with rows (Some (name, []));
  waiting = option name;
  position = 1;
  is_trailing = false;
  stopped = None;
}

strip_is : (word : Text) → strip_byte 45 word ≡ after_hyphen word
strip_is [] = refl
strip_is (c ∷ rest) = refl

-- the name of an item that a word begins, and its value where that stands in the word
abbrev pub split_name : Text → Text × Option Text
split_name text = (name_part text, cond (has_value_part text) (Some (value_part text)) None)

long_rest : (o : Option Text) → option_and_then long_of_rest o ≡ option_map split_name
    (option_and_then not_empty o)
long_rest None = refl
long_rest (Some []) = refl
long_rest (Some (x ∷ xs)) = refl

strip_then : (o : Option Text) → option_and_then (strip_byte 45) o ≡ option_and_then after_hyphen o
strip_then None = refl
strip_then (Some t) = strip_is t

pub long_is : (word : Text) → long_of word ≡ option_map split_name (after_hyphens word)
long_is word = ap (option_and_then long_of_rest) (ap (option_and_then (strip_byte 45))
    (strip_is word) ∙ strip_then (after_hyphen word))
    ∙ long_rest (option_and_then after_hyphen (after_hyphen word))

pub no_hyphen_short : (word : Text) → after_hyphen word ≡ None → short_of word ≡ None
no_hyphen_short word e = ap (option_and_then short_of_rest) (strip_is word ∙ e)

pub no_hyphen_long : (word : Text) → after_hyphen word ≡ None → long_of word ≡ None
no_hyphen_long word e = long_is word
    ∙ ap (λ o. option_map split_name (option_and_then not_empty (option_and_then after_hyphen o))) e

-- the word that ends the options
abbrev pub dashes : Text
dashes = 45 ∷ 45 ∷ []

module _ (name : Text) (names : List Text) where
  -- `-abc`: there is no such flag
  pub bundle_is : (k : ℕ) (flags : Text) (h : Held)
      → (flags_fault (rules_for names) false k flags 0 h ≡ kind.UnknownArgument ∷ [])
      ⊎ ((flags_fault (rules_for names) false k flags 0 h ≡ [])
      × (bundle_met (rules_for names) k flags 0 plain h ≡ (h, plain)))
  unfolding flags_fault bundle_met
  bundle_is zero flags h = inr (refl, refl)
  bundle_is (suc k) flags h = go (slice_get (chars flags) 0) refl
    where
      go : (o : Option ℕ) → slice_get (chars flags) 0 ≡ o
          → (flags_fault (rules_for names) false (suc k) flags 0 h ≡ kind.UnknownArgument ∷ [])
          ⊎ ((flags_fault (rules_for names) false (suc k) flags 0 h ≡ [])
          × (bundle_met (rules_for names) (suc k) flags 0 plain h ≡ (h, plain)))
      go None e = inr (rw e refl, rw e refl)
      go (Some x) e = inl (rw (e, by_short names x) refl)

  pub idle_value-fault : (rows : List Row) (p : Option (Text × List Text)) (word n v : Text)
      → bytes_eq word dashes ≡ false → long_of word ≡ Some (n, Some v) → is_among names n ≡ true
      → turn_fault (options_shape name names) [] (idle_with rows p) word ≡ react_fault
      (rules_for names) false (option_rule n) (v ∷ []) (held_with rows p)
  idle_value-fault rows p word n v dd lo k = rw (dd, lo, by_long names n, k) (or_else-nil _)

  pub idle_value-walk : (rows : List Row) (p : Option (Text × List Text)) (word n v : Text)
      → bytes_eq word dashes ≡ false → long_of word ≡ Some (n, Some v) → is_among names n ≡ true
      → walked (rules_for names) [] (idle_with rows p) word ≡ idle_with
      (used (option_rule n) (v ∷ []) (settled (rules_for names) (held_with rows p)).rows) None
  unfolding walked
  idle_value-walk rows p word n v dd lo k = rw (dd, lo, by_long names n, k) refl

  pub idle_name-fault : (rows : List Row) (p : Option (Text × List Text)) (word n : Text)
      → bytes_eq word dashes ≡ false → long_of word ≡ Some (n, None) → is_among names n ≡ true
      → turn_fault (options_shape name names) [] (idle_with rows p) word ≡ settle_fault
      (rules_for names) false (held_with rows p)
  idle_name-fault rows p word n dd lo k = rw (dd, lo, by_long names n, k) (or_else-nil _)

  pub idle_name-walk : (rows : List Row) (p : Option (Text × List Text)) (word n : Text)
      → bytes_eq word dashes ≡ false → long_of word ≡ Some (n, None) → is_among names n ≡ true
      → walked (rules_for names) [] (idle_with rows p) word ≡ waits_with
      (settled (rules_for names) (held_with rows p)).rows n
  unfolding walked
  idle_name-walk rows p word n dd lo k = rw (dd, lo, by_long names n, k) refl

  -- the name of no option
  pub unknown-fault : (rows : List Row) (p : Option (Text × List Text)) (w : Waiting)
      (word n : Text) (v : Option Text) → bytes_eq word dashes ≡ false → long_of word ≡ Some (n, v)
      → is_among names n ≡ false
      → turn_fault (options_shape name names) []
      (record {
        held = held_with rows p;
        waiting = w;
        position = 1;
        is_trailing = false;
        stopped = None;
      }) word ≡ kind.UnknownArgument ∷ []
  unknown-fault rows p idle word n v dd lo k = rw (dd, lo, by_long names n, k) refl
  unknown-fault rows p (option o) word n v dd lo k = rw (dd, lo, by_long names n, k) refl
  unknown-fault rows p positional word n v dd lo k = rw (dd, lo, by_long names n, k) refl

  -- a word that begins no item, where one has to begin
  pub idle_other : (rows : List Row) (p : Option (Text × List Text)) (word : Text)
      → bytes_eq word dashes ≡ false → long_of word ≡ None
      → turn_fault (options_shape name names) [] (idle_with rows p) word ≡ kind.UnknownArgument ∷ []
  idle_other rows p word dd lo = go (short_of word) refl
    where
      go : (o : Option Text) → short_of word ≡ o
          → turn_fault (options_shape name names) [] (idle_with rows p) word
          ≡ kind.UnknownArgument ∷ []
      go None e = rw (dd, lo, e, by_index names 1) refl
      go (Some flags) e = elim (bundle_is (length flags) flags (held_with rows p)) [
        | inl bad ↦ rw (dd, lo, e, bad) refl
        | inr ok ↦ rw (dd, lo, e, ok.0, ok.1, by_index names 1) refl
      ]

  -- the name of an option, where a value has to stand
  pub waits_flag : (rows : List Row) (opened n : Text) (word : Text) (v : Option Text)
      → bytes_eq word dashes ≡ false → long_of word ≡ Some (n, v) → is_among names opened ≡ true
      → is_among names n ≡ true
      → turn_fault (options_shape name names) [] (waits_with rows opened) word
      ≡ kind.InvalidValue ∷ []
  waits_flag rows opened n word None dd lo k k' =
      rw (dd, lo, by_long names n, k', by_id names opened, k) refl
  waits_flag rows opened n word (Some v) dd lo k k' =
      rw (dd, lo, by_long names n, k', by_id names opened, k) refl

  same : (t : Text) → bytes_eq t t ≡ true
  same t = (bytes_eq-Decides t t).1 refl

  -- any other word is the value, unless it is `-abc`
  pub waits_other : (rows : List Row) (opened word : Text) → bytes_eq word dashes ≡ false
      → long_of word ≡ None → is_among names opened ≡ true
      → (turn_fault (options_shape name names) [] (waits_with rows opened) word
      ≡ kind.UnknownArgument ∷ [])
      ⊎ ((turn_fault (options_shape name names) [] (waits_with rows opened) word ≡ [])
      × (walked (rules_for names) [] (waits_with rows opened) word ≡ idle_with rows
      (Some (opened, word ∷ []))))
  unfolding walked
  waits_other rows opened word dd lo k = go (short_of word) refl
    where
      go : (o : Option Text) → short_of word ≡ o
          → (turn_fault (options_shape name names) [] (waits_with rows opened) word
          ≡ kind.UnknownArgument ∷ [])
          ⊎ ((turn_fault (options_shape name names) [] (waits_with rows opened) word ≡ [])
          × (walked (rules_for names) [] (waits_with rows opened) word ≡ idle_with rows
          (Some (opened, word ∷ []))))
      go None e = inr (rw (dd, lo, e) refl, rw (dd, lo, e, by_id names opened, k, same opened) refl)
      go (Some flags) e = elim (bundle_is (length flags) flags (held_with rows (Some (
        opened,
        [],
      )))) [
        | inl bad ↦ inl (rw (dd, lo, e, bad) refl)
        | inr ok ↦ inr (
          rw (dd, lo, e, ok.0, ok.1) refl,
          rw (dd, lo, e, ok.1, by_id names opened, k, same opened) refl,
        )
      ]

  pub waits_plain-fault : (rows : List Row) (opened word : Text) → bytes_eq word dashes ≡ false
      → long_of word ≡ None → short_of word ≡ None
      → turn_fault (options_shape name names) [] (waits_with rows opened) word ≡ []
  waits_plain-fault rows opened word dd lo e = rw (dd, lo, e) refl

  pub waits_plain-walk : (rows : List Row) (opened word : Text) → bytes_eq word dashes ≡ false
      → long_of word ≡ None → short_of word ≡ None → is_among names opened ≡ true
      → walked (rules_for names) [] (waits_with rows opened) word ≡ idle_with rows
      (Some (opened, word ∷ []))
  unfolding walked
  waits_plain-walk rows opened word dd lo e k = rw (dd, lo, e, by_id names opened, k, same opened)
      refl
