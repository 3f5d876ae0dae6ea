-- Inside: what clap finds, in the words of items, and the options of the rows of the code.
use Rattle.std.specs.Prelude.{◌≡◌, Bool, not, List, [], Option, Some, MatchOption, true, is_some}
use Rattle.std.specs.Prelude.{codes}
use Rattle.std.specs.List.{list_all}
use Rattle.clap.specs.Words.{first_value, found_of}
use Rattle.clap.specs.declared.parser.matches.ArgMatches.{ArgMatches}
use Rattle.tool_base.specs.Items.{Item, Text, after_hyphen, items_of, names_once, value_of}
use Rattle.tool_base.specs.Options.{CommandOption, Given, NumberOption, RangeOption}
use Rattle.tool_base.specs.declared.options.NumberRow.{NumberRow}
use Rattle.tool_base.specs.declared.options.OptionRow.{OptionRow}
use Rattle.tool_base.specs.declared.options.RangeRow.{RangeRow}
use Rattle.std.specs.Str.{bytes_eq}

-- the matches have the values of the items
abbrev pub HasValues : List Item → ArgMatches → Type 0
HasValues items m = (name : Text) → first_value (found_of m) name ≡ value_of name items

-- a value that doesn't look like a flag
abbrev pub is_plain : Text → Bool
is_plain text = not (is_some (after_hyphen text))

-- an item whose value doesn't look like a flag
abbrev pub has_plain : Item → Bool
has_plain i = is_plain i.value

-- the matches are those of the items, each name at most once; there are none where some value looks
-- like a flag, or the words are no such items
abbrev pub Matches : List Text → List Text → Option ArgMatches → Type 0
Matches names words r = MatchOption r
    ((items : List Item) → items_of words ≡ Some items → names_once names [] items ≡ true
    → list_all has_plain items ≡ true → ⊥)
    (λ m. (items : List Item) × (items_of words ≡ Some items) × (names_once names [] items ≡ true)
    × HasValues items m)

-- the values that the matches give, by name
abbrev pub given_of : ArgMatches → Given
given_of m name = first_value (found_of m) name

-- the option of a row
abbrev pub listed : OptionRow → CommandOption
listed row = record { name = row.name.now; values = row.values }

-- the option of a row of numbers
abbrev pub ranged : RangeRow → RangeOption
ranged row = record { name = row.name.now; low = row.low; high = row.high }

-- the option of a row of numbers with a default
abbrev pub numbered_option : NumberRow → NumberOption
numbered_option row = record { range = ranged row.range; default = row.default }

-- whether the word is `--`
abbrev pub is_dashes : Text → Bool
is_dashes word = bytes_eq word (codes "--")
