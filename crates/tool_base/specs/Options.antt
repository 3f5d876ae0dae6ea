-- Options: the name of each, and the values that it takes; and what words give of some of them.
use Rattle.std.specs.Prelude.{ℕ, Bool, ◌&&◌, ◌||◌, List, [], Option, Some, None, map, true, codes}
use Rattle.std.specs.Prelude.{is_some}
use Rattle.std.specs.Prelude.{if◌then◌else◌, option_and_then}
use Rattle.std.specs.List.{list_all}
use Rattle.std.specs.Option.{option_map_or}
use Rattle.std.specs.Str.{bytes_eq}
use Rattle.oti_fields.specs.declared.codec.Codec.{Codec}
use Rattle.oti_fields.specs.declared.codec.Codec.TheVariants.{Staircase, Triangle, Parity2d}
use Rattle.oti_fields.specs.declared.codec.Codec.TheVariants.{Corner2d}
use Rattle.loss_patterns.specs.Kinds.{loss_of}
use Rattle.loss_patterns.specs.Numbers.{number_in}
use Rattle.tool_base.specs.Items.{Item, Text, items_of, names_once, value_of}
use Rattle.tool_base.specs.declared.options.ValueKind.{ValueKind}
use Rattle.tool_base.specs.declared.options.ValueKind.TheVariants.{CodecWord, LossText, Number}
use Rattle.tool_base.specs.declared.options.ValueKind.TheVariants.{OrderWord, YesOrNo}

-- an option of a command: its name, and the values that it takes
pub record CommandOption : Type 0 where
  pub name : Text
  pub values : ValueKind

-- an option of this name that takes these values
abbrev pub takes : Text → ValueKind → CommandOption
takes name values = record { name = name; values = values }

-- an option whose values are the numbers from low to high
pub record RangeOption : Type 0 where
  pub name : Text
  pub low : ℕ
  pub high : ℕ

-- an option of this name with these numbers
abbrev pub numbers : Text → ℕ → ℕ → RangeOption
numbers name low high = record { name = name; low = low; high = high }

-- it takes these numbers and no other value
abbrev pub takes_range : RangeOption → CommandOption
takes_range o = takes o.name (Number o.low o.high)

-- such an option, and the number that stands for it where none is given
pub record NumberOption : Type 0 where
  pub range : RangeOption
  pub default : ℕ

-- an option of this name with these numbers and this default
abbrev pub numbers_or : Text → ℕ → ℕ → ℕ → NumberOption
numbers_or name low high default = record { range = numbers name low high; default = default }

-- it takes the numbers of its range
abbrev pub takes_number : NumberOption → CommandOption
takes_number o = takes_range o.range

-- the word of a codec
abbrev pub codec_word : Codec → Text
codec_word Staircase = codes "staircase"
codec_word Triangle = codes "triangle"
codec_word Parity2d = codes "2d"
codec_word Corner2d = codes "2d-corner"

-- the codec of a word
abbrev pub codec_of : Text → Option Codec
codec_of text =
    if bytes_eq text (codec_word Staircase) then Some Staircase
    else if bytes_eq text (codec_word Triangle) then Some Triangle
    else if bytes_eq text (codec_word Parity2d) then Some Parity2d
    else if bytes_eq text (codec_word Corner2d) then Some Corner2d
    else None

-- whether the text is one of these values
abbrev pub is_value : ValueKind → Text → Bool
is_value (Number low high) text = is_some (number_in low high text)
is_value YesOrNo text = bytes_eq text (codes "yes") || bytes_eq text (codes "no")
is_value CodecWord text = is_some (codec_of text)
is_value LossText text = is_some (loss_of text)
is_value OrderWord text = bytes_eq text (codes "sent") || bytes_eq text (codes "random")

-- the names of a table
abbrev pub names_of : List CommandOption → List Text
names_of options = map (λ o. o.name) options

-- the value that is given for each option, if any, is one of its values
abbrev pub values_fit : List CommandOption → List Item → Bool
values_fit options items = list_all
    (λ o. option_map_or (is_value o.values) (value_of o.name items) true) options

-- the values that are given, by name
abbrev pub Given : Type 0
Given = Text → Option Text

-- the values of the items
abbrev pub given_by : List Item → Given
given_by items name = value_of name items

-- what the words give of these options, where they are items of them, each option at most once and
-- each with one of its values
abbrev pub options_given : List CommandOption → List Text → Option Given
options_given options words = option_and_then (λ items.
    if names_once (names_of options) [] items && values_fit options items then Some
    (given_by items) else None)
    (items_of words)
