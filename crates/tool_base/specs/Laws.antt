-- What the words give of a table is read as it stands, and never as something else or a default.
use Rattle.std.specs.Prelude.{◌≡◌, ℕ, List, Some, if◌then◌else◌, codes}
use Rattle.std.specs.List.{Contains}
use Rattle.loss_patterns.specs.Kinds.{loss_of}
use Rattle.loss_patterns.specs.Numbers.{number_in}
use Rattle.tool_base.specs.Items.{Text}
use Rattle.tool_base.specs.Options.{CommandOption, Given, RangeOption, codec_of, options_given}
use Rattle.tool_base.specs.Options.{takes, takes_range}
use Rattle.tool_base.specs.Table.{codec_option, loss_option, order_option}
use Rattle.tool_base.specs.Given.{codec_given, is_random, is_yes, loss_given, number_given}
use Rattle.tool_base.specs.declared.options.ValueKind.TheVariants.{YesOrNo}

-- the words give this text for an option of the table
pub record GivesText (options : List CommandOption) (words : List Text) (given : Given)
    (option : CommandOption) (text : Text) : Type 0 where
  pub passes : options_given options words ≡ Some given
  pub among : Contains options option
  pub stands : given option.name ≡ Some text

-- a text that is given for an option with numbers writes the number that is read
abbrev pub NumbersAreRead : Type 0
NumbersAreRead = (options : List CommandOption) (words : List Text) (given : Given)
    (option : RangeOption) (text : Text)
    → GivesText options words given (takes_range option) text
    → (n : ℕ) × (number_in option.low option.high text ≡ Some n)
    × (number_given option given ≡ Some n)

-- a text that is given for the codec is the word of the one that is read
abbrev pub CodecsAreRead : Type 0
CodecsAreRead = (options : List CommandOption) (words : List Text) (given : Given) (text : Text)
    → GivesText options words given codec_option text
    → codec_of text ≡ Some (codec_given given)

-- a text that is given for the loss is that of the one that is read
abbrev pub LossesAreRead : Type 0
LossesAreRead = (options : List CommandOption) (words : List Text) (given : Given) (text : Text)
    → GivesText options words given loss_option text
    → loss_of text ≡ Some (loss_given given)

-- a text that is given for the order is the word of the one that is read
abbrev pub OrdersAreRead : Type 0
OrdersAreRead = (options : List CommandOption) (words : List Text) (given : Given) (text : Text)
    → GivesText options words given order_option text
    → text ≡ (if is_random given then codes "random" else codes "sent")

-- a text that is given for an option with `yes` and `no` is the one of them that is read
abbrev pub AnswersAreRead : Type 0
AnswersAreRead = (options : List CommandOption) (words : List Text) (given : Given) (name : Text)
    (text : Text)
    → GivesText options words given (takes name YesOrNo) text
    → text ≡ (if is_yes (takes name YesOrNo) given then codes "yes" else codes "no")
