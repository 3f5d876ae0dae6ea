-- What the words of a command line ask for: a command with its options.
use Rattle.std.specs.Prelude.{List, [], ◌∷◌, Option, Some, None, codes}
use Rattle.std.specs.Prelude.{if◌then◌else◌, option_and_then, option_map}
use Rattle.std.specs.Str.{bytes_eq}
use Rattle.tool_base.specs.Items.{Text}
use Rattle.tool_base.specs.Options.{CommandOption, Given, options_given, takes_number, takes_range}
use Rattle.tool_base.specs.Table.{block_option, codec_option, draws_option, early_option, k_option}
use Rattle.tool_base.specs.Table.{format_option, frame_symbol_option, loss_option, max_n_option}
use Rattle.tool_base.specs.Table.{n1_option, n_option}
use Rattle.tool_base.specs.Table.{order_option, packets_option, perf_symbol_option, run_seed_option}
use Rattle.tool_base.specs.Table.{runs_option, seed_option, symbol_option, threshold_option}
use Rattle.tool_base.specs.Table.{width_option}
use Rattle.tool_base.specs.Given.{is_random, is_yes, loss_given, number_given, number_or, shape_of}
use Rattle.tool_base.specs.Given.{symbols_given}
use Rattle.tool_base.specs.declared.command.Command.{Command}
use Rattle.tool_base.specs.declared.command.Command.TheVariants as command
use Rattle.tool_base.specs.declared.words.CommandWord.{CommandWord}
use Rattle.tool_base.specs.declared.words.CommandWord.TheVariants as word

-- the options of `encode`
abbrev pub encode_options : List CommandOption
encode_options =
    codec_option
    ∷ takes_number symbol_option
    ∷ takes_number n1_option
    ∷ takes_number seed_option
    ∷ takes_number width_option
    ∷ takes_number block_option
    ∷ takes_range max_n_option
    ∷ takes_range draws_option
    ∷ takes_number format_option
    ∷ []

-- the `encode` that is given; none where the codec excludes an option, or the number of encoding
-- symbols is out of its range
abbrev pub encode_of : Given → Option Command
encode_of given =
    let block = number_or block_option given in
    option_and_then
    (λ shape. option_map
    (λ max_n. command.Encode shape (number_or symbol_option given) block max_n
    (number_or format_option given))
    (symbols_given max_n_option shape block given)) (shape_of max_n_option given)

-- the options of `decode`
abbrev pub decode_options : List CommandOption
decode_options =
    takes_range draws_option ∷ early_option ∷ takes_number packets_option ∷ []

-- the `decode` that is given
abbrev pub decode_of : Given → Command
decode_of given = command.Decode (number_given draws_option given) (is_yes early_option given)
    (number_or packets_option given)

-- the options of `lose`
abbrev pub lose_options : List CommandOption
lose_options =
    loss_option ∷ takes_number seed_option ∷ takes_number packets_option ∷ []

-- the `lose` that is given
abbrev pub lose_of : Given → Command
lose_of given = command.Lose (loss_given given) (number_or seed_option given)
    (number_or packets_option given)

-- the options of `show`
abbrev pub show_options : List CommandOption
show_options = takes_number packets_option ∷ []

-- the `show` that is given
abbrev pub show_of : Given → Command
show_of given = command.Show (number_or packets_option given)

-- the options of `upgrade`
abbrev pub upgrade_options : List CommandOption
upgrade_options = takes_number packets_option ∷ []

-- the `upgrade` that is given
abbrev pub upgrade_of : Given → Command
upgrade_of given = command.Upgrade (number_or packets_option given)

-- the options of `perf`
abbrev pub perf_options : List CommandOption
perf_options =
    codec_option
    ∷ takes_number perf_symbol_option
    ∷ takes_number n1_option
    ∷ takes_number seed_option
    ∷ takes_number width_option
    ∷ takes_range draws_option
    ∷ takes_number k_option
    ∷ takes_range n_option
    ∷ loss_option
    ∷ order_option
    ∷ takes_number runs_option
    ∷ takes_number run_seed_option
    ∷ threshold_option
    ∷ []

-- the `perf` that is given; none where the codec excludes an option, or the number of encoding
-- symbols is out of its range
abbrev pub perf_of : Given → Option Command
perf_of given =
    let k = number_or k_option given in
    option_and_then
    (λ shape. option_map
    (λ n. command.Perf shape (number_or perf_symbol_option given) k n (loss_given given)
    (is_random given) (number_or runs_option given) (number_or run_seed_option given)
    (is_yes threshold_option given))
    (symbols_given n_option shape k given)) (shape_of n_option given)

-- the options of `frame` and of `unframe`
abbrev pub frame_options : List CommandOption
frame_options = takes_number frame_symbol_option ∷ []

-- the `frame` that is given
abbrev pub frame_of : Given → Command
frame_of given = command.Frame (number_or frame_symbol_option given)

-- the `unframe` that is given
abbrev pub unframe_of : Given → Command
unframe_of given = command.Unframe (number_or frame_symbol_option given)

-- the options of `salvage`
abbrev pub salvage_options : List CommandOption
salvage_options = takes_range draws_option ∷ takes_number packets_option ∷ []

-- the `salvage` that is given
abbrev pub salvage_of : Given → Command
salvage_of given =
    command.Salvage (number_given draws_option given) (number_or packets_option given)

-- the command that its first word names
abbrev pub command_word_of : Text → Option CommandWord
command_word_of text =
    if bytes_eq text (codes "encode") then Some word.Encode
    else if bytes_eq text (codes "decode") then Some word.Decode
    else if bytes_eq text (codes "lose") then Some word.Lose
    else if bytes_eq text (codes "show") then Some word.Show
    else if bytes_eq text (codes "upgrade") then Some word.Upgrade
    else if bytes_eq text (codes "perf") then Some word.Perf
    else if bytes_eq text (codes "frame") then Some word.Frame
    else if bytes_eq text (codes "unframe") then Some word.Unframe
    else if bytes_eq text (codes "salvage") then Some word.Salvage
    else None

-- the command that the words after its first word ask for
abbrev pub command_after : List Text → CommandWord → Option Command
command_after words word.Encode = option_and_then encode_of (options_given encode_options words)
command_after words word.Decode = option_map decode_of (options_given decode_options words)
command_after words word.Lose = option_map lose_of (options_given lose_options words)
command_after words word.Show = option_map show_of (options_given show_options words)
command_after words word.Upgrade = option_map upgrade_of (options_given upgrade_options words)
command_after words word.Perf = option_and_then perf_of (options_given perf_options words)
command_after words word.Frame = option_map frame_of (options_given frame_options words)
command_after words word.Unframe = option_map unframe_of (options_given frame_options words)
command_after words word.Salvage = option_map salvage_of (options_given salvage_options words)

-- the command that the words ask for; none where they are usage
abbrev pub command_of : List Text → Option Command
command_of [] = None
command_of (first ∷ words) = option_and_then (command_after words) (command_word_of first)
