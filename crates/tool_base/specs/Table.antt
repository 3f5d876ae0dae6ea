-- The options of the commands, each once: the words are tested and read by these values alone.
use Rattle.std.specs.Prelude.{codes}
use Rattle.tool_base.specs.Options.{CommandOption, NumberOption, RangeOption, numbers, numbers_or}
use Rattle.tool_base.specs.Options.{takes}
use Rattle.tool_base.specs.declared.options.ValueKind.TheVariants.{CodecWord, LossText, OrderWord}
use Rattle.tool_base.specs.declared.options.ValueKind.TheVariants.{YesOrNo}

-- the codec
abbrev pub codec_option : CommandOption
codec_option = takes (codes "codec") CodecWord

-- how many turns a source symbol takes at being put into a row, if there are so many rows
abbrev pub n1_option : NumberOption
n1_option = numbers_or (codes "n1") 3 10 3

-- the seed of a code, or of the draws of `lose`
abbrev pub seed_option : NumberOption
seed_option = numbers_or (codes "seed") 1 2147483646 1

-- the width of a grid
abbrev pub width_option : NumberOption
width_option = numbers_or (codes "width") 1 65536 10

-- how many draws a code may take; without it that goes by the size of the block
abbrev pub draws_option : RangeOption
draws_option = numbers (codes "draws") 0 4294967295

-- the length of a symbol in bytes, for `encode`
abbrev pub symbol_option : NumberOption
symbol_option = numbers_or (codes "symbol") 1 65535 1024

-- the length of a symbol in bytes, for `perf`
abbrev pub perf_symbol_option : NumberOption
perf_symbol_option = numbers_or (codes "symbol") 1 65535 16

-- the length of a symbol in bytes, for `frame` and `unframe`
abbrev pub frame_symbol_option : NumberOption
frame_symbol_option = numbers_or (codes "symbol") 3 65535 1024

-- the greatest number of source symbols of a block
abbrev pub block_option : NumberOption
block_option = numbers_or (codes "block") 1 65536 1000

-- the greatest number of encoding symbols of a block; without it that goes by `block`
abbrev pub max_n_option : RangeOption
max_n_option = numbers (codes "max-n") 1 65536

-- the number of source symbols
abbrev pub k_option : NumberOption
k_option = numbers_or (codes "k") 1 65536 1000

-- the number of encoding symbols; without it that goes by `k`
abbrev pub n_option : RangeOption
n_option = numbers (codes "n") 1 65536

-- whether to stop early
abbrev pub early_option : CommandOption
early_option = takes (codes "early") YesOrNo

-- the version of the packet file that `encode` makes
abbrev pub format_option : NumberOption
format_option = numbers_or (codes "format") 1 2 1

-- how many packets may be read
abbrev pub packets_option : NumberOption
packets_option = numbers_or (codes "packets") 0 16777216 16777216

-- the loss
abbrev pub loss_option : CommandOption
loss_option = takes (codes "loss") LossText

-- the order of sending
abbrev pub order_option : CommandOption
order_option = takes (codes "order") OrderWord

-- the number of runs
abbrev pub runs_option : NumberOption
runs_option = numbers_or (codes "runs") 1 1000 1

-- the seed of all that `perf` draws
abbrev pub run_seed_option : NumberOption
run_seed_option = numbers_or (codes "run-seed") 1 2147483646 1

-- whether each run tells how many of the symbols that arrive determine the block
abbrev pub threshold_option : CommandOption
threshold_option = takes (codes "threshold") YesOrNo
