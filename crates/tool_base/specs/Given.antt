-- What the values that are given mean, and the defaults where none is given.
use Rattle.std.specs.Prelude.{ℕ, Bool, ◌*◌, ◌/◌, ◌&&◌, List, [], ◌∷◌, Option, Some, None, min}
use Rattle.std.specs.Prelude.{codes, nat_le}
use Rattle.std.specs.Prelude.{if◌then◌else◌, option_and_then, unwrap_or, is_some, true, false}
use Rattle.std.specs.Option.{option_map_or}
use Rattle.std.specs.List.{list_any}
use Rattle.std.specs.Str.{bytes_eq}
use Rattle.oti_fields.specs.Grids.{grid_size, is_grid}
use Rattle.oti_fields.specs.declared.codec.Codec.{Codec}
use Rattle.oti_fields.specs.declared.codec.Codec.TheVariants.{Staircase}
use Rattle.loss_patterns.specs.Kinds.{loss_of}
use Rattle.loss_patterns.specs.Numbers.{number_in}
use Rattle.loss_patterns.specs.declared.kind.LossKind.{LossKind}
use Rattle.loss_patterns.specs.declared.kind.LossKind.TheVariants as loss
use Rattle.tool_base.specs.Items.{Text}
use Rattle.tool_base.specs.Options.{CommandOption, Given, NumberOption, RangeOption, codec_of}
use Rattle.tool_base.specs.Table.{codec_option, draws_option, loss_option, n1_option, order_option}
use Rattle.tool_base.specs.Table.{seed_option, width_option}
use Rattle.tool_base.specs.declared.command.Shape.{Shape}

-- the number that is given, where it is one of the option's
abbrev pub number_given : RangeOption → Given → Option ℕ
number_given o given = option_and_then (number_in o.low o.high) (given o.name)

-- the number that is given, or the default
abbrev pub number_or : NumberOption → Given → ℕ
number_or o given = unwrap_or (number_given o.range given) o.default

-- whether `yes` is given
abbrev pub is_yes : CommandOption → Given → Bool
is_yes o given = option_map_or (λ text. bytes_eq text (codes "yes")) (given o.name) false

-- whether the order is random: it is unless `sent` is given
abbrev pub is_random : Given → Bool
is_random given =
    option_map_or (λ text. bytes_eq text (codes "random")) (given order_option.name) true

-- the codec that is given, or the staircase
abbrev pub codec_given : Given → Codec
codec_given given = unwrap_or (option_and_then codec_of (given codec_option.name)) Staircase

-- the loss that is given, or that of no packet
abbrev pub loss_given : Given → LossKind
loss_given given = unwrap_or (option_and_then loss_of (given loss_option.name)) loss.None

-- whether one of these options is given
abbrev pub gives_any : List Text → Given → Bool
gives_any names given = list_any (λ name. is_some (given name)) names

-- whether an option is given that the codec excludes; `most` is that of the number of encoding
-- symbols
abbrev pub gives_excluded : RangeOption → Given → Bool
gives_excluded most given =
    if is_grid (codec_given given)
    then gives_any (n1_option.range.name ∷ seed_option.range.name ∷ most.name ∷ draws_option.name
    ∷ []) given
    else gives_any (width_option.range.name ∷ []) given

-- the code that is given; none where its codec excludes an option that is given
abbrev pub shape_of : RangeOption → Given → Option Shape
shape_of most given = if gives_excluded most given then None
    else Some (record {
      codec = codec_given given;
      n1 = number_or n1_option given;
      seed = number_or seed_option given;
      width = number_or width_option given;
      draws = number_given draws_option given;
    })

-- the number of encoding symbols of k source symbols: that of the grid, or what is given, or half
-- as many again, at most 65536
abbrev pub symbols_wanted : RangeOption → Shape → ℕ → Given → ℕ
symbols_wanted most shape k given =
    unwrap_or (grid_size shape.codec k shape.width)
    (unwrap_or (number_given most given) (min 65536 (3 * k / 2)))

-- this number, where it is one from k to 65536
abbrev pub symbols_given : RangeOption → Shape → ℕ → Given → Option ℕ
symbols_given most shape k given =
    let n = symbols_wanted most shape k given in
    if nat_le k n && nat_le n 65536 then Some n else None
