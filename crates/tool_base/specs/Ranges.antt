-- The ranges of the options of a command.
use Rattle.std.specs.Prelude.{◌≡◌, ◌≤◌, ℕ, IfSome, true}
use Rattle.oti_fields.specs.Grids.{grid_size, is_grid}
use Rattle.loss_patterns.specs.Ranges.{IsLoss}
use Rattle.loss_patterns.specs.declared.kind.LossKind.{LossKind}
use Rattle.tool_base.specs.declared.command.Command.{Command}
use Rattle.tool_base.specs.declared.command.Command.TheVariants as command
use Rattle.tool_base.specs.declared.command.Shape.{Shape}

-- the options of a code are in their ranges, and a grid has the default of N1, which it doesn't use
pub record IsShapeInRange (shape : Shape) : Type 0 where
  pub n1 : 3 ≤ shape.n1
  pub n1_most : shape.n1 ≤ 10
  pub seed : 1 ≤ shape.seed
  pub seed_most : shape.seed ≤ 2147483646
  pub width : 1 ≤ shape.width
  pub width_most : shape.width ≤ 65536
  pub grid_n1 : is_grid shape.codec ≡ true → shape.n1 ≡ 3

-- the options of `encode` are in their ranges, and a grid has the size that follows from the others
pub record IsEncodeInRange (shape : Shape) (symbol block max_n format : ℕ) : Type 0 where
  pub shape_in_range : IsShapeInRange shape
  pub symbol_some : 1 ≤ symbol
  pub symbol_most : symbol ≤ 65535
  pub block_some : 1 ≤ block
  pub block_most : block ≤ max_n
  pub max_n_most : max_n ≤ 65536
  pub grid_fits : IfSome (grid_size shape.codec block shape.width) (λ size. max_n ≡ size)
  pub format_some : 1 ≤ format
  pub format_most : format ≤ 2

-- the options of `lose` are in their ranges
pub record IsLoseInRange (kind : LossKind) (seed packets : ℕ) : Type 0 where
  pub loss_in_range : IsLoss kind
  pub seed_some : 1 ≤ seed
  pub seed_most : seed ≤ 2147483646
  pub packets_most : packets ≤ 16777216

-- the options of `perf` are in their ranges, and a grid has the size that follows from the others
pub record IsPerfInRange (shape : Shape) (symbol k n : ℕ) (kind : LossKind) (runs run_seed : ℕ)
    : Type 0 where
  pub shape_in_range : IsShapeInRange shape
  pub symbol_some : 1 ≤ symbol
  pub symbol_most : symbol ≤ 65535
  pub k_some : 1 ≤ k
  pub k_most : k ≤ n
  pub n_most : n ≤ 65536
  pub grid_fits : IfSome (grid_size shape.codec k shape.width) (λ size. n ≡ size)
  pub loss_in_range : IsLoss kind
  pub runs_some : 1 ≤ runs
  pub runs_most : runs ≤ 1000
  pub run_seed_some : 1 ≤ run_seed
  pub run_seed_most : run_seed ≤ 2147483646

-- the option of `frame` and `unframe` is in its range
pub record IsFrameInRange (symbol : ℕ) : Type 0 where
  pub symbol_room : 3 ≤ symbol
  pub symbol_most : symbol ≤ 65535

-- the options of a command are in their ranges
abbrev pub IsInRange : Command → Type 0
IsInRange (command.Encode shape symbol block max_n format) =
    IsEncodeInRange shape symbol block max_n format
IsInRange (command.Decode draws early packets) = packets ≤ 16777216
IsInRange (command.Lose kind seed packets) = IsLoseInRange kind seed packets
IsInRange (command.Show packets) = packets ≤ 16777216
IsInRange (command.Upgrade packets) = packets ≤ 16777216
IsInRange (command.Perf shape symbol k n kind random runs run_seed threshold) =
    IsPerfInRange shape symbol k n kind runs run_seed
IsInRange (command.Frame symbol) = IsFrameInRange symbol
IsInRange (command.Unframe symbol) = IsFrameInRange symbol
IsInRange (command.Salvage draws packets) = packets ≤ 16777216
