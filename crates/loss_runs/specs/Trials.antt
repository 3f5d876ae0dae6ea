-- What the runs of a code are made from, and what a generator makes of a seed.
use Rattle.std.specs.Prelude.{ℕ, ◌+◌, ◌-◌, ◌*◌, Bool, List, map, filter, if◌then◌else◌}
use Rattle.std.specs.List.{range_with_len, enumerate_from}
use Rattle.fec_base.specs.Symbol.{symbols_of}
use Rattle.park_miller.specs.Generator.{after, drawn}
use Rattle.sparse_rows.specs.Matrix.{Matrix}
use Rattle.sparse_rows.specs.Codeword.{Arrival, symbol_at}
use Rattle.loss_patterns.specs.Keeps.{draws_for, keeps}
use Rattle.loss_patterns.specs.Order.{order}
use Rattle.loss_patterns.specs.declared.kind.LossKind.{LossKind}
use Rattle.loss_runs.specs.declared.plan.RunPlan.{RunPlan}

-- a code, the length of a symbol, what gets lost of each run, whether each run's sending order is
-- drawn, the state that the draws begin with, and whether each run finds how many of the kept
-- symbols determine the block
pub record Trial : Type 0 where
  pub matrix : Matrix
  pub len : ℕ
  pub loss : LossKind
  pub random : Bool
  pub seed : ℕ
  pub threshold : Bool

-- the trial of a plan with a code
abbrev pub trial_of : RunPlan → Matrix → Trial
trial_of p m = record {
  matrix = m;
  len = p.symbol;
  loss = p.loss;
  random = p.random;
  seed = p.seed;
  threshold = p.threshold;
}

-- the values of so many draws below 256, from a state on
abbrev pub drawn_bytes : ℕ → ℕ → List ℕ
drawn_bytes count state = map (λ i. drawn 256 (after (i + 1) state)) (range_with_len 0 count)

-- the source block: its bytes, one symbol after the other, are the first draws
abbrev pub source_of : Trial → List (List ℕ)
source_of t = symbols_of t.len t.matrix.k (drawn_bytes (t.matrix.k * t.len) t.seed)

-- how many draws a run's sending order takes: a shuffle's, or none
abbrev pub order_draws : Trial → ℕ
order_draws t = if t.random then t.matrix.n - 1 else 0

-- how many draws a run takes: those of its order, and those of its loss
abbrev pub run_draws : Trial → ℕ
run_draws t = order_draws t + draws_for t.loss t.matrix.n

-- the state with which run r begins, counted from 0: behind the source block and the runs before it
abbrev pub start_of : Trial → ℕ → ℕ
start_of t r = after (t.matrix.k * t.len + r * run_draws t) t.seed

-- the order in which run r sends the encoding symbols: shuffled, or as they are
abbrev pub order_of : Trial → ℕ → List ℕ
order_of t r =
    if t.random then order t.matrix.n (start_of t r) else range_with_len 0 t.matrix.n

-- the state with which the loss of run r begins: behind the draws of its order
abbrev pub loss_start : Trial → ℕ → ℕ
loss_start t r = after (order_draws t) (start_of t r)

-- the items of a list whose places, counted from 0, pass a test
abbrev pub items_where : (ℕ → Bool) → List ℕ → List ℕ
items_where test items =
    map (λ (p : ℕ × ℕ). p.1) (filter (λ (p : ℕ × ℕ). test p.0) (enumerate_from 0 items))

-- the positions that run r keeps, in the order in which they are sent: the loss is a new one, and
-- counts the places of the order
abbrev pub kept_by : Trial → ℕ → List ℕ
kept_by t r = items_where (keeps t.loss (loss_start t r)) (order_of t r)

-- what arrives of these positions: each with its symbol of the codeword
abbrev pub arrivals_of : ℕ → List (List ℕ) → List ℕ → List Arrival
arrivals_of len word positions = map (λ e. (e, symbol_at len word e)) positions
