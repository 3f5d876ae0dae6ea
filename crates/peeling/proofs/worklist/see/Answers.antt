use Rattle.std.proofs.Common.{◌≡◌, ◌<◌, ◌+◌, ℕ, inl, inr, true, [], ◌∷◌, length, length-append, set}
use Rattle.std.proofs.Common.{ap, ◌∙◌, ◌==◌, arith}
use Rattle.sparse_rows.specs.Closure.{Set, flagged}
use Rattle.sparse_rows.proofs.Sets.{or_first}
use Rattle.peeling.specs.Peeled.{unset_count}
use Rattle.peeling.proofs.Flags.{flagged_set, unset_less}
use Rattle.peeling.proofs.Seen.{row_within, row_inside, column_inside, cells_long, next_long}
use Rattle.peeling.proofs.Seen.{column_short}
use Rattle.peeling.proofs.Seen.{left_below, worked_none, worked_some, worked_one}
use Rattle.peeling.proofs.Listed.{listed_push}
use Rattle.peeling.proofs.worklist.see.Goals as goal

pub slice_copy_out-without : goal.slice_copy_out-without
slice_copy_out-without g c = row_inside c.args.code.now c.requires.code c.requires.worked.0 c.args.c
    c.args.i c.requires.place c.col_entry-r.result c.col_entry-r.ensures.value c.requires.worked.1
    c.requires.worked.6 c.args.known.now c.args.symbols.now c.args.rows.now c.requires.worked.7.kept
    c.requires.worked.7.counted c.requires.column

pub without-left-requires : goal.without-left-requires
without-left-requires g c = column_short c.args.code.now c.requires.code c.requires.worked.0
    c.args.c c.args.i c.requires.place c.col_entry-r.result c.col_entry-r.ensures.value
    c.requires.worked.1 c.requires.worked.6 c.args.known.now c.args.symbols.now c.args.rows.now
    c.requires.worked.7.kept c.requires.worked.7.counted c.requires.column

pub bounds-rows-r : goal.bounds-rows-r
bounds-rows-r g c = row_inside c.args.code.now c.requires.code c.requires.worked.0 c.args.c c.args.i
    c.requires.place c.col_entry-r.result c.col_entry-r.ensures.value c.requires.worked.1
    c.requires.worked.6 c.args.known.now c.args.symbols.now c.args.rows.now c.requires.worked.7.kept
    c.requires.worked.7.counted c.requires.column

pub overflow_add-sum : goal.overflow_add-sum
overflow_add-sum g c = omega (
  arith,
  row_within c.args.code.now c.requires.code c.requires.worked.0
      c.args.c c.args.i c.requires.place c.col_entry-r.result c.col_entry-r.ensures.value
      c.requires.worked.1 c.requires.worked.6,
  c.n.ensures.value,
  c.requires.code.shape.count,
  c.requires.code.most,
)

pub add-requires-clause-dst : goal.add-requires-clause-dst
add-requires-clause-dst g c = omega (
  arith,
  cells_long c.args.code.now c.requires.code c.requires.worked.0 c.args.c c.args.i
      c.requires.place c.col_entry-r.result c.col_entry-r.ensures.value c.requires.worked.1
      c.requires.worked.6 c.args.known.now c.args.symbols.now c.args.rows.now
      c.requires.worked.7.kept
      c.requires.worked.7.counted c.requires.column,
  row_within c.args.code.now c.requires.code
      c.requires.worked.0 c.args.c c.args.i c.requires.place c.col_entry-r.result
      c.col_entry-r.ensures.value c.requires.worked.1 c.requires.worked.6,
  c.n.ensures.value,
)

pub add-requires-clause-src : goal.add-requires-clause-src
add-requires-clause-src g c = omega (
  arith,
  cells_long c.args.code.now c.requires.code c.requires.worked.0 c.args.c c.args.i
      c.requires.place c.col_entry-r.result c.col_entry-r.ensures.value c.requires.worked.1
      c.requires.worked.6 c.args.known.now c.args.symbols.now c.args.rows.now
      c.requires.worked.7.kept
      c.requires.worked.7.counted c.requires.column,
  column_inside c.args.code.now c.requires.code
      c.requires.worked.0 c.args.c c.args.i c.requires.place c.col_entry-r.result
      c.col_entry-r.ensures.value c.requires.worked.1 c.requires.worked.6 c.args.known.now
      c.args.symbols.now c.args.rows.now c.requires.worked.7.kept c.requires.worked.7.counted
      c.requires.column,
)

pub add-requires-clause-apart : goal.add-requires-clause-apart
add-requires-clause-apart g c = λ e. let below : c.args.c < c.args.code.now.n =
    column_inside c.args.code.now c.requires.code c.requires.worked.0 c.args.c c.args.i
    c.requires.place c.col_entry-r.result c.col_entry-r.ensures.value c.requires.worked.1
    c.requires.worked.6 c.args.known.now c.args.symbols.now c.args.rows.now c.requires.worked.7.kept
    c.requires.worked.7.counted c.requires.column in absurd (omega (arith, c.n.ensures.value))

pub is_zero-requires : goal.is_zero-requires
is_zero-requires g c = omega (
  arith,
  next_long c.args.code.now c.requires.code c.requires.worked.0
      c.args.c c.args.i c.requires.place c.col_entry-r.result c.col_entry-r.ensures.value
      c.requires.worked.1 c.requires.worked.6 c.args.known.now c.args.symbols.now c.args.rows.now
      c.requires.worked.7.kept c.requires.worked.7.counted c.requires.column
      (record { count = 0; columns = 0 }) c.without-left.result c.without-left.ensures
      (c.n.result + c.col_entry-r.result) (ap (λ (n : ℕ). n + c.col_entry-r.result)
      c.n.ensures.value)
      c.add.new.self c.add.ensures.sum,
  cells_long c.args.code.now c.requires.code c.requires.worked.0
      c.args.c c.args.i c.requires.place c.col_entry-r.result c.col_entry-r.ensures.value
      c.requires.worked.1 c.requires.worked.6 c.args.known.now c.args.symbols.now c.args.rows.now
      c.requires.worked.7.kept c.requires.worked.7.counted c.requires.column,
  row_within
      c.args.code.now c.requires.code c.requires.worked.0 c.args.c c.args.i c.requires.place
      c.col_entry-r.result c.col_entry-r.ensures.value c.requires.worked.1 c.requires.worked.6,
  c.n.ensures.value,
)

pub returns-then-left-eq0-clause-worked : goal.returns-then-left-eq0-clause-worked
returns-then-left-eq0-clause-worked g c = λ len done before base x held unseen h.
    worked_none c.args.code.now c.requires.code len c.args.c c.args.i c.requires.place
    c.col_entry-r.result c.col_entry-r.ensures.value done unseen c.args.known.now
    c.args.symbols.now c.args.rows.now h.kept h.counted c.requires.column
    (record { count = 0; columns = 0 }) c.without-left.result c.without-left.ensures
    (c.n.result + c.col_entry-r.result) (ap (λ (n : ℕ). n + c.col_entry-r.result)
    c.n.ensures.value) c.add.new.self c.add.ensures.sum before base x held h.under_way
    c.if-left-eq0.true c.is_zero.result c.is_zero.ensures

pub bounds-known-d : goal.bounds-known-d
bounds-known-d g c = omega (
  arith,
  c.requires.worked.7.kept.flags,
  left_below c.args.code.now c.requires.code c.requires.worked.0 c.args.c c.args.i
      c.requires.place c.col_entry-r.result c.col_entry-r.ensures.value c.requires.worked.1
      c.requires.worked.6 c.args.known.now c.args.symbols.now c.args.rows.now
      c.requires.worked.7.kept
      c.requires.worked.7.counted c.requires.column (record { count = 0; columns = 0 })
      c.without-left.result c.without-left.ensures (c.n.result + c.col_entry-r.result)
      (ap (λ (n : ℕ). n + c.col_entry-r.result) c.n.ensures.value) c.add.new.self c.add.ensures.sum
      (omega (arith, c.if-left-eq0.false, c.if-left-gt1.false)),
)

pub returns-then-left-gt1-clause-worked : goal.returns-then-left-gt1-clause-worked
returns-then-left-gt1-clause-worked g c = λ len done before base x held unseen h.
    worked_some c.args.code.now c.requires.code len c.args.c c.args.i c.requires.place
    c.col_entry-r.result c.col_entry-r.ensures.value done unseen c.args.known.now
    c.args.symbols.now c.args.rows.now h.kept h.counted c.requires.column
    (record { count = 0; columns = 0 }) c.without-left.result c.without-left.ensures
    (c.n.result + c.col_entry-r.result) (ap (λ (n : ℕ). n + c.col_entry-r.result)
    c.n.ensures.value) c.add.new.self c.add.ensures.sum before base x held h.under_way
    (inl c.if-left-gt1.true)

pub returns-then-known-d-clause-worked : goal.returns-then-known-d-clause-worked
returns-then-known-d-clause-worked g c = λ len done before base x held unseen h.
    worked_some c.args.code.now c.requires.code len c.args.c c.args.i c.requires.place
    c.col_entry-r.result c.col_entry-r.ensures.value done unseen c.args.known.now
    c.args.symbols.now c.args.rows.now h.kept h.counted c.requires.column
    (record { count = 0; columns = 0 }) c.without-left.result c.without-left.ensures
    (c.n.result + c.col_entry-r.result) (ap (λ (n : ℕ). n + c.col_entry-r.result)
    c.n.ensures.value) c.add.new.self c.add.ensures.sum before base x held h.under_way
    (inr ((omega (arith, c.if-left-eq0.false, c.if-left-gt1.false)), c.if-known-d.true))

pub bounds-known-d-2 : goal.bounds-known-d-2
bounds-known-d-2 g c = omega (
  arith,
  c.requires.worked.7.kept.flags,
  left_below c.args.code.now c.requires.code c.requires.worked.0 c.args.c c.args.i
      c.requires.place c.col_entry-r.result c.col_entry-r.ensures.value c.requires.worked.1
      c.requires.worked.6 c.args.known.now c.args.symbols.now c.args.rows.now
      c.requires.worked.7.kept
      c.requires.worked.7.counted c.requires.column (record { count = 0; columns = 0 })
      c.without-left.result c.without-left.ensures (c.n.result + c.col_entry-r.result)
      (ap (λ (n : ℕ). n + c.col_entry-r.result) c.n.ensures.value) c.add.new.self c.add.ensures.sum
      (omega (arith, c.if-left-eq0.false, c.if-left-gt1.false)),
)

pub copy-requires-clause-dst : goal.copy-requires-clause-dst
copy-requires-clause-dst g c =
    omega (
      arith,
      next_long c.args.code.now c.requires.code c.requires.worked.0 c.args.c c.args.i
          c.requires.place c.col_entry-r.result c.col_entry-r.ensures.value c.requires.worked.1
          c.requires.worked.6 c.args.known.now c.args.symbols.now c.args.rows.now
          c.requires.worked.7.kept
          c.requires.worked.7.counted c.requires.column (record { count = 0; columns = 0 })
          c.without-left.result c.without-left.ensures (c.n.result + c.col_entry-r.result)
          (ap (λ (n : ℕ). n + c.col_entry-r.result) c.n.ensures.value) c.add.new.self
          c.add.ensures.sum,
      cells_long c.args.code.now c.requires.code c.requires.worked.0 c.args.c c.args.i
          c.requires.place c.col_entry-r.result c.col_entry-r.ensures.value c.requires.worked.1
          c.requires.worked.6 c.args.known.now c.args.symbols.now c.args.rows.now
          c.requires.worked.7.kept
          c.requires.worked.7.counted c.requires.column,
      left_below c.args.code.now c.requires.code
          c.requires.worked.0 c.args.c c.args.i c.requires.place c.col_entry-r.result
          c.col_entry-r.ensures.value c.requires.worked.1 c.requires.worked.6 c.args.known.now
          c.args.symbols.now c.args.rows.now c.requires.worked.7.kept c.requires.worked.7.counted
          c.requires.column (record { count = 0; columns = 0 }) c.without-left.result
          c.without-left.ensures (c.n.result + c.col_entry-r.result)
          (ap (λ (n : ℕ). n + c.col_entry-r.result) c.n.ensures.value) c.add.new.self
          c.add.ensures.sum
          (omega (arith, c.if-left-eq0.false, c.if-left-gt1.false)),
    )

pub copy-requires-clause-src : goal.copy-requires-clause-src
copy-requires-clause-src g c =
    omega (
      arith,
      next_long c.args.code.now c.requires.code c.requires.worked.0 c.args.c c.args.i
          c.requires.place c.col_entry-r.result c.col_entry-r.ensures.value c.requires.worked.1
          c.requires.worked.6 c.args.known.now c.args.symbols.now c.args.rows.now
          c.requires.worked.7.kept
          c.requires.worked.7.counted c.requires.column (record { count = 0; columns = 0 })
          c.without-left.result c.without-left.ensures (c.n.result + c.col_entry-r.result)
          (ap (λ (n : ℕ). n + c.col_entry-r.result) c.n.ensures.value) c.add.new.self
          c.add.ensures.sum,
      cells_long c.args.code.now c.requires.code c.requires.worked.0 c.args.c c.args.i
          c.requires.place c.col_entry-r.result c.col_entry-r.ensures.value c.requires.worked.1
          c.requires.worked.6 c.args.known.now c.args.symbols.now c.args.rows.now
          c.requires.worked.7.kept
          c.requires.worked.7.counted c.requires.column,
      row_within c.args.code.now c.requires.code
          c.requires.worked.0 c.args.c c.args.i c.requires.place c.col_entry-r.result
          c.col_entry-r.ensures.value c.requires.worked.1 c.requires.worked.6,
      c.n.ensures.value,
    )

pub push_reserved-requires : goal.push_reserved-requires
push_reserved-requires g c =
    let here : c.without-left.result.columns < length c.args.known.now =
    omega (
      arith,
      c.requires.worked.7.kept.flags,
      left_below c.args.code.now c.requires.code c.requires.worked.0 c.args.c c.args.i
          c.requires.place c.col_entry-r.result c.col_entry-r.ensures.value c.requires.worked.1
          c.requires.worked.6 c.args.known.now c.args.symbols.now c.args.rows.now
          c.requires.worked.7.kept c.requires.worked.7.counted c.requires.column
          (record { count = 0; columns = 0 }) c.without-left.result c.without-left.ensures
          (c.n.result + c.col_entry-r.result) (ap (λ (n : ℕ). n + c.col_entry-r.result)
          c.n.ensures.value) c.add.new.self c.add.ensures.sum
          (omega (arith, c.if-left-eq0.false, c.if-left-gt1.false)),
    ) in
    let less : unset_count (set c.args.known.now c.without-left.result.columns true) + 1
    ≡ unset_count c.args.known.now = unset_less c.args.known.now c.without-left.result.columns
    here c.if-known-d.false in
    omega (arith, c.requires.room, c.args.fresh.now.ok.0)

pub returns-clause-worked : goal.returns-clause-worked
returns-clause-worked g c = λ len done before base x held unseen h.
    worked_one c.args.code.now c.requires.code len c.args.c c.args.i c.requires.place
    c.col_entry-r.result c.col_entry-r.ensures.value done unseen c.args.known.now
    c.args.symbols.now c.args.rows.now h.kept h.counted c.requires.column
    (record { count = 0; columns = 0 }) c.without-left.result c.without-left.ensures
    (c.n.result + c.col_entry-r.result) (ap (λ (n : ℕ). n + c.col_entry-r.result)
    c.n.ensures.value) c.add.new.self c.add.ensures.sum before base x held h.under_way
    (omega (arith, c.if-left-eq0.false, c.if-left-gt1.false)) c.if-known-d.false c.copy.new.self
    c.copy.ensures

pub returns-clause-listed : goal.returns-clause-listed
returns-clause-listed g c = λ before h.
    let here : c.without-left.result.columns < length c.args.known.now =
    omega (
      arith,
      c.requires.worked.7.kept.flags,
      left_below c.args.code.now c.requires.code c.requires.worked.0 c.args.c c.args.i
          c.requires.place c.col_entry-r.result c.col_entry-r.ensures.value c.requires.worked.1
          c.requires.worked.6 c.args.known.now c.args.symbols.now c.args.rows.now
          c.requires.worked.7.kept c.requires.worked.7.counted c.requires.column
          (record { count = 0; columns = 0 }) c.without-left.result c.without-left.ensures
          (c.n.result + c.col_entry-r.result) (ap (λ (n : ℕ). n + c.col_entry-r.result)
          c.n.ensures.value) c.add.new.self c.add.ensures.sum
          (omega (arith, c.if-left-eq0.false, c.if-left-gt1.false)),
    ) in
    rw (
      c.push_reserved.ensures.items,
      flagged_set c.args.known.now c.without-left.result.columns
          here,
    ) (listed_push before c.args.fresh.now.items (flagged c.args.known.now)
    c.without-left.result.columns c.if-known-d.false h)

pub returns-clause-count : goal.returns-clause-count
returns-clause-count g c =
    let here : c.without-left.result.columns < length c.args.known.now =
    omega (
      arith,
      c.requires.worked.7.kept.flags,
      left_below c.args.code.now c.requires.code c.requires.worked.0 c.args.c c.args.i
          c.requires.place c.col_entry-r.result c.col_entry-r.ensures.value c.requires.worked.1
          c.requires.worked.6 c.args.known.now c.args.symbols.now c.args.rows.now
          c.requires.worked.7.kept c.requires.worked.7.counted c.requires.column
          (record { count = 0; columns = 0 }) c.without-left.result c.without-left.ensures
          (c.n.result + c.col_entry-r.result) (ap (λ (n : ℕ). n + c.col_entry-r.result)
          c.n.ensures.value) c.add.new.self c.add.ensures.sum
          (omega (arith, c.if-left-eq0.false, c.if-left-gt1.false)),
    ) in
    let less : unset_count (set c.args.known.now c.without-left.result.columns true) + 1
    ≡ unset_count c.args.known.now = unset_less c.args.known.now c.without-left.result.columns
    here c.if-known-d.false in
    omega (
      arith,
      ap length c.push_reserved.ensures.items,
      length-append c.args.fresh.now.items (c.without-left.result.columns ∷ []),
    )

pub returns-clause-known : goal.returns-clause-known
returns-clause-known g c =
    let here : c.without-left.result.columns < length c.args.known.now =
    omega (
      arith,
      c.requires.worked.7.kept.flags,
      left_below c.args.code.now c.requires.code c.requires.worked.0 c.args.c c.args.i
          c.requires.place c.col_entry-r.result c.col_entry-r.ensures.value c.requires.worked.1
          c.requires.worked.6 c.args.known.now c.args.symbols.now c.args.rows.now
          c.requires.worked.7.kept c.requires.worked.7.counted c.requires.column
          (record { count = 0; columns = 0 }) c.without-left.result c.without-left.ensures
          (c.n.result + c.col_entry-r.result) (ap (λ (n : ℕ). n + c.col_entry-r.result)
          c.n.ensures.value) c.add.new.self c.add.ensures.sum
          (omega (arith, c.if-left-eq0.false, c.if-left-gt1.false)),
    ) in
    ap (λ (s : Set). s c.args.c) (flagged_set c.args.known.now c.without-left.result.columns here)
    ∙ or_first (flagged c.args.known.now c.args.c) (c.without-left.result.columns == c.args.c)
    c.requires.column
