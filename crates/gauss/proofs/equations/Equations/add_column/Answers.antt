use Rattle.std.proofs.Common.{◌<◌, All, ℕ, List, length, drop, sym, ap, ◌∙◌, subst, arith}
use Rattle.std.proofs.lemmas.List.{take_at}
use Rattle.gauss.specs.Equations.{System}
use Rattle.gauss.specs.Filling.{equation_at, with_equation, with_unknown}
use Rattle.gauss.specs.Packed.{packed_system, width_of}
use Rattle.gauss.proofs.Words.{row_room}
use Rattle.gauss.proofs.Building.{inside_rows, with_column}
use Rattle.gauss.proofs.equations.Equations.add_column.Goals as goal

pub put-requires-clause-row : goal.put-requires-clause-row
put-requires-clause-row c =
    let i = c.self.inside in
    let lt : c.args.r < i.rows = inside_rows i.unknowns i.len i.rows c.args.r i.words.items i.sums
    c.args.self.now c.self.view_is c.requires.equation in
    rw c.width_of-width.ensures (omega (
      arith,
      row_room i.rows (width_of i.unknowns) c.args.r lt,
      c.self.invariant.row_words,
      ap length c.deref_mut.ensures.value,
    ))

pub put-requires-clause-bit : goal.put-requires-clause-bit
put-requires-clause-bit c = omega (
  arith,
  c.width_of-width.ensures,
  c.requires.unknown,
  ap (λ (s : System). s.unknowns) c.self.view_is,
)

pub returns : goal.returns
returns c =
    let i = c.self.inside in
    let old : List ℕ = c.deref_mut.result.now in
    let new : List ℕ = c.put.new.words in
    let lt : c.args.r < i.rows = inside_rows i.unknowns i.len i.rows c.args.r i.words.items i.sums
    c.args.self.now c.self.view_is c.requires.equation in
    let unknown : c.args.c < i.unknowns =
    omega (arith, c.requires.unknown, ap (λ (s : System). s.unknowns) c.self.view_is) in
    let behind : All (λ d. d < c.args.c)
    (equation_at (packed_system i.unknowns i.len i.rows i.words.items i.sums) c.args.r).unknowns
    = subst (λ (s : System). All (λ d. d < c.args.c) (equation_at s c.args.r).unknowns)
    (sym c.self.view_is) c.requires.behind in
    let back = take_at new (drop (length new) i.words.items) i.words.len
    (omega (arith, c.put.auto.words, c.deref_mut.ensures.len)) in
    ap (λ ws. packed_system i.unknowns i.len i.rows ws i.sums) back
    ∙ with_column i.unknowns i.len i.rows i.words.items new i.sums c.args.r c.args.c lt unknown
    behind
    (rw (c.deref_mut.ensures.value, c.width_of-width.ensures) at c.put.ensures.row)
    (rw (c.deref_mut.ensures.value, c.width_of-width.ensures) at c.put.ensures.others)
    ∙ ap (λ (s : System). with_equation s c.args.r (with_unknown c.args.c (equation_at s c.args.r)))
    c.self.view_is
