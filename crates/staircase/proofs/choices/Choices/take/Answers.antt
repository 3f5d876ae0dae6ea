use Rattle.std.proofs.Common.{◌-◌, List, ℕ, ap, ap₂, ◌∙◌, length-set}
use Rattle.staircase.specs.LeftSide.{without}
use Rattle.staircase.proofs.Counted.{row_below, rest_is, positive, taken}
use Rattle.staircase.proofs.choices.Choices.take.Goals as goal

pub overflow_sub-index_mut : goal.overflow_sub-index_mut
overflow_sub-index_mut c =
    let s = c.self.inside in
    positive s.first s.items.items s.counts.items c.self.invariant c.args.i
    (rw (ap (λ v. v.list) c.self.view_is) c.requires) c.index-row.result.now c.index.result.now
    c.index-row.ensures c.index.ensures c.index_mut-2.result.now c.index_mut-2.ensures.value

pub invariant_of-self : goal.invariant_of-self
invariant_of-self c =
    let s = c.self.inside in
    taken s.first s.items.items s.counts.items c.self.invariant c.args.i
    (rw (ap (λ v. v.list) c.self.view_is) c.requires) c.index-row.result.now c.index.result.now
    c.index-row.ensures c.index.ensures c.index_mut-2.result.now c.index_mut-2.ensures.value

pub returns-clause-below : goal.returns-clause-below
returns-clause-below c =
    let s = c.self.inside in
    let below = row_below s.first s.items.items s.counts.items c.self.invariant c.args.i
    (rw (ap (λ v. v.list) c.self.view_is) c.requires) c.index-row.result.now c.index.result.now
    c.index-row.ensures c.index.ensures in
    rw (ap (λ v. v.rows) c.self.view_is) at below

pub returns-clause-rest : goal.returns-clause-rest
returns-clause-rest c =
    let s = c.self.inside in
    let left = rest_is s.first s.items.items s.counts.items c.self.invariant c.args.i
    (rw (ap (λ v. v.list) c.self.view_is) c.requires) c.index-row.result.now c.index.result.now
    c.index-row.ensures c.index.ensures in
    ap₂ (λ (rows : ℕ) (list : List ℕ). record { rows = rows; list = list })
    (length-set s.counts.items c.index-row.result.now (c.index_mut-2.result.now - 1)
    ∙ ap (λ v. v.rows) c.self.view_is) (left ∙ ap (λ v. without v.list c.args.i) c.self.view_is)
