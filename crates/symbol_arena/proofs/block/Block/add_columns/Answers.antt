use Rattle.std.proofs.Common.{◌+◌, ◌*◌, ℕ, List, get_or, ap, ◌∙◌}
use Rattle.xor_lanes.specs.Sums.{summed_byte}
use Rattle.symbol_arena.proofs.Whole.{all_read, whole_written}
use Rattle.symbol_arena.proofs.block.Block.add_columns.Goals as goal

pub returns-clause-sum : goal.returns-clause-sum
returns-clause-sum c = λ j lt.
    let inside = c.self.inside in
    ap (λ (ys : List ℕ). get_or ys (c.args.own * c.args.stride + j) 0)
    (whole_written c.write_zeros.new.memory.written c.args.self.now c.run_mut.result.now
    c.add_columns.new.all
    inside.size c.write_zeros.ensures.all (c.write_zeros.ensures.same ∙ c.self.view_is)
    c.run_mut.ensures.value
    c.add_columns.auto.all)
    ∙ c.add_columns.ensures.sum j lt ∙ ap (λ (ys : List ℕ). summed_byte ys c.args.stride c.args.own
    c.args.columns.now j)
    (all_read c.write_zeros.new.memory.written c.args.self.now c.run_mut.result.now inside.size
    c.write_zeros.ensures.all (c.write_zeros.ensures.same ∙ c.self.view_is) c.run_mut.ensures.value)

pub returns-clause-rest : goal.returns-clause-rest
returns-clause-rest c = λ k out.
    let inside = c.self.inside in
    ap (λ (ys : List ℕ). get_or ys k 0)
    (whole_written c.write_zeros.new.memory.written c.args.self.now c.run_mut.result.now
    c.add_columns.new.all
    inside.size c.write_zeros.ensures.all (c.write_zeros.ensures.same ∙ c.self.view_is)
    c.run_mut.ensures.value
    c.add_columns.auto.all)
    ∙ c.add_columns.ensures.rest k out ∙ ap (λ (ys : List ℕ). get_or ys k 0)
    (all_read c.write_zeros.new.memory.written c.args.self.now c.run_mut.result.now inside.size
    c.write_zeros.ensures.all (c.write_zeros.ensures.same ∙ c.self.view_is) c.run_mut.ensures.value)
