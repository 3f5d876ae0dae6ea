use Rattle.std.proofs.Common.{ℕ, List, ap, ◌∙◌}
use lib.Lanes.{chunk, put_chunk}
use Rattle.symbol_arena.proofs.Whole.{all_read, whole_written}
use Rattle.symbol_arena.proofs.block.Block.copy.Goals as goal

pub returns : goal.returns
returns c =
    let inside = c.self.inside in
    whole_written c.write_zeros.new.memory.written c.args.self.now c.run_mut.result.now
    c.copy_run.new.all
    inside.size c.write_zeros.ensures.all (c.write_zeros.ensures.same ∙ c.self.view_is)
    c.run_mut.ensures.value c.copy_run.auto.all
    ∙ c.copy_run.ensures ∙ ap (λ (all : List ℕ). put_chunk c.args.dst all
    (chunk c.args.src c.args.len all))
    (all_read c.write_zeros.new.memory.written c.args.self.now c.run_mut.result.now inside.size
    c.write_zeros.ensures.all (c.write_zeros.ensures.same ∙ c.self.view_is) c.run_mut.ensures.value)
