use Rattle.gauss.proofs.freedom.free_unknowns.Goals as goal

pub returns : goal.returns
returns c = (rw (c.deref.ensures.value, c.deref-2.ensures.value, c.deref-3.ensures.value) at
    c.in_ok-free.ensures) c.args.eqs c.in_ok-done.ensures
