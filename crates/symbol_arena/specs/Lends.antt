-- Inside: what the bytes end as, once a `&mut` to some of them has ended.
use Rattle.std.specs.Prelude.{ℕ, List}
use Rattle.std.specs.Borrow.{Fml, MutBor, Array, Lends, u8}
use lib.Lanes.{put_chunk}
use Rattle.symbol_arena.specs.declared.memory.Memory.{Memory}
use Rattle.symbol_arena.specs.contracts.memory.Memory.{the_row}

-- the memory with other bytes
abbrev pub with_written : Memory → List ℕ → Memory
with_written m written = record { ptr = m.ptr; size = m.size; written = written }

-- the bytes from the one at `from` on become those that the `&mut` ends with
abbrev pub lends_run : MutBor Memory → ℕ → MutBor (List ℕ) → Fml
lends_run m from run = Lends the_row (Array u8 0) m run
    (λ bytes. with_written m.now (put_chunk from m.now.written bytes))
