-- A `&` to the memory shows its pointer and the bytes that were written.
use denote.Struct.Field.{RawPtr-field}
use denote.Struct.Laws.{RawPtr-copy}
use denote.Struct.Lending.{of_Lends}
use denote.Param.Shared.{copy_shared}
use Rattle.symbol_arena.specs.contracts.memory.Memory as memory
use Rattle.symbol_arena.proofs.memory.Memory.TheLaw.Statement.{statement}
use Rattle.symbol_arena.proofs.Shown.{memory_laws, Lends-memory}

pub shares : statement
shares =
    of_Lends memory.struct memory.the_codes memory.the_heap memory.the_lent
    (λ m p. memory_laws m.ptr m.written) (copy_shared RawPtr-field RawPtr-copy, tt)
    (λ M 𝓤 𝓛 m p. Lends-memory 𝓛 memory.the_row.lives m.ptr m.size m.written)
