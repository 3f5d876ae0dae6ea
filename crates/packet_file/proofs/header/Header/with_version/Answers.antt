use Rattle.std.proofs.Common.{sym, ⊎_elim}
use Rattle.packet_file.specs.declared.version.Version.TheVariants.{One, Two}
use Rattle.packet_file.proofs.header.Header.with_version.Goals as goal

pub unreachable-requires : goal.unreachable-requires
unreachable-requires c = ⊎_elim (λ one. c.in-None.ensures One (sym one))
    (λ two. c.in-None.ensures Two (sym two)) c.requires
