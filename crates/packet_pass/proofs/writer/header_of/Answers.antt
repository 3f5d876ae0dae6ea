use Rattle.std.proofs.Common.{refl, sym, ap, ◌∙◌}
use Rattle.packet_file.specs.Files.{upgraded}
use Rattle.packet_file.specs.declared.version.Version.TheVariants.{Two}
use Rattle.packet_pass.specs.Writing.{written_as}
use Rattle.packet_pass.specs.declared.kind.Pass.{Pass}
use Rattle.packet_pass.proofs.writer.header_of.Goals as goal

pub returns-in-Upgrade : goal.returns-in-Upgrade
returns-in-Upgrade c = c.with_version.ensures Two refl ∙ ap upgraded c.copy-in-Upgrade.ensures
    ∙ sym (ap (λ (q : Pass). written_as q c.args.header.now) c.in-Upgrade.is)
