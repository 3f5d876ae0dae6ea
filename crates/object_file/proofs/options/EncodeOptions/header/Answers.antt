use Rattle.std.proofs.Common.{◌≡◌, ap, ◌∙◌, subst, Some}
use Rattle.packet_file.specs.Header.{HeaderFields, size_fault}
use Rattle.object_file.specs.Options.{version_of}
use Rattle.object_file.proofs.Versions.{header_by, version_is}
use Rattle.object_file.proofs.options.EncodeOptions.header.Goals as goal

pub returns-in-Ok-clause-ok : goal.returns-in-Ok-clause-ok
returns-in-Ok-clause-ok c =
    let o = c.args.self.now in
    let version = version_of o.format in
    c.with_version.ensures version
    (version_is o.format c.requires.range.format_some c.requires.range.format_most)
    ∙ ap (λ (h : HeaderFields). record h { version = version }) c.in-Ok.ensures.ok
    ∙ ap (header_by o c.args.length version) c.seed_field.ensures

pub returns-in-Err-clause-err : goal.returns-in-Err-clause-err
returns-in-Err-clause-err c =
    let o = c.args.self.now in
    subst (λ seed. size_fault (header_by o c.args.length (version_of o.format) seed)
    ≡ Some c.in-Err.fault) c.seed_field.ensures c.in-Err.ensures.err
