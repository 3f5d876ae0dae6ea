use Rattle.std.proofs.Common.{◌≡◌, ◌∙◌, refl}
use Rattle.fec_threshold.specs.ZeroArrivals.{zero_arrivals}
use Rattle.fec_threshold.proofs.Zeros.{fits_some, null_is, source_none}
use Rattle.fec_threshold.proofs.null_words.has_null_word.Goals as goal

pub returns-in-Ok-Block : goal.returns-in-Ok-Block
returns-in-Ok-Block c =
    let d = c.take_zeros-core.result in
    let ps = c.args.positions.now in
    let same : d.matrix ≡ c.args.code.now =
    c.take_zeros-core.ensures.code ∙ c.in-Ok.ensures.empty.matrix ∙ c.in_ok-copy.ensures in
    let verdict = rw c.in-Ok-Block.field-0-is at c.in-Ok-Block.ensures.verdict in
    let told = verdict (zero_arrivals ps) c.take_zeros-core.ensures.stands in (
      λ yes. absurd (cc yes),
      λ some. absurd (source_none d c.args.code.now same c.take_zeros-core.ensures.len ps
          c.code.ensures.decoder.code.shape _ told.0 some),
    )

pub returns-in-Ok-Undetermined : goal.returns-in-Ok-Undetermined
returns-in-Ok-Undetermined c =
    let d = c.take_zeros-core.result in
    let ps = c.args.positions.now in
    let same : d.matrix ≡ c.args.code.now =
    c.take_zeros-core.ensures.code ∙ c.in-Ok.ensures.empty.matrix ∙ c.in_ok-copy.ensures in
    let verdict = rw c.in-Ok-Undetermined.field-0-is at c.in-Ok-Undetermined.ensures.verdict in
    let told = verdict (zero_arrivals ps) c.take_zeros-core.ensures.stands in (
      λ yes. null_is d c.args.code.now same c.take_zeros-core.ensures.len ps _ told.1.null,
      λ some. refl,
    )

pub unreachable-requires : goal.unreachable-requires
unreachable-requires c =
    let d = c.take_zeros-core.result in
    let same : d.matrix ≡ c.args.code.now =
    c.take_zeros-core.ensures.code ∙ c.in-Ok.ensures.empty.matrix ∙ c.in_ok-copy.ensures in
    let verdict = rw c.in-Ok-NoCodeword.field-0-is at c.in-Ok-NoCodeword.ensures.verdict in
    fits_some d c.args.code.now same c.take_zeros-core.ensures.len c.args.positions.now
    (verdict (zero_arrivals c.args.positions.now) c.take_zeros-core.ensures.stands)
