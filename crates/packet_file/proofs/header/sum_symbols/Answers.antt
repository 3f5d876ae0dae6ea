use Rattle.std.proofs.Common.{◌≡◌, ◌≤◌, ◌<◌, length, slice_index, ap, sym, ◌∙◌, subst, arith}
use Rattle.packet_file.specs.declared.version.Version.TheVariants.{One}
use Rattle.packet_file.specs.Header.{HeaderFields, source_counts}
use Rattle.packet_file.proofs.Sizes.{count_in_range}
use Rattle.packet_file.proofs.header.sum_symbols.Goals as goal

pub count_symbols-requires-clause-within : goal.count_symbols-requires-clause-within
count_symbols-requires-clause-within c =
    let h : HeaderFields = record { version = One; codec = c.args.codec; oti = c.args.oti.now } in
    let i = c.loop-i.i in
    let inside : i < length (source_counts h) =
    omega (arith, c.loop-i-test.true, c.count-i-end.ensures.value, ap length c.requires.plan) in
    let n_is : c.block_len.result ≡ slice_index (source_counts h) i = c.block_len.ensures
    ∙ ap (λ counts. slice_index counts i) c.requires.plan in
    subst (λ n. n ≤ c.args.oti.now.block) (sym n_is) (count_in_range c.args.codec c.args.oti.now
    c.requires.fields i inside).1
