use Rattle.std.proofs.Common.{◌≡◌, ◌≤◌, ◌<◌, ◌*◌, length, slice_index, ap, sym, ◌∙◌, subst, arith}
use Rattle.packet_file.specs.declared.version.Version.TheVariants.{One}
use Rattle.packet_file.specs.Header.{HeaderFields, source_counts}
use Rattle.packet_file.proofs.Sizes.{count_in_range, first_small}
use Rattle.packet_file.proofs.Limits.{no_limit_passed, too_many_bytes, too_many_symbols}
use Rattle.packet_file.proofs.header.check_sizes.Goals as goal

pub count_symbols-greatest-requires-clause-within :
    goal.count_symbols-greatest-requires-clause-within
count_symbols-greatest-requires-clause-within c =
    let h : HeaderFields = record { version = One; codec = c.args.codec; oti = c.args.oti.now } in
    let inside : 0 < length (source_counts h) =
    omega (arith, c.if-count-eq0.false, c.count.ensures.value, ap length c.requires.plan) in
    let n_is : c.block_len.result ≡ slice_index (source_counts h) 0 = c.block_len.ensures
    ∙ ap (λ counts. slice_index counts 0) c.requires.plan in
    subst (λ n. n ≤ c.args.oti.now.block) (sym n_is) (count_in_range c.args.codec c.args.oti.now
    c.requires.fields 0 inside).1

pub returns-then-total-gt-MOST_SYMBOLS-clause-err :
    goal.returns-then-total-gt-MOST_SYMBOLS-clause-err
returns-then-total-gt-MOST_SYMBOLS-clause-err c =
    let oti = c.args.oti.now in
    let small = first_small c.args.codec oti c.requires.fields c.args.plan.now c.block_len.result
    c.count_symbols-greatest.result c.requires.plan c.block_len.ensures
    c.count_symbols-greatest.ensures.value c.if-greatest-len-gt-MOST_BLOCK_BYTES.false in
    too_many_symbols c.args.codec oti c.requires.fields c.requires.length c.requires.few small
    (subst (λ n. 4194304 < n) c.sum_symbols-total.ensures.value c.if-total-gt-MOST_SYMBOLS.true)

pub returns-then-total-len-gt-MOST_SYMBOL_BYTES-clause-err :
    goal.returns-then-total-len-gt-MOST_SYMBOL_BYTES-clause-err
returns-then-total-len-gt-MOST_SYMBOL_BYTES-clause-err c =
    let oti = c.args.oti.now in
    let small = first_small c.args.codec oti c.requires.fields c.args.plan.now c.block_len.result
    c.count_symbols-greatest.result c.requires.plan c.block_len.ensures
    c.count_symbols-greatest.ensures.value c.if-greatest-len-gt-MOST_BLOCK_BYTES.false in
    let total = c.sum_symbols-total.ensures.value in
    too_many_bytes c.args.codec oti c.requires.fields c.requires.length c.requires.few small
    (subst (λ n. n ≤ 4194304) total c.if-total-gt-MOST_SYMBOLS.false)
    (subst (λ n. 536870912 < n * oti.symbol) total c.if-total-len-gt-MOST_SYMBOL_BYTES.true)

pub returns-clause-ok : goal.returns-clause-ok
returns-clause-ok c =
    let oti = c.args.oti.now in
    let small = first_small c.args.codec oti c.requires.fields c.args.plan.now c.block_len.result
    c.count_symbols-greatest.result c.requires.plan c.block_len.ensures
    c.count_symbols-greatest.ensures.value c.if-greatest-len-gt-MOST_BLOCK_BYTES.false in
    let total = c.sum_symbols-total.ensures.value in
    no_limit_passed c.args.codec oti c.requires.fields c.requires.length c.requires.few small
    (subst (λ n. n ≤ 4194304) total c.if-total-gt-MOST_SYMBOLS.false)
    (subst (λ n. n * oti.symbol ≤ 536870912) total c.if-total-len-gt-MOST_SYMBOL_BYTES.false)
