use Rattle.std.proofs.Common.{◌≡◌, length, sym, ap, ◌∙◌, subst, arith, List, Bool}
use Rattle.std.specs.List.Sorted.{IsStrictlyIncreasing}
use Rattle.std.proofs.lemmas.List.{take_at}
use Rattle.sparse_rows.specs.Closure.{flagged, members}
use Rattle.sparse_rows.proofs.Null.{members_rise}
use Rattle.gauss.specs.Echelon.{unknowns_in}
use Rattle.gauss.proofs.null_set.null_set.Goals as goal

pub new-requires : goal.new-requires
new-requires c = subst IsStrictlyIncreasing (sym (c.deref-2.ensures.value ∙ c.in_ok-set.ensures))
    (members_rise (length c.deref.result.now) (flagged c.deref.result.now))

pub returns : goal.returns
returns c = (
  c.put_flags.new.flags,
  c.put_flags.ensures,
  c.in_ok-word.ensures ∙ c.deref-2.ensures.value ∙ c.in_ok-set.ensures
      ∙ ap (λ (fs : List Bool). members (length fs) (flagged fs)) flags_are
      ∙ ap (λ n. members n (flagged c.put_flags.new.flags)) count,
)
  where
    flags_are : c.deref.result.now ≡ c.put_flags.new.flags
    flags_are = c.deref.ensures.value ∙ take_at c.put_flags.new.flags _ c.in_ok-flags.flags.len
        (omega (arith, c.put_flags.auto.flags, c.deref_mut.ensures.len))

    count : length c.put_flags.new.flags ≡ unknowns_in c.args.form.now
    count = c.put_flags.ensures.count
