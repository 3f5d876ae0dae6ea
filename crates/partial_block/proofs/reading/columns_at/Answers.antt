use Rattle.std.proofs.Common.{map, slice_index, sym, ap, subst, ◌∙◌}
use Rattle.std.specs.List.Sorted.{IsStrictlyIncreasing}
use Rattle.std.proofs.lemmas.List.{take_all}
use Rattle.partial_block.proofs.Rising.{columns_rise}
use Rattle.partial_block.proofs.reading.columns_at.Goals as goal

pub new-requires : goal.new-requires
new-requires c = subst IsStrictlyIncreasing (sym (c.deref.ensures.value ∙ c.loop-place.invariant
    ∙ ap (map (slice_index c.args.columns.now)) (take_all c.loop-place.place-index c.args.places.now
    c.loop-place-test.false)))
    (columns_rise c.args.columns.now c.args.places.now c.requires.rising c.requires.order
    c.requires.inside)
