use Rattle.std.proofs.Common.{◌≡◌, ◌<◌, ◌-◌, length, get_or, sym, subst, ltb-true, le_refl, arith}
use Rattle.std.proofs.lemmas.List.{take_all, get_or_read}
use Rattle.std.proofs.lemmas.List.Sorted.{searched}
use Rattle.sparse_rows.proofs.Rising.{Below, rising_places, below_last, not_found_below}
use Rattle.sparse_rows.proofs.Rising.{not_found_above}
use Rattle.sparse_rows.proofs.builder.place_of.Goals as goal

pub returns-in-Some-clause-below : goal.returns-in-Some-clause-below
returns-in-Some-clause-below c =
    let row = c.args.row.now in
    let some : 0 < length row = ltb-true 0 (length row) (sym c.in-Some.ensures.item.0) in
    let last : c.in-Some.last.now ≡ get_or row (length row - 1) 0 = get_or_read row (length row - 1)
    c.in-Some.last.now (omega arith) c.in-Some.ensures.item.1 0 in
    subst (Below c.args.c) (sym (take_all (length row) row (le_refl (length row))))
    (below_last c.args.c row c.requires (subst (λ x. x < c.args.c) last c.if-last-c.true))

pub returns-in_default-clause-below : goal.returns-in_default-clause-below
returns-in_default-clause-below c =
    not_found_below c.binary_search.result c.args.c c.args.row.now (λ i. (i < length c.args.row.now)
    × (get_or c.args.row.now i 0 ≡ c.args.c))
    (searched c.args.row.now c.args.c c.binary_search.result c.binary_search.ensures.position
    (rising_places c.args.row.now c.requires))

pub returns-in_default-clause-above : goal.returns-in_default-clause-above
returns-in_default-clause-above c =
    not_found_above c.binary_search.result c.args.c c.args.row.now (λ i. (i < length c.args.row.now)
    × (get_or c.args.row.now i 0 ≡ c.args.c))
    (searched c.args.row.now c.args.c c.binary_search.result c.binary_search.ensures.position
    (rising_places c.args.row.now c.requires))
