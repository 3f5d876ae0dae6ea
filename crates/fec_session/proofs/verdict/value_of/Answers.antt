use Rattle.std.proofs.Common.{◌≡◌, ◌<◌, ◌≤◌, ⊎_elim, Err, Ok, get_or, slice_index, [], sym, ap, ◌∙◌}
use Rattle.std.proofs.Common.{arith}
use Rattle.std.proofs.lemmas.Bool.{cases_lt}
use Rattle.std.proofs.lemmas.List.{get_or_default}
use Rattle.std.proofs.lemmas.List.Sorted.{searched}
use Rattle.fec_session.proofs.Columns.{columns_ordered, one_place}
use Rattle.fec_session.proofs.verdict.value_of.Goals as goal

pub unreachable-requires : goal.unreachable-requires
unreachable-requires c =
    let columns = c.args.columns.now in
    let column = c.args.column in
    let at = c.requires.there.0 in
    let found = searched columns column (Err c.in-Err.field-0) c.in-Err.ensures.position
    (columns_ordered columns c.requires.rising) in
    let is : slice_index columns at ≡ column = get_or_default columns at 0 column c.requires.there.1
    ∙ c.requires.there.2 in
    ⊎_elim
    (λ (before : at < c.in-Err.field-0). let less = found.1 at before in omega arith)
    (λ (behind : c.in-Err.field-0 ≤ at). let more = found.2 at behind c.requires.there.1 in
    omega arith)
    (cases_lt at c.in-Err.field-0)

pub returns : goal.returns
returns c i lt is =
    let columns = c.args.columns.now in
    let column = c.args.column in
    let found = searched columns column (Ok c.in-Ok.i) c.in-Ok.ensures.position
    (columns_ordered columns c.requires.rising) in
    let same : c.in-Ok.i ≡ i = one_place columns c.in-Ok.i i c.requires.rising found.0 lt (found.1
    ∙ sym is) in
    c.symbol.ensures ∙ ap (λ j. get_or c.args.values.now j []) same
