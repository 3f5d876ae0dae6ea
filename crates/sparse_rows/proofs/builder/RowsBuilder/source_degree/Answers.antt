use Rattle.std.proofs.Common.{◌≤◌, ℕ, length, count_by, nat_lt, ap, ◌∙◌, arith}
use Rattle.sparse_rows.proofs.Rising.{place_counts}
use Rattle.sparse_rows.proofs.Built.{short_row}
use Rattle.sparse_rows.proofs.builder.RowsBuilder.source_degree.Goals as goal

pub overflow_cast-result : goal.overflow_cast-result
overflow_cast-result c =
    let counted = place_counts c.place_of.result c.self.inside.k c.in-Ok.place c.row.result.now
    c.row.ensures.rising.rising c.place_of.ensures.held c.place_of.ensures.bound
    c.place_of.ensures.below c.place_of.ensures.above c.in-Ok.is in
    let short : length c.row.result.now ≤ c.args.self.now.n = short_row c.args.self.now.n
    c.row.result.now c.row.ensures.rising in
    omega (arith, counted.0, c.row.ensures.most)

pub returns : goal.returns
returns c =
    let counted = place_counts c.place_of.result c.self.inside.k c.in-Ok.place c.row.result.now
    c.row.ensures.rising.rising c.place_of.ensures.held c.place_of.ensures.bound
    c.place_of.ensures.below c.place_of.ensures.above c.in-Ok.is in
    counted.1 ∙ ap (λ (k : ℕ). count_by (λ x. nat_lt x k) c.row.result.now)
    (ap (λ m. m.k) c.self.view_is) ∙ ap (count_by (λ x. nat_lt x c.args.self.now.k))
    c.row.ensures.value
