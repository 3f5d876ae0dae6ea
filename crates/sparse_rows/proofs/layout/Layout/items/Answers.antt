use Rattle.std.proofs.Common.{◌≡◌, ℕ, List, length, sum_by, ap, ◌∙◌, arith}
use Rattle.sparse_rows.specs.Rows.{lists_from}
use Rattle.sparse_rows.proofs.Flat.{all_items}
use Rattle.sparse_rows.proofs.layout.Layout.items.Goals as goal

pub returns : goal.returns
returns c =
    let starts : List ℕ = c.self.inside.starts.items in
    let items : List ℕ = c.self.inside.items.items in
    let here : length items ≡ sum_by length (lists_from starts items) = all_items starts items
    c.self.invariant in
    let long : c.len.result ≡ length items = omega (
      arith,
      c.len.ensures,
      c.self.inside.items.ok.0,
    ) in
    long ∙ here ∙ ap (sum_by length) c.self.view_is
