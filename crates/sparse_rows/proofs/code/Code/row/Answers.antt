use Rattle.std.proofs.Common.{◌≡◌, ap, ◌∙◌, subst}
use Rattle.sparse_rows.specs.Matrix.{IsCode, row_of, Matrix}
use Rattle.sparse_rows.proofs.Flat.{code_row_short}
use Rattle.sparse_rows.proofs.code.Code.row.Goals as goal

pub returns-clause-short : goal.returns-clause-short
returns-clause-short c =
    let code : IsCode c.args.self.now = subst IsCode c.self.view_is c.self.invariant.code in
    let is : c.list.result.now ≡ row_of c.args.self.now c.args.r = c.list.ensures
    ∙ ap (λ tables. row_of (record {
      k = c.self.inside.k;
      n = c.self.inside.n;
      rows = tables.rows;
    }) c.args.r) c.deref.ensures ∙ ap (λ (m : Matrix). row_of m c.args.r) c.self.view_is in
    rw is (code_row_short c.args.self.now code c.args.r c.requires)
