use Rattle.std.proofs.Common.{◌+◌, ◌-◌, ◌<◌, ℕ, List, [], All, get_or, set, sym, ap, ◌∙◌, subst}
use Rattle.std.proofs.Common.{arith}
use Rattle.fec_base.specs.Symbol.{IsSymbol, xor_sum}
use Rattle.sparse_rows.specs.Matrix.{row_of}
use Rattle.sparse_rows.specs.Codeword.{symbol_at, IsEncoded}
use Rattle.fec_session.proofs.Filled.{filled_symbols, filled_own, filled_next, filled_all}
use Rattle.fec_session.proofs.encode.fill_repair.Goals as goal

pub loop-r-preserved : goal.loop-r-preserved
loop-r-preserved g c =
    let m = c.args.code.now in let code = c.k.ensures.code in let r : ℕ = c.loop-r.r in
    let more : r < m.n - m.k = omega (
      arith,
      c.n.ensures.value,
      c.k.ensures.value,
      c.loop-r-test.true,
    ) in
    record {
      room = c.add_row.ensures.room ∙ c.loop-r.invariant.room;
      count = c.add_row.ensures.count ∙ c.loop-r.invariant.count;
      word = λ len source count symbols start.
          let is = c.loop-r.invariant.word len source count symbols start in
          c.add_row.ensures.sum len (subst (All (IsSymbol len)) (sym is)
          (filled_symbols m code len source count symbols r more))
          (ap (λ (w : List (List ℕ)). get_or w (m.k + r) []) is ∙ filled_own m code len source
          count symbols r more)
          ∙ ap (λ (w : List (List ℕ)). set w (m.k + r) (xor_sum len (symbol_at len w) (row_of m r)))
          is ∙ filled_next m code len source count symbols r more;
    }

pub returns : goal.returns
returns g c = λ len source count symbols start.
    let m = c.args.code.now in
    subst (IsEncoded m len source) (sym (c.loop-r.invariant.word len source count symbols start))
    (filled_all m c.k.ensures.code len source count symbols c.loop-r.r
    (omega (
      arith,
      c.n.ensures.value,
      c.k.ensures.value,
      c.loop-r-test.false,
      c.loop-r.auto.r-end,
    )))
