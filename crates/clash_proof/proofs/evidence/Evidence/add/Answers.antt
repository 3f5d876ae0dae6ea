use Rattle.std.proofs.Common.{◌≡◌, ◌∙◌, ◌<◌, sym, ap, subst, true, false, [], arith}
use Rattle.std.proofs.lemmas.List.{get_or_default}
use Rattle.fec_base.specs.Symbol.{zero_symbol}
use Rattle.sparse_rows.specs.Closure.{flagged}
use Rattle.sparse_rows.specs.Codeword.{symbol_at}
use Rattle.clash_proof.specs.Entries.{Entry}
use Rattle.clash_proof.specs.Evidence.{Kept, StandsFor}
use Rattle.clash_proof.proofs.Appended.{took_conflict, took_first, took_later, took_same}
use Rattle.clash_proof.proofs.Compared.{bytes_differ, bytes_same, none_is, some_is}
use Rattle.clash_proof.proofs.evidence.Evidence.add.Goals as goal

pub returns-then-not-index-clause-stands : goal.returns-then-not-index-clause-stands
returns-then-not-index-clause-stands c entries stands =
    let e : Entry = record {
      index = c.args.index;
      position = c.args.e;
      bytes = c.args.bytes.now;
    } in
    let ev : Kept = record {
      n = c.self.inside.n;
      len = c.self.inside.len;
      arrived = c.self.inside.arrived.items;
      indices = c.self.inside.indices.items;
      symbols = c.self.inside.symbols;
      conflict = c.self.inside.conflict;
    } in
    let lt : c.args.e < ev.n =
    subst (λ (k : Kept). c.args.e < k.n) (sym c.self.view_is) c.requires.position in
    let none : flagged ev.arrived c.args.e ≡ false =
    get_or_default ev.arrived c.args.e false c.index.result.now
    (omega (arith, lt, c.self.invariant.flags)) ∙ sym c.index.ensures
    ∙ c.if-not-index.true in
    took_first entries e ev (subst (λ (k : Kept). StandsFor k entries) (sym c.self.view_is) stands)
    c.self.invariant lt none c.put.new.self c.put.ensures

pub returns-then-is_some-clause-stands : goal.returns-then-is_some-clause-stands
returns-then-is_some-clause-stands c entries stands =
    let e : Entry = record {
      index = c.args.index;
      position = c.args.e;
      bytes = c.args.bytes.now;
    } in
    let lt : c.args.e < c.self.inside.n =
    subst (λ (k : Kept). c.args.e < k.n) (sym c.self.view_is) c.requires.position in
    let came : flagged c.args.self.now.arrived c.args.e ≡ true =
    sym (ap (λ (k : Kept). flagged k.arrived c.args.e) c.self.view_is)
    ∙ get_or_default c.self.inside.arrived.items c.args.e false c.index.result.now
    (omega (arith, lt, c.self.invariant.flags)) ∙ sym c.index.ensures
    ∙ c.if-not-index.false in
    let pair = some_is c.self.inside.conflict (sym c.is_some.ensures ∙ c.if-is_some.true) in
    took_later entries e c.args.self.now stands came pair.0
    (sym (ap (λ (k : Kept). k.conflict) c.self.view_is) ∙ pair.1)

pub returns-then-ne-clause-stands : goal.returns-then-ne-clause-stands
returns-then-ne-clause-stands c entries stands =
    let e : Entry = record {
      index = c.args.index;
      position = c.args.e;
      bytes = c.args.bytes.now;
    } in
    let ev : Kept = record {
      n = c.self.inside.n;
      len = c.self.inside.len;
      arrived = c.self.inside.arrived.items;
      indices = c.self.inside.indices.items;
      symbols = c.self.inside.symbols;
      conflict = c.self.inside.conflict;
    } in
    let lt : c.args.e < ev.n =
    subst (λ (k : Kept). c.args.e < k.n) (sym c.self.view_is) c.requires.position in
    let came : flagged ev.arrived c.args.e ≡ true =
    get_or_default ev.arrived c.args.e false c.index.result.now
    (omega (arith, lt, c.self.invariant.flags)) ∙ sym c.index.ensures
    ∙ c.if-not-index.false in
    let kept : symbol_at ev.len ev.symbols c.args.e ≡ c.get.result.now =
    get_or_default ev.symbols c.args.e (zero_symbol ev.len) []
    (omega (arith, lt, c.self.invariant.count)) ∙ sym c.get.ensures in
    took_conflict entries e ev
    (subst (λ (k : Kept). StandsFor k entries) (sym c.self.view_is) stands) came
    (none_is ev.conflict (sym c.is_some.ensures ∙ c.if-is_some.false))
    (λ same. bytes_differ c.get.result.now c.args.bytes.now c.ne.result c.ne.ensures
    c.if-ne.true (sym kept ∙ same)) c.index-then-ne.result.now
    (c.index-then-ne.ensures
    ∙ get_or_default ev.indices c.args.e c.index-then-ne.result.now 0
    (omega (arith, lt, c.self.invariant.numbers)))

pub returns-else-ne-clause-stands : goal.returns-else-ne-clause-stands
returns-else-ne-clause-stands c entries stands =
    let e : Entry = record {
      index = c.args.index;
      position = c.args.e;
      bytes = c.args.bytes.now;
    } in
    let lt : c.args.e < c.self.inside.n =
    subst (λ (k : Kept). c.args.e < k.n) (sym c.self.view_is) c.requires.position in
    let came : flagged c.args.self.now.arrived c.args.e ≡ true =
    sym (ap (λ (k : Kept). flagged k.arrived c.args.e) c.self.view_is)
    ∙ get_or_default c.self.inside.arrived.items c.args.e false c.index.result.now
    (omega (arith, lt, c.self.invariant.flags)) ∙ sym c.index.ensures
    ∙ c.if-not-index.false in
    let kept : symbol_at c.self.inside.len c.self.inside.symbols c.args.e ≡ c.get.result.now =
    get_or_default c.self.inside.symbols c.args.e (zero_symbol c.self.inside.len) []
    (omega (arith, lt, c.self.invariant.count)) ∙ sym c.get.ensures in
    took_same entries e c.args.self.now stands came
    (sym (ap (λ (k : Kept). symbol_at k.len k.symbols c.args.e) c.self.view_is) ∙ kept
    ∙ bytes_same c.get.result.now c.args.bytes.now c.ne.result c.ne.ensures c.if-ne.false)
