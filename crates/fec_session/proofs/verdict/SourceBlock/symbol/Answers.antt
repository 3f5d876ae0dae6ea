use Rattle.std.proofs.Common.{◌≡◌, ◌<◌, ℕ, List, length, false, refl, sym, ap, ◌∙◌, subst, arith}
use Rattle.std.proofs.Common.{true≢false}
use Rattle.std.specs.List.{Contains}
use Rattle.std.specs.List.Sorted.{IsStrictlyIncreasing}
use Rattle.std.proofs.lemmas.Bool.{false_from_ne_true}
use Rattle.sparse_rows.specs.Closure.{flagged}
use Rattle.sparse_rows.specs.Codeword.{symbol_at}
use Rattle.peeling.specs.Lookups.{HasAllSource}
use Rattle.fec_session.specs.Kept.{AreValues, HasSymbols, values_of}
use Rattle.fec_session.specs.Residue.{completed}
use Rattle.fec_session.proofs.Residues.{completed_known}
use Rattle.fec_session.proofs.Sources.{column_there, columns_few, columns_rising, solved_values}
use Rattle.fec_session.proofs.Sources.{source_symbol, value_completes, within_source}
use Rattle.fec_session.proofs.verdict.SourceBlock.symbol.Goals as goal

pub symbol-requires : goal.symbol-requires
symbol-requires c =
    let d = c.self.inside.core in
    let lt : c.args.e < d.matrix.k = within_source d (values_of c.self.inside.solved) _
    c.args.self.now c.args.e c.self.view_is c.requires in
    omega (arith, c.code-2.ensures.decoder.code.shape.count)

pub returns-in-Some-clause-value : goal.returns-in-Some-clause-value
returns-in-Some-clause-value c =
    let d = c.self.inside.core in
    c.in-Some.ensures.value ∙ sym (completed_known d
    (symbol_at d.len (values_of c.self.inside.solved)) c.args.e
    (c.in-Some.ensures.known.0 refl))
    ∙ source_symbol d (values_of c.self.inside.solved) _ c.args.self.now c.args.e c.self.view_is
    c.requires

pub value_of-requires-clause-rising : goal.value_of-requires-clause-rising
value_of-requires-clause-rising c =
    let d = c.self.inside.core in
    let are : AreValues d c.in-Some-solved.solved.columns.items c.in-Some-solved.solved.values =
    solved_values d c.self.inside.solved c.in-Some-solved.solved c.in-Some-solved.is
    c.self.invariant in
    subst IsStrictlyIncreasing (sym c.deref.ensures.value)
    (columns_rising d c.in-Some-solved.solved.columns.items c.in-Some-solved.solved.values are)

pub value_of-requires-clause-few : goal.value_of-requires-clause-few
value_of-requires-clause-few c =
    let d = c.self.inside.core in
    let are : AreValues d c.in-Some-solved.solved.columns.items c.in-Some-solved.solved.values =
    solved_values d c.self.inside.solved c.in-Some-solved.solved c.in-Some-solved.is
    c.self.invariant in
    let few = columns_few d c.in-Some-solved.solved.columns.items c.in-Some-solved.solved.values are
    c.code-2.ensures.decoder in
    omega (arith, few, ap length c.deref.ensures.value)

pub value_of-requires-clause-there : goal.value_of-requires-clause-there
value_of-requires-clause-there c =
    let d = c.self.inside.core in
    let are : AreValues d c.in-Some-solved.solved.columns.items c.in-Some-solved.solved.values =
    solved_values d c.self.inside.solved c.in-Some-solved.solved c.in-Some-solved.is
    c.self.invariant in
    let lt : c.args.e < d.matrix.k = within_source d (values_of c.self.inside.solved) _
    c.args.self.now c.args.e c.self.view_is c.requires in
    let inside : c.args.e < d.matrix.n = omega (arith, c.code-2.ensures.decoder.code.shape.count) in
    let unkept : flagged d.known c.args.e ≡ false = false_from_ne_true (flagged d.known c.args.e)
    (λ known. true≢false (sym (c.in_default.ensures.known.1 known))) in
    subst (λ (columns : List ℕ). Contains columns c.args.e) (sym c.deref.ensures.value)
    (column_there d c.in-Some-solved.solved.columns.items c.in-Some-solved.solved.values are
    c.args.e inside unkept)

pub unreachable-requires : goal.unreachable-requires
unreachable-requires c =
    let d = c.self.inside.core in
    let lt : c.args.e < d.matrix.k = within_source d (values_of c.self.inside.solved) _
    c.args.self.now c.args.e c.self.view_is c.requires in
    let all : HasAllSource d = subst (HasSymbols d) c.in-None.is c.self.invariant in
    true≢false (sym (c.in_default.ensures.known.1 (all c.args.e lt)))

pub returns-clause-value : goal.returns-clause-value
returns-clause-value c =
    let d = c.self.inside.core in
    let columns : List ℕ = c.in-Some-solved.solved.columns.items in
    let values = c.in-Some-solved.solved.values in
    let are : AreValues d columns values = solved_values d c.self.inside.solved
    c.in-Some-solved.solved c.in-Some-solved.is c.self.invariant in
    let lt : c.args.e < d.matrix.k = within_source d (values_of c.self.inside.solved) _
    c.args.self.now c.args.e c.self.view_is c.requires in
    let unkept : flagged d.known c.args.e ≡ false = false_from_ne_true (flagged d.known c.args.e)
    (λ known. true≢false (sym (c.in_default.ensures.known.1 known))) in
    let is = value_completes d columns values are c.args.e
    (omega (arith, c.code-2.ensures.decoder.code.shape.count)) unkept
    c.value_of.result.now (rw c.deref.ensures.value at c.value_of.ensures) in
    is.0 ∙ ap (λ o. completed d (symbol_at d.len (values_of o)) c.args.e) (sym c.in-Some-solved.is)
    ∙ source_symbol d (values_of c.self.inside.solved) _ c.args.self.now c.args.e c.self.view_is
    c.requires

pub returns-clause-short : goal.returns-clause-short
returns-clause-short c =
    let d = c.self.inside.core in
    let columns : List ℕ = c.in-Some-solved.solved.columns.items in
    let values = c.in-Some-solved.solved.values in
    let are : AreValues d columns values = solved_values d c.self.inside.solved
    c.in-Some-solved.solved c.in-Some-solved.is c.self.invariant in
    let lt : c.args.e < d.matrix.k = within_source d (values_of c.self.inside.solved) _
    c.args.self.now c.args.e c.self.view_is c.requires in
    let unkept : flagged d.known c.args.e ≡ false = false_from_ne_true (flagged d.known c.args.e)
    (λ known. true≢false (sym (c.in_default.ensures.known.1 known))) in
    let is = value_completes d columns values are c.args.e
    (omega (arith, c.code-2.ensures.decoder.code.shape.count)) unkept
    c.value_of.result.now (rw c.deref.ensures.value at c.value_of.ensures) in
    omega (arith, is.1, c.code-2.ensures.decoder.most)
