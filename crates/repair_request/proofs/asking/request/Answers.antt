use Rattle.std.proofs.Common.{◌<◌, ℕ, All, List, length, map, slice_index, sym, ap₂, ◌∙◌, subst}
use Rattle.std.proofs.Common.{subst₂}
use Rattle.std.specs.List.Sorted.{IsStrictlyIncreasing}
use Rattle.sparse_rows.specs.Codeword.{positions, symbol_at}
use Rattle.sparse_rows.specs.NullWord.{IsNullWord}
use Rattle.null_witness.specs.ReducedWords.{AreLate}
use Rattle.peeling.proofs.Decided.{codeword_consistent}
use Rattle.gauss.specs.Equations.{System}
use Rattle.gauss.specs.Freedom.{IsFreedom}
use Rattle.gauss.specs.declared.freedom.FreeUnknowns.TheVariants as answer
use Rattle.fec_session.specs.Pairing.{open_symbols}
use Rattle.fec_session.specs.Residue.{filled}
use Rattle.repair_request.proofs.Residual.{columns_rising, late_columns}
use Rattle.repair_request.proofs.asking.request.Goals as goal

pub returns-then-clashed : goal.returns-then-clashed
returns-then-clashed c arrivals stands word fits =
    let d = c.args.core.now in
    stands.contradicts (sym c.clashed.ensures ∙ c.if-clashed.true) (symbol_at d.len word)
    (codeword_consistent d.matrix d.len arrivals word fits.codeword fits.fits)

pub returns-in-Clash : goal.returns-in-Clash
returns-in-Clash c arrivals stands word fits =
    let d = c.args.core.now in
    let unsolved = subst (λ (s : System). IsFreedom s answer.Clash)
    c.in_ok-columns.ensures.equations (subst (IsFreedom c.in_ok-columns.field-0.equations)
    c.in-Clash.is c.in_ok-free_unknowns.ensures) in
    let pairs = c.codewords_pair_with_solutions.ensures d arrivals c.code.ensures.decoder stands
    (sym c.clashed.ensures ∙ c.if-clashed.false) in
    unsolved (open_symbols d word) (pairs.solution word fits)

pub columns_at-requires : goal.columns_at-requires
columns_at-requires c =
    let d = c.args.core.now in
    let freedom = subst (λ (s : System). IsFreedom s (answer.Rising c.in-Rising.free))
    c.in_ok-columns.ensures.equations (subst (IsFreedom c.in_ok-columns.field-0.equations)
    c.in-Rising.is c.in_ok-free_unknowns.ensures) in
    subst₂ (λ (columns free : List ℕ). All (λ place. place < length columns) free)
    (sym (c.deref.ensures.value ∙ c.in_ok-columns.ensures.columns))
    (sym c.deref-in-Rising.ensures.value) freedom.1.below

pub new-requires : goal.new-requires
new-requires c =
    let d = c.args.core.now in
    let freedom = subst (λ (s : System). IsFreedom s (answer.Rising c.in-Rising.free))
    c.in_ok-columns.ensures.equations (subst (IsFreedom c.in_ok-columns.field-0.equations)
    c.in-Rising.is c.in_ok-free_unknowns.ensures) in
    subst IsStrictlyIncreasing (sym (c.in_ok-late-in-Rising.ensures
    ∙ ap₂ (λ (columns free : List ℕ). map (slice_index columns) free)
    (c.deref.ensures.value ∙ c.in_ok-columns.ensures.columns) c.deref-in-Rising.ensures.value))
    (columns_rising d c.in-Rising.free.items freedom.1)

pub returns : goal.returns
returns c arrivals stands =
    let d = c.args.core.now in
    let freedom = subst (λ (s : System). IsFreedom s (answer.Rising c.in-Rising.free))
    c.in_ok-columns.ensures.equations (subst (IsFreedom c.in_ok-columns.field-0.equations)
    c.in-Rising.is c.in_ok-free_unknowns.ensures) in
    let pairs = c.codewords_pair_with_solutions.ensures d arrivals c.code.ensures.decoder stands
    (sym c.clashed.ensures ∙ c.if-clashed.false) in (
      (filled d freedom.0.0, pairs.codeword freedom.0.0 freedom.0.1),
      subst (AreLate (IsNullWord d.matrix (positions arrivals))) (sym (c.new.ensures
          ∙ c.in_ok-late-in-Rising.ensures
          ∙ ap₂ (λ (columns free : List ℕ). map (slice_index columns) free)
          (c.deref.ensures.value ∙ c.in_ok-columns.ensures.columns)
          c.deref-in-Rising.ensures.value))
          (late_columns d (c.null_words_pair_with_null_sets.ensures.places d) arrivals
          (c.null_words_pair_with_null_sets.ensures.pairs d arrivals c.code.ensures.decoder stands)
          c.in-Rising.free.items freedom.1),
    )
