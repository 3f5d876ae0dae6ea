use Rattle.std.proofs.Common.{◌≡◌, ℕ, false, [], get_or, sym, ap, ◌∙◌, subst, true≢false}
use Rattle.std.proofs.lemmas.Bool.{false_from_ne_true}
use Rattle.sparse_rows.specs.Closure.{flagged}
use Rattle.gauss.specs.Reduction.{IsFirstWith, is_open}
use Rattle.partial_block.proofs.Kept.{source_below}
use Rattle.partial_block.proofs.Placed.{found, place_is}
use Rattle.partial_block.proofs.reading.piece.Goals as goal

pub place_of-place-requires-clause-there : goal.place_of-place-requires-clause-there
place_of-place-requires-clause-there c =
    let d = c.args.core.now in
    let e = c.args.e in
    let unknown : flagged d.known e ≡ false =
    false_from_ne_true _ (λ known. absurd (cc (c.in_default.ensures.known.1 known))) in
    found d (c.null_words_pair_with_null_sets.ensures.places d) e
    (source_below d c.code.ensures.decoder e c.requires.source, unknown) c.args.columns.now
    c.requires.columns

pub returns-in-Some-first_with : goal.returns-in-Some-first_with
returns-in-Some-first_with c =
    let d = c.args.core.now in
    let e = c.args.e in
    let unknown : flagged d.known e ≡ false =
    false_from_ne_true _ (λ known. absurd (cc (c.in_default.ensures.known.1 known))) in
    let is = place_is d (c.null_words_pair_with_null_sets.ensures.places d) e
    (source_below d c.code.ensures.decoder e c.requires.source, unknown) c.args.columns.now
    c.requires.columns c.place_of-place.result c.place_of-place.ensures.inside
    c.place_of-place.ensures.column in (
      unknown,
      subst (λ (p : ℕ). IsFirstWith c.args.reduced.now p c.in-Some-first_with.number) is
          c.in-Some-first_with.ensures,
    )

pub returns : goal.returns
returns c =
    let d = c.args.core.now in
    let e = c.args.e in
    let unknown : flagged d.known e ≡ false =
    false_from_ne_true _ (λ known. absurd (cc (c.in_default.ensures.known.1 known))) in
    let is = place_is d (c.null_words_pair_with_null_sets.ensures.places d) e
    (source_below d c.code.ensures.decoder e c.requires.source, unknown) c.args.columns.now
    c.requires.columns c.place_of-place.result c.place_of-place.ensures.inside
    c.place_of-place.ensures.column in (
      λ known. absurd (true≢false (sym known ∙ unknown)),
      λ left. (
        subst (λ (p : ℕ). is_open c.args.reduced.now p ≡ false) is c.in-Some-symbol.ensures.0,
        c.in_ok-bytes-2.ensures.items ∙ c.in-Some-symbol.ensures.1
            ∙ ap (λ (p : ℕ). get_or c.args.reduced.now.symbols p []) is,
      ),
    )
