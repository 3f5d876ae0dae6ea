use Rattle.std.proofs.Common.{◌≡◌, ℕ, ◌∙◌, subst}
use Rattle.sparse_rows.specs.Matrix.{Matrix}
use Rattle.peeling.specs.Stands.{StandsFor}
use Rattle.loss_runs.specs.Ends.{NeverHolds}
use Rattle.loss_runs.specs.Trials.{arrivals_of}
use Rattle.loss_runs.proofs.Arriving.{ends_by, some_fits}
use Rattle.loss_runs.proofs.Endings.{arrivals_fit}
use Rattle.loss_runs.proofs.decoding.decode_kept.Goals as goal

pub end_by-end-requires : goal.end_by-end-requires
end_by-end-requires c =
    let m = c.args.code.now in
    let len = c.args.len in
    let word = c.args.word.now in
    let kept = c.args.positions.now in
    let d = c.take_needed.new.core in
    let m_is : c.in-Ok.core.matrix ≡ m = c.in-Ok.ensures.empty.matrix ∙ c.in_ok-copy.ensures in
    let len_is : c.in-Ok.core.len ≡ len = c.in-Ok.ensures.empty.len in
    let stands = subst (λ (l : ℕ). StandsFor d (arrivals_of l word kept)) len_is
    c.in_default.ensures.stands in
    some_fits d c.in-Ok-finish.verdict m len (arrivals_of len word kept) word
    (c.in_default.ensures.matrix ∙ m_is) (c.in_default.ensures.len ∙ len_is)
    stands c.in-Ok-finish.ensures.verdict (arrivals_fit m len word kept c.requires.codeword)

pub returns : goal.returns
returns c =
    let m = c.args.code.now in
    let len = c.args.len in
    let word = c.args.word.now in
    let kept = c.args.positions.now in
    let d = c.take_needed.new.core in
    let m_is : c.in-Ok.core.matrix ≡ m = c.in-Ok.ensures.empty.matrix ∙ c.in_ok-copy.ensures in
    let len_is : c.in-Ok.core.len ≡ len = c.in-Ok.ensures.empty.len in
    let stands = subst (λ (l : ℕ). StandsFor d (arrivals_of l word kept)) len_is
    c.in_default.ensures.stands in
    let never = subst (λ (l : ℕ). NeverHolds m (arrivals_of l word kept)) len_is
    (subst (λ (n : Matrix). NeverHolds n (arrivals_of c.in-Ok.core.len word kept)) m_is
    c.in_default.ensures.never) in
    ends_by d c.in-Ok-finish.verdict m len (arrivals_of len word kept) word
    (c.in_default.ensures.matrix ∙ m_is) (c.in_default.ensures.len ∙ len_is)
    stands c.in-Ok-finish.ensures.verdict (arrivals_fit m len word kept c.requires.codeword)
    c.end_by-end.result never c.end_by-end.ensures
