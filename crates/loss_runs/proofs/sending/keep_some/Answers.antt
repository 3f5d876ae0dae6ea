use Rattle.std.proofs.Common.{◌≡◌, ℕ, ◌+◌, ◌<◌, Bool, cond, List, [], ◌∷◌, ◌++◌, length, get_or}
use Rattle.std.proofs.Common.{take, All, sym, ap, ap₂, ◌∙◌, subst, arith, append-nil, length-append}
use Rattle.std.proofs.lemmas.List.Elements.{All-take}
use Rattle.loss_patterns.specs.Keeps.{keeps}
use Rattle.loss_patterns.specs.declared.kind.LossKind.{LossKind}
use Rattle.loss_runs.specs.Trials.{items_where}
use Rattle.loss_runs.proofs.Places.{items_all, items_more}
use Rattle.loss_runs.proofs.sending.keep_some.Goals.{then-keep, else-keep}
use Rattle.loss_runs.proofs.sending.keep_some.Goals as goal

pub loop-e-preserved : goal.loop-e-preserved
loop-e-preserved c =
    let start = c.args.generator.now in
    let list : List ℕ = c.args.list.now in
    let i = c.loop-e.e-index in
    let e : ℕ = get_or list i 0 in
    let so_far = c.loop-e.invariant in
    let test : ℕ → Bool = keeps c.args.kind start in
    let value : c.keep.result ≡ test i = c.keep.ensures.kept start so_far.follows
    ∙ ap₂ (λ (k : LossKind) (n : ℕ). keeps k start n) so_far.kind so_far.decided in
    let more = items_more test list i 0 c.loop-e-test.true in
    let decided : c.keep.new.self.decided ≡ i + 1 = c.keep.ensures.decided
    ∙ ap (λ (n : ℕ). n + 1) so_far.decided in
    elim c.if-keep.branch [
      | then-keep w ↦ rw w.kept-is record {
        kept = w.push_reserved.ensures.items ∙ ap (λ l. l ++ e ∷ []) so_far.kept
            ∙ sym (more ∙ ap (λ (b : Bool). items_where test (take i list) ++ cond b (e ∷ []) [])
            (sym value ∙ w.if-keep.true));
        decided = decided;
        kind = c.keep.ensures.kind ∙ so_far.kind;
        follows = c.keep.ensures.follows start so_far.follows;
        few = omega (
          arith,
          so_far.few,
          ap length w.push_reserved.ensures.items,
          length-append c.loop-e.kept.items (e ∷ []),
        );
        room = w.push_reserved.ensures.capacity ∙ so_far.room;
      }
      | else-keep w ↦ rw w.kept-is record {
        kept = so_far.kept ∙ sym (more
            ∙ ap (λ (b : Bool). items_where test (take i list) ++ cond b (e ∷ []) []) (sym value
            ∙ w.if-keep.false) ∙ append-nil (items_where test (take i list)));
        decided = decided;
        kind = c.keep.ensures.kind ∙ so_far.kind;
        follows = c.keep.ensures.follows start so_far.follows;
        few = omega (arith, so_far.few);
        room = so_far.room;
      }
    ]

pub returns-clause-below : goal.returns-clause-below
returns-clause-below c = λ n all.
    subst (All (λ e. e < n)) (sym c.loop-e.invariant.kept)
    (items_all (λ e. e < n) (keeps c.args.kind c.args.generator.now)
    (take c.loop-e.e-index c.args.list.now) (All-take (λ e. e < n) c.loop-e.e-index
    c.args.list.now all))
