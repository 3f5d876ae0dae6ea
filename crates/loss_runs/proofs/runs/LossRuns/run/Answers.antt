use Rattle.std.proofs.Common.{◌≡◌, ℕ, List, ap, ◌∙◌, subst, length}
use Rattle.loss_runs.specs.Ends.{IsEnd, IsRunOf, IsThreshold}
use Rattle.loss_runs.specs.Kept.{running_of}
use Rattle.loss_runs.specs.Running.{Running}
use Rattle.loss_runs.specs.Trials.{arrivals_of, kept_by, source_of}
use Rattle.loss_runs.proofs.Drawn.{behind_here, kept_here}
use Rattle.loss_runs.proofs.runs.LossRuns.run.Goals as goal

pub invariant_of-self : goal.invariant_of-self
invariant_of-self c =
    let r = running_of c.self.inside in
    let state_is = c.generator_at-generator.ensures ∙ c.state.ensures.value
    ∙ c.self.invariant.behind in
    record {
      some = c.self.invariant.some;
      most = c.self.invariant.most;
      is_loss = c.self.invariant.is_loss;
      encoded = c.self.invariant.encoded;
      behind = behind_here r.trial r.done c.n.result c.generator_at-generator.result
          c.sending_order.new.generator state_is c.n.ensures.value c.in_ok-sent.ensures.state
          (length c.deref.result.now) c.keep_some.new.generator (ap length c.deref.ensures.value
          ∙ c.in_ok-sent.ensures.counted) c.in_ok-kept.ensures.state;
    }

pub returns-clause-result : goal.returns-clause-result
returns-clause-result c =
    let r = running_of c.self.inside in
    let t = r.trial in
    let state_is = c.generator_at-generator.ensures ∙ c.state.ensures.value
    ∙ c.self.invariant.behind in
    let kept_is : c.in_ok-kept.kept.items ≡ kept_by t r.done =
    kept_here t r.done c.n.result c.generator_at-generator.result c.sending_order.new.generator
    state_is c.n.ensures.value c.in_ok-sent.ensures.state
    c.deref.result.now c.in_ok-kept.kept.items (c.deref.ensures.value ∙ c.in_ok-sent.ensures.order)
    c.in_ok-kept.ensures.kept in
    let ends = subst (λ (l : List ℕ). IsEnd t.matrix t.len (source_of t)
    (arrivals_of t.len r.word l) c.in_ok-end.end) (c.deref-2.ensures.value ∙ kept_is)
    (subst (λ (s : List (List ℕ)). IsEnd t.matrix t.len s
    (arrivals_of t.len r.word c.deref-2.result.now) c.in_ok-end.end)
    c.self.invariant.encoded.source_is c.in_ok-end.ensures) in
    let least = subst (λ (l : List ℕ). IsThreshold t.matrix t.threshold l c.in_ok-least.least)
    (c.deref-3.ensures.value ∙ kept_is) c.in_ok-least.ensures in
    subst (λ (u : Running). IsRunOf u.trial u.word u.done
    (record { kept = c.len.result; end = c.in_ok-end.end; least = c.in_ok-least.least }))
    c.self.view_is (record {
      kept = c.len.ensures ∙ c.in_ok-kept.kept.ok.0 ∙ ap length kept_is;
      ends = ends;
      least = least;
    })
