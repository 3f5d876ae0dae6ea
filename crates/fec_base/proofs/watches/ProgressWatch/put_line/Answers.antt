use Rattle.std.proofs.Common.{◌≡◌, List, decimal, rules, subst}
use Rattle.std.specs.Prelude.{◌++◌, codes, ℕ}
use Rattle.fec_base.specs.Bytes.{AppendsFront}
use Rattle.fec_base.proofs.Cuts.{cut_between, cut_longer, cut_third, on_err}
use Rattle.fec_base.proofs.watches.ProgressWatch.put_line.Goals as goal

pub returns-in_err-put-clause-cut : goal.returns-in_err-put-clause-cut
returns-in_err-put-clause-cut g c =
    let held = g.W.Write.contents in
    on_err _ _ (cut_longer (held c.args.self.now.inner) (held c.put.new.self.inner)
    (codes "rebuilt ") (decimal c.args.self.now.count ++ codes "\n") c.in_err-put.ensures.cut)

pub returns-in_err-put-2-clause-cut : goal.returns-in_err-put-2-clause-cut
returns-in_err-put-2-clause-cut g c =
    let held = g.W.Write.contents in
    let digits : c.as_bytes.result.now ≡ decimal c.args.self.now.count = search rules in
    on_err _ _ (subst (λ (text : List ℕ). AppendsFront (held c.args.self.now.inner)
    (held c.put-2.new.self.inner) ((codes "rebuilt " ++ text) ++ codes "\n")) digits
    (cut_between (held c.args.self.now.inner) (held c.put.new.self.inner)
    (held c.put-2.new.self.inner) (codes "rebuilt ") c.as_bytes.result.now (codes "\n")
    c.in_ok-put.ensures.written c.in_err-put-2.ensures.cut))

pub returns-in_err-put-3-clause-cut : goal.returns-in_err-put-3-clause-cut
returns-in_err-put-3-clause-cut g c =
    let held = g.W.Write.contents in
    let digits : c.as_bytes.result.now ≡ decimal c.args.self.now.count = search rules in
    on_err _ _ (subst (λ (text : List ℕ). AppendsFront (held c.args.self.now.inner)
    (held c.put-3.new.self.inner) ((codes "rebuilt " ++ text) ++ codes "\n")) digits
    (cut_third (held c.args.self.now.inner) (held c.put.new.self.inner)
    (held c.put-2.new.self.inner) (held c.put-3.new.self.inner)
    (codes "rebuilt ") c.as_bytes.result.now (codes "\n") c.in_ok-put.ensures.written
    c.in_ok-put-2.ensures.written c.in_err-put-3.ensures.cut))
