use Rattle.std.proofs.Common.{◌≡◌, ◌<◌, length, drop, ℕ, List, All, ap, ◌∙◌, subst, arith}
use Rattle.std.proofs.lemmas.List.{take_at}
use Rattle.fec_base.specs.Symbol.{symbols_of}
use Rattle.gauss.specs.Echelon.{unknowns_in}
use Rattle.gauss.proofs.values.some_values.Goals as goal

pub values_of-requires : goal.values_of-requires
values_of-requires c =
    let new : List ℕ = c.write_values.new.values in
    let long : length new ≡ c.in_ok-bytes.bytes.len =
    omega (arith, c.write_values.auto.values, c.deref_mut.ensures.len) in
    let back = take_at new (drop (length new) c.in_ok-bytes.bytes.items) c.in_ok-bytes.bytes.len
    long in
    record {
      long = ap length back ∙ omega (arith, long, c.in_ok-bytes.ensures.len);
      few = c.requires.form.few;
      most = c.requires.most;
    }

pub returns : goal.returns
returns c =
    let new : List ℕ = c.write_values.new.values in
    let u : ℕ = unknowns_in c.args.form.now in
    let long : length new ≡ c.in_ok-bytes.bytes.len =
    omega (arith, c.write_values.auto.values, c.deref_mut.ensures.len) in
    let back = take_at new (drop (length new) c.in_ok-bytes.bytes.items) c.in_ok-bytes.bytes.len
    long in (
      new,
      omega (arith, long, c.in_ok-bytes.ensures.len),
      subst (All (λ byte. byte < 256)) (c.deref.ensures.value ∙ back) c.tell_bytes.ensures,
      c.write_values.ensures,
      c.values_of.ensures ∙ ap (symbols_of c.args.len u) back,
    )
