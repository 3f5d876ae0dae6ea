use Rattle.std.proofs.Common.{◌≡◌, ◌<◌, All, ℕ, List, [], length, get_or, set, ⊎_elim, sym, ap, ◌∙◌}
use Rattle.std.proofs.Common.{subst, arith, length-set, get_or-set_same, get_or-set_other}
use Rattle.std.proofs.lemmas.Bool.{cases_eq}
use Rattle.std.proofs.lemmas.List.Elements.{All-from_get_or}
use Rattle.fec_base.specs.Symbol.{IsSymbol}
use Rattle.gauss.specs.Equations.{System}
use Rattle.gauss.specs.Filling.{equation_at, with_equation, with_sum}
use Rattle.gauss.specs.Packed.{packed_system}
use Rattle.gauss.proofs.Building.{inside_rows, with_symbol}
use Rattle.gauss.proofs.equations.Equations.set_sum.Goals as goal

-- symbols with another one in place of one
all_set : (len : ℕ) (xs : List (List ℕ)) (r : ℕ) (y : List ℕ) → All (IsSymbol len) xs
    → IsSymbol len y → All (IsSymbol len) (set xs r y)
all_set len xs r y h is k d lt =
    let low : k < length xs = rw (length-set xs r y) at lt in
    ⊎_elim
    (λ (e : k ≡ r). subst (λ j. IsSymbol len (get_or (set xs r y) j d)) (sym e)
    (subst (IsSymbol len) (sym (get_or-set_same xs r y d (omega (arith, low, e)))) is))
    (λ ne. subst (IsSymbol len) (sym (get_or-set_other xs r k y d ne)) (h k d low))
    (cases_eq k r)

pub put-requires-clause-place : goal.put-requires-clause-place
put-requires-clause-place c =
    let i = c.self.inside in
    rw c.self.invariant.row_sums (inside_rows i.unknowns i.len i.rows c.args.r i.words.items i.sums
    c.args.self.now c.self.view_is c.requires.equation)

pub put-requires-clause-len : goal.put-requires-clause-len
put-requires-clause-len c =
    let i = c.self.inside in
    let lt : c.args.r < i.rows = inside_rows i.unknowns i.len i.rows c.args.r i.words.items i.sums
    c.args.self.now c.self.view_is c.requires.equation in
    c.requires.long ∙ ap (λ (s : System). s.len) (sym c.self.view_is)
    ∙ sym (c.self.invariant.symbols c.args.r [] (rw c.self.invariant.row_sums lt)).long

pub invariant_of-self : goal.invariant_of-self
invariant_of-self c =
    let i = c.self.inside in
    let count : length c.args.bytes.now ≡ i.len = c.requires.long ∙ ap (λ (s : System). s.len)
    (sym c.self.view_is) in
    record {
      row_words = c.self.invariant.row_words;
      row_sums = ap length c.put.ensures ∙ length-set i.sums c.args.r c.args.bytes.now
          ∙ c.self.invariant.row_sums;
      symbols = subst (All (IsSymbol i.len)) (sym c.put.ensures)
          (all_set i.len i.sums c.args.r c.args.bytes.now c.self.invariant.symbols (record {
            long = count;
            bytes = All-from_get_or (λ b. b < 256) c.args.bytes.now 0
                (λ k lt. omega (arith, c.type_inv.bytes k));
          }));
      few_unknowns = c.self.invariant.few_unknowns;
      few_rows = c.self.invariant.few_rows;
      some = c.self.invariant.some;
      most = c.self.invariant.most;
    }

pub returns : goal.returns
returns c =
    let i = c.self.inside in
    let lt : c.args.r < i.rows = inside_rows i.unknowns i.len i.rows c.args.r i.words.items i.sums
    c.args.self.now c.self.view_is c.requires.equation in
    ap (λ ss. packed_system i.unknowns i.len i.rows i.words.items ss) c.put.ensures
    ∙ with_symbol i.unknowns i.len i.rows i.words.items i.sums c.args.r c.args.bytes.now lt
    c.self.invariant.row_sums
    ∙ ap (λ (s : System). with_equation s c.args.r
    (with_sum c.args.bytes.now (equation_at s c.args.r))) c.self.view_is
