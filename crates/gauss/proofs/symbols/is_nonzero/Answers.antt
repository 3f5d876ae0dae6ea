use Rattle.std.proofs.Common.{◌≡◌, ◌≢◌, ◌<◌, ◌⊎◌, inl, inr, ⊎_elim, zero, suc, ℕ, List, [], ◌∷◌}
use Rattle.std.proofs.Common.{Bool, true, false, not, length, get_or, refl, sym, ap, ◌∙◌, arith}
use Rattle.std.proofs.Common.{true≢false}
use Rattle.fec_base.specs.Symbol.{zero_symbol}
use Rattle.fec_base.proofs.SymbolBytes.{byte_zero}
use Rattle.gauss.proofs.symbols.is_nonzero.Goals as goal

-- all bytes are zero, or one isn't
zero_or_not : (s : List ℕ) → (s ≡ zero_symbol (length s))
    ⊎ ((t : ℕ) × (t < length s) × (get_or s t 0 ≢ 0))
zero_or_not [] = inl refl
zero_or_not (zero ∷ s) = ⊎_elim (λ e. inl (ap (λ bytes. 0 ∷ bytes) e))
    (λ w. inr (suc w.0, omega (arith, w.1), w.2)) (zero_or_not s)
zero_or_not (suc b ∷ s) = inr (0, omega arith, λ e. omega (arith, e))

not_false : (b : Bool) → not b ≡ false → b ≡ true
not_false true e = refl
not_false false e = absurd (true≢false e)

not_true : (b : Bool) → not b ≡ true → b ≡ false
not_true true e = absurd (true≢false (sym e))
not_true false e = refl

pub returns-clause-some : goal.returns-clause-some
returns-clause-some c h = ⊎_elim
    (λ e. absurd (true≢false (sym (c.is_zero.ensures.1 e) ∙ not_true c.is_zero.result h))) (λ w. w)
    (zero_or_not c.args.symbol.now)

pub returns-clause-none : goal.returns-clause-none
returns-clause-none c h t = ap (λ s. get_or s t 0)
    (c.is_zero.ensures.0 (not_false c.is_zero.result h)) ∙ byte_zero (length c.args.symbol.now) t
