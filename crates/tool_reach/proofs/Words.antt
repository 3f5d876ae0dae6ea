-- Whether a word has positions, and what is salvaged of a symbol by that.
use Rattle.std.proofs.Common.{[], List, ap, false, if◌then◌else◌, refl, true, ℕ, ◌≡◌, ◌≢◌, ◌∷◌}
use Rattle.fec_base.specs.Symbol.{zero_symbol}
use Rattle.partial_block.specs.Saved.{Saved, saved_at, through_at}
use Rattle.tool_reach.specs.Salvaged.{is_no_word, open_line, salvaged_symbol, through_line}

pub no_word : (word : List ℕ) → word ≡ [] → is_no_word word ≡ true
no_word [] same = refl
no_word (p ∷ word) same = cc

pub some_word : (word : List ℕ) → word ≢ [] → is_no_word word ≡ false
some_word [] apart = absurd (apart refl)
some_word (p ∷ word) apart = refl

module _ (len : ℕ) (saved : Saved) (e : ℕ) where
  -- a determined symbol is salvaged
  pub symbol_saved : through_at saved e ≡ [] → salvaged_symbol len saved e ≡ saved_at saved e
  symbol_saved none = ap (λ t. if t then saved_at saved e else zero_symbol len)
      (no_word (through_at saved e) none)

  -- in place of another one stand zero bytes
  pub symbol_open : through_at saved e ≢ [] → salvaged_symbol len saved e ≡ zero_symbol len
  symbol_open some = ap (λ t. if t then saved_at saved e else zero_symbol len)
      (some_word (through_at saved e) some)

module _ (saved : Saved) (e : ℕ) where
  -- and a line names its null word
  pub line_none : through_at saved e ≡ [] → open_line saved e ≡ []
  line_none none = ap (λ t. if t then [] else through_line e (through_at saved e))
      (no_word (through_at saved e) none)

  pub line_open : through_at saved e ≢ [] → open_line saved e ≡ through_line e (through_at saved e)
  line_open some = ap (λ t. if t then [] else through_line e (through_at saved e))
      (some_word (through_at saved e) some)
