-- The bound on the steps of one block's decoder, said of the list of all decoders.
use Rattle.std.proofs.Common.{◌≡◌, ℕ, ◌<◌, ◌≤◌, ◌+◌, ◌*◌, List, length, get_or, set, sym, subst₂}
use Rattle.std.proofs.Common.{◌∙◌}
use Rattle.std.proofs.lemmas.List.{get_or-set_same, get_or_default}
use Rattle.peeling.specs.Decoder.{Decoder}
use Rattle.peeling.specs.Lookups.{known_entries}

-- what bounds the steps by the decoder of block b does so by that block's place in the lists
pub bound_at : (cores : List Decoder) (b : ℕ) (old now : Decoder) (before after : ℕ)
    → b < length cores
    → old ≡ get_or cores b old → after + 2 * known_entries old ≤ before + 2 * known_entries now
    → (d : Decoder) → after + 2 * known_entries (get_or cores b d) ≤ before + 2 * known_entries
    (get_or (set cores b now) b d)
bound_at cores b old now before after lt is bound d =
    subst₂ (λ x y. after + 2 * known_entries x ≤ before + 2 * known_entries y)
    (is ∙ get_or_default cores b old d lt) (sym (get_or-set_same cores b now d lt)) bound
