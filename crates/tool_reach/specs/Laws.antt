-- What a `salvage` writes in place of a symbol is certain.
use Rattle.std.specs.Prelude.{List, Option, length, slice_index_or, true, ℕ, ◌<◌, ◌≡◌}
use Rattle.fec_base.specs.Outside.{Stream}
use Rattle.object_file.specs.Received.{arrivals_of}
use Rattle.partial_block.specs.Saved.{Saved}
use Rattle.partial_block.specs.declared.outcome.Survey.{Survey}
use Rattle.partial_block.specs.declared.outcome.Survey.TheVariants as survey
use Rattle.sparse_rows.specs.Codeword.{symbol_at}
use Rattle.sparse_rows.specs.Fitting.{IsFitting}
use Rattle.tool_reach.specs.SalvageRun.{Salvages}
use Rattle.tool_reach.specs.Salvaged.{count_of, is_determined, salvaged_symbol}

-- a source symbol that a `salvage` counts as determined is written as it is in each codeword that
-- fits what arrived for its block
abbrev pub SalvagedIsCertain : Type 0
SalvagedIsCertain = (draws : Option ℕ) (most : ℕ) (input input_now : Stream) (surveys : List Survey)
    (object report : List ℕ) (s : Salvages draws most input input_now surveys object report)
    (b e : ℕ) (saved : Saved) → b < length surveys
    → slice_index_or surveys b survey.NoCodeword ≡ survey.Sources saved → e < count_of saved
    → is_determined saved e ≡ true → (word : List (List ℕ))
    → IsFitting (s.code b) s.header.oti.symbol (arrivals_of b s.packets) word
    → salvaged_symbol s.header.oti.symbol saved e ≡ symbol_at s.header.oti.symbol word e
