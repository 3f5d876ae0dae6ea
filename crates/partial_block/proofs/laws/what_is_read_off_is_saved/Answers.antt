use Rattle.partial_block.proofs.Kept.{is_saved, some_fits}
use Rattle.partial_block.proofs.laws.what_is_read_off_is_saved.Goals as goal

pub returns : goal.returns
returns c d arrivals r saved is stands ok form off =
    let pairs = c.codewords_pair_with_solutions.ensures d arrivals is stands ok in
    let nulls = c.null_words_pair_with_null_sets.ensures.pairs d arrivals is stands in
    let places = c.null_words_pair_with_null_sets.ensures.places d in
    let first = c.reduced_sets_show_what_is_open.ensures.first in
    let fixed = c.reduced_sets_show_what_is_open.ensures.fixed in
    let forced = c.kept_symbols_are_forced.ensures.codeword in
    let shown = c.null_words_show_what_is_not_determined.ensures.determined in (
      some_fits d arrivals r saved is stands form off pairs nulls places first fixed forced shown,
      is_saved d arrivals r saved is stands form off pairs nulls places first fixed forced shown,
    )
