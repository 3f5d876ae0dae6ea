use Rattle.std.proofs.Common.{List, [], ◌∷◌, ◌++◌, ap, ◌∙◌}
use Rattle.sparse_rows.specs.Matrix.{Matrix}
use Rattle.decoder_tests.proofs.SmallBlocks.{small_codes}
use Rattle.decoder_tests.proofs.receivers.three_codes.Goals as goal

pub returns : goal.returns
returns c =
    let a = c.in_ok-four_and_two.field-0 in
    let b = c.in_ok-three_and_one.field-0 in
    let d = c.in_ok-three_and_one-2.field-0 in
    let more : Matrix → List Matrix → List Matrix = λ x xs. xs ++ x ∷ [] in
    small_codes c.push-3.new.self.items a b d
    (c.in_ok-push-3.ensures.items ∙ ap (more d) (c.in_ok-push-2.ensures.items ∙ ap (more b)
    (c.in_ok-push.ensures.items ∙ ap (more a) c.in_ok-codes.ensures.items)))
    c.in_ok-four_and_two.ensures c.in_ok-three_and_one.ensures c.in_ok-three_and_one-2.ensures
