use Rattle.decoder_tests.proofs.SmallBlocks.{small_new}
use Rattle.decoder_tests.proofs.receivers.receiver_with.Goals as goal

pub returns-in-Ok : goal.returns-in-Ok
returns-in-Ok g c = small_new c.in_ok-codes.codes.items c.in-Ok.receiver.cores c.in_ok-codes.ensures
    c.in-Ok.ensures.cores
