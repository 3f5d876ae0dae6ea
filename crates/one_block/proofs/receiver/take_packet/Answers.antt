use Rattle.std.proofs.Common.{List, ℕ, [], ◌∷◌, ◌++◌, subst}
use Rattle.peeling.specs.Stands.{StandsFor}
use Rattle.one_block.proofs.Opened.{still_of_block}
use Rattle.one_block.proofs.receiver.take_packet.Goals as goal

pub returns-in_err-receive-clause-block : goal.returns-in_err-receive-clause-block
returns-in_err-receive-clause-block g c =
    still_of_block c.args.session.now.core c.receive.new.self.core c.args.packet.now.esi
    c.deref.result.now c.receive.ensures.received c.requires

pub returns-clause-block : goal.returns-clause-block
returns-clause-block g c =
    still_of_block c.args.session.now.core c.receive.new.self.core c.args.packet.now.esi
    c.deref.result.now c.receive.ensures.received c.requires

pub returns-clause-stands : goal.returns-clause-stands
returns-clause-stands g c = λ arrivals stands.
    subst (λ (bytes : List ℕ). StandsFor c.receive.new.self.core
    (arrivals ++ (c.args.packet.now.esi, bytes) ∷ []))
    c.deref.ensures.value (c.receive.ensures.received.stands arrivals stands)
