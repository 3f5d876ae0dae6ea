use Rattle.std.proofs.Common.{refl}
use Rattle.object_file.proofs.Taking.{fits_more, symbol_received}
use Rattle.object_file.proofs.reception.TakingPacketTaker.take.Goals as goal

pub returns-in-Ok-clause-fits : goal.returns-in-Ok-clause-fits
returns-in-Ok-clause-fits g c = fits_more c.args.self.now
    (record { receiver = c.accept.new.self; early = c.args.self.now.early }) c.args.id
    c.args.bytes.now c.accept.ensures.received

pub returns-in-Ok-clause-takes : goal.returns-in-Ok-clause-takes
returns-in-Ok-clause-takes g c = record {
  received = symbol_received c.args.self.now.receiver.cores c.accept.new.self.cores c.args.id
      c.args.bytes.now c.accept.ensures.received;
  grown = c.in-Ok.ensures.told;
  later = c.accept.ensures.cause.later;
  name_is = c.accept.ensures.name;
  early_is = refl;
}

pub returns-in-Err-clause-fits : goal.returns-in-Err-clause-fits
returns-in-Err-clause-fits g c = fits_more c.args.self.now
    (record { receiver = c.accept.new.self; early = c.args.self.now.early }) c.args.id
    c.args.bytes.now c.accept.ensures.received

pub returns-in-Err-clause-fails : goal.returns-in-Err-clause-fails
returns-in-Err-clause-fails g c = record {
  received = symbol_received c.args.self.now.receiver.cores c.accept.new.self.cores c.args.id
      c.args.bytes.now c.accept.ensures.received;
  count = c.in-Err.field-0.told;
  front = c.in-Err.ensures.cut;
  rose = c.in-Err.ensures.cause.failed;
  name_is = c.accept.ensures.name;
}
