use Rattle.tool_base.proofs.fault_report.put_fault.Goals as goal

pub returns-in-ShortHeader-clause-cut : goal.returns-in-ShortHeader-clause-cut
returns-in-ShortHeader-clause-cut g c = rw c.in-ShortHeader.is c.put_numbered.ensures.cut

pub returns-in-BadMagic-clause-written : goal.returns-in-BadMagic-clause-written
returns-in-BadMagic-clause-written g c = rw c.in-BadMagic.is c.put_text.ensures.bytes

pub returns-in-BadMagic-clause-cut : goal.returns-in-BadMagic-clause-cut
returns-in-BadMagic-clause-cut g c = rw c.in-BadMagic.is c.put_text.ensures.cut

pub returns-in-BadVersion-clause-written : goal.returns-in-BadVersion-clause-written
returns-in-BadVersion-clause-written g c =
    rw c.in-BadVersion.is c.put_numbered-in-BadVersion.ensures.written

pub returns-in-BadVersion-clause-cut : goal.returns-in-BadVersion-clause-cut
returns-in-BadVersion-clause-cut g c =
    rw c.in-BadVersion.is c.put_numbered-in-BadVersion.ensures.cut

pub returns-in-BadCodec-clause-written : goal.returns-in-BadCodec-clause-written
returns-in-BadCodec-clause-written g c =
    rw c.in-BadCodec.is c.put_numbered-in-BadCodec.ensures.written

pub returns-in-BadCodec-clause-cut : goal.returns-in-BadCodec-clause-cut
returns-in-BadCodec-clause-cut g c = rw c.in-BadCodec.is c.put_numbered-in-BadCodec.ensures.cut

pub returns-in-BadReserved-clause-written : goal.returns-in-BadReserved-clause-written
returns-in-BadReserved-clause-written g c = rw c.in-BadReserved.is
    c.put_text-in-BadReserved.ensures.bytes

pub returns-in-BadReserved-clause-cut : goal.returns-in-BadReserved-clause-cut
returns-in-BadReserved-clause-cut g c = rw c.in-BadReserved.is c.put_text-in-BadReserved.ensures.cut

pub returns-in-NoSuchBlock-clause-written : goal.returns-in-NoSuchBlock-clause-written
returns-in-NoSuchBlock-clause-written g c = rw c.in-NoSuchBlock.is
    c.put_packet_fault-in-NoSuchBlock.ensures.written

pub returns-in-NoSuchBlock-clause-cut : goal.returns-in-NoSuchBlock-clause-cut
returns-in-NoSuchBlock-clause-cut g c = rw c.in-NoSuchBlock.is
    c.put_packet_fault-in-NoSuchBlock.ensures.cut

pub returns-in-Field-clause-written : goal.returns-in-Field-clause-written
returns-in-Field-clause-written g c = rw (c.in-Field.is, ← c.number.ensures)
    c.put_numbered-in-Field.ensures.written

pub returns-in-Field-clause-cut : goal.returns-in-Field-clause-cut
returns-in-Field-clause-cut g c = rw (c.in-Field.is, ← c.number.ensures)
    c.put_numbered-in-Field.ensures.cut

pub returns-in-BadLength-clause-written : goal.returns-in-BadLength-clause-written
returns-in-BadLength-clause-written g c = rw c.in-BadLength.is
    c.put_packet_fault-in-BadLength.ensures.written

pub returns-in-BadLength-clause-cut : goal.returns-in-BadLength-clause-cut
returns-in-BadLength-clause-cut g c = rw c.in-BadLength.is
    c.put_packet_fault-in-BadLength.ensures.cut

pub returns-in-BadPadding-clause-written : goal.returns-in-BadPadding-clause-written
returns-in-BadPadding-clause-written g c = rw c.in-BadPadding.is c.put_padding_fault.ensures.written

pub returns-in-BadPadding-clause-cut : goal.returns-in-BadPadding-clause-cut
returns-in-BadPadding-clause-cut g c = rw c.in-BadPadding.is c.put_padding_fault.ensures.cut
