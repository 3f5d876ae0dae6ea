-- What a run writes, where its output or its report may fail.
use Rattle.std.specs.Prelude.{◌⊎◌, ℕ, List}
use Rattle.std.specs.Io.KnownBytes.{Appends}
use Rattle.fec_base.specs.Bytes.{AppendsFront}
use Rattle.fec_base.specs.Causes.{Rose}
use Rattle.fec_base.specs.Outside.{Stream}

-- the report took the text, or a front of it where its count of faults rose
abbrev pub IsTold : List ℕ → Stream → Stream → Type 0
IsTold text report report_now = Appends report.bytes report_now.bytes text
    ⊎ (Rose report.faults report_now.faults × AppendsFront report.bytes report_now.bytes text)
