-- What the packets determine of the blocks.
use Rattle.std.proofs.Common.{ℕ, ◌<◌, Bool, List, length, slice_index_or, Option, refl}
use Rattle.std.proofs.Common.{ap, ◌∙◌, subst, arith}
use Rattle.fec_base.specs.Told.{Telling}
use Rattle.sparse_rows.specs.Matrix.{Matrix}
use Rattle.sparse_rows.specs.Codeword.{Arrival}
use Rattle.peeling.specs.Decoder.{Decoder}
use Rattle.peeling.specs.Stands.{StandsFor}
use Rattle.fec_session.specs.Session.{ComeOut}
use Rattle.fec_session.specs.declared.outcome.Outcome.{Outcome}
use Rattle.packet_file.specs.Header.{HeaderFields}
use Rattle.fec_session.specs.Determines.{Determines}
use Rattle.object_file.specs.Received.{arrivals_of}
use Rattle.tool_commands.specs.DecodeRun.{Decodes}
use Rattle.object_file.specs.Receiving.{IsReceived}
use Rattle.tool_commands.specs.Outcomes.{decode_report, object_of}
use Rattle.object_file.proofs.Cores.{blank}

-- so decoders of all packets say what the input decodes to
module _ (draws : Option ℕ) (early : Bool) (most : ℕ) (left now : Option (List ℕ))
    (told told_now : Option (List Telling)) (h : HeaderFields) (decoders : List Decoder) (count : ℕ)
    (is : IsReceived draws early most left now told told_now h decoders count)
    (outcomes : List Outcome) (out : ComeOut decoders outcomes) where
  determined_at : (b : ℕ) (o : Outcome) → b < length outcomes
      → Determines (is.code b) h.oti.symbol (arrivals_of b is.packets) (slice_index_or outcomes b o)
  determined_at b o lt =
      let within : b < length decoders = omega (arith, lt, out.counted) in
      let d : Decoder = slice_index_or decoders b blank in
      let arrivals : List Arrival = arrivals_of b is.packets in
      let x : Outcome = slice_index_or outcomes b o in
      let stands : StandsFor d arrivals = is.cores.stand b blank within in
      let own : Determines d.matrix d.len arrivals x = out.each b blank o within arrivals stands in
      subst (λ (len : ℕ). Determines (is.code b) len arrivals x) (is.cores.len b blank within)
      (subst (λ (m : Matrix). Determines m d.len arrivals x) (is.cores.matrix b blank within)
      own)

  pub decodes : Decodes draws early most left now told told_now outcomes
      (object_of outcomes h.oti.length) (decode_report outcomes count)
  decodes = record {
    header = h;
    code = is.code;
    packets = is.packets;
    mid = is.mid;
    opens = is.opens;
    stands = is.stands;
    over = is.over;
    counted = out.counted ∙ is.cores.counted;
    determined = determined_at;
    object_is = refl;
    report_is = ap (decode_report outcomes) is.counted;
  }
