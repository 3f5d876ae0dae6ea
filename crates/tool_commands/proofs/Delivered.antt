-- What is due of a file that is ready is what is due of an `encode`.
use Rattle.std.proofs.Common.{inl, sym, subst₂, ℕ, List, ◌++◌, length, sum_by}
use Rattle.fec_base.specs.Outside.{Stream}
use Rattle.object_file.specs.File.{IsEncoding, encode_report, packets}
use Rattle.object_file.specs.Options.{header_for}
use Rattle.object_file.specs.declared.options.EncodeOptions.{EncodeOptions}
use Rattle.packet_file.specs.Header.{HeaderFields, header_bytes}
use Rattle.tool_base.specs.declared.status.Status.{Status}
use Rattle.tool_base.specs.declared.status.Status.TheVariants as status
use Rattle.tool_commands.specs.EncodeRun.{EncodeDue, Encoded, ReadsObject, RefusesEncode}
use Rattle.tool_base.specs.Ending.{OrRefusal, Unwritten}
use Rattle.tool_commands.specs.Ready.{FileDue}

module _ (o : EncodeOptions) (input input_now : Stream) (h : HeaderFields)
    (words : List (List (List ℕ))) (object : List ℕ)
    (reads : ReadsObject o input.bytes input_now.bytes object)
    (encoding : IsEncoding (header_for o (length object)) o.shape.draws object
    (header_bytes h ++ packets h words) (encode_report (length words) (sum_by length words))) where
  encoded : Encoded o input input_now (header_bytes h ++ packets h words)
      (encode_report (length words) (sum_by length words))
  encoded = record { object = object; reads = reads; encoding = encoding }

  pub whole_of : (out text : List ℕ) → FileDue h words status.Done out text
      → Encoded o input input_now out text
  whole_of out text (written, told) =
      subst₂ (λ (a b : List ℕ). Encoded o input input_now a b) (sym written) (sym told) encoded

  pub due_of : (s : Status) (out text : List ℕ) → FileDue h words s out text
      → OrRefusal (EncodeDue o input input_now) (Unwritten (RefusesEncode o input input_now)) s out
      text
  due_of status.Done out text due = inl (whole_of out text due)
  due_of status.Memory out text (part, told) = inl (_, _, encoded, part, told)
  due_of status.Usage out text due = absurd due
  due_of status.ReadFault out text due = absurd due
  due_of status.WriteFault out text due = absurd due
  due_of status.Malformed out text due = absurd due
  due_of status.Draws out text due = absurd due
  due_of status.Limit out text due = absurd due
  due_of status.Undetermined out text due = absurd due
  due_of status.NoCodeword out text due = absurd due
  due_of status.WatchFault out text due = absurd due
