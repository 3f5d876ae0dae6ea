use Rattle.std.proofs.Common.{◌≡◌, ◌+◌, ◌-◌, ℕ, List, drop, take, replicate, length, arith, ap, sym}
use Rattle.std.proofs.Common.{◌∙◌, length-drop}
use Rattle.std.proofs.lemmas.List.{take_all}
use Rattle.adu_frames.proofs.Spelling.{datagram_at, framed, long_at, parted, three_bytes}
use Rattle.adu_frames.proofs.reading.read_frame.Goals as goal

-- a slice to the end
to_end : (at : ℕ) (bytes : List ℕ) → take (length bytes - at) (drop at bytes) ≡ drop at bytes
to_end at bytes = take_all (length bytes - at) (drop at bytes) (omega (arith, length-drop at bytes))

pub returns-then-end-symbol-clause-fault : goal.returns-then-end-symbol-clause-fault
returns-then-end-symbol-clause-fault c =
    let bytes = c.args.symbol.now in (
      _,
      drop 3 bytes,
      three_bytes bytes c.from_be_bytes-length.result c.requires.least (λ i. (c.type_inv.symbol i).fits)
          (omega (arith, c.from_be_bytes-length.ensures)),
      c.from_be_bytes-length.type_inv,
      omega (arith, length-drop 3 bytes, c.if-end-symbol.true),
    )

pub returns-then-not-are_zeros-clause-fault : goal.returns-then-not-are_zeros-clause-fault
returns-then-not-are_zeros-clause-fault c =
    let bytes = c.args.symbol.now in
    let count = c.from_be_bytes-length.result in
    let rest = to_end (3 + count) bytes in (
      datagram_at bytes count,
      drop (3 + count) bytes,
      parted bytes count c.if-end-symbol.false (λ i. (c.type_inv.symbol i).fits)
          (omega (arith, c.from_be_bytes-length.ensures)),
      omega (arith, long_at bytes count c.if-end-symbol.false, c.from_be_bytes-length.type_inv),
      λ zeros. absurd (cc (
        c.are_zeros.ensures.1 (rest ∙ zeros ∙ ap (λ (l : List ℕ). replicate
            (length l) 0) (sym rest)),
        c.if-not-are_zeros.true,
      )),
    )

pub returns-clause-frame : goal.returns-clause-frame
returns-clause-frame c =
    let bytes = c.args.symbol.now in
    let count = c.from_be_bytes-length.result in
    let rest = to_end (3 + count) bytes in
    let zeros = c.are_zeros.ensures.0 c.if-not-are_zeros.false in
    record {
      room = omega (arith, c.if-end-symbol.false);
      spelled = framed bytes count c.if-end-symbol.false (λ i. (c.type_inv.symbol i).fits)
          (omega (arith, c.from_be_bytes-length.ensures)) (sym rest ∙ zeros
          ∙ ap (λ (l : List ℕ). replicate (length l) 0) rest);
    }
