-- The bytes of frames.
use Rattle.std.proofs.Common.{◌≡◌, ℕ, ◌+◌, ◌-◌, ◌*◌, ◌/◌, ◌%◌, ◌^◌, ◌<◌, ◌≤◌, List, ◌∷◌, ◌++◌, [], length}
use Rattle.std.proofs.Common.{take, drop, replicate, slice_index, sym, ap, ap₂, ◌∙◌, arith}
use Rattle.std.proofs.Common.{take-append-drop, length-take-le, length-drop, drop-drop, slice_set}
use Rattle.std.proofs.Common.{append_assoc, length-append, length-set, get_or}
use Rattle.std.proofs.Math.Seq.{drop-cons}
use Rattle.std.proofs.lemmas.List.{append_cancel_left, append-nil, drop_all, drop_at, take_at}
use Rattle.std.proofs.lemmas.List.{length-replicate, take_all}
use Rattle.adu_frames.specs.Frames.{Datagram, FitsFrame, datagram_bytes, frame_bytes}
use Rattle.adu_frames.specs.Faults.{HasFrameFault}
use Rattle.adu_frames.specs.declared.reading.FrameFault.{FrameFault}
use Rattle.adu_frames.specs.declared.reading.FrameFault.TheVariants.{LengthPast, PaddingSet}
use borrow.Rule.Slice.PartMut.{put_mid}

-- three bytes in front, of which the latter two make a number
pub three_bytes : (bytes : List ℕ) (count : ℕ) → 3 ≤ length bytes
    → ((i : ℕ) → slice_index bytes i < 256)
    → count ≡ slice_index bytes 1 * 256 + slice_index bytes 2
    → bytes ≡ slice_index bytes 0 ∷ count / 256 % 256 ∷ count % 256 ∷ drop 3 bytes
three_bytes bytes count enough are_bytes is =
    let high : slice_index bytes 1 ≡ count / 256 % 256 =
    omega (arith, is, are_bytes 1, are_bytes 2) in
    let low : slice_index bytes 2 ≡ count % 256 = omega (arith, is, are_bytes 1, are_bytes 2) in
    let first : bytes ≡ slice_index bytes 0 ∷ drop 1 bytes = drop-cons bytes 0 0
    (omega (arith, enough)) in
    let second : drop 1 bytes ≡ slice_index bytes 1 ∷ drop 2 bytes =
    drop-cons bytes 1 0 (omega (arith, enough)) in
    let third : drop 2 bytes ≡ slice_index bytes 2 ∷ drop 3 bytes =
    drop-cons bytes 2 0 (omega (arith, enough)) in
    first ∙ ap (λ l. slice_index bytes 0 ∷ l) (second
    ∙ ap₂ (λ (b : ℕ) l. b ∷ l) high (third ∙ ap (λ (b : ℕ). b ∷ drop 3 bytes) low))

-- the datagram behind them, and what is behind it
abbrev pub datagram_at : List ℕ → ℕ → Datagram
datagram_at bytes count = record { flow = slice_index bytes 0; bytes = take count (drop 3 bytes) }

pub long_at : (bytes : List ℕ) (count : ℕ) → 3 + count ≤ length bytes
    → length (take count (drop 3 bytes)) ≡ count
long_at bytes count room = length-take-le count (drop 3 bytes)
    (omega (arith, length-drop 3 bytes, room))

pub parted : (bytes : List ℕ) (count : ℕ) → 3 + count ≤ length bytes
    → ((i : ℕ) → slice_index bytes i < 256)
    → count ≡ slice_index bytes 1 * 256 + slice_index bytes 2
    → bytes ≡ datagram_bytes (datagram_at bytes count) ++ drop (3 + count) bytes
parted bytes count room are_bytes is =
    let rest : drop 3 bytes ≡ take count (drop 3 bytes) ++ drop (3 + count) bytes =
    sym (take-append-drop count (drop 3 bytes))
    ∙ ap (λ l. take count (drop 3 bytes) ++ l) (drop-drop count 3 bytes) in
    three_bytes bytes count (omega (arith, room)) are_bytes is
    ∙ ap₂ (λ (n : ℕ) l. slice_index bytes 0 ∷ n / 256 % 256 ∷ n % 256 ∷ l)
    (sym (long_at bytes count room)) rest

-- a frame, where what is behind the datagram is zero
pub framed : (bytes : List ℕ) (count : ℕ) → 3 + count ≤ length bytes
    → ((i : ℕ) → slice_index bytes i < 256)
    → count ≡ slice_index bytes 1 * 256 + slice_index bytes 2
    → drop (3 + count) bytes ≡ replicate (length (drop (3 + count) bytes)) 0
    → bytes ≡ frame_bytes (length bytes) (datagram_at bytes count)
framed bytes count room are_bytes is zeros =
    let long : length (drop (3 + count) bytes) ≡ length bytes
    - (length (take count (drop 3 bytes)) + 3) =
    length-drop (3 + count) bytes ∙ omega (arith, long_at bytes count room) in
    parted bytes count room are_bytes is
    ∙ ap (λ l. datagram_bytes (datagram_at bytes count) ++ l)
    (zeros ∙ ap (λ (n : ℕ). replicate n 0) long)

abbrev datagram : ℕ → List ℕ → Datagram
datagram flow bytes = record { flow = flow; bytes = bytes }

-- what stands in front of a datagram is its own, and so are its bytes
pub front_is_one : (d e : Datagram) (rest other : List ℕ) → length d.bytes < 65536
    → length e.bytes < 65536
    → datagram_bytes d ++ rest ≡ datagram_bytes e ++ other → (d ≡ e) × (rest ≡ other)
front_is_one d e rest other small small_too same =
    let flow : d.flow ≡ e.flow = ap (λ l. slice_index l 0) same in
    let high : length d.bytes / 256 % 256 ≡ length e.bytes / 256 % 256 =
    ap (λ l. slice_index l 1) same in
    let low : length d.bytes % 256 ≡ length e.bytes % 256 = ap (λ l. slice_index l 2) same in
    let count : length d.bytes ≡ length e.bytes = omega (arith, high, low, small, small_too) in
    let behind : d.bytes ++ rest ≡ e.bytes ++ other = ap (λ l. drop 3 l) same in
    let bytes : d.bytes ≡ e.bytes = sym (take_at d.bytes rest (length d.bytes) (omega arith))
    ∙ ap₂ (λ (n : ℕ) l. take n l) count behind
    ∙ take_at e.bytes other (length e.bytes) (omega arith) in
    let after : rest ≡ other = sym (drop_at d.bytes rest (length d.bytes) (omega arith))
    ∙ ap₂ (λ (n : ℕ) l. drop n l) count behind
    ∙ drop_at e.bytes other (length e.bytes) (omega arith) in
    let whole : d ≡ e = ap₂ datagram flow bytes in
    (whole, after)

-- the same of two symbols in front of others
pub symbols_apart : (len : ℕ) (d e : Datagram) (rest other : List ℕ) → len < 2 ^ 16
    → FitsFrame len d → FitsFrame len e → frame_bytes len d ++ rest ≡ frame_bytes len e ++ other
    → (d ≡ e) × (rest ≡ other)
symbols_apart len d e rest other small fits fits_too same =
    let zeros : List ℕ = replicate (len - (length d.bytes + 3)) 0 in
    let zeros_too : List ℕ = replicate (len - (length e.bytes + 3)) 0 in
    let both = front_is_one d e (zeros ++ rest) (zeros_too ++ other) (omega (arith, small, fits))
    (omega (arith, small, fits_too))
    (sym (append_assoc (datagram_bytes d) zeros rest) ∙ same
    ∙ append_assoc (datagram_bytes e) zeros_too other) in
    let padding : zeros ≡ zeros_too =
    ap (λ (x : Datagram). replicate (len - (length x.bytes + 3)) 0) both.0 in (
      both.0,
      append_cancel_left zeros rest other
          (both.1 ∙ ap (λ l. l ++ other) (sym padding)),
    )

-- a frame has no fault
pub no_fault : (len : ℕ) (d : Datagram) (fault : FrameFault) → len < 2 ^ 16 → FitsFrame len d
    → ¬ (HasFrameFault (frame_bytes len d) fault)
no_fault len d (LengthPast count) small fits (flow, rest, same, few, short) =
    let high : length d.bytes / 256 % 256 ≡ count / 256 % 256 =
    ap (λ l. slice_index l 1) same in
    let low : length d.bytes % 256 ≡ count % 256 = ap (λ l. slice_index l 2) same in
    let zeros : List ℕ = replicate (len - (length d.bytes + 3)) 0 in
    let long : length (d.bytes ++ zeros) ≡ length rest = ap (λ l. length (drop 3 l)) same in
    omega (arith, high, low, few, small, fits, short, long, length-append d.bytes zeros)
no_fault len d PaddingSet small fits (e, padding, same, few, set) =
    let zeros : List ℕ = replicate (len - (length d.bytes + 3)) 0 in
    let both = front_is_one d e zeros padding (omega (arith, small, fits)) few same in
    set (sym both.1 ∙ ap (λ (n : ℕ). replicate n 0)
    (sym (length-replicate (len - (length d.bytes + 3)) 0) ∙ ap length both.1))

-- what is written: a flow, two bytes, and what stands behind them
pub head_written : (out : List ℕ) (flow high low : ℕ) (rest : List ℕ) (n : ℕ) → 3 ≤ length out
    → n ≡ length out - 3
    → put_mid 3 n (slice_set (slice_set (slice_set out 0 flow) 1 high) 2 low) rest
    ≡ flow ∷ high ∷ low ∷ rest
head_written [] flow high low rest n long is = absurd (omega arith)
head_written (a ∷ []) flow high low rest n long is = absurd (omega arith)
head_written (a ∷ b ∷ []) flow high low rest n long is = absurd (omega arith)
head_written (a ∷ b ∷ e ∷ l) flow high low rest n long is =
    ap (λ (m : List ℕ). flow ∷ high ∷ low ∷ m) (ap (λ (m : List ℕ). rest ++ m)
    (drop_all n l (omega (arith, long, is))) ∙ append-nil rest)

-- the bytes of a frame, as they are written
pub frame_written : (out pair bytes now : List ℕ) (flow : ℕ)
    → pair ≡ length bytes / 256 % 256 ∷ length bytes % 256 ∷ [] → 3 ≤ length out
    → length bytes + 3 ≤ length out
    → (set : List ℕ)
    → set ≡ slice_set (slice_set (slice_set out 0 flow) 1 (get_or pair 0 0)) 2 (get_or pair 1 0)
    → now ≡ bytes ++ replicate (length (take (length set - 3) (drop 3 set)) - length bytes) 0
    → put_mid 3 (length set - 3) set now
    ≡ frame_bytes (length out) (record { flow = flow; bytes = bytes })
frame_written out pair bytes now flow is long fits set set_is now_is =
    let high : ℕ = get_or pair 0 0 in
    let low : ℕ = get_or pair 1 0 in
    let same : length set ≡ length out = ap (λ (l : List ℕ). length l) set_is
    ∙ (length-set (slice_set (slice_set out 0 flow) 1 high) 2 low
    ∙ (length-set (slice_set out 0 flow) 1 high ∙ length-set out 0 flow)) in
    let behind : take (length set - 3) (drop 3 set) ≡ drop 3 set =
    take_all (length set - 3) (drop 3 set) (omega (arith, length-drop 3 set)) in
    let count : length (take (length set - 3) (drop 3 set)) - length bytes ≡ length out
    - (length bytes + 3) = ap (λ (l : List ℕ). length l - length bytes) behind
    ∙ omega (arith, length-drop 3 set, same, fits) in
    let rest : now ≡ bytes ++ replicate (length out - (length bytes + 3)) 0 =
    now_is ∙ ap (λ (n : ℕ). bytes ++ replicate n 0) count in
    ap (λ (l : List ℕ). put_mid 3 (length set - 3) l now) set_is
    ∙ (head_written out flow high low now (length set - 3) long (omega (arith, same))
    ∙ ap₂ (λ (p l : List ℕ). flow ∷ get_or p 0 0 ∷ get_or p 1 0 ∷ l) is rest)
