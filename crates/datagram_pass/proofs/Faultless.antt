-- An input that is datagrams has no fault, and is these datagrams alone.
use Rattle.std.proofs.Common.{◌≡◌, ◌<◌, ◌≤◌, ◌+◌, ◌-◌, ◌*◌, ◌/◌, ◌%◌, ◌^◌, ℕ, List, [], ◌∷◌, ◌++◌}
use Rattle.std.proofs.Common.{length, take, drop, slice_index, replicate, Option, Some, None, All}
use Rattle.std.proofs.Common.{refl, sym, ap, ap₂, ◌∙◌, subst, arith, inl, inr, append_assoc}
use Rattle.std.proofs.Common.{append-nil, length-append}
use Rattle.std.proofs.lemmas.List.{length-replicate, take_at}
use Rattle.std.proofs.Math.Nat.{mul-le-mul_right}
use Rattle.std.proofs.lemmas.List.Elements.{All-head, All-tail}
use Rattle.std.specs.Io.KnownBytes.{Consumes, IsAtEnd}
use Rattle.fec_base.specs.Outside.{Stream}
use Rattle.byteorder.specs.Endian.{big_bytes}
use Rattle.adu_frames.specs.Faults.{HasFrameFault}
use Rattle.adu_frames.specs.Frames.{Datagram, FitsFrame, datagram_bytes, frame_bytes}
use Rattle.adu_frames.specs.Laws.{DatagramIsOne, FrameIsFaultless, FrameIsOne}
use Rattle.adu_frames.specs.declared.reading.FrameFault.TheVariants as frame
use Rattle.datagram_pass.specs.Faults.{HasDatagramFault}
use Rattle.datagram_pass.specs.Laws.{AreDatagrams}
use Rattle.datagram_pass.specs.Pass.{PassEnds, PassesWhole}
use Rattle.datagram_pass.specs.Ways.{IsWithin, all_taken, all_written, taken_of}
use Rattle.datagram_pass.specs.declared.kind.DatagramFault.{DatagramFault}
use Rattle.datagram_pass.specs.declared.kind.DatagramFault.TheVariants.{LengthPast, Long}
use Rattle.datagram_pass.specs.declared.kind.DatagramFault.TheVariants.{PaddingSet, Short, TooMany}
use Rattle.datagram_pass.specs.declared.kind.DatagramRefusal.TheVariants.{Fault}
use Rattle.datagram_pass.specs.declared.kind.Way.{Way}
use Rattle.datagram_pass.specs.declared.kind.Way.TheVariants.{Framing, Unframing}

-- how many bytes are taken for a datagram
long_taken : (way : Way) (symbol : ℕ) (d : Datagram) → FitsFrame symbol d
    → 3 ≤ length (taken_of way symbol d)
long_taken Framing symbol d fits = omega arith
long_taken Unframing symbol d fits = omega arith

long_frame : (symbol : ℕ) (d : Datagram) → FitsFrame symbol d
    → length (frame_bytes symbol d) ≡ symbol
long_frame symbol d fits =
    let zeros : List ℕ = replicate (symbol - (length d.bytes + 3)) 0 in
    omega (
      arith,
      fits,
      length-append d.bytes zeros,
      length-replicate {A = ℕ} (symbol - (length d.bytes + 3)) 0,
    )

-- the first of several
first_taken : (way : Way) (symbol : ℕ) (d : Datagram) (ds : List Datagram)
    → all_taken way symbol (d ∷ ds) ≡ taken_of way symbol d ++ all_taken way symbol ds
first_taken Framing symbol d ds = refl
first_taken Unframing symbol d ds = refl

none_at_all : (way : Way) (symbol : ℕ) → all_taken way symbol [] ≡ []
none_at_all Framing symbol = refl
none_at_all Unframing symbol = refl

-- the length that three bytes say
said : (flow count other_flow : ℕ) (bytes front rest : List ℕ) → count < 2 ^ 16
    → length bytes < 2 ^ 16
    → other_flow ∷ (big_bytes 2 (length bytes) ++ rest) ≡ flow ∷ (big_bytes 2 count ++ front)
    → (count ≡ length bytes) × (rest ≡ front)
said flow count other_flow bytes front rest few small same =
    let high : length bytes / 256 % 256 ≡ count / 256 % 256 = ap (λ l. slice_index l 1) same in
    let low : length bytes % 256 ≡ count % 256 = ap (λ l. slice_index l 2) same in
    (omega (arith, high, low, few, small), ap (λ l. drop 3 l) same)

module _ (datagram_one : DatagramIsOne) (frame_one : FrameIsOne) (faultless : FrameIsFaultless)
    (symbol : ℕ) (most : symbol < 2 ^ 16) where
  apart : (way : Way) (d e : Datagram) (rest other : List ℕ) → FitsFrame symbol d
      → FitsFrame symbol e → taken_of way symbol d ++ rest ≡ taken_of way symbol e ++ other
      → (d ≡ e) × (rest ≡ other)
  apart Framing d e rest other fits fits_too same = datagram_one d e rest other
      (omega (arith, fits, most)) (omega (arith, fits_too, most)) same
  apart Unframing d e rest other fits fits_too same = frame_one symbol d e rest other most fits
      fits_too same

  -- no fault at a datagram that is there and within the limit
  not_here : (way : Way) (index : ℕ) (d : Datagram) (more piece rest : List ℕ) (fault : DatagramFault)
      → FitsFrame symbol d → IsWithin symbol (index + 1)
      → taken_of way symbol d ++ more ≡ piece ++ rest
      → HasDatagramFault way symbol index piece (Some rest) fault → ⊥
  not_here Framing index d more piece rest (Short i have) fits within same
      (at, long, some, inl few, end) =
      let bytes : taken_of Framing symbol d ++ more ≡ piece = same
      ∙ (ap (λ (l : List ℕ). piece ++ l) end ∙ append-nil piece) in
      let count : length (taken_of Framing symbol d ++ more) ≡ length piece =
      ap (λ (l : List ℕ). length l) bytes in
      omega (arith, few, count, length-append (taken_of Framing symbol d) more)
  not_here Framing index d more piece rest (Short i have) fits within same
      (at, long, some, inr (flow, count, front, piece_is, inside, room, short), end) =
      let bytes : datagram_bytes d ++ more ≡ flow ∷ (big_bytes 2 count ++ front) = same
      ∙ (ap (λ (l : List ℕ). piece ++ l) end ∙ (append-nil piece ∙ piece_is)) in
      let (is, rest_is) = said flow count d.flow d.bytes front (d.bytes ++ more)
      (omega (arith, room, most)) (omega (arith, fits, most)) bytes in
      let all : length (d.bytes ++ more) ≡ length front = ap (λ (l : List ℕ). length l) rest_is in
      omega (arith, is, short, all, length-append d.bytes more)
  not_here Framing index d more piece rest TooMany fits within same (three, past) =
      omega (arith, within, past)
  not_here Framing index d more piece rest (Long i count) fits within same
      (at, inside, past, few, flow, piece_is) =
      let bytes : datagram_bytes d ++ more ≡ flow ∷ (big_bytes 2 count ++ rest) = same
      ∙ ap (λ (l : List ℕ). l ++ rest) piece_is in
      let (is, rest_is) = said flow count d.flow d.bytes rest (d.bytes ++ more) few
      (omega (arith, fits, most)) bytes in
      omega (arith, is, past, fits)
  not_here Framing index d more piece rest (LengthPast i count) fits within same has = absurd has
  not_here Framing index d more piece rest (PaddingSet i) fits within same has = absurd has
  not_here Unframing index d more piece rest TooMany fits within same (past, some, long, end) =
      omega (arith, within, past)
  not_here Unframing index d more piece rest (Short i have) fits within same
      (at, inside, long, some, short, end) =
      let bytes : frame_bytes symbol d ++ more ≡ piece = same
      ∙ (ap (λ (l : List ℕ). piece ++ l) end ∙ append-nil piece) in
      let count : length (frame_bytes symbol d ++ more) ≡ length piece =
      ap (λ (l : List ℕ). length l) bytes in
      omega (
        arith,
        long,
        short,
        count,
        long_frame symbol d fits,
        length-append (frame_bytes symbol d) more,
      )
  not_here Unframing index d more piece rest (LengthPast i count) fits within same
      (at, inside, long, has) = faultless symbol d (frame.LengthPast count) most fits
      (subst (λ (l : List ℕ). HasFrameFault l (frame.LengthPast count))
      (sym (take_at piece rest symbol long) ∙ (ap (λ (l : List ℕ). take symbol l) (sym same)
      ∙ take_at (frame_bytes symbol d) more symbol (long_frame symbol d fits))) has)
  not_here Unframing index d more piece rest (PaddingSet i) fits within same
      (at, inside, long, has) = faultless symbol d frame.PaddingSet most fits
      (subst (λ (l : List ℕ). HasFrameFault l frame.PaddingSet)
      (sym (take_at piece rest symbol long) ∙ (ap (λ (l : List ℕ). take symbol l) (sym same)
      ∙ take_at (frame_bytes symbol d) more symbol (long_frame symbol d fits))) has)
  not_here Unframing index d more piece rest (Long i count) fits within same has = absurd has

  -- lists of them are apart as well
  one_list : (way : Way) (ds came : List Datagram) → All (FitsFrame symbol) ds
      → All (FitsFrame symbol) came → all_taken way symbol ds ≡ all_taken way symbol came
      → ds ≡ came
  one_list way [] [] each each_too same = refl
  one_list way [] (e ∷ came) each each_too same =
      let some = long_taken way symbol e (All-head (FitsFrame symbol) e came each_too) in
      let none : length (taken_of way symbol e ++ all_taken way symbol came) ≡ 0 =
      ap (λ (l : List ℕ). length l) (sym (first_taken way symbol e came) ∙ (sym same
      ∙ none_at_all way symbol)) in
      absurd (omega (
        arith,
        some,
        none,
        length-append (taken_of way symbol e) (all_taken way symbol
            came),
      ))
  one_list way (d ∷ ds) [] each each_too same =
      let some = long_taken way symbol d (All-head (FitsFrame symbol) d ds each) in
      let none : length (taken_of way symbol d ++ all_taken way symbol ds) ≡ 0 =
      ap (λ (l : List ℕ). length l) (sym (first_taken way symbol d ds) ∙ (same
      ∙ none_at_all way symbol)) in
      absurd (omega (
        arith,
        some,
        none,
        length-append (taken_of way symbol d) (all_taken way symbol
            ds),
      ))
  one_list way (d ∷ ds) (e ∷ came) each each_too same =
      let both = apart way d e (all_taken way symbol ds) (all_taken way symbol came)
      (All-head (FitsFrame symbol) d ds each) (All-head (FitsFrame symbol) e came each_too)
      (sym (first_taken way symbol d ds) ∙ (same ∙ first_taken way symbol e came)) in
      ap₂ (λ (x : Datagram) (l : List Datagram). x ∷ l) both.0 (one_list way ds came
      (All-tail (FitsFrame symbol) d ds each) (All-tail (FitsFrame symbol) e came each_too) both.1)

  -- a fault has some bytes
  some_piece : (way : Way) (index : ℕ) (piece rest : List ℕ) (fault : DatagramFault)
      → HasDatagramFault way symbol index piece (Some rest) fault → 3 ≤ symbol → 0 < length piece
  some_piece Framing index piece rest (Short i have) (at, long, some, cut, end) least =
      omega (arith, long, some)
  some_piece Framing index piece rest TooMany (three, past) least = omega (arith, three)
  some_piece Framing index piece rest (Long i count) (at, inside, past, few, flow, piece_is) least =
      let long : length piece ≡ 3 = ap (λ (l : List ℕ). length l) piece_is in omega (arith, long)
  some_piece Framing index piece rest (LengthPast i count) has least = absurd has
  some_piece Framing index piece rest (PaddingSet i) has least = absurd has
  some_piece Unframing index piece rest TooMany (past, some, long, end) least = some
  some_piece Unframing index piece rest (Short i have) (at, inside, long, some, short, end) least =
      omega (arith, long, some)
  some_piece Unframing index piece rest (LengthPast i count) (at, inside, long, has) least =
      omega (arith, long, least)
  some_piece Unframing index piece rest (PaddingSet i) (at, inside, long, has) least =
      omega (arith, long, least)
  some_piece Unframing index piece rest (Long i count) has least = absurd has

  within_less : (n m : ℕ) → n ≤ m → IsWithin symbol m → IsWithin symbol n
  within_less n m less within =
      let product : n * symbol ≤ m * symbol = mul-le-mul_right symbol less in
      omega (arith, product, within)

  -- no fault behind some of them
  nowhere : (way : Way) (index : ℕ) (ds came : List Datagram) (piece rest : List ℕ)
      (fault : DatagramFault) → 3 ≤ symbol → All (FitsFrame symbol) ds
      → All (FitsFrame symbol) came → IsWithin symbol (index + length ds)
      → all_taken way symbol ds ≡ all_taken way symbol came ++ (piece ++ rest)
      → HasDatagramFault way symbol (index + length came) piece (Some rest) fault → ⊥
  nowhere way index [] [] piece rest fault least each each_too within same has =
      let some = some_piece way (index + length {A = Datagram} []) piece rest fault has least in
      let none : 0 ≡ length (piece ++ rest) = ap (λ (l : List ℕ). length l)
      (sym (none_at_all way symbol) ∙ (same
      ∙ ap (λ (l : List ℕ). l ++ (piece ++ rest)) (none_at_all way symbol))) in
      omega (arith, some, none, length-append piece rest)
  nowhere way index (d ∷ ds) [] piece rest fault least each each_too within same has =
      not_here way (index + length {A = Datagram} []) d (all_taken way symbol ds) piece rest fault
      (All-head (FitsFrame symbol) d ds each)
      (within_less (index + length {A = Datagram} [] + 1) (index + length (d ∷ ds)) (omega arith)
      within)
      (sym (first_taken way symbol d ds) ∙ (same
      ∙ ap (λ (l : List ℕ). l ++ (piece ++ rest)) (none_at_all way symbol))) has
  nowhere way index [] (e ∷ came) piece rest fault least each each_too within same has =
      let some = long_taken way symbol e (All-head (FitsFrame symbol) e came each_too) in
      let others : List ℕ = all_taken way symbol came in
      let none : 0 ≡ length ((taken_of way symbol e ++ others) ++ (piece ++ rest)) =
      ap (λ (l : List ℕ). length l) (sym (none_at_all way symbol) ∙ (same
      ∙ ap (λ (l : List ℕ). l ++ (piece ++ rest)) (first_taken way symbol e came))) in
      omega (
        arith,
        some,
        none,
        length-append (taken_of way symbol e ++ others) (piece ++ rest),
        length-append (taken_of way symbol e) others,
      )
  nowhere way index (d ∷ ds) (e ∷ came) piece rest fault least each each_too within same has =
      let others : List ℕ = all_taken way symbol came in
      let both = apart way d e (all_taken way symbol ds) (others ++ (piece ++ rest))
      (All-head (FitsFrame symbol) d ds each) (All-head (FitsFrame symbol) e came each_too)
      (sym (first_taken way symbol d ds) ∙ (same
      ∙ (ap (λ (l : List ℕ). l ++ (piece ++ rest)) (first_taken way symbol e came)
      ∙ append_assoc (taken_of way symbol e) others (piece ++ rest)))) in
      let next : index + length (d ∷ ds) ≡ index + 1 + length ds = omega arith in
      let next_too : index + length (e ∷ came) ≡ index + 1 + length came = omega arith in
      nowhere way (index + 1) ds came piece rest fault least
      (All-tail (FitsFrame symbol) d ds each) (All-tail (FitsFrame symbol) e came each_too)
      (subst (IsWithin symbol) next within) both.1
      (subst (λ (n : ℕ). HasDatagramFault way symbol n piece (Some rest) fault) next_too has)

  -- an input that is datagrams has no fault
  no_fault_in : (way : Way) (ds came : List Datagram) (piece : List ℕ)
      (left_now : Option (List ℕ)) (fault : DatagramFault) → AreDatagrams symbol ds
      → All (FitsFrame symbol) came
      → Consumes (Some (all_taken way symbol ds)) left_now (all_taken way symbol came ++ piece)
      → HasDatagramFault way symbol (length came) piece left_now fault → ⊥
  no_fault_in way ds came piece None fault are each taken has = taken
  no_fault_in way ds came piece (Some rest) fault are each taken has =
      nowhere way 0 ds came piece rest fault are.least are.each each
      (subst (IsWithin symbol) (omega arith) are.within)
      (taken ∙ append_assoc (all_taken way symbol came) piece rest)
      (subst (λ (n : ℕ). HasDatagramFault way symbol n piece (Some rest) fault) (omega arith) has)

  pub no_fault : (way : Way) (ds : List Datagram) (input input_now : Stream)
      (fault : DatagramFault) (out : List ℕ) → AreDatagrams symbol ds
      → input.bytes ≡ Some (all_taken way symbol ds)
      → PassEnds way symbol input input_now (Fault fault) out → ⊥
  no_fault way ds input input_now fault out are is (came, piece, p, has) =
      no_fault_in way ds came piece input_now.bytes fault are p.each
      (subst (λ (x : Option (List ℕ)). Consumes x input_now.bytes
      (all_taken way symbol came ++ piece)) is p.taken) has

  -- and what goes for them is written
  all_of_it : (bytes taken : List ℕ) (left_now : Option (List ℕ))
      → Consumes (Some bytes) left_now (taken ++ []) → IsAtEnd left_now → bytes ≡ taken
  all_of_it bytes taken None took end = absurd took
  all_of_it bytes taken (Some rest) took end = took
      ∙ (ap (λ (l : List ℕ). (taken ++ []) ++ l) end
      ∙ (append-nil (taken ++ []) ∙ append-nil taken))

  pub passed : (way : Way) (ds : List Datagram) (input input_now : Stream) (count : ℕ)
      (out : List ℕ) → AreDatagrams symbol ds → input.bytes ≡ Some (all_taken way symbol ds)
      → PassesWhole way symbol input input_now count out
      → (out ≡ all_written way symbol ds) × (count ≡ length ds)
  passed way ds input input_now count out are is (came, p, end, counted) =
      let same : all_taken way symbol ds ≡ all_taken way symbol came =
      all_of_it (all_taken way symbol ds) (all_taken way symbol came) input_now.bytes
      (subst (λ (x : Option (List ℕ)). Consumes x input_now.bytes
      (all_taken way symbol came ++ [])) is p.taken) end in
      let one : came ≡ ds = sym (one_list way ds came are.each p.each same) in (
        p.text_is ∙ ap (λ (l : List Datagram). all_written way symbol l) one,
        sym counted ∙ ap (λ (l : List Datagram). length l) one,
      )

  -- what framing wrote
  pub framed : (datagram_stream : List ℕ) (input input_now : Stream) (count : ℕ) (out : List ℕ)
      → 3 ≤ symbol → input.bytes ≡ Some datagram_stream
      → PassesWhole Framing symbol input input_now count out
      → (ds : List Datagram) × AreDatagrams symbol ds × (out ≡ all_taken Unframing symbol ds)
      × (datagram_stream ≡ all_written Unframing symbol ds) × (count ≡ length ds)
  framed datagram_stream input input_now count out least is (came, p, end, counted) = (
    came,
    record { least = least; most = most; each = p.each; within = p.within },
    p.text_is,
    all_of_it datagram_stream (all_taken Framing symbol came) input_now.bytes
        (subst (λ (x : Option (List ℕ)). Consumes x input_now.bytes
        (all_taken Framing symbol came ++ [])) is p.taken) end,
    sym counted,
  )
