use Rattle.std.proofs.Common.{◌≡◌, ◌+◌, ◌<◌, ◌^◌, ℕ, List, [], ◌∷◌}
use Rattle.std.proofs.Common.{All, ap₂, refl, arith}
use Rattle.std.proofs.lemmas.List.Elements.{All-head, All-tail}
use Rattle.adu_frames.specs.Frames.{Datagram, FitsFrame, frames_of}
use Rattle.adu_frames.specs.Frames.{stream_of}
use Rattle.adu_frames.proofs.Spelling.{front_is_one, no_fault, symbols_apart}
use Rattle.adu_frames.proofs.laws.datagrams_have_one_frame.Goals as goal

pub returns-clause-datagram : goal.returns-clause-datagram
returns-clause-datagram c = λ d e rest other small small_too same.
    front_is_one d e rest other small small_too same

pub returns-clause-frame : goal.returns-clause-frame
returns-clause-frame c = λ len d e rest other small fits fits_too same.
    symbols_apart len d e rest other small fits fits_too same

pub returns-clause-faultless : goal.returns-clause-faultless
returns-clause-faultless c = λ len d fault small fits has. no_fault len d fault small fits has

one_list : (len : ℕ) (ds es : List Datagram) → len < 2 ^ 16 → All (FitsFrame len) ds
    → All (FitsFrame len) es → frames_of len ds ≡ frames_of len es → ds ≡ es
one_list len [] [] small fits fits_too same = refl
one_list len [] (e ∷ es) small fits fits_too same = absurd (cc same)
one_list len (d ∷ ds) [] small fits fits_too same = absurd (cc same)
one_list len (d ∷ ds) (e ∷ es) small fits fits_too same =
    let both = symbols_apart len d e (frames_of len ds) (frames_of len es) small
    (All-head (FitsFrame len) d ds fits) (All-head (FitsFrame len) e es fits_too) same in
    ap₂ (λ (x : Datagram) (l : List Datagram). x ∷ l) both.0 (one_list len ds es small
    (All-tail (FitsFrame len) d ds fits) (All-tail (FitsFrame len) e es fits_too) both.1)

pub returns-clause-frames : goal.returns-clause-frames
returns-clause-frames c = one_list

one_stream : (ds es : List Datagram) → All (FitsFrame (2 ^ 16 + 2)) ds
    → All (FitsFrame (2 ^ 16 + 2)) es → stream_of ds ≡ stream_of es → ds ≡ es
one_stream [] [] fits fits_too same = refl
one_stream [] (e ∷ es) fits fits_too same = absurd (cc same)
one_stream (d ∷ ds) [] fits fits_too same = absurd (cc same)
one_stream (d ∷ ds) (e ∷ es) fits fits_too same =
    let here = All-head (FitsFrame (2 ^ 16 + 2)) d ds fits in
    let there = All-head (FitsFrame (2 ^ 16 + 2)) e es fits_too in
    let both = front_is_one d e (stream_of ds) (stream_of es) (omega (arith, here))
    (omega (arith, there)) same in
    ap₂ (λ (x : Datagram) (l : List Datagram). x ∷ l) both.0 (one_stream ds es
    (All-tail (FitsFrame (2 ^ 16 + 2)) d ds fits) (All-tail (FitsFrame (2 ^ 16 + 2)) e es fits_too)
    both.1)

pub returns-clause-stream : goal.returns-clause-stream
returns-clause-stream c = one_stream
