-- All bytes, as a run of them.
use Rattle.std.proofs.Common.{◌≡◌, ℕ, ◌-◌, ◌++◌, List, length, take, replicate, sym, ap, ◌∙◌}
use Rattle.std.proofs.Common.{append-nil, arith}
use Rattle.std.proofs.Math.Seq.{take-length}
use Rattle.std.proofs.lemmas.Simd.{put_chunk_whole, length-put_chunk}
use lib.Lanes.{chunk, put_chunk}
use Rattle.symbol_arena.specs.Zeros.{with_zeros}

-- the run of all bytes, as it was lent, is what is seen
pub all_read : (written seen run : List ℕ) (size : ℕ) → length written ≡ size → written ≡ seen
    → run ≡ chunk 0 size written → run ≡ seen
all_read written seen run size e is lent = lent ∙ ap (λ (n : ℕ). take n written) (sym e)
    ∙ take-length written ∙ is

-- all bytes were written anew
pub all_written : (written seen run bytes : List ℕ) (size : ℕ) → length written ≡ size
    → written ≡ seen → run ≡ chunk 0 size written → length bytes ≡ length run
    → put_chunk 0 written bytes ≡ bytes
all_written written seen run bytes size e is lent long = put_chunk_whole written bytes
    (sym (long ∙ ap length (all_read written seen run size e is lent ∙ sym is)))

-- bytes that are written whole have no zeros behind them
pub with_no_zeros : (size : ℕ) (written : List ℕ) → length written ≡ size
    → with_zeros size written ≡ written
with_no_zeros size written e =
    let none : size - length written ≡ 0 = omega arith in
    ap (λ (n : ℕ). written ++ replicate n 0) none ∙ append-nil written

-- so they are what was written anew
pub whole_written : (written seen run bytes : List ℕ) (size : ℕ) → length written ≡ size
    → written ≡ seen → run ≡ chunk 0 size written → length bytes ≡ length run
    → with_zeros size (put_chunk 0 written bytes) ≡ bytes
whole_written written seen run bytes size e is lent long =
    with_no_zeros size (put_chunk 0 written bytes) (length-put_chunk 0 written bytes ∙ e)
    ∙ all_written written seen run bytes size e is lent long
