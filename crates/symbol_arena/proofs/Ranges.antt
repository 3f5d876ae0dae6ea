-- Writes over a part of the bytes: a copy of another part, and two parts that overlap.
use Rattle.std.proofs.Common.{◌≡◌, ℕ, ◌+◌, ◌-◌, ◌<◌, ◌≤◌, List, ◌++◌, length, get_or, take, drop}
use Rattle.std.proofs.Common.{sym, ap, ◌∙◌, ⊎_elim, arith, append_assoc, ext_get_or}
use Rattle.std.proofs.Math.Seq.{drop-drop}
use Rattle.std.proofs.lemmas.Bool.{cases_lt}
use Rattle.std.proofs.lemmas.Simd.{put_chunk_is, length-chunk, length-put_chunk, get_or-chunk}
use Rattle.std.proofs.lemmas.Simd.{get_or-put_chunk_below, get_or-put_chunk_at}
use lib.Lanes.{chunk, put_chunk}

-- the parts round a copy, put together
pub put_copy : (all : List ℕ) (s d n m : ℕ) → m ≡ n → d + n ≤ length all → s + n ≤ length all
    → take d all ++ take m (drop s all) ++ drop (d + m) all ≡ put_chunk d all (chunk s n all)
put_copy all s d n m e hd hs =
    let long : length (chunk s n all) ≡ n = length-chunk s n all hs in
    ap (λ (k : ℕ). take d all ++ take k (drop s all) ++ drop (d + k) all) e
    ∙ append_assoc (take d all) (chunk s n all) (drop (d + n) all)
    ∙ ap (λ ys. take d all ++ (chunk s n all ++ ys)) (sym (drop-drop n d all)
    ∙ ap (λ (k : ℕ). drop k (drop d all)) (sym long))
    ∙ sym (put_chunk_is d all (chunk s n all) (omega arith))

-- the front and the end of some bytes, written so that they meet or overlap, are all of the bytes
module _ (all bytes : List ℕ) (half : ℕ) (same : length bytes ≡ length all)
    (least : half ≤ length bytes) (most : length bytes ≤ half + half) where
  abbrev end : ℕ
  end = length bytes - half

  abbrev first : List ℕ
  first = put_chunk 0 all (chunk 0 half bytes)

  front_long : length (chunk 0 half bytes) ≡ half
  front_long = length-chunk 0 half bytes (omega arith)

  end_long : length (chunk end half bytes) ≡ half
  end_long = length-chunk end half bytes (omega arith)

  in_front : (k : ℕ) → k < half → get_or first k 0 ≡ get_or bytes k 0
  in_front k lt =
      let here : 0 + k ≡ k = omega arith in
      ap (λ (i : ℕ). get_or first i 0) (sym here)
      ∙ get_or-put_chunk_at 0 all (chunk 0 half bytes) k 0 (omega (arith, front_long))
      (omega (arith, front_long))
      ∙ get_or-chunk 0 half bytes k 0 lt ∙ ap (λ (i : ℕ). get_or bytes i 0) here

  at_end : (k : ℕ) → end ≤ k → k < length bytes
      → get_or (put_chunk end first (chunk end half bytes)) k 0 ≡ get_or bytes k 0
  at_end k from lt =
      let j : ℕ = k - end in
      let here : end + j ≡ k = omega arith in
      ap (λ (i : ℕ). get_or (put_chunk end first (chunk end half bytes)) i 0) (sym here)
      ∙ get_or-put_chunk_at end first (chunk end half bytes) j 0 (omega (arith, end_long))
      (omega (arith, end_long, length-put_chunk 0 all (chunk 0 half bytes)))
      ∙ get_or-chunk end half bytes j 0 (omega arith) ∙ ap (λ (i : ℕ). get_or bytes i 0) here

  pub both_ends : put_chunk end first (chunk end half bytes) ≡ bytes
  both_ends =
      let long : length (put_chunk end first (chunk end half bytes)) ≡ length bytes =
      length-put_chunk end first (chunk end half bytes)
      ∙ length-put_chunk 0 all (chunk 0 half bytes) ∙ sym same in
      ext_get_or 0 (put_chunk end first (chunk end half bytes)) bytes long
      (λ k below. let lt : k < length bytes = omega (arith, long) in
      ⊎_elim (λ (low : k < end). get_or-put_chunk_below end first (chunk end half bytes) k 0 low
      ∙ in_front k (omega arith)) (λ (high : end ≤ k). at_end k high lt) (cases_lt k end))
