-- The bytes of a number, and fields that are written side by side.
use Rattle.std.proofs.Common.{◌≡◌, ℕ, zero, suc, ◌+◌, ◌*◌, ◌^◌, ◌<◌, ◌≤◌, List, [], ◌∷◌, ◌++◌}
use Rattle.std.proofs.Common.{length, take, drop, get_or, slice_index, slice_set, refl, sym, ap}
use Rattle.std.proofs.Common.{◌∙◌, arith, inl, inr, All}
use Rattle.std.proofs.Math.Nat.{mul-add-div_right, mul_assoc, one-le-pow, pow-succ'}
use Rattle.std.proofs.Math.Seq.{drop-cons}
use Rattle.std.proofs.lemmas.Nat.{div-mul-add}
use Rattle.std.proofs.lemmas.List.{append-nil, drop_all, drop-drop, get_or-drop, get_or-take}
use Rattle.std.proofs.lemmas.List.{get_or_past, length-drop, length-take, take-append-drop}
use Rattle.std.proofs.lemmas.Bool.{cases_lt}
use Rattle.std.proofs.lemmas.List.Elements.{All-get_or}
use Rattle.std.specs.Int.{byte_at}
use Rattle.byteorder.specs.Endian.{big_bytes, big_from, big_number}
use Rattle.byteorder.specs.Numbers.{big_from-cons, big_from-lt, big_from-take}
use borrow.Rule.Slice.PartMut.{put_mid, post_of}

some_bytes : (k : ℕ) → zero < 256 ^ k
some_bytes k = let least = one-le-pow k 256 (omega arith) in omega arith

-- a byte doesn't see what stands above it
byte_below : (k high low : ℕ) → byte_at k (high * 256 ^ suc k + low) ≡ byte_at k low
byte_below zero high low = omega arith
byte_below (suc k) high low =
    let above : high * 256 ^ suc (suc k) ≡ high * 256 * 256 ^ suc k =
    ap (λ p. high * p) (pow-succ' 256 (suc k)) ∙ sym (mul_assoc high 256 (256 ^ suc k)) in
    let parted = mul-add-div_right {m = 256 ^ suc k} (some_bytes (suc k)) (high * 256) low in
    rw (above, parted) (omega arith)

-- nor do the lowest bytes
bytes_below : (k high low : ℕ) → big_bytes k (high * 256 ^ k + low) ≡ big_bytes k low
bytes_below zero high low = refl
bytes_below (suc k) high low =
    let above : high * 256 ^ suc k ≡ high * 256 * 256 ^ k = ap (λ p. high * p) (pow-succ' 256 k)
    ∙ sym (mul_assoc high 256 (256 ^ k)) in
    rw (byte_below k high low, above, bytes_below k (high * 256) low) refl

-- the highest byte, where it is one
byte_on_top : (k byte low : ℕ) → byte < 256 → low < 256 ^ k → byte_at k (byte * 256 ^ k + low)
    ≡ byte
byte_on_top zero byte low fits below = omega arith
byte_on_top (suc k) byte low fits below = rw (div-mul-add byte (256 ^ suc k) low below)
    (omega arith)

-- the number that bytes make has these bytes
pub bytes_again : (k : ℕ) (bytes : List ℕ) → k ≤ length bytes
    → ((i : ℕ) → slice_index bytes i < 256) → big_bytes k (big_number k bytes) ≡ take k bytes
bytes_again zero bytes enough are_bytes = refl
bytes_again (suc k) [] enough are_bytes = absurd (omega arith)
bytes_again (suc k) (byte ∷ rest) enough are_bytes =
    let rest_bytes : (i : ℕ) → slice_index rest i < 256 = λ i. are_bytes (suc i) in
    let low : big_from 1 k (byte ∷ rest) ≡ big_number k rest = big_from-cons 0 k byte rest in
    let below : big_number k rest < 256 ^ k = big_from-lt 0 k rest rest_bytes in
    let again = bytes_again k rest (omega (arith, enough)) rest_bytes in
    rw (
      low,
      byte_on_top k byte (big_number k rest) (are_bytes 0) below,
      bytes_below k byte (big_number k rest),
      again,
    ) refl

-- k bytes from a place, and their number
pub part_fits : (place k : ℕ) (bytes : List ℕ) → ((i : ℕ) → slice_index bytes i < 256)
    → big_number k (take k (drop place bytes)) < 256 ^ k
part_fits place k bytes are_bytes =
    rw (big_from-take 0 k k (drop place bytes) (omega arith)) (big_from-lt 0 k (drop place bytes)
    (λ i. rw (get_or-drop place bytes i 0) (are_bytes (place + i))))

part_again : (place k : ℕ) (bytes : List ℕ) → place + k ≤ length bytes
    → ((i : ℕ) → slice_index bytes i < 256) → big_bytes k (big_number k (take k (drop place bytes)))
    ≡ take k (drop place bytes)
part_again place k bytes inside are_bytes =
    ap (big_bytes k) (big_from-take 0 k k (drop place bytes) (omega arith))
    ∙ bytes_again k (drop place bytes) (omega (arith, length-drop place bytes))
    (λ i. rw (get_or-drop place bytes i 0) (are_bytes (place + i)))

-- a number that is read at a place stands there, in front of the rest
read_at : (place k : ℕ) (bytes rest : List ℕ) (number : ℕ) → place + k ≤ length bytes
    → ((i : ℕ) → slice_index bytes i < 256)
    → number ≡ big_number k (take k (drop place bytes)) → drop (place + k) bytes ≡ rest
    → drop place bytes ≡ big_bytes k number ++ rest
read_at place k bytes rest number inside are_bytes number_is rest_is =
    let part : List ℕ = take k (drop place bytes) in
    let front : big_bytes k number ≡ part = ap (big_bytes k) number_is
    ∙ part_again place k bytes inside are_bytes in
    sym (take-append-drop k (drop place bytes)) ∙ ap (λ after. part ++ after)
    (drop-drop k place bytes ∙ rest_is) ∙ ap (λ before. before ++ rest) (sym front)

-- 18 bytes are the bytes of the five numbers that are read at their places
pub read_back : (bytes : List ℕ) (transfer_length symbol first sizes seed : ℕ) → length bytes ≡ 18
    → ((i : ℕ) → slice_index bytes i < 256)
    → transfer_length ≡ big_number 6 (take 6 bytes) → symbol ≡ big_number 2 (take 2 (drop 6 bytes))
    → first ≡ slice_index bytes 8
    → sizes ≡ big_number 5 (take 5 (drop 9 bytes)) → seed ≡ big_number 4 (take 4 (drop 14 bytes))
    → bytes ≡ big_bytes 6 transfer_length ++ big_bytes 2 symbol ++ big_bytes 1 first ++ big_bytes 5
    sizes ++ big_bytes 4 seed
read_back bytes transfer_length symbol first sizes seed all are_bytes length_is symbol_is first_is
    sizes_is seed_is =
    let first_read : slice_index (take 1 (drop 8 bytes)) 0 ≡ slice_index bytes 8 =
    get_or-take 1 (drop 8 bytes) 0 0 (omega arith) ∙ get_or-drop 8 bytes 0 0 in
    let at_14 : drop 14 bytes ≡ big_bytes 4 seed = read_at 14 4 bytes [] seed (omega arith)
    are_bytes seed_is (drop_all 18 bytes (omega arith)) in
    let at_9 : drop 9 bytes ≡ big_bytes 5 sizes ++ big_bytes 4 seed =
    read_at 9 5 bytes (big_bytes 4 seed) sizes (omega arith) are_bytes sizes_is at_14 in
    let at_8 : drop 8 bytes ≡ big_bytes 1 first ++ big_bytes 5 sizes ++ big_bytes 4 seed =
    read_at 8 1 bytes (big_bytes 5 sizes ++ big_bytes 4 seed) first (omega arith) are_bytes
    (omega (arith, first_is, first_read)) at_9 in
    let at_6 : drop 6 bytes ≡ big_bytes 2 symbol ++ big_bytes 1 first ++ big_bytes 5 sizes
    ++ big_bytes 4 seed = read_at 6 2 bytes (big_bytes 1 first ++ big_bytes 5 sizes ++ big_bytes
    4 seed) symbol (omega arith) are_bytes symbol_is at_8 in
    read_at 0 6 bytes (big_bytes 2 symbol ++ big_bytes 1 first ++ big_bytes 5 sizes ++ big_bytes 4
    seed) transfer_length (omega arith) are_bytes length_is at_6

-- the bytes of a list, and 0 after its end
pub bytes_of_all : (bytes : List ℕ) → All (λ byte. byte < 256) bytes → (i : ℕ)
    → slice_index bytes i < 256
bytes_of_all bytes all i = elim (cases_lt i (length bytes)) [
  | inl inside ↦ All-get_or (λ byte. byte < 256) bytes i 0 inside all
  | inr past ↦ rw (get_or_past bytes i 0 past) (omega arith)
]

-- a part that is written whole keeps nothing of what it held
pub whole : (n : ℕ) (part front now : List ℕ) → now ≡ front ++ drop n (take n part) → now ≡ front
whole n part front now is = is ∙ ap (λ rest. front ++ rest)
    (drop_all n (take n part) (omega (arith, length-take n part))) ∙ append-nil front

-- what is written into the 18 bytes, one field after the other
pub written : (out : List ℕ) (transfer_length symbol first sizes seed : ℕ) → length out ≡ 18
    → put_mid 14 4 (put_mid 9 5 (slice_set
    (put_mid 6 2 (big_bytes 6 transfer_length ++ post_of 0 6 out) (big_bytes 2 symbol)) 8 first)
    (big_bytes 5 sizes)) (big_bytes 4 seed)
    ≡ big_bytes 6 transfer_length ++ big_bytes 2 symbol ++ (first ∷ []) ++ big_bytes 5 sizes
    ++ big_bytes 4 seed
written out transfer_length symbol first sizes seed all =
    let ninth : drop 2 (drop 6 out) ≡ get_or out 8 0 ∷ drop 9 out = drop-drop 2 6 out
    ∙ drop-cons out 8 0 (omega arith) in
    let end : drop 4 (drop 5 (drop 9 out)) ≡ [] = drop-drop 4 5 (drop 9 out) ∙ drop-drop 9 9 out
    ∙ drop_all 18 out (omega arith) in
    rw (ninth, end) refl
