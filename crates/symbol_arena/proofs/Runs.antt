-- A run of the written bytes is taken out of all of them, and put back. Assumes `Logic`.
use Rattle.std.proofs.Common.{◌≡◌, ℕ, zero, suc, ◌+◌, ◌-◌, ◌<◌, ◌≤◌, List, [], ◌∷◌, ◌++◌, length}
use Rattle.std.proofs.Common.{take, drop, refl, sym, ap, subst, ◌∙◌, arith, length-take}
use Rattle.std.proofs.Common.{length-append, w8}
use Rattle.std.proofs.lemmas.List.{take-append-drop}
use Rattle.std.proofs.lemmas.Simd.{put_chunk_is, length-chunk}
use Rattle.std.proofs.Math.Seq.{drop-drop}
use lib.Lanes.{chunk, put_chunk}
use seplogic.Ra.Ura.{Ura}
use base.Fml.{Lft, Fml, fsep, fat, froom}
use base.Fraction.{full_share}
use base.Logic.{ent, sep, via, id⊢, snd∗}
use types.Logic.{Logic, sem}
use types.SemTy.{cells}
use types.Kit.{‵, ◌⊛◌, ◌$◌, ◌∵◌, !, qed, move, use1, use2, split, fsplit, fjoin, rewrite, done}
use mir.Syntax.{ty_int}
use mir.Val.{vint}
use denote.Builtin.{u8}
use denote.Index.{whole_in, whole_out}
use denote.Memory.{mem, part_at, shared_of}
use denote.Plain.{uint_in}
use denote.RawPtr.Bytes.{bytes, bytes_cut, bytes_glue}
use denote.Slice.{elements_shared}
use denote.Steps.{nothing}
use borrow.Table.SharedPart.{each_take}
use Rattle.symbol_arena.specs.Memory.{block_of, room_behind}

module _ {M : Type 1} {𝓤 : Ura M} (𝓛 : Logic 𝓤) (b o : ℕ) where
  abbrev pub All : List ℕ → ℕ → Fml
  All xs at = bytes full_share xs b at

  -- the bytes before the run, and those behind it
  abbrev pub Around : List ℕ → ℕ → ℕ → Fml
  Around xs from len = fsep (All (take from xs) o) (All (drop (from + len) xs) (o + (from + len)))

  parts : (xs : List ℕ) (from len : ℕ)
      → xs ≡ take from xs ++ (chunk from len xs ++ drop (from + len) xs)
  parts xs from len = sym (ap (λ ys. take from xs ++ ys) (ap (λ ys. chunk from len xs ++ ys)
      (sym (drop-drop len from xs)) ∙ take-append-drop len (drop from xs))
      ∙ take-append-drop from xs)

  before : (xs : List ℕ) (from len : ℕ) → from + len ≤ length xs
      → o + length (take from xs) ≡ from + o
  before xs from len le = omega (arith, length-take from xs)

  behind : (xs ws : List ℕ) (from len : ℕ) → length ws ≡ len
      → from + o + length ws ≡ o + (from + len)
  behind xs ws from len e = omega arith

  pub run_out : (xs : List ℕ) (from len : ℕ) → from + len ≤ length xs
      → ent 𝓤 (sem 𝓛 (All xs o)) (sep 𝓤 (sem 𝓛 (cells (mem u8) (chunk from len xs) b (from + o)))
      (sem 𝓛 (Around xs from len)))
  run_out xs from len le =
      let run : List ℕ = chunk from len xs in
      let rest : List ℕ = drop (from + len) xs in
      qed 𝓛 (‵ (All xs o) ∷ []) ∵ rewrite ! 0 (λ (ys : List ℕ). ‵ (All ys o)) (parts xs from len)
      refl $
      use1 𝓛 (‵ (All (take from xs) o) ⊛ ‵ (All (run ++ rest) (o + length (take from xs))))
      (bytes_cut 𝓛 full_share (take from xs) (run ++ rest) b o) $ split ! $ move ! (1 ∷ []) $
      rewrite ! 0 (λ (k : ℕ). ‵ (All (run ++ rest) k)) (before xs from len le) refl $
      use1 𝓛 (‵ (All run (from + o)) ⊛ ‵ (All rest (from + o + length run)))
      (bytes_cut 𝓛 full_share run rest b (from + o)) $ split ! $
      use1 𝓛 (‵ (cells (mem u8) run b (from + o))) (whole_in 𝓛 u8 run b (from + o)) $ move !
      (1 ∷ []) $
      rewrite ! 0 (λ (k : ℕ). ‵ (All rest k)) (behind xs run from len (length-chunk from len xs le))
      refl $ move ! (2 ∷ 0 ∷ []) $ fjoin ! $ move ! (1 ∷ 0 ∷ []) $ done !

  pub run_in : (xs ws : List ℕ) (from len : ℕ) → from + len ≤ length xs → length ws ≡ len
      → ent 𝓤 (sep 𝓤 (sem 𝓛 (cells (mem u8) ws b (from + o))) (sem 𝓛 (Around xs from len)))
      (sem 𝓛 (All (put_chunk from xs ws) o))
  run_in xs ws from len le e =
      let rest : List ℕ = drop (from + len) xs in
      let is : take from xs ++ (ws ++ rest) ≡ put_chunk from xs ws =
      ap (λ ys. take from xs ++ (ws ++ ys)) (sym (drop-drop len from xs)
      ∙ ap (λ (n : ℕ). drop n (drop from xs)) (sym e))
      ∙ sym (put_chunk_is from xs ws (omega arith)) in
      qed 𝓛 (‵ (cells (mem u8) ws b (from + o)) ∷ ‵ (Around xs from len) ∷ []) ∵ use1 𝓛
      (‵ (All ws (from + o))) (whole_out 𝓛 u8 ws b (from + o)) $ move ! (1 ∷ []) $ fsplit ! $
      move ! (2 ∷ 1 ∷ []) $
      rewrite ! 1 (λ (k : ℕ). ‵ (All rest k)) (sym (behind xs ws from len e)) refl $
      use2 𝓛 (‵ (All (ws ++ rest) (from + o))) (bytes_glue 𝓛 full_share ws rest b (from + o)) $
      rewrite ! 0 (λ (k : ℕ). ‵ (All (ws ++ rest) k)) (sym (before xs from len le)) refl $ move
      ! (1 ∷ 0 ∷ []) $
      use2 𝓛 (‵ (All (take from xs ++ (ws ++ rest)) o)) (bytes_glue 𝓛 full_share (take from xs)
      (ws ++ rest) b o) $ rewrite ! 0 (λ (ys : List ℕ). ‵ (All ys o)) is refl $ done !

  -- a `&` to all bytes shows those of the run
  pub run_shown : (κ : Lft) (xs : List ℕ) (from len : ℕ) → from + len ≤ length xs
      → ent 𝓤 (sem 𝓛 (elements_shared u8 xs b o κ))
      (sem 𝓛 (elements_shared u8 (chunk from len xs) b (from + o) κ))
  run_shown κ xs from len le = via 𝓤 (sem 𝓛 (elements_shared u8 (drop from xs) b (from + o) κ))
      (later xs from o (from + o) (omega arith) refl) (each_take 𝓛 (shared_of u8) 1 κ b len
      (drop from xs) (from + o))
    where
      later : (xs : List ℕ) (from o at : ℕ) → from ≤ length xs → at ≡ from + o
          → ent 𝓤 (sem 𝓛 (elements_shared u8 xs b o κ))
          (sem 𝓛 (elements_shared u8 (drop from xs) b at κ))
      later xs zero o at le e = subst (λ (k : ℕ). ent 𝓤 (sem 𝓛 (elements_shared u8 xs b o κ))
          (sem 𝓛 (elements_shared u8 xs b k κ))) {x = o} (omega arith) (id⊢ 𝓤 _)
      later [] (suc from) o at le e = absurd (omega arith)
      later (x ∷ xs) (suc from) o at le e =
          via 𝓤 (sem 𝓛 (elements_shared u8 xs b (o + 1) κ)) (snd∗ 𝓤 (sem 𝓛 (shared_of u8 x b o κ))
          (sem 𝓛 (elements_shared u8 xs b (o + 1) κ))) (later xs from (o + 1) at (omega arith)
          (omega arith))

  -- the room for the next byte
  pub room_next : (size : ℕ) (xs : List ℕ) (at : ℕ) → at ≡ length xs → at < size
      → ent 𝓤 (sem 𝓛 (room_behind b o size xs)) (sep 𝓤 (sem 𝓛 (froom (ty_int w8) b (at + o)))
      (sem 𝓛 (room_behind b o size (xs ++ 0 ∷ []))))
  room_next size xs at e lt =
      let ys : List ℕ = xs ++ 0 ∷ [] in
      let more : length ys ≡ length xs + 1 = length-append xs (0 ∷ []) in
      let left : ℕ = size - length ys in
      let one : size - length xs ≡ suc left = omega (arith, more) in
      let here : o + length xs ≡ at + o = omega arith in
      let behind : o + length xs + 1 ≡ o + length ys = omega (arith, more) in
      qed 𝓛 (‵ (room_behind b o size xs) ∷ []) ∵ rewrite ! 0
      (λ (n : ℕ). ‵ (froom (block_of n) b (o + length xs))) one refl $
      use1 𝓛 (‵ (froom (ty_int w8) b (o + length xs)) ⊛ ‵
      (froom (block_of left) b (o + length xs + 1))) (𝓛.laws.room_uncons (ty_int w8) left b
      (o + length xs)) $ split ! $
      rewrite ! 0 (λ (k : ℕ). ‵ (froom (ty_int w8) b k)) here refl $ rewrite ! 1
      (λ (k : ℕ). ‵ (froom (block_of left) b k)) behind refl $ done !

  -- a zero there is one byte more
  pub zero_in : (xs : List ℕ) (at : ℕ) → at ≡ length xs
      → ent 𝓤 (sep 𝓤 (sem 𝓛 (All xs o)) (sem 𝓛 (fat full_share (ty_int w8) b (at + o) (vint w8 0))))
      (sem 𝓛 (All (xs ++ 0 ∷ []) o))
  zero_in xs at e =
      let here : at + o ≡ o + length xs = omega arith in
      qed 𝓛 (‵ (All xs o) ∷ ‵ (fat full_share (ty_int w8) b (at + o) (vint w8 0)) ∷ []) ∵ move !
      (1 ∷ []) $ use1 𝓛 (‵ (part_at u8 full_share 0 b (at + o)))
      (uint_in 𝓛 full_share w8 0 b (at + o)) $
      rewrite ! 0 (λ (k : ℕ). ‵ (part_at u8 full_share 0 b k)) here refl $ nothing ! $ move !
      (1 ∷ 0 ∷ []) $ fjoin ! $ move ! (1 ∷ 0 ∷ []) $
      use2 𝓛 (‵ (All (xs ++ 0 ∷ []) o)) (bytes_glue 𝓛 full_share xs (0 ∷ []) b o) $ done !
