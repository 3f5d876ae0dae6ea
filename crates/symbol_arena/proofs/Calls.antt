-- The allocator's two calls at a block of bytes: what each is handed, and what comes back. Assumes
-- `Logic`.
use Rattle.std.proofs.Common.{◌≡◌, ℕ, ◌*◌, ◌^◌, ◌<◌, ◌≤◌, List, [], ◌∷◌, length, refl, ◌∙◌, lit<}
use Rattle.std.proofs.Common.{arith}
use seplogic.Ra.Ura.{Ura}
use base.Fml.{Lft, Share, froom, flft}
use base.Logic.{ent, sep, guard}
use contract.BorrowLft.{◌⊑◌}
use contract.Monad.{Fun}
use denote.RawPtr.{Ptr, block_ptr}
use mir.Val.{Val, vunit}
use prog.Capped.{capped_is}
use prog.Memory.{Memory, size, capped}
use prog.Routine.{Routine}
use types.Kit.{‵, raw, ◌$◌, ◌∵◌, !, qed, done, use1, rewrite, group}
use types.Logic.{Logic, sem}
use Rattle.core.proofs.alloc.Calls.{Al, seen, Takes, at_takes, Answered, Takes-goes, Takes-gives}
use Rattle.core.proofs.alloc.Calls.{Gives, at_gives, Gives-goes, Gives-Gives}
use Rattle.symbol_arena.specs.Memory.{memory_owns, block_of}
use Rattle.symbol_arena.proofs.Values.{to_block}

module _ {M : Type 1} {𝓤 : Ura M} (𝓛 : Logic 𝓤) (Z : Al) (at_mem : Memory → base.Logic.SProp 𝓤)
    (run : Routine → Fun 𝓤) (κ : Lft) (q : Share) (p : ℕ × ℕ) (a : Z.row.Denot)
    (lives : κ ⊑ Z.row.lives) (n : ℕ) (fits : n < 2 ^ 64) where
  open 𝓛 use {H, A}

  -- so many bytes are that long
  bytes_long : capped (size (block_of n)) ≡ n
  bytes_long = capped_is (n * 1) (omega arith) ∙ omega arith

  -- a block is asked for
  abbrev pub Ask : (Takes Z 𝓛 at_mem run).Ghost
  Ask = at_takes Z 𝓛 at_mem run κ q p a n 1 (block_of n)

  pub asks : ent 𝓤 (sep 𝓤 (sem 𝓛 (seen Z κ p a)) (A.lft κ q)) ((Takes Z 𝓛 at_mem run).pre Ask)
  asks = Takes-goes Z 𝓛 at_mem run κ q p a lives n 1 (block_of n) bytes_long refl fits (lit< tt)

  pub asked : (v : Val) → ent 𝓤 ((Takes Z 𝓛 at_mem run).post Ask v)
      (H.⇛ (sep 𝓤 (Answered Z 𝓛 at_mem run a (block_of n) v) (A.lft κ q)))
  asked v = Takes-gives Z 𝓛 at_mem run κ q p a n 1 (block_of n) v

  -- a memory and the lease that belongs to it are handed back
  module _ (b o : ℕ) where
    abbrev pub Return : (Gives Z 𝓛 at_mem run).Ghost
    Return = at_gives Z 𝓛 at_mem run κ q p a b o n 1 (block_of n)

    pub hands_back : (room : ℕ) (written : List ℕ) (whose : Z.row.Denot) (leased : ℕ) (ptr : Ptr)
        → room ≡ n → length written ≤ n → whose ≡ a → leased ≡ n → ptr ≡ block_ptr b o
        → ent 𝓤 (sep 𝓤 (sem 𝓛 (memory_owns (block_ptr b o) room written))
        (sep 𝓤 (sem 𝓛 (Z.g.dealloc_token whose (block_of leased) ptr))
        (sep 𝓤 (sem 𝓛 (seen Z κ p a)) (A.lft κ q)))) ((Gives Z 𝓛 at_mem run).pre Return)
    hands_back room written whose leased ptr room_is fewer whose_is leased_is ptr_is =
        qed 𝓛 (‵ (memory_owns (block_ptr b o) room written) ∷ ‵
        (Z.g.dealloc_token whose (block_of leased) ptr) ∷ ‵ (seen Z κ p a) ∷ ‵ (flft κ q) ∷ [])
        ∵
        use1 𝓛 (‵ (froom (block_of room) b o))
        (to_block 𝓛 b o room written (omega (arith, room_is, fewer))) $
        rewrite ! 0 (λ (k : ℕ). ‵ (froom (block_of k) b o)) room_is refl $
        rewrite ! 1 (λ (z : Z.row.Denot). ‵ (Z.g.dealloc_token z (block_of leased) ptr)) whose_is
        refl $
        rewrite ! 1 (λ (k : ℕ). ‵ (Z.g.dealloc_token a (block_of k) ptr)) leased_is refl $
        rewrite ! 1 (λ (z : Ptr). ‵ (Z.g.dealloc_token a (block_of n) z)) ptr_is refl $
        group ! 4 $ use1 𝓛 (raw ((Gives Z 𝓛 at_mem run).pre Return))
        (Gives-goes Z 𝓛 at_mem run κ q p a lives b o n 1 (block_of n) bytes_long refl fits
        (lit< tt)) $ done !

    pub handed_back : (v : Val) → ent 𝓤 ((Gives Z 𝓛 at_mem run).post Return v)
        (H.⇛ (guard 𝓤 (v ≡ vunit) (A.lft κ q)))
    handed_back v = Gives-Gives Z 𝓛 at_mem run κ q p a b o n 1 (block_of n) v
