-- What a `&` to the written bytes shows, and that it is made of what owns them. Assumes `Logic`.
use Rattle.std.specs.Prelude.{ℕ, ◌+◌, List, [], ◌∷◌}
use seplogic.Ra.Ura.{Ura}
use base.Fml.{Lft, ftrue, ffalse, fsep}
use base.Fraction.{full_share}
use base.Logic.{ent, via, id⊢}
use mir.Syntax.{w8}
use types.Logic.{Logic, sem}
use types.Kit.{‵, ◌$◌, ◌∵◌, !, qed, keep, fsplit, done}
use denote.Builtin.{u8}
use denote.Copied.{uint_Copied}
use denote.Memory.{part_at, shared_of, hidden_shr}
use denote.Opens.{shr_dup, unhide, hide}
use denote.Plain.{uint_row_laws}
use denote.RattleType.{RattleType}
use denote.RawPtr.{Ptr, RawPtr, block_ptr, null_ptr, ptr_row_laws}
use denote.RawPtr.Bytes.{bytes}
use denote.Sharing.{ShrLaws, said}
use denote.SharingLaws.{beside_shr_laws, said_shr_laws}
use denote.Slice.{elements_shared, elements_shr_laws}
use denote.Struct.Lending.{Lends, Lends-both, Lends-first, Lends-nothing, Lends-said, Lends-false}
use denote.Struct.Owning.{shape}
use denote.Struct.Struct.{Struct, Struct-row_laws}
use Rattle.symbol_arena.specs.Memory.{is_short, room_behind, memory_owns, memory_lends}
use Rattle.symbol_arena.specs.contracts.memory.Memory as memory

pub memory_laws : (p : Ptr) (written : List ℕ) → ShrLaws (memory_lends p written)
memory_laws (block_ptr b o) written = beside_shr_laws _ _ (said_shr_laws (is_short written) tt)
    (elements_shr_laws u8 (uint_row_laws w8) written b o)
memory_laws null_ptr written = said_shr_laws ffalse tt

-- the one field, which is the pointer
abbrev pub Field : RattleType
Field = Struct (shape memory.the_type)

module _ {M : Type 1} {𝓤 : Ura M} (𝓛 : Logic 𝓤) where
  Lends-bytes : (l : Lft) (b o : ℕ) (written : List ℕ)
      → Lends 𝓛 (bytes full_share written b o) (elements_shared u8 written b o) l
  Lends-bytes l b o [] = Lends-nothing 𝓛 ftrue l
  Lends-bytes l b o (x ∷ written) =
      Lends-both 𝓛 (part_at u8 full_share x b o) (bytes full_share written b (o + 1))
      (shared_of u8 x b o) (elements_shared u8 written b (o + 1)) l
      (λ κ ts. (uint_Copied 𝓛 w8).shares full_share l x κ ts b o) (Lends-bytes l b (o + 1) written)

  pub Lends-memory : (l : Lft) (p : Ptr) (size : ℕ) (written : List ℕ)
      → Lends 𝓛 (memory_owns p size written) (memory_lends p written) l
  Lends-memory l (block_ptr b o) size written =
      let all = bytes full_share written b o in
      let room = room_behind b o size written in
      Lends-both 𝓛 (is_short written) (fsep all room) (said (is_short written))
      (elements_shared u8 written b o) l (Lends-said 𝓛 (is_short written) tt l)
      (Lends-first 𝓛 all room (elements_shared u8 written b o) l (Lends-bytes l b o written))
  Lends-memory l null_ptr size written = Lends-false 𝓛 (said ffalse) l

  -- a `&` to the field shows the pointer
  pub shows_pointer : (κ : Lft) (b o : ℕ) (p : Ptr) → ent 𝓤 (sem 𝓛 (hidden_shr Field κ (p, tt) b o))
      (base.Logic.sep 𝓤 (sem 𝓛 (hidden_shr RawPtr κ p b (o + 0)))
      (sem 𝓛 (hidden_shr Field κ (p, tt) b o)))
  shows_pointer κ b o p =
      qed 𝓛 (‵ (hidden_shr Field κ (p, tt) b o) ∷ []) ∵ shr_dup ! Field
      (Struct-row_laws (shape memory.the_type) (ptr_row_laws, tt)) (p, tt) b o κ $ unhide ! $
      fsplit ! $ fsplit ! $ hide ! $ keep ! (0 ∷ 3 ∷ []) $ done !
