-- The machine values of a memory and of a lease, which are structs of one field, and the block that
-- a memory is made of. Assumes `Logic`.
use Rattle.std.proofs.Common.{◌≡◌, ℕ, ◌+◌, ◌-◌, ◌≤◌, ◌^◌, List, [], ◌∷◌, ◌++◌, length, refl, sym}
use Rattle.std.proofs.Common.{◌∙◌, lit<, arith, w8}
use seplogic.Ra.Ura.{Ura}
use base.Fml.{froom}
use base.Logic.{ent, emp}
use denote.RattleType.{RattleType}
use denote.RawPtr.{Ptr, RawPtr, block_ptr, ptr_val}
use denote.RawPtr.Bytes.{bytes-room}
use denote.RawPtr.Room.{past_bytes, room_glue}
use denote.Shadow.{Pure, shadow}
use denote.Steps.{nothing}
use denote.Struct.Laws.{RawPtr-plain}
use denote.Struct.Struct.{Shape, Struct, Struct-Pure, Struct-Makes}
use mir.Syntax.{ty_int}
use mir.Val.{Val, vstruct, vcons, vnil, of_list}
use types.Kit.{‵, ◌$◌, ◌∵◌, !, qed, done, drop, use1, use2, fsplit, fjoin, flt_i, rewrite}
use types.Logic.{Logic, sem}
use Rattle.symbol_arena.specs.Memory.{block_of, memory_owns}
use Rattle.symbol_arena.proofs.Shown.{Field}

-- ---- a struct of one field

abbrev pub one : RattleType → Shape
one R = record { name = []; args = []; types = []; fields = R ∷ [] }

abbrev pub one_val : Val → Val
one_val v = vstruct (vcons v vnil)

-- where the field tells its machine value, so does the struct
pub one_told : (R : RattleType) (x : R.Denot) (v : Val) → ((us : List Val) → shadow (R.own_val x us)
    → us ≡ v ∷ []) → (vs : List Val) → shadow ((Struct (one R)).own_val (x, tt) vs)
    → vs ≡ one_val v ∷ []
one_told R x v inside vs s = let field : s.0.0 ≡ v ∷ [] = inside s.0.0 s.1.1.0 in s.1.0
    ∙ (λ i. vstruct (of_list (field i ++ [])) ∷ [])

-- where the field is made of its machine value, so is the struct
pub one_made : {M : Type 1} {𝓤 : Ura M} (𝓛 : Logic 𝓤) (R : RattleType)
    → ((x : R.Denot) (vs : List Val) → Pure (R.own_val x vs)) → (x : R.Denot) (v : Val)
    → shadow (R.own_val x (v ∷ []))
    → ent 𝓤 (emp 𝓤) (sem 𝓛 ((Struct (one R)).own_val (x, tt) (one_val v ∷ [])))
one_made 𝓛 R plain x v field = Struct-Makes 𝓛 (one R) (plain, tt) (x, tt) (one_val v ∷ [])
    ((v ∷ [], tt), (refl, (field, tt)))

-- ---- a memory is its pointer, and a lease a struct without fields

abbrev pub memory_val : Ptr → Val
memory_val p = one_val (ptr_val p)

pub memory_told : (p : Ptr) (vs : List Val) → shadow (Field.own_val (p, tt) vs)
    → vs ≡ memory_val p ∷ []
memory_told p = one_told RawPtr p (ptr_val p) (λ us is. is)

abbrev none : Shape
none = record { name = []; args = []; types = []; fields = [] }

abbrev pub Mark : RattleType
Mark = Struct (one (Struct none))

abbrev pub lease_val : Val
lease_val = one_val (vstruct vnil)

pub lease_told : (vs : List Val) → shadow (Mark.own_val (tt, tt) vs) → vs ≡ lease_val ∷ []
lease_told = one_told (Struct none) tt (vstruct vnil) (λ us is. is.1.0)

module _ {M : Type 1} {𝓤 : Ura M} (𝓛 : Logic 𝓤) where
  pub memory_made : (p : Ptr) → ent 𝓤 (emp 𝓤) (sem 𝓛 (Field.own_val (p, tt) (memory_val p ∷ [])))
  memory_made p = one_made 𝓛 RawPtr RawPtr-plain p (ptr_val p) refl

  pub lease_made : ent 𝓤 (emp 𝓤) (sem 𝓛 (Mark.own_val (tt, tt) (lease_val ∷ [])))
  lease_made = one_made 𝓛 (Struct none) (Struct-Pure none tt) tt (vstruct vnil) (tt, (refl, tt))

  -- a new block is room alone
  pub of_block : (b o size : ℕ) → ent 𝓤 (sem 𝓛 (froom (block_of size) b o))
      (sem 𝓛 (memory_owns (block_ptr b o) size []))
  of_block b o size =
      let all : size ≡ size - 0 = omega arith in
      let start : o ≡ o + 0 = omega arith in
      qed 𝓛 (‵ (froom (block_of size) b o) ∷ []) ∵ rewrite ! 0
      (λ (n : ℕ). ‵ (froom (block_of n) b o)) all refl $ rewrite ! 0
      (λ (k : ℕ). ‵ (froom (block_of (size - 0)) b k)) start refl $
      nothing ! $ fjoin ! $ flt_i ! 0 (2 ^ 63) (lit< tt) $ fjoin ! $ done !

  -- written bytes are room again
  pub to_block : (b o size : ℕ) (written : List ℕ) → length written ≤ size
      → ent 𝓤 (sem 𝓛 (memory_owns (block_ptr b o) size written)) (sem 𝓛 (froom (block_of size) b o))
  to_block b o size written le =
      let n : ℕ = length written in
      let all : n + (size - n) ≡ size = omega arith in
      qed 𝓛 (‵ (memory_owns (block_ptr b o) size written) ∷ []) ∵ fsplit ! $ drop ! $ fsplit ! $
      use1 𝓛 (‵ (froom (block_of n) b o)) (bytes-room 𝓛 written b o) $
      rewrite ! 1 (λ (k : ℕ). ‵ (froom (block_of (size - n)) b k)) (sym (past_bytes n o)) refl $
      use2 𝓛 (‵ (froom (block_of (n + (size - n))) b o)) (room_glue 𝓛 (ty_int w8) n (size - n) b o)
      $ rewrite ! 0 (λ (k : ℕ). ‵ (froom (block_of k) b o)) all refl $ done !
