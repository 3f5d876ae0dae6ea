-- The names that the walks of `memory` cite.
pub use Rattle.std.proofs.Common.{◌≡◌, ℕ, ◌+◌, ◌-◌, ◌*◌, ◌^◌, ◌<◌, ◌≤◌, List, [], ◌∷◌, ◌++◌, length}
pub use Rattle.std.proofs.Common.{refl, sym, ap, subst, ◌∙◌, lit<, w8, w64, MutBor, arith}
pub use Rattle.std.proofs.raw_atomic.Walks.{proved}
pub use Rattle.std.proofs.VecSteps.Shapes.{after}
pub use base.Fml.{Fml, GName, fsep, fat, flft, fhide, ftrue, froom}
pub use base.Fraction.{full_share}
pub use base.Logic.{ent, sep, id⊢}
pub use contract.Monad.{fact}
pub use contract.Running.{tables}
pub use denote.Builtin.{u8, usize, unit}
pub use denote.Exit.{yes, no}
pub use denote.Laws.{shows}
pub use denote.Memory.{mem, cell_at, hidden_shr}
pub use denote.Opens.{unhide, hide}
pub use denote.Plain.{uint_in, uint_vals, uint_Tells}
pub use denote.RattleType.{owns}
pub use denote.RawPtr.{Ptr, InBlock, block_ptr, block_of, count_of, in_a_block}
pub use denote.Ref.{MutRef, ShrRef, mut_vals, mut_Tells, shr_vals, shr_Tells}
pub use denote.Signature.{plain, mut_ref_to}
pub use denote.Slice.{slice_val, elements_shared}
pub use denote.Steps.{nothing, opens, closes, heard, peeks}
pub use denote.Triple.Entry.{on_entry}
pub use denote.Triple.Walked.{Stays, walk_of, says, stay_dropped, stay_ref, Goes-dropped, Goes-ref}
pub use denote.Triple.Walked.{Goes-spent_ref, ends_at}
pub use mir.Syntax.{named, ty_int}
pub use mir.Val.{Val, vint, vptr, vunit}
pub use prog.Wp.{Env}
pub use seplogic.Ra.Ura.{Ura}
pub use types.ByLocal.{alloc_all, pass_all, free_all, look_at, get, through, sets, sets_last, is}
pub use types.ByLocal.{env}
pub use types.Kit.{‵, raw, ◌⊛◌, some, later, await, pick, at_ret, ◌$◌, ◌∵◌, !, qed, by, done, move}
pub use types.Kit.{keep, drop, use1, use2, split, join, fsplit, fsplit3, fjoin, fpack, feq_i, flt_l}
pub use types.Kit.{flt_i, rewrite, suffices, frame, group}
pub use types.Logic.{Logic, sem}
pub use types.Part.{whole, sub, agg, look_in}
pub use types.Run.{enter, of_opd, unit_lit, lit, bin, load, look, init, store, stop, fld, hop}
pub use types.Run.{no_more, and_then, assigns, assigns_last, first, blocks, exec, returns}
pub use types.SemTy.{cells}
