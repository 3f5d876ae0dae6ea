-- `free` gives the allocator its block and the right to it. It is one walk through the function,
-- which has no parts to cut it at. Assumes `Logic`.
use Rattle.symbol_arena.proofs.Walk.{◌≡◌, ◌^◌, ◌<◌, ◌≤◌, List, [], ◌∷◌, length, refl, sym, ap}
use Rattle.symbol_arena.proofs.Walk.{subst, ◌∙◌, w64, proved, after, flft, ftrue, id⊢, fact, tables}
use Rattle.symbol_arena.proofs.Walk.{usize, yes, uint_vals, uint_Tells, owns, in_a_block, shr_vals}
use Rattle.symbol_arena.proofs.Walk.{shr_Tells, plain, nothing, heard, Stays, walk_of, stay_dropped}
use Rattle.symbol_arena.proofs.Walk.{Goes-dropped, ends_at, named, Val, vint, vunit, alloc_all}
use Rattle.symbol_arena.proofs.Walk.{pass_all, free_all, look_at, get, sets, is, env, ‵, raw, ◌⊛◌}
use Rattle.symbol_arena.proofs.Walk.{later, await, at_ret, ◌$◌, ◌∵◌, !, qed, done, move, keep, use1}
use Rattle.symbol_arena.proofs.Walk.{split, join, fsplit, fjoin, feq_i, suffices, group, whole, sub}
use Rattle.symbol_arena.proofs.Walk.{enter, of_opd, unit_lit, lit, stop, fld, no_more, and_then}
use Rattle.symbol_arena.proofs.Walk.{first, blocks, exec, returns}
use contract.BorrowLft.{◌⊑◌, ⊑_trans}
use denote.Builtin.{RefOf}
use denote.Param.{param, bounded}
use denote.RattleType.{RattleType}
use denote.RawPtr.{ptr_val}
use denote.Signature.{types_at}
use denote.Triple.Call.{calls_at_last}
use denote.Triple.Entry.{alive}
use lib.Dec.{T}
use mir.MapTy.{inst_fn}
use mir.Syntax.{Ty, Fn, Args, a_type, dcons, dnil, ty_unit}
use mir.Val.{has_ty, WT}
use types.ByLocal.{get_in, lands_last}
use types.Kit.{given, learn}
use Rattle.core.proofs.alloc.Calls.{Al, seen, Goes-blank, Gives}
use Rattle.core.proofs.atomic.Steps.{fm}
use Rattle.std_alloc.proofs.RcSteps.{word-Good}
use Rattle.symbol_arena.specs.Memory.{memory_owns, block_of}
use Rattle.symbol_arena.specs.contracts.memory.Memory as memory
use Rattle.symbol_arena.specs.contracts.memory.Lease as lease
use Rattle.symbol_arena.specs.contracts.memory.Memory.free as f
use Rattle.symbol_arena.proofs.memory.Memory.free.Statement.{statement}
use Rattle.symbol_arena.proofs.memory.Memory.free.Code as code
use Rattle.symbol_arena.proofs.Values.{memory_val, lease_val, memory_told, lease_told}
use Rattle.symbol_arena.proofs.Calls.{Return, hands_back, handed_back}

pub free_spec : {M : Type 1} → statement M
free_spec 𝓤 𝓛 𝓜 𝓡 wired A L g d drops met md =
    let E = f.ended A g d drops in let c = f.clauses A g d drops 𝓛 𝓜.mem 𝓡.returns in let 𝓣 =
    tables 𝓤 𝓛.H 𝓜 𝓡 𝓡.env in
    let args : Args = bounded (a_type ∷ []) (A, tt) (dcons d (dcons drops dnil)) in let fn : Fn =
    inst_fn args code.function in
    let Handle : RattleType = param 0 A in let handle = RefOf (0 ∷ []) tt (plain (λ _. Handle))
    (λ _. tt) in let Leased : RattleType = lease.the_row Handle g in
    let stayed : Stays E.signature.params E.kept = (
      stay_dropped (plain (λ _. memory.the_row)) E.kept.0,
      (
        stay_dropped (plain (λ _. Leased)) E.kept.1.0,
        (stay_dropped handle yes, (stay_dropped (plain (λ _. usize)) yes, tt)),
      ),
    ) in
    let W = walk_of 𝓛 E stayed c in
    proved 𝓛 E stayed c 𝓜 𝓡 (
      Goes-blank 𝓛 2 (plain (λ _. memory.the_row)) E.kept.0 (λ κs x w. tt),
      (
        Goes-blank 𝓛 2 (plain (λ _. Leased)) E.kept.1.0 (λ κs x w. tt),
        (
          Goes-dropped 𝓛 2 handle yes (λ κs x w. refl),
          (Goes-dropped 𝓛 2 (plain (λ _. usize)) yes (λ κs x w. refl), tt),
        ),
      ),
    )
    (f.Key.name args) fn (code.unfolded 𝓤 𝓛.H 𝓜 𝓡 wired (A, tt) d drops)
    (λ κs. ((λ m. memory_val m.ptr ∷ []), ((λ l. lease_val ∷ []), (shr_vals, (uint_vals w64, tt)))))
    (λ κs. (
      (λ m vs told. memory_told m.ptr vs told.0),
      (
        (λ l vs told. lease_told vs told.0),
        (shr_Tells (named 0) κs.0 Handle, (uint_Tells w64, tt)),
      ),
    )) (λ κs qs bounds a _ are.
    let κ = κs.0 in let q = qs.0 in let m = a.0 in let k = a.1.0 in let h = a.1.1.0.now in let at =
    a.1.1.0.ref_ptr in let n = a.1.1.1.0 in let τ : Ty = block_of n in
    let words : List Val × (List Val × (List Val × (List Val × Unit {0}))) =
    (memory_val m.ptr ∷ [], (lease_val ∷ [], (shr_vals a.1.1.0, (vint w64 n ∷ [], tt)))) in
    let y : W.Ghost = ((κs, qs, bounds, a, words), tt) in
    let Z : Al = record { row = A; laws = L; g = g; d = d; drops = drops } in
    qed 𝓛 ((raw (alive 𝓛 E.signature κs qs) ⊛ ‵ (owns (types_at E.signature.params κs) a words)) ∷
    (raw (fact 𝓤 (κs.1.0 ⊑ A.lives))
    ⊛ raw (fact 𝓤 ((m.size ≡ n) × (length m.written ≤ n) × (k.ptr ≡ m.ptr) × (k.size ≡ n)
    × (k.alloc ≡ h)))) ∷ []) ∵
    move ! (1 ∷ []) $ split ! $ heard ! _ (λ lasts. heard ! _ (λ asked. split ! $
    -- each argument is opened, and the tokens of the lifetimes are kept
    use1 𝓛 (‵ (flft κ q) ⊛ ‵ (flft κs.1.0 qs.1.0) ⊛ ‵ ftrue) (id⊢ 𝓤 _) $ split ! $ move ! (2 ∷ []) $
    fsplit ! $ fsplit ! $ move ! (2 ∷ []) $ fsplit ! $ fsplit ! $ move ! (2 ∷ []) $ fsplit ! $
    fsplit ! $ keep ! (6 ∷ 4 ∷ 1 ∷ 7 ∷ 8 ∷ []) $
    enter ! _ _ _ _ _ $ alloc_all !
    (λ l. pass_all ! refl (
      word-Good [] m.ptr,
      ((tt, (tt, tt)), ((tt, tt), ((tt, record { fits = are.1.1.1.0.1 }), tt))),
    ) $
    in_a_block ! m.ptr (λ p. memory_owns p m.size m.written) (id⊢ 𝓤 _) (λ b o e.
    sets ! (is ! (of_opd ! (get_in ! (fld ! refl (stop !)) (sub ! 0 refl (whole !))))
    (ap ptr_val e)) refl (tt, tt) $
    -- [the memory; the lease; the handle; the token of its lifetime; the other tokens]
    move ! (2 ∷ []) $ use1 𝓛 (‵ (seen Z κ at h)) (id⊢ 𝓤 _) $ move ! (1 ∷ 2 ∷ 0 ∷ 3 ∷ []) $
    let fits : n < 2 ^ 64 = are.1.1.1.0.1 in let lives = ⊑_trans κ κs.1.0 A.lives bounds.0 lasts in
    let back = Return 𝓛 Z 𝓜.mem 𝓡.returns κ q at h lives n fits b o in
    first ! $ blocks ! $ group ! 4 $
    use1 𝓛 (raw ((Gives Z 𝓛 𝓜.mem 𝓡.returns).pre back))
    (hands_back 𝓛 Z 𝓜.mem 𝓡.returns κ q at h lives n fits b o m.size m.written k.alloc k.size k.ptr
    asked.0 asked.1 asked.4 asked.3 (asked.2 ∙ e)) $
    calls_at_last ! (fm 𝓛 𝓜 𝓡) (Gives Z 𝓛 𝓜.mem 𝓡.returns) (met.deallocate drops) back
    (and_then ! (get ! refl) (and_then ! (get ! refl)
    (and_then ! (get ! refl) (and_then ! (lit ! tt) (no_more !))))) (λ v.
    use1 𝓛 (later (given (v ≡ vunit) (‵ (flft κ q)))) (handed_back 𝓛 Z 𝓜.mem 𝓡.returns κ q at h
    lives n fits b o v) $ await ! tt $ learn ! (λ is_unit.
    lands_last ! refl (subst (λ (z : Val). T (has_ty ty_unit z) × WT z) (sym is_unit) (tt, tt)) $
    exec ! 𝓣.C 𝓣.Λ (env fn.locals l) (after 2 fn.body) (at_ret _ (W.post y)) $
    sets ! (of_opd ! (unit_lit !)) refl (tt, tt) $ returns ! (look_at ! 0 refl) $ free_all ! refl $
    keep ! (0 ∷ 1 ∷ []) $
    suffices ! _ (ends_at 𝓛 E stayed c y vunit tt (tt, (tt, (tt, (tt, tt))))
    (tt, (tt, (tt, (tt, tt))))) $
    join ! $ feq_i ! (List Val) (vunit ∷ []) (vunit ∷ []) refl $ nothing ! $ nothing ! $ fjoin ! $
    nothing ! $ fjoin ! $ nothing ! $ fjoin ! $ nothing ! $ fjoin ! $ join ! $
    move ! (1 ∷ 0 ∷ []) $ join ! $ nothing ! $ move ! (1 ∷ 0 ∷ []) $ done !)))))))
