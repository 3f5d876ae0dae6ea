-- `allocate` asks the allocator for bytes. It is one walk through the function, which has no parts
-- to cut it at. Assumes `Logic`.
use Rattle.symbol_arena.proofs.Walk.{◌^◌, ◌<◌, List, [], ◌∷◌, refl, lit<, w64, proved, after, flft}
use Rattle.symbol_arena.proofs.Walk.{ftrue, id⊢, fact, tables, usize, yes, uint_vals, uint_Tells}
use Rattle.symbol_arena.proofs.Walk.{owns, Ptr, block_ptr, shr_vals, shr_Tells, plain, nothing}
use Rattle.symbol_arena.proofs.Walk.{heard, Stays, walk_of, says, stay_dropped, Goes-dropped}
use Rattle.symbol_arena.proofs.Walk.{ends_at, named, Val, vint, Env, alloc_all, pass_all, free_all}
use Rattle.symbol_arena.proofs.Walk.{look_at, get, sets, sets_last, env, ‵, raw, ◌⊛◌, later, await}
use Rattle.symbol_arena.proofs.Walk.{at_ret, ◌$◌, ◌∵◌, !, qed, done, move, keep, use1, use2, split}
use Rattle.symbol_arena.proofs.Walk.{join, fsplit, fjoin, suffices, frame, whole, agg, enter}
use Rattle.symbol_arena.proofs.Walk.{of_opd, lit, stop, fld, no_more, and_then, first, exec}
use Rattle.symbol_arena.proofs.Walk.{returns}
use contract.BorrowLft.{◌⊑◌, ⊑_trans}
use denote.Builtin.{RefOf}
use denote.Laws.{Is}
use denote.Param.{param, bounded}
use denote.RattleType.{RattleType}
use denote.Signature.{types_at, type_at}
use denote.Steps.{owned}
use denote.Struct.Declared as Declared
use denote.Struct.Struct.{Struct, Struct-Makes}
use denote.Struct.Tuple.{Tuple}
use denote.Triple.Call.{calls_at}
use denote.Triple.Entry.{alive}
use mir.MapTy.{inst_fn}
use mir.Syntax.{Ty, Fn, Args, a_type, dcons, dnil}
use mir.Val.{vstruct, vcons, vnil}
use prog.Wp.{Wp, after_seq, at_return}
use types.ByLocal.{get_in, get_tag, lands_as}
use types.Kit.{Post, any_q, use0}
use types.Match.{live, vrt, in_variant}
use types.Run.{switches_on}
use Rattle.std.specs.Prelude.{Ok, Err}
use Rattle.core.specs.contracts.alloc.AllocError as refusal
use Rattle.core.proofs.alloc.Calls.{Al, seen, Takes, Answered, answers}
use Rattle.core.proofs.alloc.Shapes.{head, arm_body}
use Rattle.core.proofs.atomic.Steps.{fm}
use Rattle.std_alloc.proofs.Pairs.{pair_of, pair_val}
use Rattle.std_alloc.proofs.ResultValues.{ok_of, err_of}
use Rattle.symbol_arena.specs.Memory.{memory_owns, block_of}
use Rattle.symbol_arena.specs.contracts.memory.Memory as memory
use Rattle.symbol_arena.specs.contracts.memory.Lease as lease
use Rattle.symbol_arena.specs.contracts.memory.Memory.allocate as f
use Rattle.symbol_arena.proofs.memory.Memory.allocate.Statement.{statement}
use Rattle.symbol_arena.proofs.memory.Memory.allocate.Code as code
use Rattle.symbol_arena.proofs.Shown.{Field}
use Rattle.symbol_arena.proofs.Calls.{Ask, asks, asked}
use Rattle.symbol_arena.proofs.Values.{Mark, memory_val, lease_val, memory_made, lease_made}
use Rattle.symbol_arena.proofs.Values.{of_block}

pub allocate_spec : {M : Type 1} → statement M
allocate_spec 𝓤 𝓛 𝓜 𝓡 wired A L g d drops met md =
    let E = f.ended A g d drops in let c = f.clauses A g d drops 𝓛 𝓜.mem 𝓡.returns in let 𝓣 =
    tables 𝓤 𝓛.H 𝓜 𝓡 𝓡.env in
    let args : Args = bounded (a_type ∷ []) (A, tt) (dcons d (dcons drops dnil)) in let fn : Fn =
    inst_fn args code.function in
    let Handle : RattleType = param 0 A in let handle = RefOf (0 ∷ []) tt (plain (λ _. Handle))
    (λ _. tt) in
    let stayed : Stays E.signature.params E.kept =
    (stay_dropped handle yes, (stay_dropped (plain (λ _. usize)) yes, tt)) in let W =
    walk_of 𝓛 E stayed c in
    proved 𝓛 E stayed c 𝓜 𝓡 (
      Goes-dropped 𝓛 2 handle yes (λ κs x w. refl),
      (Goes-dropped 𝓛 2 (plain (λ _. usize)) yes (λ κs x w. refl), tt),
    )
    (f.Key.name args) fn (code.unfolded 𝓤 𝓛.H 𝓜 𝓡 wired (A, tt) d drops)
    (λ κs. (shr_vals, (uint_vals w64, tt)))
    (λ κs. (shr_Tells (named 0) κs.0 Handle, (uint_Tells w64, tt))) (λ κs qs bounds a _ are.
    let κ = κs.0 in let q = qs.0 in let h = a.0.now in let at = a.0.ref_ptr in let n = a.1.0 in
    let τ : Ty = block_of n in
    let words : List Val × (List Val × Unit {0}) = (shr_vals a.0, (vint w64 n ∷ [], tt)) in
    let y : W.Ghost = ((κs, qs, bounds, a, words), tt) in
    let Z : Al = record { row = A; laws = L; g = g; d = d; drops = drops } in
    let Out : RattleType = type_at E.signature.result κs in let Made : RattleType =
    Tuple (memory.the_row ∷ lease.the_row Handle g ∷ []) in
    qed 𝓛 ((raw (alive 𝓛 E.signature κs qs) ⊛ ‵ (owns (types_at E.signature.params κs) a words)) ∷
    (raw (fact 𝓤 (κs.1.0 ⊑ A.lives)) ⊛ raw (fact 𝓤 (n < 2 ^ 63))) ∷ []) ∵
    move ! (1 ∷ []) $ split ! $ heard ! _
    (λ lasts. heard ! _ (λ small. split ! $ move ! (1 ∷ []) $ fsplit ! $ fsplit ! $ keep !
    (1 ∷ 3 ∷ []) $
    use1 𝓛 (‵ (seen Z κ at h)) (id⊢ 𝓤 _) $ move ! (1 ∷ []) $ use1 𝓛
    (‵ (flft κ q) ⊛ ‵ (flft κs.1.0 qs.1.0) ⊛ ‵ ftrue) (id⊢ 𝓤 _) $ split ! $ move ! (2 ∷ 0 ∷ [])
    $
    -- [the handle; the token of its lifetime; the other tokens]
    enter ! _ _ _ _ _ $ alloc_all !
    (λ l. pass_all ! refl ((tt, tt), ((tt, record { fits = are.1.0.1 }), tt)) $
    let En : Env 𝓤 𝓛.H = env fn.locals l in
    let Then : Post 𝓤 𝓛.H = any_q (after_seq 𝓤 𝓛.H (Wp 𝓤 𝓛.H 𝓣.C 𝓣.Λ En (after 2 fn.body)
    (at_return 𝓤 𝓛.H En (W.post y))) (at_return 𝓤 𝓛.H En (W.post y))) in
    let lives = ⊑_trans κ κs.1.0 A.lives bounds.0 lasts in let fits : n < 2 ^ 64 = are.1.0.1 in
    let ask = Ask 𝓛 Z 𝓜.mem 𝓡.returns κ q at h lives n fits in
    use2 𝓛 (raw ((Takes Z 𝓛 𝓜.mem 𝓡.returns).pre ask)) (asks 𝓛 Z 𝓜.mem 𝓡.returns κ q at h lives n
    fits) $
    calls_at ! (fm 𝓛 𝓜 𝓡) (Takes Z 𝓛 𝓜.mem 𝓡.returns) (met.allocate drops) ask
    (and_then ! (get ! refl) (and_then ! (get ! refl) (and_then ! (lit ! tt) (no_more !))))
    (λ v.
    use1 𝓛 (later (raw (Answered Z 𝓛 𝓜.mem 𝓡.returns h τ v) ⊛ ‵ (flft κ q)))
    (asked 𝓛 Z 𝓜.mem 𝓡.returns κ q at h lives n fits v) $ await ! tt $ split ! $
    answers Z ! 𝓜.mem 𝓡.returns h τ v
    (λ b o e.
    let p : Ptr = block_ptr b o in let made : Val = pair_val (memory_val p) lease_val in
    let x : memory.the_row.Denot = record { ptr = p; size = n; written = [] } in
    let k : (lease.the_row Handle g).Denot =
    record { marker = record {}; ptr = p; size = n; alloc = h } in
    lands_as ! e refl (tt, (record { fits = lit< tt }, (tt, tt))) $
    first ! $ switches_on ! (get_tag ! (vrt ! refl (fld ! refl (stop !))) (whole !)) $ exec ! 𝓣.C
    𝓣.Λ En (arm_body 0 (head (after 1 fn.body))) Then $
    sets ! (of_opd ! (get_in ! (vrt ! refl (fld ! refl (stop !)))
    (in_variant ! 0 0 refl refl (whole !)))) refl (tt, tt) $
    sets ! (agg ! (no_more !)) refl (tt, tt) $
    sets ! (agg ! (and_then ! (get ! refl) (no_more !))) refl (tt, (tt, tt)) $
    sets ! (agg ! (and_then ! (get ! refl) (no_more !))) refl (tt, (tt, tt)) $
    sets ! (agg ! (and_then ! (get ! refl) (and_then ! (get ! refl) (no_more !)))) refl
    (tt, ((tt, tt), ((tt, tt), tt))) $
    sets_last ! (agg ! (and_then ! (lit ! tt) (and_then ! (get ! refl) (no_more !)))) refl
    (tt, (record { fits = lit< tt }, (((tt, tt), ((tt, tt), tt)), tt))) $
    exec ! 𝓣.C 𝓣.Λ En (after 2 fn.body) (at_ret En (W.post y)) $
    sets ! (of_opd ! (get ! refl)) refl
    (tt, (record { fits = lit< tt }, (((tt, tt), ((tt, tt), tt)), tt))) $
    use1 𝓛 (‵ (memory_owns p n [])) (of_block 𝓛 b o n) $ use0 𝓛
    (‵ (Field.own_val (p, tt) (memory_val p ∷ []))) (memory_made 𝓛 p) $ fjoin ! $ move !
    (1 ∷ []) $
    use0 𝓛 (‵ (Mark.own_val (tt, tt) (lease_val ∷ []))) (lease_made 𝓛) $ fjoin ! $ move !
    (1 ∷ 0 ∷ []) $
    use2 𝓛 (‵ (Made.own_val (x, k) (made ∷ []))) (pair_of 𝓛 memory.the_row (lease.the_row Handle g)
    x k (memory_val p) lease_val) $
    use1 𝓛 (‵ (Out.own_val (Ok (x, k)) (live 0 (vcons made vnil) ∷ [])))
    (ok_of 𝓛 Made refusal.the_row (x, k) made) $
    returns ! (look_at ! 0 refl) $ free_all ! refl $ keep ! (0 ∷ 1 ∷ 2 ∷ []) $
    suffices ! _ (ends_at 𝓛 E stayed c y (live 0 (vcons made vnil)) (Ok (x, k)) (tt, (tt, tt))
    (tt, (tt, tt))) $ says ! (refl, refl, refl, refl, refl) $
    move ! (1 ∷ 2 ∷ []) $ join ! $ frame ! $ nothing ! $ nothing ! $ fjoin ! $ nothing ! $ fjoin ! $
    done !)
    (λ e.
    let Refusal : RattleType = Struct (Declared.shape refusal.the_type) in let none : Val =
    live 1 (vcons (vstruct vnil) vnil) in
    lands_as ! e refl (tt, (record { fits = lit< tt }, (tt, tt))) $
    first ! $ switches_on ! (get_tag ! (vrt ! refl (fld ! refl (stop !))) (whole !)) $ exec ! 𝓣.C
    𝓣.Λ En (arm_body 1 (head (after 1 fn.body))) Then $
    sets ! (of_opd ! (get_in ! (vrt ! refl (fld ! refl (stop !)))
    (in_variant ! 1 0 refl refl (whole !)))) refl (tt, tt) $
    sets_last ! (agg ! (and_then ! (lit ! tt) (and_then ! (get ! refl) (no_more !)))) refl
    (tt, (record { fits = lit< tt }, (tt, tt))) $
    exec ! 𝓣.C 𝓣.Λ En (after 2 fn.body) (at_ret En (W.post y)) $
    sets ! (of_opd ! (get ! refl)) refl (tt, (record { fits = lit< tt }, (tt, tt))) $
    owned ! Refusal (Is Refusal) (Struct-Makes 𝓛 (Declared.shape refusal.the_type) tt) tt
    (vstruct vnil ∷ []) (tt, (refl, tt)) $
    use1 𝓛 (‵ (Out.own_val (Err (record {})) (none ∷ [])))
    (err_of 𝓛 Made refusal.the_row (record {}) (vstruct vnil)) $
    returns ! (look_at ! 0 refl) $ free_all ! refl $ keep ! (0 ∷ 1 ∷ 2 ∷ []) $
    suffices ! _ (ends_at 𝓛 E stayed c y none (Err (record {})) (tt, (tt, tt)) (tt, (tt, tt))) $
    says ! tt $
    move ! (1 ∷ 2 ∷ []) $ join ! $ frame ! $ nothing ! $ nothing ! $ fjoin ! $ nothing ! $ fjoin ! $
    done !))))))
