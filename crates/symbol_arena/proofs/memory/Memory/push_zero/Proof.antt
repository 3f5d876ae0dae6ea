-- `push_zero` writes a zero into the first byte of the room. It is one walk through the function,
-- which has no parts to cut it at. Assumes `Logic`.
use Rattle.symbol_arena.proofs.Walk.{◌≡◌, ◌+◌, ◌^◌, ◌<◌, List, [], ◌∷◌, ◌++◌, length, refl, sym, ap}
use Rattle.symbol_arena.proofs.Walk.{◌∙◌, lit<, w8, w64, arith, proved, after, flft, froom, ftrue}
use Rattle.symbol_arena.proofs.Walk.{full_share, id⊢, fact, tables, usize, yes, shows, cell_at}
use Rattle.symbol_arena.proofs.Walk.{uint_vals, uint_Tells, owns, Ptr, in_a_block, MutRef, mut_vals}
use Rattle.symbol_arena.proofs.Walk.{mut_Tells, plain, nothing, opens, closes, heard, peeks, Stays}
use Rattle.symbol_arena.proofs.Walk.{walk_of, says, stay_dropped, stay_ref, Goes-dropped, Goes-ref}
use Rattle.symbol_arena.proofs.Walk.{ends_at, named, ty_int, Val, vint, vunit, alloc_all, pass_all}
use Rattle.symbol_arena.proofs.Walk.{free_all, look_at, get, through, sets, env, ‵, raw, ◌⊛◌}
use Rattle.symbol_arena.proofs.Walk.{at_ret, ◌$◌, ◌∵◌, !, qed, done, move, keep, use1, use2, split}
use Rattle.symbol_arena.proofs.Walk.{join, fsplit, fsplit3, fjoin, feq_i, flt_l, flt_i, rewrite}
use Rattle.symbol_arena.proofs.Walk.{suffices, frame, group, whole, sub, look_in, enter, of_opd}
use Rattle.symbol_arena.proofs.Walk.{unit_lit, lit, bin, load, init, stop, fld, assigns_last, first}
use Rattle.symbol_arena.proofs.Walk.{blocks, exec, returns}
use Rattle.std.proofs.Common.{length-append}
use Rattle.symbol_arena.specs.Memory.{memory_owns, room_behind}
use Rattle.symbol_arena.specs.Lends.{with_written}
use Rattle.symbol_arena.specs.contracts.memory.Memory.{the_row as R}
use Rattle.symbol_arena.specs.contracts.memory.Memory.push_zero as f
use Rattle.symbol_arena.proofs.memory.Memory.TheLaws.{lowers}
use Rattle.symbol_arena.proofs.memory.Memory.push_zero.Statement.{statement}
use Rattle.symbol_arena.proofs.memory.Memory.push_zero.Code as code
use Rattle.symbol_arena.proofs.Runs.{All, room_next, zero_in}

abbrev stayed : Stays f.ended.signature.params f.ended.kept
stayed = (stay_ref (0 ∷ []) tt (plain (λ _. R)), (stay_dropped _ yes, tt))

pub push_zero_spec : {M : Type 1} → statement M
push_zero_spec 𝓤 𝓛 𝓜 𝓡 wired =
    let c = f.clauses 𝓛 𝓜.mem 𝓡.returns in let W = walk_of 𝓛 f.ended stayed c in let 𝓣 =
    tables 𝓤 𝓛.H 𝓜 𝓡 𝓡.env in
    proved 𝓛 f.ended stayed c 𝓜 𝓡 (
      Goes-ref 𝓛 1 0 tt (plain (λ _. R)),
      (Goes-dropped 𝓛 1 (plain (λ _. usize)) yes (λ κs x w. refl), tt),
    )
    f.Key.name code.function (code.unfolded 𝓤 𝓛.H 𝓜 𝓡 wired)
    (λ κs. (mut_vals, (uint_vals w64, tt)))
    (λ κs. (mut_Tells (named 0) κs.0 R, (uint_Tells w64, tt))) (λ κs qs bounds a _ are.
    let κ = κs.0 in let q = qs.0 in let m = a.0.now in let rb = a.0.ref_ptr.0 in let ro =
    a.0.ref_ptr.1 in
    let at = a.1.0 in let xs = m.written in let ys = xs ++ 0 ∷ [] in let new : R.Denot =
    with_written m ys in
    let words : List Val × (List Val × Unit {0}) = (mut_vals a.0, (vint w64 at ∷ [], tt)) in
    let y : W.Ghost = ((κs, qs, bounds, a, words), tt) in
    qed 𝓛 (((‵ (flft κ q) ⊛ ‵ ftrue) ⊛ ‵ (owns (MutRef (named 0) κ R ∷ usize ∷ []) a words)) ∷ raw
    (fact 𝓤 ((at ≡ length xs) × (at < m.size) × (m.size < 2 ^ 63))) ∷ []) ∵
    move ! (1 ∷ []) $ heard ! _ (λ next. split ! $ split ! $ move ! (2 ∷ []) $ fsplit ! $ fsplit3 !
    $ keep ! (1 ∷ 2 ∷ 4 ∷ 0 ∷ []) $
    enter ! _ _ _ _ _ $ alloc_all !
    (λ l. pass_all ! refl ((tt, tt), ((tt, record { fits = are.1.0.1 }), tt)) $
    opens ! tt R rb ro (λ us. move ! (1 ∷ []) $ peeks ! R _ (shows 𝓛 R) m us
    (λ tells. fsplit ! $ move ! (1 ∷ []) $
    in_a_block ! m.ptr (λ p. memory_owns p m.size xs) (id⊢ 𝓤 _)
    (λ b o e. fsplit ! $ flt_l ! (λ small. fsplit ! $ move ! (1 ∷ []) $
    let word = lowers.val_is m us tells
    ∙ ap (λ (p : Ptr). lowers.lowered (record m { ptr = p }) ∷ []) e in
    let Cell = λ (vs : List Val). ‵ (cell_at full_share R.mir vs rb ro) in
    use1 𝓛 (‵ (froom (ty_int w8) b (at + o)) ⊛ ‵ (room_behind b o m.size ys))
    (room_next 𝓛 b o m.size xs at next.0 next.1) $ split ! $ rewrite ! 4 Cell word refl $
    -- [the next byte; the room behind it; the written bytes; the field; its cell; the open borrow,
    -- in three entries]
    first ! $ blocks ! $
    sets ! (of_opd ! (load ! (through ! refl (fld ! refl (stop !)))
    (look_in ! 4 (sub ! 0 refl (whole !))))) refl (tt, tt) $
    sets ! (bin ! (get ! refl) (get ! refl) tt) refl (tt, tt) $
    assigns_last ! (of_opd ! (lit ! tt)) (through ! refl (stop !))
    (init ! 0 refl (tt, record { fits = lit< tt })) $
    exec ! 𝓣.C 𝓣.Λ (env code.Mir.locals l) (after 1 (code.function).body) (at_ret _ (W.post y)) $
    sets ! (of_opd ! (unit_lit !)) refl (tt, tt) $
    rewrite ! 4 Cell (sym word) refl $ move ! (2 ∷ 0 ∷ []) $ use2 𝓛 (‵ (All 𝓛 b o ys o))
    (zero_in 𝓛 b o xs at next.0) $ fjoin ! $
    flt_i ! (length ys) (2 ^ 63) (omega (arith, length-append xs (0 ∷ []))) $ fjoin ! $ rewrite ! 0
    (λ (p : Ptr). ‵ (memory_owns p m.size ys)) (sym e) refl $
    move ! (1 ∷ []) $ fjoin ! $ move ! (1 ∷ []) $ closes ! tt R new us rb ro $
    returns ! (look_at ! 0 refl) $ free_all ! refl $ move ! (3 ∷ []) $
    suffices ! _ (ends_at 𝓛 f.ended stayed c y vunit tt (new, (tt, tt)) (tt, (tt, tt))) $ says !
    (refl, refl, refl) $
    group ! 3 $ nothing ! $ nothing ! $ fjoin ! $ move ! (1 ∷ 0 ∷ []) $ join ! $ nothing ! $ move !
    (2 ∷ 0 ∷ []) $ join ! $ frame ! $ frame ! $
    feq_i ! _ (vunit ∷ []) _ refl $ done !)))))))
