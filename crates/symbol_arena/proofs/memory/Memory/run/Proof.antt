-- `run` shows a run of the written bytes through a `&`. It is one walk through the function, which
-- has no parts to cut it at. Assumes `Logic`.
use Rattle.symbol_arena.proofs.Walk.{◌≡◌, ℕ, ◌+◌, ◌*◌, ◌^◌, ◌≤◌, List, [], ◌∷◌, length, refl, sym}
use Rattle.symbol_arena.proofs.Walk.{ap, subst, w64, arith, proved, after, flft, fhide, ftrue, id⊢}
use Rattle.symbol_arena.proofs.Walk.{fact, tables, u8, usize, yes, hidden_shr, unhide, hide}
use Rattle.symbol_arena.proofs.Walk.{uint_vals, uint_Tells, owns, Ptr, InBlock, block_of, count_of}
use Rattle.symbol_arena.proofs.Walk.{in_a_block, ShrRef, shr_vals, shr_Tells, plain, slice_val}
use Rattle.symbol_arena.proofs.Walk.{elements_shared, nothing, heard, Stays, walk_of, says}
use Rattle.symbol_arena.proofs.Walk.{stay_dropped, Goes-dropped, ends_at, named, Val, vint, vptr}
use Rattle.symbol_arena.proofs.Walk.{alloc_all, pass_all, free_all, look_at, get, through, sets}
use Rattle.symbol_arena.proofs.Walk.{sets_last, is, env, ‵, raw, ◌⊛◌, at_ret, ◌$◌, ◌∵◌, !, qed}
use Rattle.symbol_arena.proofs.Walk.{done, move, keep, use1, split, join, fsplit, fjoin, feq_i}
use Rattle.symbol_arena.proofs.Walk.{flt_l, flt_i, suffices, frame, agg, enter, of_opd, bin, load}
use Rattle.symbol_arena.proofs.Walk.{look, stop, fld, no_more, and_then, first, blocks, exec}
use Rattle.symbol_arena.proofs.Walk.{returns}
use Rattle.std.proofs.lemmas.Simd.{length-chunk}
use lib.Lanes.{chunk}
use denote.Builtin.{RefOf}
use denote.Ref.{Bor}
use denote.Struct.Lending.{lent_out}
use Rattle.std_alloc.proofs.Words.{pointer_in, pointer_out}
use Rattle.symbol_arena.specs.Memory.{memory_lends}
use Rattle.symbol_arena.specs.contracts.memory.Memory as memory
use Rattle.symbol_arena.specs.contracts.memory.Memory.{the_row as R}
use Rattle.symbol_arena.specs.contracts.memory.Memory.run as f
use Rattle.symbol_arena.proofs.memory.Memory.run.Statement.{statement}
use Rattle.symbol_arena.proofs.memory.Memory.run.Code as code
use Rattle.symbol_arena.proofs.Shown.{Field, shows_pointer}
use Rattle.symbol_arena.proofs.Runs.{run_shown}

abbrev stayed : Stays f.ended.signature.params f.ended.kept
stayed = (stay_dropped _ yes, (stay_dropped _ yes, (stay_dropped _ yes, tt)))

pub run_spec : {M : Type 1} → statement M
run_spec 𝓤 𝓛 𝓜 𝓡 wired =
    let c = f.clauses 𝓛 𝓜.mem 𝓡.returns in let W = walk_of 𝓛 f.ended stayed c in let 𝓣 =
    tables 𝓤 𝓛.H 𝓜 𝓡 𝓡.env in
    let number = Goes-dropped 𝓛 1 (plain (λ _. usize)) yes (λ κs x w. refl) in
    proved 𝓛 f.ended stayed c 𝓜 𝓡 (
      Goes-dropped 𝓛 1 (RefOf (0 ∷ []) tt (plain (λ _. R)) (λ _. tt))
          yes (λ κs x w. refl),
      (number, (number, tt)),
    )
    f.Key.name code.function (code.unfolded 𝓤 𝓛.H 𝓜 𝓡 wired)
    (λ κs. (shr_vals, (uint_vals w64, (uint_vals w64, tt))))
    (λ κs. (shr_Tells (named 0) κs.0 R, (uint_Tells w64, (uint_Tells w64, tt))))
    (λ κs qs bounds a _ are.
    let κ = κs.0 in let q = qs.0 in let m = a.0.now in let rb = a.0.ref_ptr.0 in let ro =
    a.0.ref_ptr.1 in
    let from = a.1.0 in let len = a.1.1.0 in let xs = m.written in let run = chunk from len xs in
    let words : List Val × (List Val × (List Val × Unit {0})) =
    (shr_vals a.0, (vint w64 from ∷ [], (vint w64 len ∷ [], tt))) in
    let y : W.Ghost = ((κs, qs, bounds, a, words), tt) in
    qed 𝓛 (((‵ (flft κ q) ⊛ ‵ ftrue) ⊛ ‵ (owns (ShrRef (named 0) κ R ∷ usize ∷ usize ∷ []) a words))
    ∷ raw (fact 𝓤 (from + len ≤ length xs)) ∷ []) ∵
    move ! (1 ∷ []) $ heard ! _ (λ within. split ! $ split ! $ move ! (2 ∷ []) $ fsplit ! $ fsplit !
    $ keep ! (1 ∷ 3 ∷ []) $
    enter ! _ _ _ _ _ $ alloc_all !
    (λ l. pass_all ! refl (
      (tt, tt),
      ((tt, record { fits = are.1.0.1 }), ((tt, record { fits = are.1.1.0.1 }), tt)),
    ) $
    use1 𝓛 (‵ (hidden_shr Field κ (m.ptr, tt) rb ro) ⊛ ‵ (fhide (memory_lends m.ptr xs κ)))
    (lent_out 𝓛 memory.struct memory.the_codes memory.the_heap memory.the_lent κ m rb ro) $
    split ! $ move ! (1 ∷ []) $
    unhide ! $ in_a_block ! m.ptr (λ p. memory_lends p xs κ) (id⊢ 𝓤 _)
    (λ b o e. fsplit ! $ flt_l ! (λ small.
    let at : ℕ × ℕ = (b, from + o) in let here : InBlock m.ptr = subst InBlock (sym e) tt in
    let long : length run ≡ len = length-chunk from len xs within in
    move ! (1 ∷ 2 ∷ []) $ first ! $ blocks ! $
    pointer_in ! tt m.ptr here rb (ro + 0) (shows_pointer 𝓛 κ rb ro m.ptr) (λ q'.
    sets ! (is ! (of_opd ! (load ! (through ! refl (fld ! refl (stop !))) (look ! 1 refl)))
    (ap (λ (p : Ptr). vptr (block_of p) (count_of p)) e)) refl (tt, tt) $
    pointer_out ! tt m.ptr here rb (ro + 0) $
    sets ! (bin ! (get ! refl) (get ! refl) tt) refl (tt, tt) $
    sets_last ! (agg ! (and_then ! (get ! refl) (and_then ! (get ! refl) (no_more !)))) refl
    (tt, (tt, (record { fits = are.1.1.0.1 }, tt))) $
    exec ! 𝓣.C 𝓣.Λ (env code.Mir.locals l) (after 1 (code.function).body) (at_ret _ (W.post y)) $
    sets ! (of_opd ! (get ! refl)) refl (tt, (tt, (record { fits = are.1.1.0.1 }, tt))) $
    move ! (2 ∷ 0 ∷ []) $ use1 𝓛 (‵ (elements_shared u8 run b (from + o) κ))
    (run_shown 𝓛 b o κ xs from len within) $ hide ! $
    flt_i ! (length run * 1) (2 ^ 63) (omega (arith, long)) $ flt_i ! (length run) (2 ^ 64)
    (omega (arith, long)) $ fjoin ! $
    feq_i ! (List Val) (slice_val at len ∷ []) (slice_val at (length run) ∷ [])
    (ap (λ (n : ℕ). slice_val at n ∷ []) (sym long)) $ fjoin ! $ fjoin ! $
    returns ! (look_at ! 0 refl) $ free_all ! refl $ keep ! (1 ∷ 0 ∷ []) $
    let r : Bor (List ℕ) = record { ref_ptr = at; now = run } in
    suffices ! _ (ends_at 𝓛 f.ended stayed c y (slice_val at len) r (tt, (tt, (tt, tt)))
    (tt, (tt, (tt, tt)))) $ says ! refl $
    nothing ! $ move ! (1 ∷ 0 ∷ []) $ join ! $ frame ! $ nothing ! $ nothing ! $ fjoin ! $ nothing !
    $ fjoin ! $ nothing ! $ fjoin ! $ done !))))))
