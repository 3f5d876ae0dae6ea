-- `run_mut` lends a run of the written bytes, and all of them follow it. It is one walk through the
-- function, which has no parts to cut it at. Assumes `Logic`.
use Rattle.symbol_arena.proofs.Walk.{◌≡◌, ℕ, ◌+◌, ◌-◌, ◌*◌, ◌^◌, ◌<◌, ◌≤◌, List, [], ◌∷◌, length}
use Rattle.symbol_arena.proofs.Walk.{refl, sym, ap, subst, ◌∙◌, w64, arith, proved, after, Fml}
use Rattle.symbol_arena.proofs.Walk.{GName, fsep, flft, froom, ftrue, full_share, ent, sep, id⊢}
use Rattle.symbol_arena.proofs.Walk.{fact, tables, u8, usize, yes, no, shows, mem, cell_at}
use Rattle.symbol_arena.proofs.Walk.{uint_vals, uint_Tells, owns, Ptr, block_ptr, in_a_block}
use Rattle.symbol_arena.proofs.Walk.{MutRef, MutBor, mut_vals, mut_Tells, plain, mut_ref_to}
use Rattle.symbol_arena.proofs.Walk.{slice_val, nothing, opens, heard, peeks, Stays, walk_of, says}
use Rattle.symbol_arena.proofs.Walk.{stay_dropped, Goes-dropped, Goes-spent_ref, ends_at, named}
use Rattle.symbol_arena.proofs.Walk.{Val, vint, Ura, alloc_all, pass_all, free_all, look_at, get}
use Rattle.symbol_arena.proofs.Walk.{through, sets, sets_last, env, ‵, raw, ◌⊛◌, some, later, await}
use Rattle.symbol_arena.proofs.Walk.{pick, at_ret, ◌$◌, ◌∵◌, !, qed, done, move, keep, use1, use2}
use Rattle.symbol_arena.proofs.Walk.{split, join, fsplit, fsplit3, fjoin, fpack, flt_l, flt_i}
use Rattle.symbol_arena.proofs.Walk.{rewrite, suffices, frame, group, Logic, sem, whole, sub, agg}
use Rattle.symbol_arena.proofs.Walk.{look_in, enter, of_opd, bin, load, stop, fld, no_more}
use Rattle.symbol_arena.proofs.Walk.{and_then, first, blocks, exec, returns, cells}
use Rattle.std.proofs.lemmas.Simd.{length-put_chunk, length-chunk}
use lib.Lanes.{chunk, put_chunk}
use denote.Memory.{part_of}
use denote.Array.{Array}
use denote.Follow.{follows}
use denote.Slice.{MutSlice}
use denote.FollowSlice.{Elements, lends_Elements}
use Rattle.symbol_arena.specs.Memory.{memory_owns, room_behind}
use Rattle.symbol_arena.specs.Memory.{block_of as room_type}
use Rattle.symbol_arena.specs.Lends.{with_written}
use Rattle.symbol_arena.specs.contracts.memory.Memory.{the_row as R}
use Rattle.symbol_arena.specs.contracts.memory.Memory.run_mut as f
use Rattle.symbol_arena.proofs.memory.Memory.TheLaws.{lowers}
use Rattle.symbol_arena.proofs.memory.Memory.run_mut.Statement.{statement}
use Rattle.symbol_arena.proofs.memory.Memory.run_mut.Code as code
use Rattle.symbol_arena.proofs.Shown.{Field}
use Rattle.symbol_arena.proofs.Runs.{All, Around, run_out, run_in}

abbrev stayed : Stays f.ended.signature.params f.ended.kept
stayed = (
  stay_dropped (mut_ref_to (0 ∷ []) tt (plain (λ _. R))) no,
  (stay_dropped _ yes, (stay_dropped _ yes, tt)),
)

module _ {M : Type 1} {𝓤 : Ura M} (𝓛 : Logic 𝓤) (rb ro b o : ℕ) (m : R.Denot) (from len : ℕ)
    (us : List Val) where
  -- all but the run
  abbrev Rest : Fml
  Rest = fsep (Around 𝓛 b o m.written from len) (fsep (room_behind b o m.size m.written)
      (fsep (Field.own_val (m.ptr, tt) us) (cell_at full_share R.mir us rb ro)))

  abbrev new : List ℕ → R.Denot
  new bytes = with_written m (put_chunk from m.written bytes)

  back : m.ptr ≡ block_ptr b o → from + len ≤ length m.written → length m.written < 2 ^ 63
      → (ws : List ℕ) → length ws ≡ len
      → ent 𝓤 (sep 𝓤 (sem 𝓛 (cells (mem u8) ws b (from + o))) (sem 𝓛 Rest))
      (sem 𝓛 ((mem R).own_at (new ws) rb ro))
  unfolding part_of
  back e within small ws count =
      let xs : List ℕ = m.written in let ys : List ℕ = put_chunk from xs ws in
      let long : length ys ≡ length xs = length-put_chunk from xs ws in
      qed 𝓛 (‵ (cells (mem u8) ws b (from + o)) ∷ ‵ Rest ∷ []) ∵ move ! (1 ∷ []) $ fsplit3 ! $ move
      ! (3 ∷ 0 ∷ []) $
      use2 𝓛 (‵ (All 𝓛 b o ys o)) (run_in 𝓛 b o xs ws from len within count) $
      rewrite ! 1 (λ (n : ℕ). ‵ (froom (room_type (m.size - n)) b (o + n))) (sym long) refl $ fjoin
      ! $
      flt_i ! (length ys) (2 ^ 63) (subst (λ (n : ℕ). n < 2 ^ 63) (sym long) small) $ fjoin ! $
      rewrite ! 0 (λ (p : Ptr). ‵ (memory_owns p m.size ys)) (sym e) refl $ move ! (1 ∷ []) $ fsplit
      ! $ move ! (0 ∷ 2 ∷ []) $ fjoin ! $ move ! (1 ∷ 0 ∷ []) $ fjoin ! $
      fpack ! (List Val) (λ vs. fsep (cell_at full_share R.mir vs rb ro) (R.own_val (new ws) vs)) us
      $ done !

pub run_mut_spec : {M : Type 1} → statement M
run_mut_spec 𝓤 𝓛 𝓜 𝓡 wired =
    let c = f.clauses 𝓛 𝓜.mem 𝓡.returns in let W = walk_of 𝓛 f.ended stayed c in let 𝓣 =
    tables 𝓤 𝓛.H 𝓜 𝓡 𝓡.env in
    let number = Goes-dropped 𝓛 1 (plain (λ _. usize)) yes (λ κs x w. refl) in
    proved 𝓛 f.ended stayed c 𝓜 𝓡 (
      Goes-spent_ref 𝓛 1 (0 ∷ []) tt (plain (λ _. R)),
      (number, (number, tt)),
    )
    f.Key.name code.function (code.unfolded 𝓤 𝓛.H 𝓜 𝓡 wired)
    (λ κs. (mut_vals, (uint_vals w64, (uint_vals w64, tt))))
    (λ κs. (mut_Tells (named 0) κs.0 R, (uint_Tells w64, (uint_Tells w64, tt))))
    (λ κs qs bounds a _ are.
    let κ = κs.0 in let q = qs.0 in let m = a.0.now in let γ = a.0.ghost_name in let rb =
    a.0.ref_ptr.0 in let ro = a.0.ref_ptr.1 in
    let from = a.1.0 in let len = a.1.1.0 in let xs = m.written in let run = chunk from len xs in
    let words : List Val × (List Val × (List Val × Unit {0})) =
    (mut_vals a.0, (vint w64 from ∷ [], (vint w64 len ∷ [], tt))) in
    let y : W.Ghost = ((κs, qs, bounds, a, words), tt) in
    qed 𝓛 (((‵ (flft κ q) ⊛ ‵ ftrue) ⊛ ‵ (owns (MutRef (named 0) κ R ∷ usize ∷ usize ∷ []) a words))
    ∷ raw (fact 𝓤 (from + len ≤ length xs)) ∷ []) ∵
    move ! (1 ∷ []) $ heard ! _ (λ within. split ! $ split ! $ move ! (2 ∷ []) $ fsplit ! $ fsplit3
    ! $ keep ! (1 ∷ 2 ∷ 4 ∷ []) $
    enter ! _ _ _ _ _ $ alloc_all !
    (λ l. pass_all ! refl (
      (tt, tt),
      ((tt, record { fits = are.1.0.1 }), ((tt, record { fits = are.1.1.0.1 }), tt)),
    ) $
    opens ! tt R rb ro (λ us. move ! (1 ∷ []) $ peeks ! R _ (shows 𝓛 R) m us
    (λ tells. fsplit ! $ move ! (1 ∷ []) $
    in_a_block ! m.ptr (λ p. memory_owns p m.size xs) (id⊢ 𝓤 _)
    (λ b o e. fsplit ! $ flt_l ! (λ small. fsplit ! $
    let at = from + o in
    let rest = Rest 𝓛 rb ro b o m from len us in
    let way = λ (ws : List ℕ) (same : length ws ≡ length run). back 𝓛 rb ro b o m from len us e
    within small ws (same ∙ length-chunk from len xs within) in
    let word = lowers.val_is m us tells
    ∙ ap (λ (p : Ptr). lowers.lowered (record m { ptr = p }) ∷ []) e in
    let Cell = λ (vs : List Val). ‵ (cell_at full_share R.mir vs rb ro) in
    use1 𝓛 (‵ (cells (mem u8) run b at) ⊛ ‵ (Around 𝓛 b o xs from len))
    (run_out 𝓛 b o xs from len within) $ split ! $ rewrite ! 4 Cell word refl $
    -- [the run; the bytes around it; the room; the field; its cell; the open borrow, in three
    -- entries]
    first ! $ blocks ! $
    sets ! (of_opd ! (load ! (through ! refl (fld ! refl (stop !)))
    (look_in ! 4 (sub ! 0 refl (whole !))))) refl (tt, tt) $
    sets ! (bin ! (get ! refl) (get ! refl) tt) refl (tt, tt) $
    sets_last ! (agg ! (and_then ! (get ! refl) (and_then ! (get ! refl) (no_more !)))) refl
    (tt, (tt, (record { fits = are.1.1.0.1 }, tt))) $
    exec ! 𝓣.C 𝓣.Λ (env code.Mir.locals l) (after 1 (code.function).body) (at_ret _ (W.post y)) $
    sets ! (of_opd ! (get ! refl)) refl (tt, (tt, (record { fits = are.1.1.0.1 }, tt))) $
    rewrite ! 4 Cell (sym word) refl $ move ! (3 ∷ 4 ∷ []) $ fjoin ! $ move ! (3 ∷ 0 ∷ []) $ fjoin !
    $ move ! (2 ∷ 0 ∷ []) $ fjoin ! $ move ! (2 ∷ 3 ∷ 4 ∷ 1 ∷ 0 ∷ []) $ group ! 5 $
    let fits : (length run < 2 ^ 64) × (length run * 1 < 2 ^ 63) = (
      omega (arith, length-chunk from len xs within),
      omega (arith, length-chunk from len xs within),
    ) in
    use1 𝓛 (later (some (λ (δ : GName). raw (Elements 𝓛 R u8 (new 𝓛 rb ro b o m from len us)
    (named 0) κ q rb ro b at γ run fits (sem 𝓛 rest) way δ))))
    (lends_Elements 𝓛 R u8 (new 𝓛 rb ro b o m from len us) (named 0) κ q rb ro b at γ run fits
    (sem 𝓛 rest) way (R.coded.code m) (R.coded.code m)) $ await ! tt $ pick ! (λ δ.
    let r : MutBor (List ℕ) = record { ref_ptr = (b, at); ghost_name = δ; now = run } in
    let Run = λ (n : ℕ). ‵ ((MutSlice (named 0) κ u8).own_val r (slice_val (b, at) n ∷ [])) in
    use1 𝓛 (Run (length run) ⊛ ‵ (flft κ q) ⊛ ‵
    (follows R (Array u8 0) γ δ (new 𝓛 rb ro b o m from len us))) (id⊢ 𝓤 _) $ split ! $ move !
    (1 ∷ []) $ split ! $ move ! (2 ∷ 0 ∷ 1 ∷ []) $
    rewrite ! 0 Run (length-chunk from len xs within) refl $
    returns ! (look_at ! 0 refl) $ free_all ! refl $ keep ! (0 ∷ 1 ∷ 2 ∷ []) $
    suffices ! _ (ends_at 𝓛 f.ended stayed c y (slice_val (b, at) len) r (tt, (tt, (tt, tt)))
    (tt, (tt, (tt, tt)))) $
    nothing ! $ nothing ! $ fjoin ! $ nothing ! $ fjoin ! $ nothing ! $ fjoin ! $ join ! $ nothing !
    $ move ! (2 ∷ 0 ∷ []) $ join ! $ join ! $ frame ! $ says ! refl $ done !))))))))
