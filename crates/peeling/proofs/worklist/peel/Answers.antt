use Rattle.std.proofs.Common.{◌≡◌, ◌<◌, ◌≤◌, ◌+◌, ◌*◌, ◌++◌, ◌&&◌, not, ℕ, List, [], ◌∷◌, true}
use Rattle.std.proofs.Common.{false, length, take, get_or, set, refl, sym, ap, ◌∙◌, subst, arith}
use Rattle.std.proofs.lemmas.Grind.{get_or_default_zero}
use Rattle.sparse_rows.specs.Closure.{Set, flagged, members, adding}
use Rattle.sparse_rows.specs.Columns.{entries}
use Rattle.sparse_rows.proofs.Entries.{entries_adding, rows_rise}
use Rattle.sparse_rows.specs.Codeword.{symbol_at}
use Rattle.peeling.specs.Peeled.{IsPeeled, unset_count}
use Rattle.peeling.specs.Worklist.{with_all, IsWorked}
use Rattle.peeling.proofs.Flags.{set_and_unset, flagged_set, unset_less, unset_most}
use Rattle.peeling.proofs.Laid.{bytes_small, word_room, word_long}
use Rattle.peeling.proofs.Seen.{past_flags}
use Rattle.peeling.proofs.UnderWay.{under_way_rests, under_way_holds}
use Rattle.peeling.proofs.Listed.{listed_known, listed_one, with_none, with_next, with_known}
use Rattle.peeling.proofs.Listed.{front_first, front_longer}
use Rattle.peeling.proofs.Worked.{worked_all, worked_starts, next_symbols}
use Rattle.peeling.proofs.worklist.peel.Goals as goal

pub put-requires-clause-place : goal.put-requires-clause-place
put-requires-clause-place g c = word_room c.args.code.now.n (length c.args.bytes.now)
    c.args.known.now c.args.symbols.now c.args.e c.requires.laid c.requires.position

pub put-requires-clause-len : goal.put-requires-clause-len
put-requires-clause-len g c = sym (word_long c.args.code.now.n (length c.args.bytes.now)
    c.args.known.now c.args.symbols.now c.args.e c.requires.laid c.requires.position)

pub loop-head-init : goal.loop-head-init
loop-head-init g c =
    let m = c.args.code.now in
    let inside : c.args.e < length c.args.known.now =
    omega (arith, c.requires.position, c.requires.laid.flags) in
    let one : c.push_reserved.new.self.items ≡ c.args.e ∷ [] = c.push_reserved.ensures.items
    ∙ ap (λ (xs : List ℕ). xs ++ c.args.e ∷ []) c.clear.ensures.items in
    let less : unset_count (set c.args.known.now c.args.e true) + 1 ≡ unset_count c.args.known.now =
    unset_less c.args.known.now c.args.e inside c.requires.unknown in
    let none : with_all (flagged c.args.known.now) (take 0 c.push_reserved.new.self.items)
    ≡ flagged c.args.known.now = with_none (flagged c.args.known.now)
    c.push_reserved.new.self.items in
    record {
      worked = subst (λ (s : Set). IsWorked m (length c.args.bytes.now) (flagged c.args.known.now)
          (flagged (set c.args.known.now c.args.e true)) (symbol_at (length c.args.bytes.now)
          (take m.n c.put.new.self)) (λ row. s) (set c.args.known.now c.args.e true) c.put.new.self
          c.args.rows.now true) (sym none)
          (worked_starts m c.requires.code (length c.args.bytes.now) c.args.known.now
          c.args.symbols.now c.args.rows.now c.args.e c.args.bytes.now c.put.new.self
          c.requires.position
          (record { long = refl; bytes = bytes_small c.args.bytes.now c.type_inv.bytes })
          c.put.ensures c.requires.unknown c.requires.laid c.requires.counted c.requires.rests);
      listed = rw (one, flagged_set c.args.known.now c.args.e inside)
          (listed_one (flagged c.args.known.now) c.args.e c.requires.unknown);
      some = rw one (omega arith);
      first = rw one refl;
      head = omega arith;
      count = omega (arith, ap length one, less);
      room = c.push_reserved.ensures.capacity ∙ c.clear.ensures.capacity;
      rises = omega arith;
      steps = ap (λ (s : Set). c.args.steps.now + 2 * entries m s) (sym none);
    }

pub work_off-holds-requires-clause-column : goal.work_off-holds-requires-clause-column
work_off-holds-requires-clause-column g c =
    let now = c.loop-head.invariant in
    let lt : c.loop-head.head < length c.loop-head.fresh.items =
    omega (arith, c.loop-head-test.true, c.len.ensures, c.loop-head.fresh.ok.0) in
    let is : c.index-c.result.now ≡ get_or c.loop-head.fresh.items c.loop-head.head 0 =
    c.index-c.ensures ∙ get_or_default_zero c.loop-head.fresh.items c.loop-head.head
    c.index-c.result.now lt in
    ap (flagged c.loop-head.known) is ∙ listed_known (flagged c.args.known.now)
    c.loop-head.fresh.items (flagged c.loop-head.known) c.loop-head.head now.listed lt

pub work_off-holds-requires-clause-worked : goal.work_off-holds-requires-clause-worked
work_off-holds-requires-clause-worked g c =
    let m = c.args.code.now in
    let len = length c.args.bytes.now in
    let before = flagged c.args.known.now in
    let base = flagged (set c.args.known.now c.args.e true) in
    let x = symbol_at len (take m.n c.put.new.self) in
    let now = c.loop-head.invariant in
    let fresh = c.loop-head.fresh.items in
    let lt : c.loop-head.head < length c.loop-head.fresh.items =
    omega (arith, c.loop-head-test.true, c.len.ensures, c.loop-head.fresh.ok.0) in
    let done = with_all before (take c.loop-head.head fresh) in
    let is : c.index-c.result.now ≡ get_or c.loop-head.fresh.items c.loop-head.head 0 =
    c.index-c.ensures ∙ get_or_default_zero c.loop-head.fresh.items c.loop-head.head
    c.index-c.result.now lt in
    let unseen : with_all (flagged c.args.known.now) (take c.loop-head.head c.loop-head.fresh.items)
    c.index-c.result.now ≡ false =
    subst (λ d. with_all (flagged c.args.known.now)
    (take c.loop-head.head c.loop-head.fresh.items) d ≡ false) (sym is)
    (now.listed.once c.loop-head.head lt) in
    (len, done, before, base, x, c.loop-head.holds, unseen, now.worked)

pub work_off-holds-requires-clause-room : goal.work_off-holds-requires-clause-room
work_off-holds-requires-clause-room g c =
    omega (
      arith,
      c.loop-head.invariant.count,
      unset_most c.args.known.now,
      c.requires.laid.flags,
      c.loop-head.invariant.room,
      c.requires.room,
    )

pub loop-head-preserved : goal.loop-head-preserved
loop-head-preserved g c =
    let m = c.args.code.now in
    let len = length c.args.bytes.now in
    let before = flagged c.args.known.now in
    let base = flagged (set c.args.known.now c.args.e true) in
    let x = symbol_at len (take m.n c.put.new.self) in
    let now = c.loop-head.invariant in
    let fresh = c.loop-head.fresh.items in
    let lt : c.loop-head.head < length c.loop-head.fresh.items =
    omega (arith, c.loop-head-test.true, c.len.ensures, c.loop-head.fresh.ok.0) in
    let done = with_all before (take c.loop-head.head fresh) in
    let is : c.index-c.result.now ≡ get_or c.loop-head.fresh.items c.loop-head.head 0 =
    c.index-c.ensures ∙ get_or_default_zero c.loop-head.fresh.items c.loop-head.head
    c.index-c.result.now lt in
    let unseen : with_all (flagged c.args.known.now) (take c.loop-head.head c.loop-head.fresh.items)
    c.index-c.result.now ≡ false =
    subst (λ d. with_all (flagged c.args.known.now)
    (take c.loop-head.head c.loop-head.fresh.items) d ≡ false) (sym is)
    (now.listed.once c.loop-head.head lt) in
    let after = c.work_off-holds.ensures in
    let more = c.work_off-holds.new.fresh.items in
    let next : adding c.index-c.result.now (with_all (flagged c.args.known.now)
    (take c.loop-head.head c.loop-head.fresh.items)) ≡ with_all (flagged c.args.known.now)
    (take (c.loop-head.head + 1) c.work_off-holds.new.fresh.items) =
    with_next before fresh more c.loop-head.head c.index-c.result.now lt is after.front in
    let longer : length c.loop-head.fresh.items ≤ length c.work_off-holds.new.fresh.items =
    front_longer fresh more after.front in
    record {
      worked = subst (λ (s : Set). IsWorked m len before base x (λ row. s)
          c.work_off-holds.new.known c.work_off-holds.new.symbols c.work_off-holds.new.rows
          (c.loop-head.holds && c.work_off-holds.result)) next
          (after.worked len done before base x c.loop-head.holds unseen now.worked);
      listed = after.listed before now.listed;
      some = omega (arith, longer, now.some);
      first = front_first fresh more now.some after.front ∙ now.first;
      head = omega (arith, longer, lt);
      count = after.count ∙ now.count;
      room = after.room ∙ now.room;
      rises = omega (arith, after.steps, now.rises);
      steps = omega (
        arith,
        after.steps,
        now.steps,
        ap (entries m) next,
        entries_adding done c.index-c.result.now unseen m (rows_rise m c.requires.code.shape),
      );
    }

pub returns-clause-laid : goal.returns-clause-laid
returns-clause-laid g c = c.loop-head.invariant.worked.kept

pub returns-clause-counted : goal.returns-clause-counted
returns-clause-counted g c =
    let m = c.args.code.now in
    let len = length c.args.bytes.now in
    let before = flagged c.args.known.now in
    let base = flagged (set c.args.known.now c.args.e true) in
    let x = symbol_at len (take m.n c.put.new.self) in
    let now = c.loop-head.invariant in
    let fresh = c.loop-head.fresh.items in
    let le : length c.loop-head.fresh.items ≤ c.loop-head.head =
    omega (arith, c.loop-head-test.false, c.len.ensures, c.loop-head.fresh.ok.0) in
    let done = worked_all m len before base x fresh c.loop-head.head c.loop-head.known
    c.loop-head.symbols c.loop-head.rows c.loop-head.holds le now.listed now.worked in
    done.counted

pub returns-clause-peeled : goal.returns-clause-peeled
returns-clause-peeled g c =
    let m = c.args.code.now in
    let len = length c.args.bytes.now in
    let before = flagged c.args.known.now in
    let base = flagged (set c.args.known.now c.args.e true) in
    let x = symbol_at len (take m.n c.put.new.self) in
    let now = c.loop-head.invariant in
    let fresh = c.loop-head.fresh.items in
    let le : length c.loop-head.fresh.items ≤ c.loop-head.head =
    omega (arith, c.loop-head-test.false, c.len.ensures, c.loop-head.fresh.ok.0) in
    let done = worked_all m len before base x fresh c.loop-head.head c.loop-head.known
    c.loop-head.symbols c.loop-head.rows c.loop-head.holds le now.listed now.worked in
    let start : take m.n c.put.new.self ≡ set (take m.n c.args.symbols.now) c.args.e
    c.args.bytes.now = next_symbols m c.requires.code len c.args.known.now c.args.symbols.now
    c.args.rows.now c.args.e c.args.bytes.now c.put.new.self c.requires.position
    (record { long = refl; bytes = bytes_small c.args.bytes.now c.type_inv.bytes })
    c.put.ensures in
    subst (λ (word : List (List ℕ)). IsPeeled m len base (symbol_at len word)
    (flagged c.loop-head.known) (symbol_at len (take m.n c.loop-head.symbols))) start
    done.under_way.peeled

pub returns-clause-rests : goal.returns-clause-rests
returns-clause-rests g c =
    let m = c.args.code.now in
    let len = length c.args.bytes.now in
    let before = flagged c.args.known.now in
    let base = flagged (set c.args.known.now c.args.e true) in
    let x = symbol_at len (take m.n c.put.new.self) in
    let now = c.loop-head.invariant in
    let fresh = c.loop-head.fresh.items in
    let le : length c.loop-head.fresh.items ≤ c.loop-head.head =
    omega (arith, c.loop-head-test.false, c.len.ensures, c.loop-head.fresh.ok.0) in
    let done = worked_all m len before base x fresh c.loop-head.head c.loop-head.known
    c.loop-head.symbols c.loop-head.rows c.loop-head.holds le now.listed now.worked in
    under_way_rests m len before base x (flagged c.loop-head.known)
    (symbol_at len (take m.n c.loop-head.symbols)) c.loop-head.holds done.under_way

pub returns-clause-holds : goal.returns-clause-holds
returns-clause-holds g c =
    let m = c.args.code.now in
    let len = length c.args.bytes.now in
    let before = flagged c.args.known.now in
    let base = flagged (set c.args.known.now c.args.e true) in
    let x = symbol_at len (take m.n c.put.new.self) in
    let now = c.loop-head.invariant in
    let fresh = c.loop-head.fresh.items in
    let le : length c.loop-head.fresh.items ≤ c.loop-head.head =
    omega (arith, c.loop-head-test.false, c.len.ensures, c.loop-head.fresh.ok.0) in
    let done = worked_all m len before base x fresh c.loop-head.head c.loop-head.known
    c.loop-head.symbols c.loop-head.rows c.loop-head.holds le now.listed now.worked in
    under_way_holds m len before base x (flagged c.loop-head.known)
    (symbol_at len (take m.n c.loop-head.symbols)) c.loop-head.holds done.under_way

pub returns-clause-fresh : goal.returns-clause-fresh
returns-clause-fresh g c =
    let m = c.args.code.now in
    let len = length c.args.bytes.now in
    let before = flagged c.args.known.now in
    let base = flagged (set c.args.known.now c.args.e true) in
    let x = symbol_at len (take m.n c.put.new.self) in
    let now = c.loop-head.invariant in
    let fresh = c.loop-head.fresh.items in
    let known = c.loop-head.known in
    let inside : c.args.e < length c.args.known.now =
    omega (arith, c.requires.position, c.requires.laid.flags) in
    c.sort_fresh.ensures.sorted m.n before (flagged known) now.listed
    (past_flags known m.n now.worked.kept.flags)
    ∙ ap (λ e. members m.n (λ position. flagged known position && not (adding e before position)))
    now.first
    ∙ ap (λ (s : Set). members m.n (λ position. flagged known position && not (s position)))
    (sym (flagged_set c.args.known.now c.args.e inside))
    ∙ ap (λ n. members n (λ position. flagged known position && not
    (flagged (set c.args.known.now c.args.e true) position))) (sym now.worked.kept.flags)

pub returns-clause-steps : goal.returns-clause-steps
returns-clause-steps g c =
    let m = c.args.code.now in
    let len = length c.args.bytes.now in
    let before = flagged c.args.known.now in
    let base = flagged (set c.args.known.now c.args.e true) in
    let x = symbol_at len (take m.n c.put.new.self) in
    let now = c.loop-head.invariant in
    let fresh = c.loop-head.fresh.items in
    let le : length c.loop-head.fresh.items ≤ c.loop-head.head =
    omega (arith, c.loop-head-test.false, c.len.ensures, c.loop-head.fresh.ok.0) in
    now.steps ∙ ap (λ (s : Set). c.args.steps.now + 2 * entries m s)
    (with_known before fresh (flagged c.loop-head.known) c.loop-head.head le now.listed)

pub returns-clause-count : goal.returns-clause-count
returns-clause-count g c =
    let now = c.loop-head.invariant in
    omega (
      arith,
      now.count,
      c.sort_fresh.ensures.count,
      set_and_unset c.loop-head.known,
      set_and_unset c.args.known.now,
      now.worked.kept.flags,
      c.requires.laid.flags,
    )
