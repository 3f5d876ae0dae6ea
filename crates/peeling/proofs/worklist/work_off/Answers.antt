use Rattle.std.proofs.Common.{◌≡◌, ◌+◌, ◌&&◌, ℕ, List, refl, ◌∙◌, subst, take, arith}
use Rattle.std.proofs.Math.Seq.{take-length}
use Rattle.sparse_rows.specs.Columns.{column_of}
use Rattle.std.proofs.lemmas.List.{take_all}
use Rattle.peeling.proofs.Listed.{front_on}
use Rattle.peeling.specs.Worklist.{seen_by, IsWorked}
use Rattle.peeling.proofs.Worked.{and_assoc, worked_begins, worked_ends}
use Rattle.peeling.proofs.worklist.work_off.Goals as goal

pub loop-i-init : goal.loop-i-init
loop-i-init g c = record {
  known = c.requires.column;
  worked = λ len done before base x held unseen h. worked_begins c.args.code.now len before base x
      c.args.c done c.args.known.now c.args.symbols.now c.args.rows.now held h;
  listed = λ before h. h;
  front = take-length c.args.fresh.now.items;
  count = refl;
  room = refl;
  steps = omega arith;
}

pub see-holds-requires-clause-worked : goal.see-holds-requires-clause-worked
see-holds-requires-clause-worked g c =
    let w = c.requires.worked in (
      w.0,
      w.1,
      w.2,
      w.3,
      w.4,
      w.5 && c.loop-i.holds,
      w.6,
      c.loop-i.invariant.worked w.0 w.1 w.2 w.3 w.4 w.5 w.6 w.7,
    )

pub loop-i-preserved : goal.loop-i-preserved
loop-i-preserved g c =
    let after = c.see-holds.ensures in
    record {
      known = after.known;
      worked = λ len done before base x held unseen h.
          subst (λ b. IsWorked c.args.code.now len before base x
          (seen_by (take (c.loop-i.i + 1) (column_of c.args.code.now c.args.c)) c.args.c done)
          c.see-holds.new.known c.see-holds.new.symbols c.see-holds.new.rows b)
          (and_assoc held c.loop-i.holds c.see-holds.result) (after.worked len done before base x
          (held && c.loop-i.holds) unseen (c.loop-i.invariant.worked len done before base x held
          unseen h));
      listed = λ before h. after.listed before (c.loop-i.invariant.listed before h);
      front = front_on c.args.fresh.now.items c.loop-i.fresh.items c.see-holds.new.fresh.items
          c.loop-i.invariant.front after.front;
      count = after.count ∙ c.loop-i.invariant.count;
      room = after.room ∙ c.loop-i.invariant.room;
      steps = omega (arith, after.steps, c.loop-i.invariant.steps);
    }

pub returns-clause-worked : goal.returns-clause-worked
returns-clause-worked g c = λ len done before base x held unseen h.
    let all : take c.loop-i.i (column_of c.args.code.now c.args.c) ≡ column_of c.args.code.now
    c.args.c = take_all c.loop-i.i (column_of c.args.code.now c.args.c)
    (omega (arith, c.loop-i-test.false, c.col_len-i-end.ensures)) in
    worked_ends c.args.code.now c.requires.code len before base x c.args.c done c.loop-i.known
    c.loop-i.symbols c.loop-i.rows (held && c.loop-i.holds) c.loop-i.invariant.known
    (subst (λ (rows : List ℕ). IsWorked c.args.code.now len before base x
    (seen_by rows c.args.c done) c.loop-i.known c.loop-i.symbols c.loop-i.rows
    (held && c.loop-i.holds)) all (c.loop-i.invariant.worked len done before base x held unseen
    h))
