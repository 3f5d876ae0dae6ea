use Rattle.std.proofs.Common.{rules, ◌≡◌, ◌+◌, ◌++◌, ◌∷◌, [], length, map, ap, ◌∙◌, arith}
use Rattle.fec_base.specs.KeptWatch.{telling_of}
use Rattle.fec_base.specs.declared.watches.Entry.{Entry}
use Rattle.fec_base.proofs.Kept.{same_view, told_more}
use Rattle.fec_base.proofs.watches.ListWatchWatch.rebuilt.Goals as goal

-- the entry stands behind the others, and its bytes behind theirs
joined : (c : goal.In-Ok-push) → map (telling_of c.extend_from_slice.new.self.items)
    c.push.new.self.items
    ≡ map (telling_of c.self.inside.bytes.items) c.self.inside.entries.items
    ++ (record { block = c.args.block; esi = c.args.esi; bytes = c.args.bytes.now }) ∷ []
joined c =
    let inside = c.self.inside in
    let from : c.len-start.result ≡ length inside.bytes.items = search rules in
    let entry : Entry = record {
      place = record { block = c.args.block; esi = c.args.esi };
      start = c.len-start.result;
      end = c.len-start.result + length c.args.bytes.now;
    } in
    let bytes : c.extend_from_slice.new.self.items ≡ inside.bytes.items ++ c.args.bytes.now =
    search rules in
    let entries : c.push.new.self.items ≡ inside.entries.items ++ entry ∷ [] = search rules in
    ap (λ l. map (telling_of l) c.push.new.self.items) bytes
    ∙ ap (map (telling_of (inside.bytes.items ++ c.args.bytes.now))) entries
    ∙ told_more inside.bytes.items c.args.bytes.now inside.entries.items entry
    c.self.invariant.within from (omega (arith, from))

pub returns-clause-told : goal.returns-clause-told
returns-clause-told c = rw (← c.self.view_is) (joined c)

pub returns-clause-ok : goal.returns-clause-ok
returns-clause-ok c = rw (← c.self.view_is) (same_view _ _ _ _ _ _ _ (joined c) (search rules)
    (search rules))
