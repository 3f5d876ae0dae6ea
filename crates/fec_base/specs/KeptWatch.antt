-- Inside: how a watch that keeps what it is told keeps it.
use Rattle.std.specs.Prelude.{◌≤◌, ◌-◌, ℕ, List, length, map, take, drop, All}
use Rattle.std.specs.Vec.{vec_len, vec_capacity}
use Rattle.fec_base.specs.Told.{Telling}
use Rattle.fec_base.specs.Watches.{ListView}
use Rattle.fec_base.specs.declared.watches.Entry.{Entry}
use Rattle.fec_base.specs.declared.watches.ListWatch.TheInside.{Inside}

-- a symbol that was told, by these bytes of all that were told
abbrev pub telling_of : List ℕ → Entry → Telling
telling_of bytes e = record {
  block = e.place.block;
  esi = e.place.esi;
  bytes = take (e.end - e.start) (drop e.start bytes);
}

-- the fields as a list of what was told
abbrev pub list_view : Inside → ListView
list_view w = record {
  told = map (telling_of w.bytes.items) w.entries.items;
  free_places = w.places_room - vec_len w.entries;
  free_bytes = w.bytes_room - vec_len w.bytes;
  faults = w.faults;
}

-- each symbol's bytes are among those that were told, and there is room that was reserved
pub record IsList (w : Inside) : Type 0 where
  pub within : All (λ (e : Entry). (e.start ≤ e.end)
      × (e.end ≤ length w.bytes.items)) w.entries.items
  pub few : w.places_room ≤ 4294967295
  pub places : vec_len w.entries ≤ w.places_room
  pub places_held : w.places_room ≤ vec_capacity w.entries
  pub bytes : vec_len w.bytes ≤ w.bytes_room
  pub bytes_held : w.bytes_room ≤ vec_capacity w.bytes
