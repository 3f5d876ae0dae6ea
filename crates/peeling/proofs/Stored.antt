-- How a decoder's fields are what contracts see.
use mathlib.Core.Path.{fun_ext}
use Rattle.std.proofs.Common.{Vec, Global, IsTrue, ◌↔◌, ◌≡◌, ℕ, ◌+◌, ◌-◌, ◌*◌, ◌<◌, ◌≤◌, Bool, true}
use Rattle.std.proofs.Common.{false, not, ◌||◌, ◌&&◌, List, [], All, length, get_or, replicate, set}
use Rattle.std.proofs.Common.{take, drop, refl, sym, ap, ◌∙◌, subst, arith, length-set}
use Rattle.std.specs.Vec.{vec_capacity, with_item, with_items}
use Rattle.std.proofs.lemmas.List.{with_items_is, length-replicate, take-replicate, drop-replicate}
use Rattle.fec_base.specs.Symbol.{IsSymbol, zero_symbol}
use Rattle.sparse_rows.specs.Matrix.{Matrix, IsCode}
use Rattle.sparse_rows.specs.Codeword.{symbol_at}
use Rattle.sparse_rows.specs.Columns.{entries}
use Rattle.sparse_rows.specs.Closure.{Set, flagged, HasSameMembers, members, round}
use Rattle.peeling.specs.declared.peeler.Store.{Store}
use Rattle.peeling.specs.declared.peeler.Peeler.TheInside.{Inside}
use Rattle.peeling.specs.Decoder.{Decoder, IsDecoder, kept}
use Rattle.peeling.specs.Lookups.{HasAllSource, set_count}
use Rattle.peeling.specs.Stands.{StandsFor, Receives}
use Rattle.peeling.specs.Peeled.{IsLaid, IsPeeled, unset_count}
use Rattle.peeling.specs.declared.unknowns.Unknowns.{Unknowns}
use Rattle.peeling.specs.Unknowns.{IsCounted}
use Rattle.peeling.specs.Worklist.{NewRowsHold}
use Rattle.peeling.proofs.Flags.{flagged_none, set_none, set_and_unset, none_unset, all_set}
use Rattle.peeling.proofs.Closure.{closure_rests, closure_full}
use Rattle.peeling.proofs.Counted.{counted_none}
use Rattle.peeling.specs.Blank.{IsBlank}
use Rattle.peeling.specs.Storage.{decoder_of, IsStored}
use Rattle.peeling.proofs.Laid.{word_room, word_symbol}
use Rattle.peeling.proofs.Received.{repeat_closed, repeat_received, new_closed, new_received}
use Rattle.peeling.proofs.Received.{empty_laid, empty_closed, empty_stands}

pub stored_is : (p : Inside) → IsStored p → IsDecoder (decoder_of p)
stored_is p h = record {
  code = h.code;
  some = h.some;
  most = h.most;
  arrived = h.arrived;
  known = h.laid.flags;
  symbols = h.laid.count;
  bytes = h.laid.each;
  closed = h.closed;
}

-- there is a symbol for each position, and behind them a sum for each row
pub stored_room : (p : Inside) → IsStored p → (d : Decoder) → decoder_of p ≡ d → (e : ℕ)
    → e < d.matrix.n → e < length p.store.symbols
stored_room p h d view e lt =
    word_room p.code.n p.len p.store.known.items p.store.symbols e h.laid
    (subst (λ (z : Decoder). e < z.matrix.n) (sym view) lt)

-- where all source symbols are known, all symbols are
pub stored_full : (p : Inside) → IsStored p → (p.known_count ≡ p.code.n)
    ↔ HasAllSource (decoder_of p)
stored_full p h = (
  λ e position lt. all_set p.store.known.items
      (omega (arith, e, h.known_count, h.laid.flags, set_and_unset p.store.known.items)) position
      (omega (arith, lt, h.laid.flags, h.code.shape.count)),
  λ all. let none : unset_count p.store.known.items ≡ 0 = none_unset p.store.known.items
      (λ c lt. h.closed c ∙ closure_full p.code h.code.shape (flagged p.store.arrived.items)
      (λ k below. sym (h.closed k) ∙ all k below) c (omega (arith, lt, h.laid.flags))) in
      omega (arith, none, h.known_count, h.laid.flags, set_and_unset p.store.known.items),
)

-- the symbol of a position
pub stored_symbol : (p : Inside) → IsStored p → (d : Decoder) → decoder_of p ≡ d → (e : ℕ)
    → e < d.matrix.n → get_or p.store.symbols e [] ≡ kept d e
stored_symbol p h d view e lt =
    word_symbol p.code.n p.len p.store.known.items p.store.symbols e h.laid
    (subst (λ (z : Decoder). e < z.matrix.n) (sym view) lt) ∙ ap (λ (z : Decoder). kept z e)
    view

-- ---- a decoder at which nothing arrived

module _ (m : Matrix) (code : IsCode m) (len : ℕ) (some : 1 ≤ len) (most : len ≤ 65535)
    (store : Store) (blank : IsBlank m len store) where
  zero_symbols : take m.n store.symbols ≡ replicate m.n (zero_symbol len)
  zero_symbols = ap (take m.n) blank.zeros ∙ take-replicate m.n (m.n + length m.rows)
      (zero_symbol len) (omega arith)

  zero_sums : drop m.n store.symbols ≡ replicate (length m.rows) (zero_symbol len)
  zero_sums =
      let rest : m.n + length m.rows - m.n ≡ length m.rows = omega arith in
      ap (drop m.n) blank.zeros ∙ drop-replicate m.n (m.n + length m.rows) (zero_symbol len)
      ∙ ap (λ (k : ℕ). replicate k (zero_symbol len)) rest

  pub blank_stored : IsStored (record {
    code = m;
    len = len;
    clashed = false;
    arrived_count = 0;
    known_count = 0;
    store = store;
  })
  blank_stored = record {
    code = code;
    some = some;
    most = most;
    arrived = ap length blank.no_arrivals ∙ length-replicate m.n false;
    laid = rw (blank.none_known, zero_symbols) (empty_laid m.n len);
    closed = rw (blank.none_known, blank.no_arrivals) (empty_closed m code);
    counted = rw (blank.none_known, blank.rows, zero_sums, flagged_none m.n)
        (counted_none m len (symbol_at len (take m.n store.symbols)));
    arrived_count = sym (ap set_count blank.no_arrivals ∙ set_none m.n);
    known_count = sym (ap set_count blank.none_known ∙ set_none m.n);
    room = blank.places;
  }

  pub blank_stands : StandsFor (decoder_of
      (record {
        code = m;
        len = len;
        clashed = false;
        arrived_count = 0;
        known_count = 0;
        store = store;
      })) []
  blank_stands = rw (blank.none_known, blank.no_arrivals, zero_symbols)
      (empty_stands m code len store.fresh.items)

-- ---- one arrival more

module _ (p : Inside) (h : IsStored p) (d : Decoder) (view : decoder_of p ≡ d) (e : ℕ)
    (bytes : List ℕ) (position : e < d.matrix.n) (size : length bytes ≡ d.len)
    (small : All (λ b. b < 256) bytes) where
  pub place : e < p.code.n
  place = subst (λ (z : Decoder). e < z.matrix.n) (sym view) position

  pub symbol : IsSymbol p.len bytes
  symbol = record {
    long = subst (λ (z : Decoder). length bytes ≡ z.len) (sym view) size;
    bytes = small;
  }

  flags_long : length (set p.store.arrived.items e true) ≡ p.code.n
  flags_long = length-set p.store.arrived.items e true ∙ h.arrived

  module _ (there : flagged d.known e ≡ true) (same : Bool) (found : List ℕ)
      (found_is : found ≡ get_or p.store.symbols e []) (same_is : IsTrue same ↔ (bytes ≡ found))
      (cleared : Vec ℕ Global)
      (none : cleared.items ≡ []) (room : vec_capacity cleared ≡ vec_capacity p.store.fresh)
      (count : ℕ) (count_is : count ≡ set_count (set p.store.arrived.items e true)) where
    known_here : flagged p.store.known.items e ≡ true
    known_here = subst (λ (z : Decoder). flagged z.known e ≡ true) (sym view) there

    found_here : found ≡ symbol_at p.len (take p.code.n p.store.symbols) e
    found_here = found_is ∙ stored_symbol p h (decoder_of p) refl e place

    same_here : IsTrue same ↔ (bytes ≡ symbol_at p.len (take p.code.n p.store.symbols) e)
    same_here = (λ t. same_is.0 t ∙ found_here, λ z. same_is.1 (z ∙ sym found_here))

    pub repeat_stored : IsStored (record p {
      clashed = p.clashed || not same;
      arrived_count = count;
      store = record p.store { arrived = with_item p.store.arrived e true; fresh = cleared };
    })
    repeat_stored = record {
      code = h.code;
      some = h.some;
      most = h.most;
      arrived = flags_long;
      laid = h.laid;
      closed = repeat_closed p.code h.code p.len p.store.arrived.items p.store.known.items
          (take p.code.n p.store.symbols) p.clashed p.store.fresh.items e bytes h.arrived h.laid
          h.closed place symbol known_here same same_here;
      counted = h.counted;
      arrived_count = count_is;
      known_count = h.known_count;
      room = rw room h.room;
    }

    pub repeat_receives : Receives d
        (decoder_of (record p {
          clashed = p.clashed || not same;
          arrived_count = count;
          store = record p.store { arrived = with_item p.store.arrived e true; fresh = cleared };
        })) e
        bytes
    repeat_receives = subst (λ (z : Decoder). Receives z
        (decoder_of (record p {
          clashed = p.clashed || not same;
          arrived_count = count;
          store = record p.store { arrived = with_item p.store.arrived e true; fresh = cleared };
        })) e
        bytes) view
        (rw none (repeat_received p.code h.code p.len p.store.arrived.items p.store.known.items
        (take p.code.n p.store.symbols) p.clashed p.store.fresh.items e bytes h.arrived h.laid
        h.closed place symbol known_here same same_here))

  -- a position that wasn't known
  module _ (unknown : flagged d.known e ≡ false) where
    pub unknown_here : flagged p.store.known.items e ≡ false
    unknown_here = subst (λ (z : Decoder). flagged z.known e ≡ false) (sym view) unknown

    pub rests_here : HasSameMembers (round p.code (flagged p.store.known.items))
        (flagged p.store.known.items)
    rests_here = subst (λ (s : Set). HasSameMembers (round p.code s) s) (sym (fun_ext h.closed))
        (closure_rests p.code h.code.shape (flagged p.store.arrived.items))

    pub size_here : length bytes ≡ p.len
    size_here = subst (λ (z : Decoder). length bytes ≡ z.len) (sym view) size

    -- what is lent of the fields
    module _ (known : List Bool) (cells : List (List ℕ)) (rows0 : List Unknowns)
        (known_is : known ≡ p.store.known.items) (cells_is : cells ≡ p.store.symbols)
        (rows_is : rows0 ≡ p.store.rows.items) where
      pub ready_unknown : flagged known e ≡ false
      ready_unknown = rw known_is unknown_here

      pub ready_laid : IsLaid p.code.n (length bytes) known (take p.code.n cells)
      ready_laid = rw (size_here, known_is, cells_is) h.laid

      pub ready_counted : IsCounted p.code (length bytes) (λ row. flagged known)
          (symbol_at (length bytes) (take p.code.n cells)) rows0 (drop p.code.n cells)
      ready_counted = rw (size_here, known_is, cells_is, rows_is) h.counted

      pub ready_rests : HasSameMembers (round p.code (flagged known)) (flagged known)
      ready_rests = rw known_is rests_here

      module _ (more : List Bool) (next : List (List ℕ)) (more_laid : IsLaid p.code.n (length bytes)
          more (take p.code.n next))
          (peels : IsPeeled p.code (length bytes) (flagged (set known e true))
          (symbol_at (length bytes) (set (take p.code.n cells) e bytes)) (flagged more)
          (symbol_at (length bytes) (take p.code.n next)))
          (rests : HasSameMembers (round p.code (flagged more)) (flagged more)) (holds : Bool)
          (new_hold : IsTrue holds ↔ NewRowsHold p.code (length bytes) (flagged known)
          (flagged more) (symbol_at (length bytes) (take p.code.n next)))
          (rows : List Unknowns) (new_counted : IsCounted p.code (length bytes)
          (λ row. flagged more) (symbol_at (length bytes) (take p.code.n next)) rows
          (drop p.code.n next)) (rows_long : length rows ≡ length rows0)
          (listed : Vec ℕ Global) (new_listed : listed.items ≡ members (length more)
          (λ c. flagged more c && not (flagged (set known e true) c)))
          (room : vec_capacity listed ≡ vec_capacity p.store.fresh)
          (count : ℕ) (count_is : count ≡ set_count (set p.store.arrived.items e true))
          (known_count : ℕ) (known_count_is : known_count ≡ set_count more) where
        more_is : IsLaid p.code.n p.len more (take p.code.n next)
        more_is = rw size_here at more_laid

        peeled : IsPeeled p.code p.len (flagged (set p.store.known.items e true))
            (symbol_at p.len (set (take p.code.n p.store.symbols) e bytes)) (flagged more)
            (symbol_at p.len (take p.code.n next))
        peeled = rw (size_here, known_is, cells_is) at peels

        holds_is : IsTrue holds ↔ NewRowsHold p.code p.len (flagged p.store.known.items)
            (flagged more) (symbol_at p.len (take p.code.n next))
        holds_is = rw (size_here, known_is) at new_hold

        counted : IsCounted p.code p.len (λ row. flagged more)
            (symbol_at p.len (take p.code.n next)) rows (drop p.code.n next)
        counted = rw size_here at new_counted

        listed_is : listed.items ≡ members (length more)
            (λ c. flagged more c && not (flagged (set p.store.known.items e true) c))
        listed_is = rw known_is at new_listed

        more_items : (with_items p.store.known more).items ≡ more
        more_items = with_items_is p.store.known more
            (omega (arith, more_is.flags, h.laid.flags, p.store.known.ok.0))

        rows_items : (with_items p.store.rows rows).items ≡ rows
        rows_items = with_items_is p.store.rows rows
            (omega (arith, rows_long, ap length rows_is, p.store.rows.ok.0))

        abbrev grown : Inside
        grown = record p {
          clashed = p.clashed || not holds;
          arrived_count = count;
          known_count = known_count;
          store =
              record {
                arrived = with_item p.store.arrived e true;
                known = with_items p.store.known more;
                symbols = next;
                rows = with_items p.store.rows
                    rows;
                fresh = listed;
              };
        }

        abbrev start : List (List ℕ)
        start = set (take p.code.n p.store.symbols) e bytes

        pub new_stored : IsStored grown
        new_stored = record {
          code = h.code;
          some = h.some;
          most = h.most;
          arrived = flags_long;
          laid = rw more_items more_is;
          closed = rw more_items (new_closed p.code h.code p.len p.store.arrived.items
              p.store.known.items (take p.code.n p.store.symbols) p.clashed p.store.fresh.items e
              bytes h.arrived h.laid h.closed place symbol unknown_here start refl more
              (take p.code.n next) more_is peeled rests holds holds_is);
          counted = rw (more_items, rows_items) counted;
          arrived_count = count_is;
          known_count = rw more_items known_count_is;
          room = rw room h.room;
        }

        pub new_receives : Receives d (decoder_of grown) e bytes
        new_receives = subst (λ (z : Decoder). Receives z (decoder_of grown) e bytes) view
            (rw more_items (new_received p.code h.code p.len p.store.arrived.items
            p.store.known.items (take p.code.n p.store.symbols) p.clashed p.store.fresh.items e
            bytes h.arrived h.laid h.closed place symbol unknown_here start refl more
            (take p.code.n next) more_is peeled rests holds holds_is listed.items listed_is))

        -- the entries of what is known
        pub new_steps : (old new : ℕ) → new + 2 * entries p.code (flagged known) ≡ old + 2 * entries
            p.code (flagged more) → new + 2 * entries d.matrix (flagged d.known) ≡ old + 2 * entries
            d.matrix (flagged (with_items p.store.known more).items)
        new_steps old new is = subst (λ (z : Decoder). new + 2 * entries z.matrix (flagged z.known)
            ≡ old + 2 * entries z.matrix (flagged (with_items p.store.known more).items)) view
            (rw more_items (rw known_is at is))
