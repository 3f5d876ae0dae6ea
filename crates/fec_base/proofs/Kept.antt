-- What a watch that keeps what it is told has once one more symbol was told.
use Rattle.std.proofs.Common.{◌≡◌, ℕ, ◌+◌, ◌-◌, ◌≤◌, List, [], ◌∷◌, ◌++◌, length, map, take, drop}
use Rattle.std.proofs.Common.{All, refl, sym, ap, ◌∙◌, arith, length-drop}
use Rattle.std.proofs.lemmas.List.{drop-append-le, take-append-le, drop_at, take_all, map-append}
use Rattle.std.proofs.lemmas.List.Elements.{All-head, All-tail}
use Rattle.fec_base.specs.Told.{Telling}
use Rattle.fec_base.specs.Watches.{ListView}
use Rattle.fec_base.specs.KeptWatch.{telling_of}
use Rattle.fec_base.specs.declared.watches.Entry.{Entry}

-- the bytes of an entry are among these
abbrev pub IsEntryOf : List ℕ → Entry → Type 0
IsEntryOf bytes e = (e.start ≤ e.end) × (e.end ≤ length bytes)

-- bytes behind those of an entry don't change it
same_entry : (bytes more : List ℕ) (e : Entry) → IsEntryOf bytes e
    → telling_of (bytes ++ more) e ≡ telling_of bytes e
same_entry bytes more e (from, to) =
    let front = drop-append-le e.start bytes more (omega (arith, from, to)) in
    let kept = take-append-le (e.end - e.start) (drop e.start bytes) more
    (omega (arith, from, to, length-drop e.start bytes)) in
    ap (λ l. record { block = e.place.block; esi = e.place.esi; bytes = l })
    (ap (take (e.end - e.start)) front ∙ kept)

same_entries : (bytes more : List ℕ) (es : List Entry) → All (IsEntryOf bytes) es
    → map (telling_of (bytes ++ more)) es ≡ map (telling_of bytes) es
same_entries bytes more [] each = refl
same_entries bytes more (e ∷ es) each =
    let head = same_entry bytes more e (All-head (IsEntryOf bytes) e es each) in
    let tail = same_entries bytes more es (All-tail (IsEntryOf bytes) e es each) in
    ap (λ t. t ∷ map (telling_of (bytes ++ more)) es) head ∙ ap (λ l. telling_of bytes e ∷ l) tail

-- the entry of the bytes that were put behind the others
own_entry : (bytes more : List ℕ) (e : Entry) → e.start ≡ length bytes
    → e.end ≡ length bytes + length more
    → telling_of (bytes ++ more) e ≡ record {
      block = e.place.block;
      esi = e.place.esi;
      bytes = more;
    }
own_entry bytes more e from to =
    let behind : drop e.start (bytes ++ more) ≡ more = drop_at bytes more e.start (sym from) in
    let whole : take (e.end - e.start) more ≡ more = take_all (e.end - e.start) more
    (omega (arith, from, to)) in
    ap (λ l. record { block = e.place.block; esi = e.place.esi; bytes = l })
    (ap (take (e.end - e.start)) behind ∙ whole)

-- one more symbol was told
pub told_more : (bytes more : List ℕ) (es : List Entry) (e : Entry) → All (IsEntryOf bytes) es
    → e.start ≡ length bytes → e.end ≡ length bytes + length more
    → map (telling_of (bytes ++ more)) (es ++ e ∷ []) ≡ map (telling_of bytes) es
    ++ (record { block = e.place.block; esi = e.place.esi; bytes = more }) ∷ []
told_more bytes more es e each from to =
    map-append (telling_of (bytes ++ more)) es (e ∷ [])
    ∙ ap (λ l. l ++ telling_of (bytes ++ more) e ∷ []) (same_entries bytes more es each)
    ∙ ap (λ t. map (telling_of bytes) es ++ t ∷ []) (own_entry bytes more e from to)

-- a watch by what it was told, its free room and its faults
abbrev pub viewed : List Telling → ℕ → ℕ → ℕ → ListView
viewed told places bytes faults = record {
  told = told;
  free_places = places;
  free_bytes = bytes;
  faults = faults;
}

pub same_view : (told told_now : List Telling) (places places_now bytes bytes_now faults : ℕ)
    → told ≡ told_now → places ≡ places_now → bytes ≡ bytes_now
    → viewed told places bytes faults ≡ viewed told_now places_now bytes_now faults
same_view told told_now places places_now bytes bytes_now faults t p b =
    ap (λ (l : List Telling). viewed l places bytes faults) t
    ∙ ap (λ (n : ℕ). viewed told_now n bytes faults) p
    ∙ ap (λ (n : ℕ). viewed told_now places_now n faults) b
