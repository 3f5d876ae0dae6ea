-- What is told as packets come, with one packet more.
use Rattle.std.proofs.Common.{◌≡◌, ℕ, ◌+◌, ◌<◌, ◌≤◌, List, [], ◌∷◌, ◌++◌, length, get_or, take, map}
use Rattle.std.proofs.Common.{All, Contains, Option, Some, None, refl, sym, ap, ap₂, ◌∙◌, subst}
use Rattle.std.proofs.Common.{arith, eq-eqb, append_assoc, append-nil}
use Rattle.std.specs.List.{flat_map, enumerate_from}
use Rattle.std.proofs.lemmas.List.{get_or-map, length-map, map-append, take-append-le, take-map}
use Rattle.std.proofs.lemmas.List.{take_all}
use Rattle.std.proofs.lemmas.List.Elements.{All-append, All-map, All-nil, All-take, All-weaker}
use Rattle.std.proofs.lemmas.List.Elements.{All-contains_itself}
use Rattle.fec_base.specs.Told.{GrowsTold, KeepsTold, Telling, place_of}
use Rattle.fec_base.specs.declared.outside.Place.{Place}
use Rattle.sparse_rows.specs.Matrix.{Matrix}
use Rattle.sparse_rows.specs.Codeword.{Arrival, positions}
use Rattle.sparse_rows.specs.Closure.{fresh}
use Rattle.peeling.specs.Decoder.{Decoder, kept}
use Rattle.sparse_rows.specs.Determined.{IsForced}
use Rattle.fec_session.specs.Forced.{RebuildsBy}
use Rattle.fec_session.specs.Session.{tellings}
use Rattle.object_file.specs.Received.{arrivals_of}
use Rattle.packet_file.specs.Packets.{Packet}
use Rattle.object_file.specs.Told.{IsToldBy, TellsOf, new_places, told_places}
use Rattle.object_file.proofs.Arrivals.{arrivals_more, arrivals_own}

-- ---- the places

-- what the packets of a part make known, behind the others of all
abbrev places_from : (ℕ → Matrix) → List Packet → ℕ → List Packet → List Place
places_from code all n packets = flat_map (λ (q : ℕ × Packet). new_places code (take q.0 all) q.1)
    (enumerate_from n packets)

-- packets behind all don't change it
places_stay : (code : ℕ → Matrix) (all more : List Packet) (n : ℕ) (packets : List Packet)
    → n + length packets ≤ length all → places_from code (all ++ more) n packets ≡ places_from code
    all n packets
places_stay code all more n [] le = refl
places_stay code all more n (p ∷ packets) le =
    ap₂ ◌++◌ (ap (λ l. new_places code l p) (take-append-le n all more (omega arith)))
    (places_stay code all more (n + 1) packets (omega arith))

places_append : (code : ℕ → Matrix) (all : List Packet) (n : ℕ) (packets more : List Packet)
    → places_from code all n (packets ++ more) ≡ places_from code all n packets ++ places_from code
    all (n + length packets) more
places_append code all n [] more = ap (λ (k : ℕ). places_from code all k more)
    (let same : n ≡ n + 0 = omega arith in same)
places_append code all n (p ∷ packets) more =
    let place : n + 1 + length packets ≡ n + length (p ∷ packets) = omega arith in
    ap (λ l. new_places code (take n all) p ++ l) (places_append code all (n + 1) packets more
    ∙ ap (λ (k : ℕ). places_from code all (n + 1) packets ++ places_from code all k more) place)
    ∙ sym (append_assoc (new_places code (take n all) p) (places_from code all (n + 1) packets)
    (places_from code all (n + length (p ∷ packets)) more))

-- one packet more
pub told_places_more : (code : ℕ → Matrix) (packets : List Packet) (p : Packet)
    → told_places code (packets ++ p ∷ []) ≡ told_places code packets ++ new_places code packets p
unfolding told_places
told_places_more code packets p =
    let all : List Packet = packets ++ p ∷ [] in
    let own : take (0 + length packets) all ≡ packets = ap (λ (k : ℕ). take k all)
    (let same : 0 + length packets ≡ length packets = omega arith in same)
    ∙ take-append-le (length packets) packets (p ∷ []) (omega arith)
    ∙ take_all (length packets) packets (omega arith) in
    places_append code all 0 packets (p ∷ [])
    ∙ ap₂ ◌++◌ (places_stay code packets (p ∷ []) 0 packets (omega arith))
    (append-nil (new_places code (take (0 + length packets) all) p)
    ∙ ap (λ l. new_places code l p) own)

pub told_places_none : (code : ℕ → Matrix) → told_places code [] ≡ []
unfolding told_places
told_places_none code = refl

-- ---- what a watch was told

grows_none : (told : Option (List Telling)) → GrowsTold told told []
grows_none None = tt
grows_none (Some ts) = sym (append-nil ts)

grows_after : (told mid now : Option (List Telling)) (first second : List Telling)
    → GrowsTold told mid first → GrowsTold mid now second → GrowsTold told now (first ++ second)
grows_after None mid now first second p q = tt
grows_after (Some ts) None now first second p q = absurd p
grows_after (Some ts) (Some us) None first second p q = absurd q
grows_after (Some ts) (Some us) (Some vs) first second p q = q ∙ ap (λ l. l ++ second) p
    ∙ append_assoc ts first second

grows_kept : (told mid now : Option (List Telling)) (first : List Telling)
    → GrowsTold told mid first → KeepsTold mid now → GrowsTold told now first
grows_kept None mid now first p q = tt
grows_kept (Some ts) None now first p q = absurd p
grows_kept (Some ts) (Some us) None first p q = absurd q
grows_kept (Some ts) (Some us) (Some vs) first p q = q ∙ p

pub keeps_same : (told : Option (List Telling)) → KeepsTold told told
keeps_same None = tt
keeps_same (Some ts) = refl

module _ (code : ℕ → Matrix) (len : ℕ) where
  -- what was told as packets came was told as these and another came
  told_later : (packets : List Packet) (p : Packet) (t : Telling) → IsToldBy code len packets t
      → IsToldBy code len (packets ++ p ∷ []) t
  told_later packets p t is = record {
    before = is.before;
    packet = is.packet;
    after = is.after ++ p ∷ [];
    packets_are = ap (λ l. l ++ p ∷ []) is.packets_are
        ∙ append_assoc is.before (is.packet ∷ is.after) (p ∷ []);
    place = is.place;
    forced = is.forced;
  }

  -- nothing was told yet
  pub tells_none : (told : Option (List Telling)) → TellsOf code len [] (told_places code []) told
      told
  tells_none told = record {
    tellings = [];
    grown = grows_none told;
    at = sym (told_places_none code);
    each = All-nil (IsToldBy code len []);
  }

  -- what was told stays
  pub tells_kept : (packets : List Packet) (places : List Place)
      (told mid now : Option (List Telling)) → TellsOf code len packets places told mid
      → KeepsTold mid now → TellsOf code len packets places told now
  tells_kept packets places told mid now tells kept =
      record {
        tellings = tells.tellings;
        grown = grows_kept told mid now tells.tellings tells.grown
            kept;
        at = tells.at;
        each = tells.each;
      }

  -- of what a packet makes known these positions are told
  module _ (packets : List Packet) (p : Packet) (new : Decoder) (matrix : new.matrix ≡ code p.0.sbn)
      (size : new.len ≡ len) (rebuilds : RebuildsBy new (arrivals_of p.0.sbn packets) p.0.esi p.1)
    where
      abbrev place_at : ℕ → Place
      place_at e = record { block = p.0.sbn; esi = e }

      fresh_places : map place_at new.fresh ≡ new_places code packets p
      fresh_places = ap (map place_at) (rebuilds.places
          ∙ ap (λ (m : Matrix). fresh m (positions (arrivals_of p.0.sbn packets)) p.0.esi) matrix)

      -- their places
      tellings_at : (some : List ℕ) → map place_of (tellings p.0.sbn new some) ≡ map place_at some
      tellings_at [] = refl
      tellings_at (e ∷ some) = ap (λ l. place_at e ∷ l) (tellings_at some)

      -- each by its bytes
      told_now : (e : ℕ) → Contains new.fresh e
          → IsForced new.matrix new.len (arrivals_of p.0.sbn packets ++ (p.0.esi, p.1) ∷ []) e
          (kept new e)
          → IsToldBy code len (packets ++ p ∷ [])
          (record { block = p.0.sbn; esi = e; bytes = kept new e })
      told_now e (k, lt, is) forced =
          let arrived : arrivals_of p.0.sbn (packets ++ p ∷ []) ≡ arrivals_of p.0.sbn packets
          ++ (p.0.esi, p.1) ∷ [] = arrivals_more p.0.sbn packets (p ∷ [])
          ∙ ap (λ l. arrivals_of p.0.sbn packets ++ l)
          (arrivals_own p.0.sbn p (eq-eqb p.0.sbn p.0.sbn refl)) in
          let by_code = subst (λ (m : Matrix). IsForced m new.len (arrivals_of p.0.sbn packets
          ++ (p.0.esi, p.1) ∷ []) e (kept new e)) matrix forced in
          let by_len = subst (λ (n : ℕ). IsForced (code p.0.sbn) n (arrivals_of p.0.sbn packets
          ++ (p.0.esi, p.1) ∷ []) e (kept new e)) size by_code in
          record {
            before = packets;
            packet = p;
            after = [];
            packets_are = refl;
            place = subst (λ l. Contains l (place_at e)) fresh_places (
              k,
              omega (arith, lt, length-map new.fresh place_at),
              get_or-map place_at new.fresh k e (place_at e) lt ∙ ap place_at is,
            );
            forced = subst (λ (l : List Arrival). IsForced (code p.0.sbn) len l e (kept new e))
                (sym arrived) by_len;
          }

      told_each : (some : List ℕ) → All (Contains new.fresh) some
          → All (IsToldBy code len (packets ++ p ∷ [])) (tellings p.0.sbn new some)
      told_each some inside = All-map (IsToldBy code len (packets ++ p ∷ []))
          (λ e. record { block = p.0.sbn; esi = e; bytes = kept new e }) some (λ k d lt.
          let (i, within, is) = inside k d lt in
          let forced = subst (λ (e : ℕ). IsForced new.matrix new.len (arrivals_of p.0.sbn packets
          ++ (p.0.esi, p.1) ∷ []) e (kept new e)) is (rebuilds.forced i (get_or some k d) within)
          in
          told_now (get_or some k d) (inside k d lt) forced)

      -- all of them, or the first few
      module _ (places : List Place) (told mid now : Option (List Telling))
          (tells : TellsOf code len packets places told mid) where
        tells_some : (some : List ℕ) → All (Contains new.fresh) some
            → GrowsTold mid now (tellings p.0.sbn new some)
            → TellsOf code len (packets ++ p ∷ []) (places ++ map place_at some) told now
        tells_some some inside grown = record {
          tellings = tells.tellings ++ tellings p.0.sbn new some;
          grown = grows_after told mid now tells.tellings (tellings p.0.sbn new some) tells.grown
              grown;
          at = map-append place_of tells.tellings (tellings p.0.sbn new some)
              ∙ ap₂ ◌++◌ tells.at (tellings_at some);
          each = All-append (IsToldBy code len (packets ++ p ∷ [])) tells.tellings
              (tellings p.0.sbn new some) (All-weaker (IsToldBy code len packets)
              (IsToldBy code len (packets ++ p ∷ [])) (told_later packets p) tells.tellings
              tells.each) (told_each some inside);
        }

        pub tells_all : GrowsTold mid now (tellings p.0.sbn new new.fresh)
            → TellsOf code len (packets ++ p ∷ []) (places ++ new_places code packets p) told now
        tells_all grown = subst (λ l. TellsOf code len (packets ++ p ∷ []) (places ++ l) told now)
            fresh_places (tells_some new.fresh (All-contains_itself new.fresh) grown)

        pub tells_front : (count : ℕ) → count < length new.fresh
            → GrowsTold mid now (tellings p.0.sbn new (take count new.fresh))
            → (count < length (new_places code packets p)) × TellsOf code len (packets ++ p ∷ [])
            (places ++ take count (new_places code packets p)) told now
        tells_front count few grown = (
          omega (arith, few, length-map new.fresh place_at, ap length fresh_places),
          subst (λ l. TellsOf code len (packets ++ p ∷ []) (places ++ l) told now)
              (sym (take-map place_at count new.fresh) ∙ ap (take count) fresh_places)
              (tells_some (take count new.fresh) (All-take (Contains new.fresh) count new.fresh
              (All-contains_itself new.fresh)) grown),
        )
