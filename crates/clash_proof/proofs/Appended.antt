-- Evidence with one more entry.
use Rattle.std.proofs.Common.{◌≡◌, ◌≢◌, ℕ, ◌+◌, ◌<◌, ◌≤◌, ◌⊎◌, inl, inr, ⊎_elim, true, false}
use Rattle.std.proofs.Common.{◌||◌, ◌==◌, List, [], ◌∷◌, ◌++◌, length, get_or, set, sym}
use Rattle.std.proofs.Common.{ap, ap₂, ◌∙◌}
use Rattle.std.proofs.Common.{subst, arith, true≢false, eqb-true, eq-eqb, eq-or-lt_of_le}
use Rattle.std.specs.Prelude.{Option, Some, None, MatchOption}
use Rattle.std.specs.List.{list_any}
use Rattle.std.proofs.Math.Seq.{get_or-append_seam}
use Rattle.std.proofs.lemmas.Bool.{cases_lt}
use Rattle.std.proofs.lemmas.List.{get_or_append_left, get_or-set_other, get_or-set_same}
use Rattle.std.proofs.lemmas.List.{length-append}
use Rattle.std.proofs.lemmas.List.Folds.{list_any-append}
use Rattle.fec_base.specs.Symbol.{zero_symbol}
use Rattle.sparse_rows.specs.Closure.{flagged}
use Rattle.sparse_rows.specs.Codeword.{symbol_at}
use Rattle.sparse_rows.proofs.Sets.{any_at, any_from, or_none, or_second, true_or_false}
use Rattle.null_witness.proofs.ReducedWords.{least_below}
use Rattle.clash_proof.specs.Conflicts.{Differs, IsConflict, IsFirstEntry}
use Rattle.clash_proof.specs.Entries.{Entry, entry_at, no_entry}
use Rattle.clash_proof.specs.Evidence.{Kept, StandsFor}
use Rattle.clash_proof.specs.Limits.{IsEvidenceKept}

-- what differs comes later
earlier : (entries : List Entry) (i j : ℕ) → Differs entries i j → i < j
earlier entries i j d = ⊎_elim (λ lt. lt)
    (λ le. ⊎_elim (λ e. absurd (d.bytes (ap (λ k. (entry_at entries k).bytes) (sym e))))
    (λ lt. absurd (d.first.before j lt (sym d.position))) (eq-or-lt_of_le le)) (cases_lt i j)

-- a position that came has a first entry
pub first_of : (entries : List Entry) (p : ℕ)
    → list_any (λ (a : Entry). a.position == p) entries ≡ true
    → (i : ℕ) × IsFirstEntry entries i × ((entry_at entries i).position ≡ p)
first_of entries p some = ⊎_elim
    (λ r. (
      r.0,
      record {
        inside = let le : r.0 ≤ w.0 = r.2 w.0 w.2 in omega (arith, le, w.1);
        before = λ j lt e. let le : r.0 ≤ j = r.2 j
            (ap (λ n. n == p) e ∙ r.1) in absurd (omega (arith, le, lt));
      },
      eqb-true _ _ r.1,
    ))
    (λ none. absurd (none w.0 w.1 w.2))
    (least_below (λ i. ((entry_at entries i).position == p) ≡ true) choose (length entries))
  where
    w : (i : ℕ) × (i < length entries) × (((entry_at entries i).position == p) ≡ true)
    w = any_at (λ (a : Entry). a.position == p) no_entry entries some

    choose : (i : ℕ) → (((entry_at entries i).position == p) ≡ true)
        ⊎ (((entry_at entries i).position == p) ≡ true → ⊥)
    choose i = ⊎_elim inl (λ f. inr (λ t. true≢false (sym t ∙ f)))
        (true_or_false ((entry_at entries i).position == p))

module _ (entries : List Entry) (e : Entry) where
  abbrev now : List Entry
  now = entries ++ e ∷ []

  length_now : length now ≡ length entries + 1
  length_now = length-append entries (e ∷ [])

  old_at : (i : ℕ) → i < length entries → entry_at now i ≡ entry_at entries i
  old_at i lt = get_or_append_left entries (e ∷ []) no_entry i lt

  new_at : entry_at now (length entries) ≡ e
  new_at = get_or-append_seam entries e [] no_entry

  any_now : (p : ℕ) → list_any (λ (a : Entry). a.position == p) now
      ≡ (list_any (λ (a : Entry). a.position == p) entries || (e.position == p))
  any_now p = list_any-append (λ (a : Entry). a.position == p) entries (e ∷ [])
      ∙ ap (λ b. list_any (λ (a : Entry). a.position == p) entries || b)
      (or_none (e.position == p))

  first_old : (i : ℕ) → IsFirstEntry entries i → IsFirstEntry now i
  first_old i h = record {
    inside = omega (arith, h.inside, length_now);
    before = λ j lt f. h.before j lt
        (sym (ap (λ (a : Entry). a.position) (old_at j (omega (arith, lt, h.inside)))) ∙ f
        ∙ ap (λ (a : Entry). a.position) (old_at i h.inside));
  }

  first_before : (i : ℕ) → i < length entries → IsFirstEntry now i → IsFirstEntry entries i
  first_before i lt h = record {
    inside = lt;
    before = λ j lt2 f. h.before j lt2
        (ap (λ (a : Entry). a.position) (old_at j (omega (arith, lt, lt2))) ∙ f
        ∙ sym (ap (λ (a : Entry). a.position) (old_at i lt)));
  }

  -- a first entry is one of those before or the new one
  first_cases : (P : Entry → Type 0) → ((i : ℕ) → IsFirstEntry entries i → P (entry_at entries i))
      → P e → (i : ℕ) → IsFirstEntry now i → P (entry_at now i)
  first_cases P old new i h = ⊎_elim
      (λ lt. subst P (sym (old_at i lt)) (old i (first_before i lt h)))
      (λ le. let z : i ≡ length entries = omega (arith, le, h.inside, length_now) in
      subst P (sym (ap (entry_at now) z ∙ new_at)) new)
      (cases_lt i (length entries))

  differs_old : (i j : ℕ) → Differs entries i j → Differs now i j
  differs_old i j d =
      let a = old_at i d.first.inside in
      let b = old_at j d.inside in
      record {
        inside = omega (arith, d.inside, length_now);
        first = first_old i d.first;
        position = ap (λ (x : Entry). x.position) a ∙ d.position
            ∙ sym (ap (λ (x : Entry). x.position) b);
        bytes = λ f. d.bytes (sym (ap (λ (x : Entry). x.bytes) a) ∙ f
            ∙ ap (λ (x : Entry). x.bytes) b);
      }

  differs_before : (i j : ℕ) → j < length entries → Differs now i j → Differs entries i j
  differs_before i j lt d =
      let before : i < j = earlier now i j d in
      let low : i < length entries = omega (arith, before, lt) in
      let a = old_at i low in
      let b = old_at j lt in
      record {
        inside = lt;
        first = first_before i low d.first;
        position = sym (ap (λ (x : Entry). x.position) a) ∙ d.position
            ∙ ap (λ (x : Entry). x.position) b;
        bytes = λ f. d.bytes (ap (λ (x : Entry). x.bytes) a ∙ f
            ∙ sym (ap (λ (x : Entry). x.bytes) b));
      }

  -- what the new entry differs from
  differs_new : (i : ℕ) → Differs now i (length entries) → IsFirstEntry entries i
      × ((entry_at entries i).position ≡ e.position) × ((entry_at entries i).bytes ≢ e.bytes)
  differs_new i d =
      let low : i < length entries = earlier now i (length entries) d in
      let a = old_at i low in (
        first_before i low d.first,
        sym (ap (λ (x : Entry). x.position) a) ∙ d.position
            ∙ ap (λ (x : Entry). x.position) new_at,
        λ f. d.bytes (ap (λ (x : Entry). x.bytes) a ∙ f
            ∙ sym (ap (λ (x : Entry). x.bytes) new_at)),
      )

  conflict_old : (pair : ℕ × ℕ) → IsConflict entries pair → IsConflict now pair
  conflict_old pair h = record {
    first = h.first;
    second = h.second;
    differ = differs_old h.first h.second h.differ;
    earliest = λ i j lt d. h.earliest i j lt
        (differs_before i j (omega (arith, lt, h.differ.inside)) d);
    indices = h.indices ∙ ap₂ (λ (a b : ℕ). (a, b))
        (sym (ap (λ (x : Entry). x.index) (old_at h.first h.differ.first.inside)))
        (sym (ap (λ (x : Entry). x.index) (old_at h.second h.differ.inside)));
  }

  no_differs : ((i j : ℕ) → ¬ Differs entries i j) → ((i : ℕ) → ¬ Differs now i (length entries))
      → (i j : ℕ) → ¬ Differs now i j
  no_differs none new i j d = ⊎_elim (λ lt. none i j (differs_before i j lt d))
      (λ le. let z : j ≡ length entries = omega (arith, le, d.inside, length_now) in
      new i (subst (Differs now i) z d)) (cases_lt j (length entries))

  conflict_kept : (c : Option (ℕ × ℕ)) → ((i : ℕ) → ¬ Differs now i (length entries))
      → MatchOption c ((i j : ℕ) → ¬ Differs entries i j) (IsConflict entries)
      → MatchOption c ((i j : ℕ) → ¬ Differs now i j) (IsConflict now)
  conflict_kept None new none = no_differs none new
  conflict_kept (Some pair) new h = conflict_old pair h

  -- ---- evidence

  module _ (ev : Kept) (stands : StandsFor ev entries) where
    -- the first entry of its position
    pub took_first : IsEvidenceKept ev → e.position < ev.n → flagged ev.arrived e.position ≡ false
        → (symbols : List (List ℕ)) → symbols ≡ set ev.symbols e.position e.bytes
        → StandsFor (record {
          n = ev.n;
          len = ev.len;
          arrived = set ev.arrived e.position true;
          indices = set ev.indices e.position e.index;
          symbols = symbols;
          conflict = ev.conflict;
        }) now
    took_first kept lt none symbols symbols_are = record {
      arrived = λ p. ⊎_elim (at p) (other p) (true_or_false (e.position == p));
      index = first_cases
          (λ (a : Entry). slice_or (set ev.indices e.position e.index) a.position ≡ a.index)
          (λ i h. get_or-set_other ev.indices e.position _ e.index 0 (apart i h)
          ∙ stands.index i h)
          (get_or-set_same ev.indices e.position e.index 0 (omega (arith, lt, kept.numbers)));
      bytes = first_cases (λ (a : Entry). symbol_at ev.len symbols a.position ≡ a.bytes)
          (λ i h. ap (λ s. symbol_at ev.len s (entry_at entries i).position) symbols_are
          ∙ get_or-set_other ev.symbols e.position _ e.bytes (zero_symbol ev.len) (apart i h)
          ∙ stands.bytes i h)
          (ap (λ s. symbol_at ev.len s e.position) symbols_are
          ∙ get_or-set_same ev.symbols e.position e.bytes (zero_symbol ev.len)
          (omega (arith, lt, kept.count)));
      conflict = conflict_kept ev.conflict
          (λ i d. let w = differs_new i d in apart i w.0 w.1) stands.conflict;
    }
      where
        slice_or : List ℕ → ℕ → ℕ
        slice_or xs i = get_or xs i 0

        nobody : list_any (λ (a : Entry). a.position == e.position) entries ≡ false
        nobody = sym (stands.arrived e.position) ∙ none

        apart : (i : ℕ) → IsFirstEntry entries i → (entry_at entries i).position ≢ e.position
        apart i h f = true≢false (sym (any_from (λ (a : Entry). a.position == e.position) no_entry
            entries i h.inside (eq-eqb _ _ f)) ∙ nobody)

        at : (p : ℕ) → (e.position == p) ≡ true → flagged (set ev.arrived e.position true) p
            ≡ list_any (λ (a : Entry). a.position == p) now
        at p f = subst (λ (q : ℕ). flagged (set ev.arrived e.position true) q
            ≡ list_any (λ (a : Entry). a.position == p) now) (eqb-true e.position p f)
            (get_or-set_same ev.arrived e.position true false (omega (arith, lt, kept.flags))
            ∙ sym (any_now p
            ∙ or_second (list_any (λ (a : Entry). a.position == p) entries) _ f))

        other : (p : ℕ) → (e.position == p) ≡ false → flagged (set ev.arrived e.position true) p
            ≡ list_any (λ (a : Entry). a.position == p) now
        other p f = get_or-set_other ev.arrived e.position p true false
            (λ z. true≢false (sym (eq-eqb e.position p (sym z)) ∙ f))
            ∙ stands.arrived p ∙ sym (any_now p
            ∙ ap (λ b. list_any (λ (a : Entry). a.position == p) entries || b) f
            ∙ or_none _)

    module _ (came : flagged ev.arrived e.position ≡ true) where
      some : list_any (λ (a : Entry). a.position == e.position) entries ≡ true
      some = sym (stands.arrived e.position) ∙ came

      -- the new entry is not the first of its position
      not_first : IsFirstEntry now (length entries) → ⊥
      not_first h = let w = first_of entries e.position some in
          h.before w.0 w.1.inside (ap (λ (a : Entry). a.position) (old_at w.0 w.1.inside) ∙ w.2
          ∙ sym (ap (λ (a : Entry). a.position) new_at))

      was_first : (i : ℕ) → IsFirstEntry now i → IsFirstEntry entries i
      was_first i h = ⊎_elim (λ lt. first_before i lt h)
          (λ le. let z : i ≡ length entries = omega (arith, le, h.inside, length_now) in
          absurd (not_first (subst (IsFirstEntry now) z h))) (cases_lt i (length entries))

      same_arrived : (p : ℕ) → flagged ev.arrived p
          ≡ list_any (λ (a : Entry). a.position == p) now
      same_arrived p = ⊎_elim
          (λ f. subst (λ (q : ℕ). flagged ev.arrived q
          ≡ list_any (λ (a : Entry). a.position == p) now) (eqb-true e.position p f)
          (came ∙ sym (any_now p
          ∙ or_second (list_any (λ (a : Entry). a.position == p) entries) _ f)))
          (λ f. stands.arrived p ∙ sym (any_now p
          ∙ ap (λ b. list_any (λ (a : Entry). a.position == p) entries || b) f ∙ or_none _))
          (true_or_false (e.position == p))

      -- a repeat keeps all but the conflict
      took : (c : Option (ℕ × ℕ))
          → MatchOption c ((i j : ℕ) → ¬ Differs now i j) (IsConflict now)
          → StandsFor (record ev { conflict = c }) now
      took c h = record {
        arrived = same_arrived;
        index = λ i first. let w = was_first i first in
            let a = old_at i w.inside in
            ap (λ (x : Entry). get_or ev.indices x.position 0) a ∙ stands.index i w
            ∙ sym (ap (λ (x : Entry). x.index) a);
        bytes = λ i first. let w = was_first i first in
            let a = old_at i w.inside in
            ap (λ (x : Entry). symbol_at ev.len ev.symbols x.position) a ∙ stands.bytes i w
            ∙ sym (ap (λ (x : Entry). x.bytes) a);
        conflict = h;
      }

      -- with the same bytes
      pub took_same : symbol_at ev.len ev.symbols e.position ≡ e.bytes → StandsFor ev now
      took_same same = took ev.conflict (conflict_kept ev.conflict (λ i d.
          let w = differs_new i d in
          w.2 (sym (stands.bytes i w.0) ∙ ap (symbol_at ev.len ev.symbols) w.1 ∙ same))
          stands.conflict)

      -- after a conflict
      pub took_later : (pair : ℕ × ℕ) → ev.conflict ≡ Some pair → StandsFor ev now
      took_later pair is = took ev.conflict
          (subst (λ (c : Option (ℕ × ℕ)).
          MatchOption c ((i j : ℕ) → ¬ Differs now i j) (IsConflict now)) (sym is)
          (conflict_old pair (subst (λ (c : Option (ℕ × ℕ)).
          MatchOption c ((i j : ℕ) → ¬ Differs entries i j) (IsConflict entries)) is
          stands.conflict)))

      -- with other bytes, as the first entry of which that is so
      pub took_conflict : ev.conflict ≡ None → symbol_at ev.len ev.symbols e.position ≢ e.bytes
          → (first : ℕ) → first ≡ get_or ev.indices e.position 0
          → StandsFor (record ev { conflict = Some (first, e.index) }) now
      took_conflict is differ first first_is = took (Some (first, e.index)) (record {
        first = w.0;
        second = length entries;
        differ = record {
          inside = omega (arith, length_now);
          first = first_old w.0 w.1;
          position = ap (λ (a : Entry). a.position) (old_at w.0 w.1.inside) ∙ w.2
              ∙ sym (ap (λ (a : Entry). a.position) new_at);
          bytes = λ f. differ (ap (symbol_at ev.len ev.symbols) (sym w.2) ∙ stands.bytes w.0 w.1
              ∙ sym (ap (λ (a : Entry). a.bytes) (old_at w.0 w.1.inside)) ∙ f
              ∙ ap (λ (a : Entry). a.bytes) new_at);
        };
        earliest = λ i j lt d. none i j (differs_before i j lt d);
        indices = ap₂ (λ (a b : ℕ). (a, b))
            (first_is ∙ ap (λ (p : ℕ). get_or ev.indices p 0) (sym w.2) ∙ stands.index w.0 w.1
            ∙ sym (ap (λ (a : Entry). a.index) (old_at w.0 w.1.inside)))
            (sym (ap (λ (a : Entry). a.index) new_at));
      })
        where
          w : (i : ℕ) × IsFirstEntry entries i × ((entry_at entries i).position ≡ e.position)
          w = first_of entries e.position some

          none : (i j : ℕ) → ¬ Differs entries i j
          none = subst (λ (c : Option (ℕ × ℕ)).
              MatchOption c ((i j : ℕ) → ¬ Differs entries i j) (IsConflict entries)) is
              stands.conflict
