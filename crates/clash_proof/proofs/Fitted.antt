-- Codewords that fit entries, by the evidence that stands for them.
use Rattle.std.proofs.Common.{◌≡◌, ◌≢◌, ℕ, ◌<◌, ◌⊎◌, inl, inr, ⊎_elim, true, false, ◌==◌, ◌||◌}
use Rattle.std.proofs.Common.{List, [], ◌∷◌, length, get_or, All, sym, ap, ◌∙◌, subst, eq-eqb}
use Rattle.std.proofs.Common.{true≢false, refl}
use Rattle.std.specs.Prelude.{Option, None, MatchOption}
use Rattle.std.specs.List.{list_any}
use Rattle.std.specs.Bool.{Decides}
use Rattle.std.specs.Cmp.{unsigned_Decides}
use Rattle.std.specs.Cmp.Lexicographic.{pointwise}
use Rattle.std.proofs.lemmas.Bool.{cases_lt}
use Rattle.std.proofs.lemmas.List.{get_or-map, get_or_past, length-map}
use Rattle.std.proofs.lemmas.List.Elements.{All-from_get_or}
use Rattle.std.proofs.lemmas.Slice.Eq.{slice_eq-Decides}
use Rattle.sparse_rows.specs.Matrix.{Matrix, HasShape}
use Rattle.sparse_rows.specs.Codeword.{Arrival, Fits, positions, symbol_at}
use Rattle.sparse_rows.specs.Closure.{flagged}
use Rattle.sparse_rows.proofs.Sets.{any_from, true_or_false}
use Rattle.clash_proof.specs.Conflicts.{Differs, IsConflict}
use Rattle.clash_proof.specs.Entries.{Entry, HasFitting, arrivals_of, entry_at, no_entry}
use Rattle.clash_proof.specs.Evidence.{Kept, StandsFor}
use Rattle.clash_proof.specs.Limits.{IsEvidenceKept}
use Rattle.clash_proof.specs.Proofs.{ContradictedBy, IsClosedBy}
use Rattle.clash_proof.specs.Transposed.{NoneOf}
use Rattle.clash_proof.proofs.Appended.{first_of}
use Rattle.clash_proof.proofs.Refuted.{none_fits, reduced_refutes, refuted_or}
use Rattle.clash_proof.proofs.Summed.{kept_is}

same_or_not : (a b : List ℕ) → (a ≡ b) ⊎ (a ≢ b)
same_or_not a b = ⊎_elim (λ e. inl (d.0 e)) (λ f. inr (λ e. true≢false (sym (d.1 e) ∙ f)))
    (true_or_false (pointwise ◌==◌ a b))
  where
    d : Decides (pointwise ◌==◌ a b) (a ≡ b)
    d = slice_eq-Decides unsigned_Decides a b (pointwise ◌==◌ a b) refl

any_arrival : (entries : List Entry) (c : ℕ) → positions (arrivals_of entries) c
    ≡ list_any (λ (e : Entry). e.position == c) entries
any_arrival [] c = refl
any_arrival (e ∷ entries) c = ap (λ b. (e.position == c) || b) (any_arrival entries c)

arrival_at : (entries : List Entry) (i : ℕ) (d : Arrival) → i < length entries
    → get_or (arrivals_of entries) i d
    ≡ ((entry_at entries i).position, (entry_at entries i).bytes)
arrival_at entries i d lt =
    get_or-map (λ (e : Entry). (e.position, e.bytes)) entries i no_entry d lt

-- a word that fits has the bytes of each entry
fits_entry : (entries : List Entry) (x : ℕ → List ℕ) → Fits (arrivals_of entries) x → (i : ℕ)
    → i < length entries → x (entry_at entries i).position ≡ (entry_at entries i).bytes
fits_entry entries x fits i lt =
    subst (λ (a : Arrival). x a.0 ≡ a.1) (arrival_at entries i (0, []) lt)
    (fits i (0, []) (rw length-map lt))

-- nothing fits entries that conflict
pub conflict_fits_none : (m : Matrix) (len : ℕ) (entries : List Entry) (pair : ℕ × ℕ)
    → IsConflict entries pair → HasFitting m len entries → ⊥
conflict_fits_none m len entries pair h (word, fitting) = h.differ.bytes
    (sym (fits_entry entries (symbol_at len word) fitting.fits h.first h.differ.first.inside)
    ∙ ap (symbol_at len word) h.differ.position
    ∙ fits_entry entries (symbol_at len word) fitting.fits h.second h.differ.inside)

module _ (m : Matrix) (shape : HasShape m) (ev : Kept) (kept : IsEvidenceKept ev)
    (same_n : m.n ≡ ev.n)
    (entries : List Entry) (stands : StandsFor ev entries) (none : ev.conflict ≡ None) where
  came : (c : ℕ) → positions (arrivals_of entries) c ≡ flagged ev.arrived c
  came c = any_arrival entries c ∙ sym (stands.arrived c)

  no_conflict : (i j : ℕ) → ¬ Differs entries i j
  no_conflict = subst (λ (c : Option (ℕ × ℕ)).
      MatchOption c ((i j : ℕ) → ¬ Differs entries i j) (IsConflict entries)) none stands.conflict

  entry_fits : (j : ℕ) → j < length entries
      → symbol_at ev.len ev.symbols (entry_at entries j).position ≡ (entry_at entries j).bytes
  entry_fits j lt =
      let w = first_of entries (entry_at entries j).position
      (any_from (λ (e : Entry). e.position == (entry_at entries j).position) no_entry entries
      j lt (eq-eqb _ _ refl)) in
      ap (symbol_at ev.len ev.symbols) (sym w.2) ∙ stands.bytes w.0 w.1
      ∙ ⊎_elim (λ same. same) (λ differ. absurd (no_conflict w.0 j (record {
        inside = lt;
        first = w.1;
        position = w.2;
        bytes = differ;
      }))) (same_or_not (entry_at entries w.0).bytes (entry_at entries j).bytes)

  fits : Fits (arrivals_of entries) (symbol_at ev.len ev.symbols)
  fits = All-from_get_or (λ (a : Arrival). symbol_at ev.len ev.symbols a.0 ≡ a.1)
      (arrivals_of entries) (0, [])
      (λ i lt. let low : i < length entries = rw length-map at lt in
      subst (λ (a : Arrival). symbol_at ev.len ev.symbols a.0 ≡ a.1)
      (sym (arrival_at entries i (0, []) low)) (entry_fits i low))

  inside : All (λ (a : Arrival). a.0 < m.n) (arrivals_of entries)
  inside = All-from_get_or (λ (a : Arrival). a.0 < m.n) (arrivals_of entries) (0, [])
      (λ i lt. let low : i < length entries = rw length-map at lt in
      subst (λ (a : Arrival). a.0 < m.n) (sym (arrival_at entries i (0, []) low))
      (below (entry_at entries i).position (stands.arrived (entry_at entries i).position
      ∙ any_from (λ (e : Entry). e.position == (entry_at entries i).position) no_entry entries i
      low (eq-eqb _ _ refl))))
    where
      below : (p : ℕ) → flagged ev.arrived p ≡ true → p < m.n
      below p e = ⊎_elim (λ lt. rw (same_n, sym kept.flags) lt)
          (λ le. absurd (true≢false (sym e ∙ get_or_past ev.arrived p false le)))
          (cases_lt p (length ev.arrived))

  -- nothing fits where closed rows contradict
  pub rows_fit_none : (rows : List ℕ) → IsClosedBy m ev rows → ContradictedBy m ev rows
      → HasFitting m ev.len entries → ⊥
  rows_fit_none rows closed contra (word, fitting) = none_fits m shape ev.len
      (arrivals_of entries) (symbol_at ev.len ev.symbols) (kept_is ev kept) fits rows
      (record {
        rising = closed.rising;
        below = closed.below;
        nonempty = closed.nonempty;
        closed = λ c lt e. came c ∙ closed.closed c lt e;
      }) contra word fitting

  -- something fits where no reduced set contradicts
  pub some_fits : NoneOf (IsClosedBy m ev) (ContradictedBy m ev) → HasFitting m ev.len entries
  some_fits no_set = ⊎_elim (λ w. w)
      (λ w. let r = reduced_refutes m shape ev.len (flagged ev.arrived)
      (symbol_at ev.len ev.symbols) w.0 (kept_is ev kept) w.1 w.2 in
      absurd (no_set r.0 r.1 r.2))
      (refuted_or m shape ev.len (flagged ev.arrived) (symbol_at ev.len ev.symbols)
      (kept_is ev kept) (arrivals_of entries) inside came fits)
