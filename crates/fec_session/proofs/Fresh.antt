-- What an arrival makes known.
use mathlib.Core.Path.{fun_ext}
use Rattle.std.proofs.Common.{◌≡◌, ℕ, ◌<◌, ◌≤◌, true, not, ◌&&◌, ◌==◌, List, [], ◌∷◌, ◌++◌, length}
use Rattle.std.proofs.Common.{get_or, All, sym, ap, ◌∙◌, subst, arith}
use Rattle.std.specs.List.{range_with_len}
use Rattle.std.proofs.lemmas.Bool.{and_parts}
use Rattle.std.proofs.lemmas.List.Elements.{All-same, filter_passes}
use Rattle.sparse_rows.specs.Matrix.{Matrix}
use Rattle.sparse_rows.specs.Codeword.{Arrival, positions}
use Rattle.sparse_rows.specs.Closure.{Set, flagged, adding, closure, fresh}
use Rattle.sparse_rows.proofs.Null.{members_below}
use Rattle.sparse_rows.proofs.Sets.{or_first, rounds_grow}
use Rattle.peeling.specs.Decoder.{Decoder, IsDecoder, kept}
use Rattle.peeling.specs.Laws.{KeptAreOfEachCodeword, KeptAreConsistent}
use Rattle.peeling.specs.Lookups.{HasAllSource}
use Rattle.peeling.specs.Stands.{Receives, StandsFor}
use Rattle.peeling.proofs.Arrivals.{positions_push}
use Rattle.peeling.proofs.Flags.{flagged_set, members_few}
use Rattle.sparse_rows.specs.Determined.{IsForced}
use Rattle.fec_session.specs.Forced.{RebuiltAreForced}
use Rattle.fec_session.specs.Kept.{IsKnownPosition}

-- what a column's arrival adds is below n, and in the closure with the column
fresh_within : (m : Matrix) (s : Set) (e : ℕ)
    → All (λ p. (p < m.n) × (closure m (adding e s) p ≡ true)) (fresh m s e)
fresh_within m s e k d lt =
    let test : Set = λ c. closure m (adding e s) c && not (e == c) && not (closure m s c) in
    let p : ℕ = get_or (fresh m s e) k d in
    let passes = filter_passes test (range_with_len 0 m.n) k d lt in
    let first = and_parts (closure m (adding e s) p && not (e == p)) (not (closure m s p)) passes in
    (members_below m.n test k d lt, (and_parts (closure m (adding e s) p) (not (e == p)) first.0).0)

-- what a decoder rebuilds at an arrival is known, and there are no more such positions than n
module _ (old new : Decoder) (e : ℕ) (bytes : List ℕ) (is : IsDecoder old)
    (inside : e < old.matrix.n) (receives : Receives old new e bytes) where
  known_at : (p : ℕ) → closure old.matrix (adding e (flagged old.arrived)) p ≡ true
      → flagged new.known p ≡ true
  known_at p within =
      let set : flagged new.arrived ≡ adding e (flagged old.arrived) = ap flagged receives.arrived
      ∙ flagged_set old.arrived e (omega (arith, is.arrived, inside)) in
      receives.known p ∙ ap (λ (s : Set). closure old.matrix s p) set ∙ within

  pub fresh_known : All (IsKnownPosition new) new.fresh
  fresh_known = All-same (IsKnownPosition new) new.fresh (fresh old.matrix (flagged old.arrived) e)
      receives.fresh_is (λ k d lt.
      let one = fresh_within old.matrix (flagged old.arrived) e k d lt in
      let p : ℕ = get_or (fresh old.matrix (flagged old.arrived) e) k d in
      (subst (λ (m : Matrix). p < m.n) (sym receives.code) one.0, known_at p one.1))

  -- what was known stays known
  pub known_stays : (p : ℕ) → flagged old.known p ≡ true → flagged new.known p ≡ true
  known_stays p known = known_at p (rounds_grow old.matrix old.matrix.n (flagged old.arrived)
      (adding e (flagged old.arrived)) (λ c f. or_first (flagged old.arrived c) (e == c) f) p
      (sym (is.closed p) ∙ known))

  pub source_stays : HasAllSource old → HasAllSource new
  source_stays all p lt = known_stays p (all p (subst (λ (m : Matrix). p < m.k) receives.code lt))

  pub fresh_few : length new.fresh ≤ 65536
  fresh_few =
      let few = members_few old.matrix.n (λ c. closure old.matrix (adding e (flagged old.arrived)) c
      && not (e == c) && not (closure old.matrix (flagged old.arrived) c)) in
      let same = ap length receives.fresh_is in
      omega (arith, few, same, is.code.most)

-- and it is what the arrivals decide
pub rebuilds : KeptAreOfEachCodeword → KeptAreConsistent → RebuiltAreForced
rebuilds by_word by_assignment old new arrivals position bytes stands receives =
    let same : flagged old.arrived ≡ positions arrivals = fun_ext stands.arrived in
    let places : new.fresh ≡ fresh new.matrix (positions arrivals) position =
    receives.fresh_is ∙ ap (λ (s : Set). fresh old.matrix s position) same
    ∙ ap (λ (m : Matrix). fresh m (positions arrivals) position) (sym receives.code) in
    let more : List Arrival = arrivals ++ (position, bytes) ∷ [] in
    let now : StandsFor new more = receives.stands arrivals stands in
    let known : (p : ℕ) → closure new.matrix (adding position (positions arrivals)) p ≡ true
    → flagged new.known p ≡ true =
    λ p within. now.known p ∙ ap (λ (s : Set). closure new.matrix s p)
    (positions_push arrivals position bytes) ∙ within in
    record {
      places = places;
      forced = All-same (λ e. IsForced new.matrix new.len more e (kept new e)) new.fresh
          (fresh new.matrix (positions arrivals) position) places (λ k d lt.
          let p : ℕ = get_or (fresh new.matrix (positions arrivals) position) k d in
          let is_known = known p (fresh_within new.matrix (positions arrivals) position k d lt).1 in
          record {
            codeword = λ word fits. sym (by_word new more word now fits.codeword fits.fits p
                is_known);
            assignment = λ x consistent. sym (by_assignment new more x now consistent p is_known);
          });
    }
