-- A column is worked off.
use mathlib.Core.Path.{fun_ext}
use Rattle.std.proofs.Common.{◌≡◌, ℕ, ◌<◌, ⊎_elim, Bool, true, false, ◌||◌, ◌&&◌, ◌==◌, ◌≤◌, List}
use Rattle.std.proofs.Common.{[], length, take, drop, set, All, refl, sym, ap, ◌∙◌, subst}
use Rattle.std.proofs.Common.{true≢false, eqb-true}
use Rattle.sparse_rows.specs.Matrix.{Matrix, IsCode, row_of, has_entry, is_in}
use Rattle.std.proofs.Math.Seq.{take-set-lt}
use Rattle.std.proofs.lemmas.List.{drop-set-lt}
use Rattle.sparse_rows.specs.Codeword.{symbol_at}
use Rattle.sparse_rows.proofs.Planes.{symbol_at_is}
use Rattle.fec_base.specs.Symbol.{IsSymbol}
use Rattle.sparse_rows.specs.Closure.{Set, flagged, HasSameMembers, adding, round}
use Rattle.sparse_rows.specs.Columns.{column_of}
use Rattle.sparse_rows.proofs.Sets.{or_none, or_cases, or_first, or_second, true_or_false}
use Rattle.sparse_rows.proofs.Null.{members_in, all_from_in}
use Rattle.peeling.specs.declared.unknowns.Unknowns.{Unknowns}
use Rattle.peeling.specs.Peeled.{IsLaid}
use Rattle.peeling.specs.Unknowns.{IsCounted}
use Rattle.peeling.specs.Worklist.{with_all, seen_by, IsWorked, IsListed}
use Rattle.peeling.proofs.Flags.{flagged_set}
use Rattle.peeling.proofs.Laid.{keeping, symbols_put, laid_with}
use Rattle.peeling.proofs.Counted.{counted_same, counted_keeping}
use Rattle.peeling.proofs.UnderWay.{and_true, under_way_begins, under_way_same}
use Rattle.peeling.proofs.Listed.{with_known}

pub and_assoc : (a b c : Bool) → ((a && b) && c) ≡ (a && (b && c))
and_assoc true b c = refl
and_assoc false b c = refl

-- no row has seen the column yet
pub worked_begins : (m : Matrix) (len : ℕ) (before base : Set) (x : ℕ → List ℕ) (c : ℕ) (done : Set)
    (known : List Bool) (cells : List (List ℕ)) (rows : List Unknowns) (held : Bool)
    → IsWorked m len before base x (λ row. done) known cells rows held
    → IsWorked m len before base x (seen_by [] c done) known cells rows (held && true)
worked_begins m len before base x c done known cells rows held h =
    let none : (λ (row : ℕ). done) ≡ seen_by [] c done =
    fun_ext (λ row. fun_ext (λ d. sym (or_none (done d)))) in
    subst (λ b. IsWorked m len before base x (seen_by [] c done) known cells rows b)
    (sym (and_true held)) (subst (λ (s : ℕ → Set). IsWorked m len before base x s known cells
    rows held) none h)

-- each row that has the column has seen it
pub worked_ends : (m : Matrix) → IsCode m → (len : ℕ) (before base : Set) (x : ℕ → List ℕ) (c : ℕ)
    (done : Set) (known : List Bool) (cells : List (List ℕ)) (rows : List Unknowns) (held : Bool)
    → flagged known c ≡ true
    → IsWorked m len before base x (seen_by (column_of m c) c done) known cells rows held
    → IsWorked m len before base x (λ row. adding c done) known cells rows held
worked_ends m code len before base x c done known cells rows held is_known h = record {
  kept = h.kept;
  counted = counted_same m code.shape len (seen_by (column_of m c) c done)
      (symbol_at len (take m.n cells)) (symbol_at_is len (take m.n cells) h.kept.each) rows
      (drop m.n cells) h.counted (λ i. adding c done) same;
  under_way = under_way_same m len before base x (seen_by (column_of m c) c done)
      (λ i. adding c done) (flagged known) (symbol_at len (take m.n cells)) held h.under_way same
      (λ i d e. ⊎_elim (or_first (done d) (c == d))
      (λ f. or_second (done d) (c == d) (and_second (is_in (column_of m c) i) (c == d) f))
      (or_cases (done d) _ (h.under_way.saw i d e)))
      (λ i d e. ⊎_elim (λ f. h.under_way.sees i d (or_first (done d) _ f))
      (λ f. subst (λ b. flagged known b ≡ true) (eqb-true c d f) is_known)
      (or_cases (done d) (c == d) e));
}
  where
    and_second : (a b : Bool) → (a && b) ≡ true → b ≡ true
    and_second true b e = e
    and_second false b e = absurd (true≢false (sym e))

    same : (i : ℕ) → i < length m.rows
        → All (λ d. seen_by (column_of m c) c done i d ≡ adding c done d) (row_of m i)
    same i lt = all_from_in (λ d. seen_by (column_of m c) c done i d ≡ adding c done d) (row_of m i)
        (λ d e. ⊎_elim
        (λ f. let there : is_in (column_of m c) i ≡ true = members_in (length m.rows)
        (λ r. has_entry m r c) i lt (subst (λ b. is_in (row_of m i) b ≡ true)
        (sym (eqb-true c d f)) e) in
        ap (λ b. done d || (b && (c == d))) there)
        (λ f. ap (λ b. done d || (is_in (column_of m c) i && b)) f
        ∙ ap (λ b. done d || b) (and_none (is_in (column_of m c) i))
        ∙ ap (λ b. done d || b) (sym f))
        (true_or_false (c == d)))
      where
        and_none : (b : Bool) → (b && false) ≡ false
        and_none true = refl
        and_none false = refl

-- the list of what became known is worked off
pub worked_all : (m : Matrix) (len : ℕ) (before base : Set) (x : ℕ → List ℕ) (list : List ℕ)
    (head : ℕ) (known : List Bool) (cells : List (List ℕ)) (rows : List Unknowns) (held : Bool)
    → length list ≤ head
    → IsListed before list (flagged known)
    → IsWorked m len before base x (λ row. with_all before (take head list)) known cells rows
    held → IsWorked m len before base x (λ row. flagged known) known cells rows held
worked_all m len before base x list head known cells rows held le listed h =
    subst (λ (s : Set). IsWorked m len before base x (λ row. s) known cells rows held)
    (with_known before list (flagged known) head le listed) h

-- where peeling starts: one position is known beside those before
module _ (m : Matrix) (code : IsCode m) (len : ℕ) (known : List Bool) (cells : List (List ℕ))
    (rows : List Unknowns) (e : ℕ) (symbol : List ℕ) (next : List (List ℕ)) (below : e < m.n)
    (is : IsSymbol len symbol) (next_is : next ≡ set cells e symbol) where
  pub next_symbols : take m.n next ≡ set (take m.n cells) e symbol
  next_symbols = ap (take m.n) next_is ∙ take-set-lt m.n cells e symbol below

  next_sums : drop m.n next ≡ drop m.n cells
  next_sums = ap (drop m.n) next_is ∙ drop-set-lt m.n cells e symbol below

  pub worked_starts : flagged known e ≡ false → IsLaid m.n len known (take m.n cells)
      → IsCounted m len (λ row. flagged known) (symbol_at len (take m.n cells)) rows
      (drop m.n cells) → HasSameMembers (round m (flagged known)) (flagged known)
      → IsWorked m len (flagged known) (flagged (set known e true)) (symbol_at len (take m.n next))
      (λ row. flagged known) (set known e true) next rows true
  worked_starts unknown kept counted rests =
      let flags : flagged (set known e true) ≡ adding e (flagged known) =
      flagged_set known e (rw kept.flags below) in
      let symbols : symbol_at len (take m.n next) ≡ keeping e symbol
      (symbol_at len (take m.n cells)) = ap (symbol_at len) next_symbols
      ∙ symbols_put len (take m.n cells) symbol e (rw kept.count below) in
      record {
        kept = subst (IsLaid m.n len (set known e true)) (sym next_symbols)
            (laid_with m.n len known (take m.n cells) e symbol kept below is);
        counted = rw (symbols, next_sums) (counted_keeping m code.shape len (λ row. flagged known)
            (symbol_at len (take m.n cells)) (symbol_at_is len (take m.n cells) kept.each) rows
            (drop m.n cells) counted (flagged known) (λ i c f. f) e symbol unknown);
        under_way = rw flags (under_way_begins m len (flagged known) e
            (symbol_at len (take m.n next)) rests);
      }
