-- Pieces that are appended one after the other, and what is left where one of them is cut.
use Rattle.std.proofs.Common.{ℕ, ◌+◌, List, ◌++◌, length, take, sym, subst, arith}
use Rattle.std.proofs.Common.{length-append, Option, Result, Ok, Err, OnErr}
use Rattle.std.specs.Io.KnownBytes.{Appends}
use Rattle.std.proofs.KnownBytes.{Appends-trans}
use Rattle.std.proofs.Math.Seq.{take-append-add, take-append-le}
use Rattle.fec_base.specs.Bytes.{AppendsFront}

-- a front of a piece is one of it and what comes behind
pub cut_longer : (held now : Option (List ℕ)) (first second : List ℕ)
    → AppendsFront held now first → AppendsFront held now (first ++ second)
cut_longer held now first second cut = (
  cut.0,
  omega (arith, length-append first second, cut.1),
  subst (Appends held now) (sym (take-append-le cut.0 first second (omega (arith, cut.1)))) cut.2,
)

-- a piece, and then a front of another
pub cut_behind : (held mid now : Option (List ℕ)) (first second : List ℕ) → Appends held mid first
    → AppendsFront mid now second → AppendsFront held now (first ++ second)
cut_behind held mid now first second whole cut = (
  length first + cut.0,
  omega (arith, length-append first second, cut.1),
  subst (Appends held now) (sym (take-append-add first second cut.0))
      (Appends-trans held mid now first (take cut.0 second) whole cut.2),
)

-- a piece, and then a front of another, before a third
pub cut_between : (held mid now : Option (List ℕ)) (first second third : List ℕ)
    → Appends held mid first → AppendsFront mid now second
    → AppendsFront held now ((first ++ second) ++ third)
cut_between held mid now first second third whole cut = cut_longer held now (first ++ second) third
    (cut_behind held mid now first second whole cut)

-- two pieces, and then a front of a third
pub cut_third : (held mid late now : Option (List ℕ)) (first second third : List ℕ)
    → Appends held mid first → Appends mid late second → AppendsFront late now third
    → AppendsFront held now ((first ++ second) ++ third)
cut_third held mid late now first second third whole next cut = cut_behind held late now
    (first ++ second) third (Appends-trans held mid late first second whole next) cut

-- three pieces
pub written_third : (held mid late now : Option (List ℕ)) (first second third : List ℕ)
    → Appends held mid first → Appends mid late second → Appends late now third
    → Appends held now ((first ++ second) ++ third)
written_third held mid late now first second third whole next last = Appends-trans held late now
    (first ++ second) third (Appends-trans held mid late first second whole next) last

-- a fact that stands however a call ended
pub on_err : {T E : Type 0} (r : Result T E) (P : Type 0) → P → OnErr r P
on_err (Ok x) P p = tt
on_err (Err e) P p = p
