-- How a pass goes on by a datagram, and how it ends behind a list of them.
use Rattle.std.proofs.Common.{◌≡◌, ◌≤◌, ◌+◌, ◌*◌, ℕ, List, [], ◌∷◌, ◌++◌, length, take}
use Rattle.std.proofs.Common.{Option, refl, sym, subst, ap, ◌∙◌, arith, append-nil}
use Rattle.std.proofs.Common.{length-append}
use Rattle.std.specs.Io.KnownBytes.{Appends, Consumes, IsAtEnd}
use Rattle.std.proofs.KnownBytes.{Appends-nil, Appends-trans, Consumes-nil, Consumes-trans}
use Rattle.std.proofs.lemmas.List.Elements.{All-append, All-cons, All-nil}
use Rattle.std.proofs.lemmas.List.Concat.{flat_map-append}
use Rattle.fec_base.specs.Causes.{Rose}
use Rattle.fec_base.specs.Outside.{Stream}
use Rattle.adu_frames.specs.Frames.{Datagram, FitsFrame, datagram_bytes, frame_bytes}
use Rattle.datagram_pass.specs.Pass.{Passes}
use Rattle.datagram_pass.specs.Progress.{EndsAtOne, EndsEarly, PassesOne, Stands}
use Rattle.datagram_pass.specs.Written.{WritesEarly, WritesWhole}
use Rattle.datagram_pass.specs.Ways.{IsWithin, all_taken, all_written, taken_of, written_of}
use Rattle.datagram_pass.specs.declared.kind.DatagramRefusal.{DatagramRefusal}
use Rattle.datagram_pass.specs.declared.kind.DatagramRefusal.TheVariants.{Fault, Memory, Output}
use Rattle.datagram_pass.specs.declared.kind.DatagramRefusal.TheVariants.{Read}
use Rattle.datagram_pass.specs.declared.kind.Way.{Way}
use Rattle.datagram_pass.specs.declared.kind.Way.TheVariants.{Framing, Unframing}

none_taken : (way : Way) (symbol : ℕ) → [] ≡ all_taken way symbol []
none_taken Framing symbol = refl
none_taken Unframing symbol = refl

none_written : (way : Way) (symbol : ℕ) → [] ≡ all_written way symbol []
none_written Framing symbol = refl
none_written Unframing symbol = refl

-- one datagram more
mapped_more : (f : Datagram → List ℕ) (flat : List Datagram → List ℕ) (ds : List Datagram)
    (d : Datagram) → flat (ds ++ d ∷ []) ≡ flat ds ++ flat (d ∷ []) → flat (d ∷ []) ≡ f d ++ []
    → flat ds ++ f d ≡ flat (ds ++ d ∷ [])
mapped_more f flat ds d both one =
    sym (both ∙ ap (λ l. flat ds ++ l) (one ∙ append-nil (f d)))

taken_more : (way : Way) (symbol : ℕ) (ds : List Datagram) (d : Datagram)
    → all_taken way symbol ds ++ taken_of way symbol d ≡ all_taken way symbol (ds ++ d ∷ [])
taken_more Framing symbol ds d = mapped_more datagram_bytes (all_taken Framing symbol) ds d
    (flat_map-append datagram_bytes ds (d ∷ [])) refl
taken_more Unframing symbol ds d = mapped_more (frame_bytes symbol) (all_taken Unframing symbol) ds
    d (flat_map-append (frame_bytes symbol) ds (d ∷ [])) refl

written_more : (way : Way) (symbol : ℕ) (ds : List Datagram) (d : Datagram)
    → all_written way symbol ds ++ written_of way symbol d
    ≡ all_written way symbol (ds ++ d ∷ [])
written_more Framing symbol ds d = mapped_more (frame_bytes symbol) (all_written Framing symbol) ds
    d (flat_map-append (frame_bytes symbol) ds (d ∷ [])) refl
written_more Unframing symbol ds d = mapped_more datagram_bytes (all_written Unframing symbol) ds d
    (flat_map-append datagram_bytes ds (d ∷ [])) refl

-- nothing has passed
pub stands_none : (way : Way) (symbol : ℕ) (left held : Option (List ℕ))
    → Stands way symbol left left held held []
stands_none way symbol left held = record {
  each = All-nil (FitsFrame symbol);
  within = omega arith;
  taken = subst (Consumes left left) (none_taken way symbol) (Consumes-nil left);
  written = subst (Appends held held) (none_written way symbol) (Appends-nil held);
}

-- one datagram more
pub stands_more : (way : Way) (symbol : ℕ) (left mid now held held_mid held_now : Option (List ℕ))
    (ds : List Datagram) → Stands way symbol left mid held held_mid ds
    → (index : ℕ) (d : Datagram) → length ds ≡ index
    → PassesOne way symbol index mid now held_mid held_now d
    → Stands way symbol left now held held_now (ds ++ d ∷ [])
stands_more way symbol left mid now held held_mid held_now ds s index d counted one =
    let count : index + 1 ≡ length (ds ++ d ∷ []) =
    omega (arith, length-append ds (d ∷ []), counted) in
    record {
      each = All-append (FitsFrame symbol) ds (d ∷ []) s.each
          (All-cons (FitsFrame symbol) d [] one.takes.room (All-nil (FitsFrame symbol)));
      within = subst (IsWithin symbol) count one.takes.within;
      taken = subst (Consumes left now) (taken_more way symbol ds d)
          (Consumes-trans left mid now (all_taken way symbol ds) (taken_of way symbol d) s.taken
          one.takes.taken);
      written = subst (Appends held held_now) (written_more way symbol ds d)
          (Appends-trans held held_mid held_now (all_written way symbol ds)
          (written_of way symbol d) s.written one.written);
    }

-- a count that rose after it hadn't fallen
rose_since : (before mid now : ℕ) → before ≤ mid → Rose mid now → Rose before now
rose_since before mid now later rose = omega (arith, later, rose)

-- the pass ended at the datagram behind a list of them
module _ (way : Way) (symbol : ℕ) (input mid now output out_mid out_now : Stream)
    (ds : List Datagram) (s : Stands way symbol input.bytes mid.bytes output.bytes out_mid.bytes ds)
  where
    -- a piece was taken behind them
    passes_behind : (piece : List ℕ) → Consumes mid.bytes now.bytes piece
        → Passes way symbol input now ds piece (all_written way symbol ds)
    passes_behind piece taken = record {
      each = s.each;
      within = s.within;
      taken = Consumes-trans input.bytes mid.bytes now.bytes (all_taken way symbol ds) piece s.taken
          taken;
      text_is = refl;
    }

    -- nothing was written behind them
    written_same : out_now.bytes ≡ out_mid.bytes
        → Appends output.bytes out_now.bytes (all_written way symbol ds)
    written_same same = subst (λ x. Appends output.bytes x (all_written way symbol ds)) (sym same)
        s.written

    pub ends_behind : input.faults ≤ mid.faults → output.faults ≤ out_mid.faults
        → (refusal : DatagramRefusal)
        → EndsAtOne way symbol (length ds) mid.bytes now.bytes out_mid.bytes out_now.bytes mid.faults
        now.faults out_mid.faults out_now.faults refusal
        → EndsEarly refusal (WritesEarly way symbol input now output out_now refusal)
    ends_behind later sink_later Memory ends = absurd ends
    ends_behind later sink_later Read (same, (piece, taken, cut, rose)) = (
      all_written way symbol ds,
      written_same same,
      (
        ds,
        piece,
        passes_behind piece taken,
        cut,
        rose_since input.faults mid.faults now.faults later rose,
      ),
      λ other. cc other,
    )
    ends_behind later sink_later (Fault fault) (same, (piece, taken, has)) = (
      all_written way symbol ds,
      written_same same,
      (ds, piece, passes_behind piece taken, has),
      λ other. cc other,
    )
    ends_behind later sink_later Output (d, n, takes, written, inside, rose) = (
      all_written way symbol ds ++ take n (written_of way symbol d),
      Appends-trans output.bytes out_mid.bytes out_now.bytes (all_written way symbol ds)
          (take n (written_of way symbol d)) s.written written,
      (
        ds,
        d,
        all_written way symbol ds,
        passes_behind (taken_of way symbol d) takes.taken,
        takes.room,
        takes.within,
        n,
        inside,
        refl,
      ),
      λ same. rose_since output.faults out_mid.faults out_now.faults sink_later rose,
    )

    -- the input ended behind them
    pub whole_behind : (count : ℕ) → Consumes mid.bytes now.bytes [] → IsAtEnd now.bytes
        → out_now.bytes ≡ out_mid.bytes → length ds ≡ count
        → WritesWhole way symbol input now output out_now count
    whole_behind count taken end same counted = (
      all_written way symbol ds,
      written_same same,
      (ds, passes_behind [] taken, end, counted),
    )

-- nothing was taken or written, for want of memory
pub ends_unwritten : (way : Way) (symbol : ℕ) (input output : Stream)
    → WritesEarly way symbol input input output output Memory
ends_unwritten way symbol input output =
    ([], Appends-nil output.bytes, (refl, refl), λ other. cc other)

-- there is no room for so many frames
pub no_more : (count symbol : ℕ) → count ≡ 268435456 → 3 ≤ symbol → IsWithin symbol count → ⊥
no_more count symbol is least within =
    let all : 268435456 * symbol ≤ 268435456 = subst (λ (n : ℕ). n * symbol ≤ 268435456) is within
    in omega (arith, all, least)
