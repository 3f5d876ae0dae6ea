use Rattle.std.proofs.Common.{◌≡◌, ◌≢◌, ◌*◌, ◌/◌, ◌%◌, ◌^◌, ◌<◌, ◌≤◌, ℕ, List, cond, length, get_or}
use Rattle.std.proofs.Common.{⊎_elim, refl, sym, ap, ap₂, ◌∙◌, subst, arith}
use Rattle.std.proofs.Math.Bool.{xor as bool_xor}
use Rattle.std.proofs.lemmas.Bool.{lt-ltb, le-ltb, cases_lt, cases_eq}
use Rattle.std.proofs.lemmas.List.{get_or_default}
use Rattle.gauss.specs.Packed.{bits_of, byte_of}
use Rattle.gauss.specs.Elimination.{lead_of}
use Rattle.gauss.specs.Table.{virtual}
use Rattle.gauss.proofs.Words.{same_bits}
use Rattle.gauss.proofs.Tabled.{virtual_past}
use Rattle.gauss.proofs.table.apply.Goals as goal

pub loop-r-preserved : goal.loop-r-preserved
loop-r-preserved c =
    let r : ℕ = c.loop-r.r in
    let w : ℕ = c.args.group.width in
    let u : ℕ = c.args.group.unknowns in
    let i = c.loop-r.invariant in
    let first : List ℕ = c.args.words.now in
    let old : List ℕ = c.loop-r.words in
    let table : List ℕ = c.args.table.now in
    let lead_is : get_or c.args.leads.now r 0 ≡ lead_of u c.args.leads.now r =
    get_or_default c.args.leads.now r 0 u
    (omega (arith, c.loop-r-test.true, c.loop-r.auto.r-end)) in
    let bits_same : (d : ℕ) → bits_of w old r d ≡ bits_of w first r d = same_bits w old first r r
    (λ q lt. i.rest r q (omega arith) lt) in
    let byte_same : byte_of w old r c.args.group.number ≡ byte_of w first r c.args.group.number =
    ap (λ n. n / 2 ^ (c.args.group.number % 8 * 8) % 256) (i.rest r (c.args.group.number / 8)
    (omega arith)
    (omega (arith, c.requires.group))) in
    let other : (j d : ℕ) → j ≢ r → bits_of w c.apply_row.new.words j d ≡ bits_of w old j d =
    λ j d ne. same_bits w c.apply_row.new.words old j j (λ q lt. c.apply_row.ensures.others j q
    ne lt) d in
    let at : (d : ℕ) → bits_of w c.apply_row.new.words r d ≡ virtual u w c.args.group.number first
    table
    c.args.leads.now r d = λ d. ⊎_elim
    (λ (lt : lead_of u c.args.leads.now r < u). c.apply_row.ensures.led (omega (arith, lead_is, lt))
    d ∙ bits_same d ∙ ap (λ b. cond b (bits_of w first r d)
    (bool_xor (bits_of w first r d) (bits_of w table (byte_of w first r c.args.group.number) d)))
    (sym (lt-ltb (lead_of u c.args.leads.now r) u lt)))
    (λ (le : u ≤ lead_of u c.args.leads.now r). c.apply_row.ensures.row (omega (arith, lead_is, le))
    d ∙ ap₂ (λ x b. bool_xor x (bits_of w table b d)) (bits_same d) byte_same
    ∙ ap (λ b. cond b (bits_of w first r d)
    (bool_xor (bits_of w first r d) (bits_of w table (byte_of w first r c.args.group.number) d)))
    (sym (le-ltb (lead_of u c.args.leads.now r) u le)))
    (cases_lt (lead_of u c.args.leads.now r) u) in
    record {
      done = λ j d lt. ⊎_elim
          (λ (e : j ≡ r). subst (λ k. bits_of w c.apply_row.new.words k d ≡ virtual u w
          c.args.group.number
          first table c.args.leads.now k d) (sym e) (at d))
          (λ ne. other j d ne ∙ i.done j d (omega (arith, ne))) (cases_eq j r);
      rest = λ j q le lt. c.apply_row.ensures.others j q (λ e. omega (arith, e)) lt
          ∙ i.rest j q (omega arith) lt;
    }

pub returns : goal.returns
returns c j d = ⊎_elim
    (λ (lt : j < c.loop-r.r). c.loop-r.invariant.done j d lt)
    (λ (le : c.loop-r.r ≤ j). same_bits c.args.group.width c.loop-r.words c.args.words.now j j
    (λ q lt. c.loop-r.invariant.rest j q le lt) d
    ∙ sym (virtual_past c.args.group.unknowns c.args.group.width c.args.group.number (length
    c.args.leads.now)
    c.args.words.now c.args.table.now c.args.leads.now j d c.requires.words refl
    (omega (arith, c.loop-r-test.false)) c.requires.zero))
    (cases_lt j c.loop-r.r)
