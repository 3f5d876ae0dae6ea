use Rattle.std.proofs.Common.{◌≡◌, ◌≤◌, ◌+◌, ◌-◌, ℕ, List, [], length, take, drop, get_or, sym, ap}
use Rattle.std.proofs.Common.{◌∙◌, subst, arith}
use Rattle.std.proofs.lemmas.List.{get_or_past}
use Rattle.gauss.specs.Packed.{byte_in, sum_byte}
use Rattle.gauss.proofs.Words.{part_length, part_of}
use Rattle.gauss.proofs.values.load_part.Goals as goal

-- past the rows a sum has no byte that isn't zero
none_past : (rows t r : ℕ) (sums : List (List ℕ)) → length sums ≡ rows → rows ≤ r
    → sum_byte sums t r ≡ 0
none_past rows t r sums count le = ap (λ s. get_or s t 0) (get_or_past sums r [] (rw count le))
    ∙ get_or_past [] t 0 (omega arith)

-- so many bytes of a sum from `start` on
part_long : (start size : ℕ) (sum : List ℕ) → start + size ≤ length sum
    → length (take (start + size - start) (drop start sum)) ≡ size
part_long start size sum room = part_length sum start (start + size - start) size (omega arith) room

pub returns-then-r-rows-clause-symbol : goal.returns-then-r-rows-clause-symbol
returns-then-r-rows-clause-symbol c t lt = c.clear_symbol.ensures.symbol t lt
    ∙ sym (none_past c.args.rows (c.args.tile.start + t) c.args.r c.args.sums.now c.requires.sums
    c.if-r-rows.true)

pub returns-then-r-rows-clause-others : goal.returns-then-r-rows-clause-others
returns-then-r-rows-clause-others c = c.clear_symbol.ensures.others

pub slice_bounds-store_symbol-end : goal.slice_bounds-store_symbol-end
slice_bounds-store_symbol-end c = subst (λ (s : List ℕ). c.args.tile.start + c.args.tile.size ≤
    length s)
    (sym c.get.ensures) (c.requires.long c.args.r c.if-r-rows.false)

pub store_symbol-requires : goal.store_symbol-requires
store_symbol-requires c =
    let room = subst (λ (s : List ℕ). c.args.tile.start + c.args.tile.size ≤ length s) (sym
    c.get.ensures)
    (c.requires.long c.args.r c.if-r-rows.false) in
    rw (part_long c.args.tile.start c.args.tile.size c.get.result.now room) c.requires.part

pub returns-clause-symbol : goal.returns-clause-symbol
returns-clause-symbol c t lt =
    let m : ℕ = c.args.tile.size in
    let start : ℕ = c.args.tile.start in
    let room = subst (λ (s : List ℕ). start + m ≤ length s) (sym c.get.ensures)
    (c.requires.long c.args.r c.if-r-rows.false) in
    let part : List ℕ = take (start + m - start) (drop start c.get.result.now) in
    let long : length part ≡ m = part_long start m c.get.result.now room in
    subst (λ n. byte_in n c.store_symbol.new.symbols t c.args.p ≡ get_or part t 0) long
    (c.store_symbol.ensures.symbol t (omega (arith, long, lt)))
    ∙ part_of c.get.result.now start (start + m - start) m t (omega arith) lt
    ∙ ap (λ xs. get_or xs (start + t) 0) c.get.ensures

pub returns-clause-others : goal.returns-clause-others
returns-clause-others c q t ne lt =
    let m : ℕ = c.args.tile.size in
    let start : ℕ = c.args.tile.start in
    let room = subst (λ (s : List ℕ). start + m ≤ length s) (sym c.get.ensures)
    (c.requires.long c.args.r c.if-r-rows.false) in
    let part : List ℕ = take (start + m - start) (drop start c.get.result.now) in
    let long : length part ≡ m = part_long start m c.get.result.now room in
    subst (λ n. byte_in n c.store_symbol.new.symbols t q ≡ byte_in n c.args.part.now t q) long
    (c.store_symbol.ensures.others q t ne (omega (arith, long, lt)))
