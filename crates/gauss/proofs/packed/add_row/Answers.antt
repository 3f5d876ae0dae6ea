use Rattle.std.proofs.Common.{◌≡◌, ℕ, ◌+◌, ◌-◌, ◌*◌, length, ap₂, ◌∙◌, bit_xor, arith}
use borrow.Rule.Slice.PartMut.{put_mid}
use Rattle.gauss.proofs.Words.{sum_bits, same_bits, apart, part_of, put_inside, put_outside}
use Rattle.gauss.proofs.packed.add_row.Goals as goal

pub returns-clause-row : goal.returns-clause-row
returns-clause-row c d =
    let w : ℕ = c.args.width in
    let a : ℕ = c.args.to * w in
    let b : ℕ = c.args.from * w in
    let count : a + w - a ≡ w = omega arith in
    let count_from : b + w - b ≡ w = omega arith in
    let long : length c.xor_words.new.words ≡ a + w - a =
    omega (arith, c.xor_words.auto.words, c.requires.to) in
    sum_bits w (put_mid a (a + w - a) c.args.words.now c.xor_words.new.words) c.args.words.now
    c.args.other.now c.args.to c.args.to c.args.from (λ q lt.
    put_inside c.args.words.now c.xor_words.new.words a (a + w - a) (omega (arith, c.requires.to))
    long q (omega arith)
    ∙ c.xor_words.ensures q ∙ ap₂ bit_xor (part_of c.args.words.now a (a + w - a) w q count lt)
    (part_of c.args.other.now b (b + w - b) w q count_from lt)) d

pub returns-clause-others : goal.returns-clause-others
returns-clause-others c j d ne =
    let w : ℕ = c.args.width in
    let a : ℕ = c.args.to * w in
    let long : length c.xor_words.new.words ≡ a + w - a =
    omega (arith, c.xor_words.auto.words, c.requires.to) in
    same_bits w (put_mid a (a + w - a) c.args.words.now c.xor_words.new.words) c.args.words.now j j
    (λ q lt.
    put_outside c.args.words.now c.xor_words.new.words a (a + w - a) (omega (arith, c.requires.to))
    long (j * w + q) (let where_is = apart w j c.args.to q ne lt in let count : a + (a + w - a)
    ≡ a + w = omega arith in rw count where_is)) d

pub returns-clause-words : goal.returns-clause-words
returns-clause-words c j q ne lt =
    let w : ℕ = c.args.width in
    let a : ℕ = c.args.to * w in
    let long : length c.xor_words.new.words ≡ a + w - a =
    omega (arith, c.xor_words.auto.words, c.requires.to) in
    put_outside c.args.words.now c.xor_words.new.words a (a + w - a) (omega (arith, c.requires.to))
    long (j * w + q) (let where_is = apart w j c.args.to q ne lt in let count : a + (a + w - a)
    ≡ a + w = omega arith in rw count where_is)
