use Rattle.std.proofs.Common.{rules, ◌<◌, ◌∷◌, ◌++◌, [], List, Contains, length, sym, ap, subst}
use Rattle.std.proofs.Common.{arith, length-append}
use Rattle.sparse_rows.specs.Matrix.{Matrix}
use Rattle.packet_file.specs.Header.{source_counts}
use Rattle.object_file.specs.BuiltCodes.{HasSize}
use Rattle.object_file.specs.Codes.{count_at}
use Rattle.object_file.proofs.Copied.{AreCopied, IsCopied, copied_are, copied_more}
use Rattle.object_file.proofs.file_codes.block_codes.Goals as goal

pub copy_code-requires-clause-code : goal.copy_code-requires-clause-code
copy_code-requires-clause-code c =
    let h = c.args.header.now in
    let block = c.loop-block.block in
    let inside : block < length (source_counts h) = search rules in
    subst (λ (matrices : List Matrix). HasSize matrices (count_at h block))
    (sym c.deref.ensures.value) (c.in_ok-sizes.ensures.codes.each block inside)

pub loop-block-preserved : goal.loop-block-preserved
loop-block-preserved c =
    let h = c.args.header.now in
    let matrices = c.in_ok-sizes.sizes.items in
    let codes = c.loop-block.codes.items in
    let next = c.in_ok-copy_code.field-0 in
    let made = c.in_ok-copy_code.ensures in
    let counted = c.loop-block.invariant.counted in
    let block = c.loop-block.block in
    let one : IsCopied h matrices block next =
    record {
      matrix = subst (λ (l : List Matrix). Contains l next) c.deref.ensures.value
          made.matrix;
      size = made.size;
    } in
    let more : AreCopied h matrices (codes ++ next ∷ []) = copied_more h matrices codes next
    c.loop-block.invariant.copied (subst (λ b. IsCopied h matrices b next) (sym counted) one) in
    record {
      counted = omega (
        arith,
        length-append codes (next ∷ []),
        counted,
        ap length c.in_ok-push.ensures.items,
      );
      copied = subst (AreCopied h matrices) (sym {A = List Matrix} c.in_ok-push.ensures.items) more;
    }

pub returns-clause-codes : goal.returns-clause-codes
returns-clause-codes c = copied_are c.args.header.now c.args.draws c.in_ok-sizes.sizes.items
    c.loop-block.codes.items c.in_ok-sizes.ensures.codes c.loop-block.invariant.copied
    (search rules)
