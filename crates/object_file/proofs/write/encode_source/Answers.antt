use Rattle.std.proofs.Common.{[], ◌≡◌, length, get_or, sum, take, sym, ap, ◌∙◌}
use Rattle.std.proofs.Common.{subst}
use Rattle.std.proofs.lemmas.Result.{IfOk-weaker}
use Rattle.packet_file.specs.Packets.{block_symbols}
use Rattle.object_file.specs.BuiltCodes.{HasSize}
use Rattle.object_file.specs.Made.{ArePackets}
use Rattle.object_file.proofs.SourceBlocks.{block_room}
use Rattle.object_file.proofs.Codewords.{word_is, word_counted, word_packets}
use Rattle.object_file.proofs.write.encode_source.Goals as goal

pub find_code-code-requires : goal.find_code-code-requires
find_code-code-requires c = subst (HasSize c.args.codes.now) (sym c.source_count.ensures.value)
    (c.requires.ready.each c.args.block c.requires.block)

pub slice_bounds-encode_block-end : goal.slice_bounds-encode_block-end
slice_bounds-encode_block-end c =
    let h = c.args.header.now in
    let b = c.args.block in
    block_room h c.oti.ensures.header b c.requires.block c.args.object.now c.oti.result.now.symbol
    c.block_start.result c.k.result c.requires.ready.long
    (ap (λ oti. oti.symbol) c.oti.ensures.value)
    (c.block_start.ensures.value ∙ ap (λ counts. sum (take b counts)) c.plan.ensures)
    (c.k.ensures.value ∙ c.find_code-code.ensures.size ∙ c.source_count.ensures.value)

pub returns-clause-word : goal.returns-clause-word
returns-clause-word c words are =
    let h = c.args.header.now in
    let b = c.args.block in
    IfOk-weaker c.encode_block.result _ (λ word. word ≡ get_or words b []) (λ word encoded.
    word_is h c.args.codes.now c.args.object.now c.requires.ready b c.requires.block
    c.find_code-code.result.now c.oti.result.now.symbol c.k.result c.block_start.result
    c.find_code-code.ensures.among
    (ap (λ oti. oti.symbol) c.oti.ensures.value) c.k.ensures.value (c.find_code-code.ensures.size
    ∙ c.source_count.ensures.value) (c.block_start.ensures.value
    ∙ ap (λ counts. sum (take b counts)) c.plan.ensures)
    word encoded c.k.ensures.code words are) c.encode_block.ensures

pub returns-clause-counted : goal.returns-clause-counted
returns-clause-counted c =
    let h = c.args.header.now in
    let b = c.args.block in
    IfOk-weaker c.encode_block.result _ (λ word. length word ≡ block_symbols h b) (λ word encoded.
    word_counted h c.args.codes.now c.args.object.now c.requires.ready b c.requires.block
    c.find_code-code.result.now c.oti.result.now.symbol c.k.result c.block_start.result
    c.find_code-code.ensures.among
    (ap (λ oti. oti.symbol) c.oti.ensures.value) c.k.ensures.value (c.find_code-code.ensures.size
    ∙ c.source_count.ensures.value) (c.block_start.ensures.value
    ∙ ap (λ counts. sum (take b counts)) c.plan.ensures)
    word encoded) c.encode_block.ensures

pub returns-clause-packets : goal.returns-clause-packets
returns-clause-packets c =
    let h = c.args.header.now in
    let b = c.args.block in
    IfOk-weaker c.encode_block.result _ (ArePackets h b)
    (λ word encoded.
    word_packets h c.args.codes.now c.args.object.now c.requires.ready b c.requires.block
    c.find_code-code.result.now c.oti.result.now.symbol c.k.result c.block_start.result
    c.find_code-code.ensures.among
    (ap (λ oti. oti.symbol) c.oti.ensures.value) c.k.ensures.value (c.find_code-code.ensures.size
    ∙ c.source_count.ensures.value) (c.block_start.ensures.value
    ∙ ap (λ counts. sum (take b counts)) c.plan.ensures)
    word encoded c.oti.ensures.header) c.encode_block.ensures
