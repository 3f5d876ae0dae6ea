use Rattle.std.proofs.Common.{◌≡◌, ◌+◌, ◌-◌, ◌*◌, ◌<◌, ◌≤◌, [], length, take, drop, get_or, sym, ap}
use Rattle.std.proofs.Common.{◌∙◌, arith, zero-add}
use Rattle.std.proofs.lemmas.List.FromFn.{get_or-map-range_with_len, length-map-range_with_len}
use Rattle.gauss.proofs.Read.{symbol_in}
use Rattle.gauss.proofs.Words.{row_room}
use Rattle.gauss.proofs.answer.Values.symbol.Goals as goal

pub slice_bounds-result-end : goal.slice_bounds-result-end
slice_bounds-result-end c =
    let i = c.self.inside in
    let lt : c.args.i < i.count = omega (
      arith,
      c.requires,
      ap length c.self.view_is,
      length-map-range_with_len (symbol_in i.len i.bytes.items) 0 i.count,
    ) in
    let end : c.args.i * i.len + i.len ≤ length c.as_slice-bytes.result.now =
    omega (
      arith,
      row_room i.count i.len c.args.i lt,
      c.self.invariant.long,
      ap length c.as_slice-bytes.ensures.value,
    ) in
    end

pub returns : goal.returns
returns c =
    let i = c.self.inside in
    let lt : c.args.i < i.count = omega (
      arith,
      c.requires,
      ap length c.self.view_is,
      length-map-range_with_len (symbol_in i.len i.bytes.items) 0 i.count,
    ) in
    let count : c.args.i * i.len + i.len - c.args.i * i.len ≡ i.len = omega arith in
    ap (λ n. take n (drop (c.args.i * i.len) c.as_slice-bytes.result.now)) count
    ∙ ap (λ bs. symbol_in i.len bs c.args.i) c.as_slice-bytes.ensures.value
    ∙ sym (get_or-map-range_with_len (symbol_in i.len i.bytes.items) 0 i.count c.args.i c.args.i []
    lt (zero-add c.args.i)) ∙ ap (λ xs. get_or xs c.args.i []) c.self.view_is
