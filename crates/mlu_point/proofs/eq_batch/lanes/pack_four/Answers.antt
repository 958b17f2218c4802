use Rattle.std.proofs.Common.{◌≡◌, ◌+◌, ◌*◌, ◌<◌, ◌≤◌, ◌∙◌, length, take, drop, ap, arith, length-drop}
use Rattle.std.proofs.lemmas.List.{length-set, take-set-le, drop-set-add, take_more_set, take_all}
use Rattle.mlu_ring.specs.Lanes.{logical}
use Rattle.mlu_ring.proofs.Logical.{lanes_more}
use Rattle.mlu_point.proofs.eq_batch.lanes.pack_four.Goals as goal

pub loop-b-preserved : goal.loop-b-preserved
loop-b-preserved g c =
    let lanes = g.EF.ExtensionPacking.PackedFieldExtension.ext_lanes in
    let width = g.F.Packing.PackedValue.WIDTH in
    let shares = c.loop-b.shares in
    let start = c.args.start in
    let b = c.loop-b.b in
    let value = c.from_ext_slice.result in
    let room = c.requires.shares in
    let same = c.loop-b.invariant.long in
    let below = c.loop-b-test.true in
    let within : c.loop-b.b < length (drop c.args.start c.loop-b.shares) = omega (arith, length-drop c.args.start c.loop-b.shares, same, room, below) in
    record {
      long = length-set shares (start + b) value ∙ c.loop-b.invariant.long;
      before = take-set-le start shares (start + b) value (omega arith) ∙ c.loop-b.invariant.before;
      packed = ap (λ l. logical lanes (take (b + 1) l)) (drop-set-add start shares b value)
          ∙ ap (logical lanes) (take_more_set (drop start shares) b value within)
          ∙ lanes_more lanes width (take b (drop start shares)) value c.args.lanes.now b c.loop-b.invariant.packed (c.from_ext_slice.ensures ∙ c.row_of.ensures.exact width c.requires.lanes);
    }

pub returns : goal.returns
returns g c =
    let width = g.F.Packing.PackedValue.WIDTH in
    let end : 4 ≡ c.loop-b.b = omega (arith, c.loop-b-test.false) in
    let whole : length c.args.lanes.now ≤ c.loop-b.b * g.F.Packing.PackedValue.WIDTH = omega (arith, c.requires.lanes, ap (λ n. n * g.F.Packing.PackedValue.WIDTH) end) in
    record {
      before = c.loop-b.invariant.before;
      packed = ap (λ n. logical g.EF.ExtensionPacking.PackedFieldExtension.ext_lanes (take n (drop c.args.start c.loop-b.shares))) end ∙ c.loop-b.invariant.packed ∙ take_all (c.loop-b.b * width) c.args.lanes.now whole;
    }
