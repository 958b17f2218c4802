use Rattle.std.proofs.Common.{◌≡◌, ◌+◌, ◌-◌, ◌*◌, ◌/◌, ◌^◌, ◌<◌, length, ap, ◌∙◌, arith}
use Rattle.mlu_point.specs.Orders.{weights_by}
use Rattle.mlu_point.proofs.Chunks.{chunk-places, chunk-written}
use Rattle.mlu_point.proofs.JoinedTables.{length-weights_by}
use Rattle.mlu_point.proofs.point.chunks.fill_chunks.Goals as goal

pub loop-i-preserved : goal.loop-i-preserved
loop-i-preserved g c =
    let ring = g.F.Additive.ring in
    let low = c.args.low.now in
    let n = 2 ^ length c.args.low.now in
    let i = c.loop-i.i in
    let chunk = c.row_range-chunk.result in
    let some : 0 < length c.args.seeds.now = omega arith in
    let same : length c.loop-i.out ≡ length c.args.out.now = c.loop-i.auto.out in
    let places : length c.loop-i.out / length c.args.seeds.now ≡ n = chunk-places _ (length c.args.seeds.now) n some (same ∙ c.requires) in
    let start : chunk.start ≡ i * n = c.row_range-chunk.ensures.start ∙ ap (λ k. i * k) places in
    let many : chunk.end - chunk.start ≡ n = omega (arith, c.row_range-chunk.ensures.start, c.row_range-chunk.ensures.end, places) in
    let next : i * (n - 1) + (n - 1) ≡ (i + 1) * (n - 1) = omega arith in
    record {
      written = chunk-written ring (weights_by c.args.order ring low) c.args.seeds.now c.args.out.now c.loop-i.out c.fill_by_meter.new.out i n chunk.start (chunk.end - chunk.start) c.index-seeds-i.result
          c.loop-i-test.true (length-weights_by ring g.met.F.Additive.laws c.args.order low) start many c.index-seeds-i.is c.loop-i.invariant.written c.fill_by_meter.ensures.table;
      made = omega (arith, c.fill_by_meter.ensures.made, c.loop-i.invariant.made, next);
      groups = c.fill_by_meter.ensures.groups ∙ c.loop-i.invariant.groups;
    }
