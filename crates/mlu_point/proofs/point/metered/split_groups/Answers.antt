use Rattle.std.proofs.Common.{◌≡◌, ◌+◌, ◌*◌, map, ap, refl, ◌∙◌, arith}
use Rattle.mlu_point.proofs.Blocks.{block_to_read, map_block_step}
use Rattle.mlu_point.proofs.point.metered.split_groups.Goals as goal

pub loop-i-preserved : goal.loop-i-preserved
loop-i-preserved g c =
    let ring = g.F.Additive.ring in
    let n = g.F.Packing.PackedValue.WIDTH in
    let v = c.WIDTH-width.result in
    let i = c.loop-i.i in
    let low = c.args.low.now in
    let share = λ (w : g.row.F.Denot). ring.product w c.args.coordinate in
    let rest = λ (w : g.row.F.Denot). ring.minus w (share w) in
    let read = block_to_read rest low c.loop-i.low i c.args.groups v n c.loop-i-test.true c.requires.low c.WIDTH-width.ensures c.loop-i.invariant.lower in
    let next : i * n + n ≡ (i + 1) * n = omega arith in
    record {
      upper = map_block_step share low c.args.high.now c.loop-i.high c.split_group.new.high i c.args.groups v n
          c.loop-i-test.true c.requires.low c.requires.high c.WIDTH-width.ensures c.loop-i.invariant.upper (c.split_group.ensures.upper ∙ ap (map share) read);
      lower = map_block_step rest low low c.loop-i.low c.split_group.new.low i c.args.groups v n
          c.loop-i-test.true c.requires.low refl c.WIDTH-width.ensures c.loop-i.invariant.lower (c.split_group.ensures.lower ∙ ap (map rest) read);
      made = omega (arith, c.split_group.ensures.made, c.loop-i.invariant.made, next);
      groups = c.split_group.ensures.groups ∙ c.loop-i.invariant.groups;
    }
