use Rattle.std.proofs.Common.{◌∙◌, arith}
use Rattle.mlu_point.proofs.Transposes.{pushed-more}
use Rattle.mlu_point.proofs.point.evaluation.push_coordinates.Goals as goal

pub loop-point-preserved : goal.loop-point-preserved
loop-point-preserved g c =
    let len = c.push_reserved.ensures.len in
    let before = c.loop-point.invariant.len in
    record {
      items = pushed-more g.F.Additive.ring.zero c.args.points.now c.args.place c.loop-point.point-index c.point-item.result c.index.result.now c.args.values.now.items c.loop-point.values.items c.push_reserved.new.self.items
          c.loop-point-test.true c.requires.coordinates c.point-item.is c.index.ensures c.loop-point.invariant.items c.push_reserved.ensures.items;
      len = omega (arith, len, before);
      capacity = c.push_reserved.ensures.capacity ∙ c.loop-point.invariant.capacity;
    }
