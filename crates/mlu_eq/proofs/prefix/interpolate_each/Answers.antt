use Rattle.std.proofs.Common.{◌∙◌, arith}
use Rattle.mlu_ring.proofs.Zips.{zip_step, zip_whole}
use Rattle.mlu_eq.specs.Combine.{interpolated}
use Rattle.mlu_eq.proofs.prefix.interpolate_each.Goals as goal

pub loop-i-preserved : goal.loop-i-preserved
loop-i-preserved g c =
    zip_step (interpolated g.F.Additive.ring (g.F.Algebra.embed c.args.r)) c.args.low.now c.args.high.now c.loop-i.low c.loop-i.i c.index-low-i.result c.index-high-i.result
    c.interpolate_at_base.result c.loop-i-test.true c.requires c.loop-i.invariant c.index-low-i.is c.index-high-i.is c.interpolate_at_base.ensures

pub returns : goal.returns
returns g c =
    c.loop-i.invariant ∙ zip_whole (interpolated g.F.Additive.ring (g.F.Algebra.embed c.args.r)) c.args.low.now c.args.high.now c.loop-i.i (omega arith) c.requires
