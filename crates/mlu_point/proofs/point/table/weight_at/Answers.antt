use Rattle.std.proofs.Common.{rules, ap, ◌∙◌}
use Rattle.mlu_ring.specs.Tables.{factor}
use Rattle.mlu_point.proofs.Weights.{weight-start, weight-step, weight-end}
use Rattle.mlu_point.proofs.point.table.weight_at.Goals as goal

pub loop-k-init : goal.loop-k-init
loop-k-init g c = weight-start g.R.Additive.ring g.met.R.Additive.laws c.args.coords.now c.args.vertex c.ONE-weight.result (c.ONE-weight.ensures ∙ g.met.R.Additive.one_is)

pub loop-k-preserved : goal.loop-k-preserved
loop-k-preserved g c =
    weight-step g.R.Additive.ring g.met.R.Additive.laws c.args.coords.now c.args.vertex c.loop-k.k c.index-coords-coords.result c.share_at-share.result c.loop-k.weight c.mul-weight.result
    c.loop-k-test.true c.index-coords-coords.is (c.share_at-share.ensures ∙ ap (λ b. factor g.R.Additive.ring b c.index-coords-coords.result) c.bit_at.ensures)
    c.loop-k.invariant (g.met.R.PrimeCharacteristicRing.multiplies c.share_at-share.result c.loop-k.weight c.mul-weight.result c.mul-weight.ensures)

pub returns : goal.returns
returns g c =
    (c.is_vertex.ensures.0 (rw c.if-not-is_vertex.false (search rules)), weight-end g.R.Additive.ring g.met.R.Additive.laws c.args.coords.now c.args.vertex c.loop-k.k c.loop-k.weight c.loop-k-test.false c.loop-k.invariant)
