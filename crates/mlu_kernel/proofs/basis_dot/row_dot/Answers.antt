use Rattle.std.proofs.Common.{◌≡◌, ◌+◌, ◌*◌, ◌-◌, ◌/◌, ◌<◌, ◌∙◌, ap, sym, refl, length, take, arith}
use Rattle.mlu_ring.specs.Tables.{pair}
use Rattle.mlu_ring.proofs.Totals.{pair-nil}
use Rattle.mlu_ring.proofs.Groups.{pair-take_more, pair-take_four_more}
use Rattle.mlu_kernel.proofs.basis_dot.row_dot.Goals as goal

pub loop-g-init : goal.loop-g-init
loop-g-init g c = record {
  sum = c.ZERO-sum.ensures ∙ g.met.F.Packing.Additive.zero_is ∙ sym (pair-nil g.F.Packing.Additive.ring g.met.F.Packing.Additive.laws c.args.r.now);
  groups = omega arith;
  made = refl;
}

pub loop-g-preserved : goal.loop-g-preserved
loop-g-preserved g c =
    let ring = g.F.Packing.Additive.ring in
    let i = 4 * c.loop-g.g in
    let long : length c.args.l.now ≡ length c.args.r.now = c.requires in
    let within : 4 * c.loop-g.g + 3 < length c.args.l.now = omega arith in
    let next : 4 * (c.loop-g.g + 1) ≡ 4 * c.loop-g.g + 4 = omega arith in
    let four = pair-take_four_more g.F.Packing.Additive.ring g.met.F.Packing.Additive.laws c.args.l.now c.args.r.now i (4 * (c.loop-g.g + 1)) _ _ _ _ _ _ _ _ next within long
    c.index-l-i.is c.index-l-i-in-loop-g.is c.index-l-i-in-loop-g-2.is c.index-l-i-in-loop-g-3.is
    c.index-r-i.is c.index-r-i-in-loop-g.is c.index-r-i-in-loop-g-2.is c.index-r-i-in-loop-g-3.is in
    let added = g.met.F.Packing.Additive.adds c.loop-g.sum c.dot4-four.result c.add-sum.result c.add-sum.ensures in
    record {
      sum = added ∙ ap (λ t. ring.sum t c.dot4-four.result) c.loop-g.invariant.sum ∙ ap (ring.sum (pair ring (take i c.args.l.now) c.args.r.now)) c.dot4-four.ensures.value ∙ sym four;
      groups = omega (arith, c.dot4-four.ensures.groups, c.loop-g.invariant.groups);
      made = c.dot4-four.ensures.made ∙ c.loop-g.invariant.made;
    }

pub loop-i-preserved : goal.loop-i-preserved
loop-i-preserved g c =
    let ring = g.F.Packing.Additive.ring in
    let i = c.loop-i.i in
    let long : length c.args.l.now ≡ length c.args.r.now = c.requires in
    let within : c.loop-i.i < length c.args.l.now = omega arith in
    let one = pair-take_more g.F.Packing.Additive.ring g.met.F.Packing.Additive.laws c.args.l.now c.args.r.now i _ _ within c.loop-i-test.true c.index-l-i-in-loop-i.is c.index-r-i-in-loop-i.is in
    let added = g.met.F.Packing.Additive.adds c.loop-i.sum c.times_lanes-one.result c.add-sum-in-loop-i.result c.add-sum-in-loop-i.ensures in
    let w = g.F.Packing.PackedValue.WIDTH in
    let more : i + 1 - 4 * (length c.args.r.now / 4) ≡ (i - 4 * (length c.args.r.now / 4)) + 1 = omega arith in
    record {
      sum = added ∙ ap (λ t. ring.sum t c.times_lanes-one.result) c.loop-i.invariant.sum ∙ ap (ring.sum (pair ring (take i c.args.l.now) c.args.r.now)) c.times_lanes-one.ensures.value ∙ sym one;
      groups = c.times_lanes-one.ensures.groups ∙ c.loop-i.invariant.groups;
      made = c.times_lanes-one.ensures.made ∙ ap (λ n. n + w) c.loop-i.invariant.made ∙ sym (ap (λ n. g.M.Meter.made c.args.meter.now + n * w) more ∙ omega arith);
    }
