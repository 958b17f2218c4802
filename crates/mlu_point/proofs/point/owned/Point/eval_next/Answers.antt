use Rattle.std.proofs.Common.{◌∙◌, ap}
use Rattle.mlu_point.specs.declared.point.rule.Successor.TheVariants.{RepeatLast, Wrap}
use Rattle.mlu_point.specs.Steps.{carry_of, done_of, last_of}
use Rattle.mlu_point.proofs.Steps.{carry_of-none, done_of-none, last_of-none, carry_of-more, done_of-more, last_of-more, tails-all, steps-value}
use Rattle.mlu_point.proofs.point.owned.Point.eval_next.Goals as goal

pub loop-k-init : goal.loop-k-init
loop-k-init g c =
    let ring = g.F.Additive.ring in
    let laws = g.met.F.Additive.laws in
    record {
      carry = carry_of-none ring laws c.args.point.now c.args.row.now c.ONE-carry.result (c.ONE-carry.ensures ∙ g.met.F.Additive.one_is);
      done = done_of-none ring laws c.args.point.now c.args.row.now c.ZERO-done.result (c.ZERO-done.ensures ∙ g.met.F.Additive.zero_is);
      last = last_of-none ring laws c.args.point.now c.args.row.now c.ONE-last.result (c.ONE-last.ensures ∙ g.met.F.Additive.one_is);
    }

pub loop-k-preserved : goal.loop-k-preserved
loop-k-preserved g c =
    let ring = g.F.Additive.ring in
    let laws = g.met.F.Additive.laws in
    let times = g.met.F.PrimeCharacteristicRing.multiplies in
    let less = g.met.F.Additive.subtracts in
    let p = c.args.point.now in
    let r = c.args.row.now in
    let within = c.loop-k-test.true in
    let same = c.requires in
    let from = c.index-point-coordinate.result in
    let to = c.index-row-coordinate.result in
    let both = times from to c.mul-both.result c.mul-both.ensures in
    let leaves = less from c.mul-both.result c.sub-leaves.result c.sub-leaves.ensures in
    let settles = less to c.mul-both.result c.sub-settles.result c.sub-settles.ensures in
    let kept = less c.ONE.result c.sub-leaves.result c.sub.result c.sub.ensures ∙ ap (λ t. ring.minus t c.sub-leaves.result) (c.ONE.ensures ∙ g.met.F.Additive.one_is) in
    let agrees = less c.sub.result c.sub-settles.result c.sub-in-loop-k.result c.sub-in-loop-k.ensures ∙ ap (λ t. ring.minus t c.sub-settles.result) kept in
    let stays = times c.loop-k.done c.sub-in-loop-k.result c.mul.result c.mul.ensures ∙ ap (ring.product c.loop-k.done) agrees in
    let moves = times c.loop-k.carry c.sub-settles.result c.mul-in-loop-k.result c.mul-in-loop-k.ensures in
    let done = g.met.F.Additive.adds c.mul.result c.mul-in-loop-k.result c.add-done.result c.add-done.ensures ∙ ap (λ t. ring.sum t c.mul-in-loop-k.result) stays ∙ ap (ring.sum _) moves in
    let carry = times c.loop-k.carry c.sub-leaves.result c.mul-carry.result c.mul-carry.ensures in
    let last = times c.loop-k.last c.mul-both.result c.mul-last.result c.mul-last.ensures in
    let before = c.loop-k.invariant in
    record {
      carry = carry_of-more ring laws p r c.loop-k.k from to c.mul-both.result c.sub-leaves.result c.sub-settles.result within same c.index-point-coordinate.is c.index-row-coordinate.is both leaves settles c.loop-k.carry c.mul-carry.result before.carry carry;
      done = done_of-more ring laws p r c.loop-k.k from to c.mul-both.result c.sub-leaves.result c.sub-settles.result within same c.index-point-coordinate.is c.index-row-coordinate.is both leaves settles c.loop-k.carry c.loop-k.done c.add-done.result before.carry before.done done;
      last = last_of-more ring laws p r c.loop-k.k from to c.mul-both.result c.sub-leaves.result c.sub-settles.result within same c.index-point-coordinate.is c.index-row-coordinate.is both leaves settles c.loop-k.last c.mul-last.result before.last last;
    }

pub returns : goal.returns
returns g c =
    let ring = g.F.Additive.ring in
    let laws = g.met.F.Additive.laws in
    let p = c.args.point.now in
    let r = c.args.row.now in
    let all = c.loop-k-test.false in
    let before = c.loop-k.invariant in
    let carry = before.carry ∙ tails-all ring laws (carry_of ring) p r c.loop-k.k all c.requires in
    let done = before.done ∙ tails-all ring laws (done_of ring) p r c.loop-k.k all c.requires in
    let last = before.last ∙ tails-all ring laws (last_of ring) p r c.loop-k.k all c.requires in
    record {
      carry = carry;
      done = done;
      last = last;
      whole = steps-value ring laws RepeatLast p r c.loop-k.done c.loop-k.last c.requires done last;
      around = steps-value ring laws Wrap p r c.loop-k.done c.loop-k.carry c.requires done carry;
    }
