use Rattle.std.proofs.Common.{ap, arith, length, rules}
use Rattle.mlu_ring.proofs.LanesLeft.{lanes_left-same, lanes_left-next}
use Rattle.mlu_ring.proofs.ext_lanes.ExtLanesIterator.next.Goals as goal
use Rattle.mlu_ring.proofs.ext_lanes.ExtLanesIterator.next.Goals.{then-self-width, else-self-width}

pub returns-clause-steps : goal.returns-clause-steps
returns-clause-steps g c =
    let lanes = g.P.PackedFieldExtension.ext_lanes in
    let all = c.self.inside.packed.now in
    let first = c.in_ok-first.first.now in
    let others = c.in_ok-first.others.now in
    let lane = c.self.inside.lane in
    let element = c.ext_lane-element.result in
    let long = g.met.P.PackedFieldExtension.lanes_are.length-parts first in
    let is = c.in_ok-first.ensures.cases.0 in
    let read = c.ext_lane-element.ensures element in
    let wide = c.WIDTH-width.ensures in
    elim c.if-self-width.branch [
      | then-self-width w ↦
          let below = w.if-self-width.true in
          rw (← c.self.view_is, w.self-is) (lanes_left-same lanes all first others lane element is (omega (arith, long, wide, below)) read)
      | else-self-width w ↦
          let reached = w.if-self-width.false in
          let within = c.self.invariant in
          rw (← c.self.view_is, w.self-is) (lanes_left-next lanes all first others lane element is (omega (arith, long, wide, reached, within)) read)
    ]

pub returns-clause-goes : goal.returns-clause-goes
returns-clause-goes g c =
    let fewer = ap length (returns-clause-steps g c) in
    record {
      on = λ _. (tt, (search rules), (omega (arith, fewer)));
      keeps = tt;
      rests = λ _. tt;
    }
