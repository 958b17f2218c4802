use Rattle.std.proofs.Common.{length, refl, ap, ◌∙◌, arith}
use Rattle.mlu_ring.specs.Tables.{powers}
use Rattle.mlu_point.proofs.Expansion.{holds-none, holds-write, holds-all}
use Rattle.mlu_point.proofs.PowerTables.{power-first, power-doubled}
use Rattle.mlu_point.proofs.point.evaluation.fill_powers.Goals as goal

pub loop-k-init : goal.loop-k-init
loop-k-init g c = record {
  next = power-first g.F.Additive.ring g.met.F.Additive.laws c.args.y c.args.y refl;
  held = holds-none g.F.Additive.ring c.args.out.now c.args.y (length c.args.out.now);
}

pub loop-k-preserved : goal.loop-k-preserved
loop-k-preserved g c = record {
  next = power-doubled g.F.Additive.ring g.met.F.Additive.laws c.args.y c.loop-k.power c.square-power.result c.loop-k.k c.loop-k.invariant.next c.square-power.ensures;
  held = holds-write g.F.Additive.ring c.loop-k.out c.args.y c.loop-k.power c.loop-k.k (omega (arith, c.loop-k-test.true, c.loop-k.auto.out)) c.loop-k.invariant.next c.loop-k.invariant.held;
}

pub returns : goal.returns
returns g c =
    let kept = c.loop-k.auto.out in
    holds-all g.F.Additive.ring c.loop-k.out c.args.y (length c.loop-k.out) c.loop-k.k refl (omega (arith, c.loop-k-test.false, kept)) c.loop-k.invariant.held
    ∙ ap (λ n. powers g.F.Additive.ring c.args.y n) kept
