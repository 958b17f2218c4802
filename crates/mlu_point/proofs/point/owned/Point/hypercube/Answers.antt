use Rattle.std.proofs.Common.{◌≡◌, ◌+◌, map, ap, ◌∙◌, arith}
use Rattle.std.specs.Prelude.{if◌then◌else◌, ◌==◌}
use Rattle.std.specs.List.{range_with_len}
use Rattle.mlu_ring.specs.Tables.{bit, vertex}
use Rattle.mlu_point.proofs.Expansion.{made-more}
use Rattle.mlu_point.proofs.point.owned.Point.hypercube.Goals as goal

pub loop-i-preserved : goal.loop-i-preserved
unfolding bit
loop-i-preserved g c =
    let ring = g.F.Additive.ring in
    record {
      items = made-more (λ i. if bit c.args.n i c.args.value == 1 then ring.one else ring.zero) c.loop-i.coords.items c.push_reserved.new.self.items c.loop-i.i c.from_bool.result
          c.loop-i.invariant.items (c.from_bool.ensures ∙ ap (λ b. if b == 1 then ring.one else ring.zero) c.bit_at-bit.ensures) c.push_reserved.ensures.items;
      len = c.push_reserved.ensures.len ∙ ap (λ n. n + 1) c.loop-i.invariant.len;
      capacity = c.push_reserved.ensures.capacity ∙ c.loop-i.invariant.capacity;
    }

pub returns-clause-point : goal.returns-clause-point
unfolding vertex
returns-clause-point g c =
    let ring = g.F.Additive.ring in
    let all : c.loop-i.i ≡ c.args.n = omega (arith, c.loop-i-test.false, c.loop-i.auto.i-end) in
    c.new.ensures ∙ c.loop-i.invariant.items ∙ ap (λ m. map (λ i. if bit c.args.n i c.args.value == 1 then ring.one else ring.zero) (range_with_len 0 m)) all
