use Rattle.std.proofs.Common.{◌<◌, ◌∙◌, length, sym, ap, arith}
use Rattle.std.proofs.lemmas.List.{length-set}
use Rattle.std.proofs.lemmas.Simd.{get_or-zip2, length-zip2}
use Rattle.std.specs.Simd.Lanes.{zip2}
use Rattle.mlu_ring.proofs.Filled.{filled_next, filled_whole}
use Rattle.mlu_eq.proofs.prefix.write_differences.Goals as goal

pub loop-i-preserved : goal.loop-i-preserved
loop-i-preserved g c =
    let ring = g.F.Additive.ring in
    let high = c.args.high.now in
    let low = c.args.low.now in
    let i = c.loop-i.i in
    let within : c.loop-i.i < length c.loop-i.out = omega (arith, c.loop-i.invariant.long) in
    let in_high : c.loop-i.i < length c.args.high.now = omega (arith, c.requires.high) in
    let in_low : c.loop-i.i < length c.args.low.now = omega (arith, c.requires.low) in
    let made = g.met.F.Additive.subtracts _ _ _ c.sub.ensures in
    record {
      long = length-set c.loop-i.out i _ ∙ c.loop-i.invariant.long;
      done = filled_next ring.zero c.loop-i.out (zip2 ring.minus high low) i _ within c.loop-i.invariant.done
          (made ∙ ap (λ x. ring.minus x c.index-low-i.result) c.index-high-i.is ∙ ap (ring.minus _) c.index-low-i.is
          ∙ sym (get_or-zip2 ring.minus high low i c.index-high-i.result c.index-low-i.result ring.zero in_high in_low));
    }

pub returns : goal.returns
returns g c =
    let ring = g.F.Additive.ring in
    let both = length-zip2 ring.minus c.args.high.now c.args.low.now (sym c.requires.high ∙ c.requires.low) in
    filled_whole ring.zero c.loop-i.out (zip2 ring.minus c.args.high.now c.args.low.now) c.loop-i.i (omega (arith, c.loop-i.invariant.long))
    (c.loop-i.invariant.long ∙ c.requires.high ∙ sym both) c.loop-i.invariant.done
