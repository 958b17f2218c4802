use Rattle.std.proofs.Common.{◌/◌, sym, ap, ◌∙◌, length, arith}
use Rattle.std.proofs.lemmas.Simd.{length-zip2}
use Rattle.std.specs.Simd.Lanes.{zip2}
use Rattle.mlu_ring.proofs.Zips.{zip_step, zip_whole}
use Rattle.mlu_eq.specs.Combine.{combined, interpolated}
use Rattle.mlu_eq.proofs.Zipped.{zip_halves, zip_lines}
use Rattle.mlu_eq.proofs.prefix.+interpolate_by_differences.Goals as goal

pub returns-then-low-gt-BLOCK : goal.returns-then-low-gt-BLOCK
returns-then-low-gt-BLOCK g t c =
    let lows = c.split_at_mut-low.ensures in
    let highs = c.split_at.ensures in
    record {
      interpolated = zip_halves (interpolated g.F.Additive.ring (g.F.Algebra.embed c.args.r)) c.args.low.now c.args.high.now (length c.args.low.now / 2) _ _ _ _ _ _ c.requires.length
          lows.front lows.back highs.front highs.back c.interpolate_by_differences.ensures.interpolated c.interpolate_by_differences-then-low-gt-BLOCK.ensures.interpolated;
      room = c.interpolate_by_differences-then-low-gt-BLOCK.ensures.room;
    }

pub loop-i-preserved : goal.loop-i-preserved
loop-i-preserved g t c =
    let ring = g.F.Additive.ring in
    let long = c.requires.length ∙ sym (ap length c.write_differences.ensures ∙ length-zip2 ring.minus c.args.high.now c.args.low.now (sym c.requires.length)) in
    zip_step (combined ring ring.one (g.F.Algebra.embed c.args.r)) c.args.low.now c.write_differences.new.out c.loop-i.low c.loop-i.i c.index-low-i.result c.index-differences-i.result
    c.add_scaled.result c.loop-i-test.true long c.loop-i.invariant c.index-low-i.is c.index-differences-i.is c.add_scaled.ensures

pub returns-clause-interpolated : goal.returns-clause-interpolated
returns-clause-interpolated g t c =
    let ring = g.F.Additive.ring in
    let r = g.F.Algebra.embed c.args.r in
    let long = c.requires.length ∙ sym (ap length c.write_differences.ensures ∙ length-zip2 ring.minus c.args.high.now c.args.low.now (sym c.requires.length)) in
    c.loop-i.invariant ∙ zip_whole (combined ring ring.one r) c.args.low.now c.write_differences.new.out c.loop-i.i (omega arith) long
    ∙ ap (zip2 (combined ring ring.one r) c.args.low.now) c.write_differences.ensures
    ∙ zip_lines ring g.met.F.Additive.laws r c.args.low.now c.args.high.now c.requires.length
