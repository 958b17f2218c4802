-- Four places more are written, and those past the last four one by one.
use Rattle.std.proofs.Common.{◌≡◌, ◌+◌, ◌*◌, ◌<◌, length, length-set, get_or, get_or-set_other, refl, sym, ap, ◌∙◌, arith}
use Rattle.std.proofs.lemmas.Simd.{get_or-zip2, length-zip2}
use Rattle.std.specs.Simd.Lanes.{zip2}
use Rattle.mlu_ring.proofs.Filled.{filled_by_four, filled_by_next, filled_whole, read_default}
use Rattle.mlu_lanes.specs.BabyBear.{baby_bear_ring, reduced, same_canonical}
use Rattle.mlu_lanes.proofs.PlaceSums.{both_at}
use Rattle.mlu_lanes.proofs.baby_bear.ring.BabyBearAdditive.add_each.Goals as goal

pub loop-g-preserved : goal.loop-g-preserved
loop-g-preserved g c =
    let a = c.args.out.now in
    let b = c.args.b.now in
    let n = 4 * c.loop-g.g in
    let next : 4 * (c.loop-g.g + 1) ≡ n + 4 = omega arith in
    record {
      long = c.put.ensures.long ∙ c.loop-g.invariant.long;
      filled = filled_by_four (reduced 0) c.loop-g.out c.put.new.out (both_at a b) n (4 * (c.loop-g.g + 1)) next c.loop-g.invariant.filled c.put.ensures.before
          (λ j h. same_canonical _ _ (c.put.ensures.written j h ∙ c.residue_sums_at-sums.ensures j h)
          ∙ ap (λ x. (baby_bear_ring g.row.W).sum x (get_or b (n + j) (reduced 0))) (c.loop-g.invariant.rest (n + j) (omega arith)));
      rest = λ i h. c.put.ensures.after i (omega (arith, h)) ∙ c.loop-g.invariant.rest i (omega (arith, h));
    }

pub loop-k-preserved : goal.loop-k-preserved
loop-k-preserved g c =
    let out = c.loop-k.out in
    let b = c.args.b.now in
    let k = c.loop-k.k in
    let room : c.loop-k.k < length c.loop-k.out = omega (arith, c.loop-g.auto.out, c.loop-k.invariant.long, c.loop-k-test.true) in
    let left = read_default (reduced 0) out out k _ room c.index-out-k.is refl ∙ c.loop-k.invariant.rest k (omega arith) in
    let right = read_default (reduced 0) b b k _ (omega (arith, room, c.loop-k.invariant.long, c.requires)) c.index-b-k.is refl in
    record {
      long = length-set out k c.add.result ∙ c.loop-k.invariant.long;
      filled = filled_by_next (reduced 0) out (both_at c.args.out.now b) k c.add.result room c.loop-k.invariant.filled (c.add.ensures ∙ cc (left, right));
      rest = λ i h. get_or-set_other out k i c.add.result (reduced 0) (omega (arith, h)) ∙ c.loop-k.invariant.rest i (omega (arith, h));
    }

pub returns : goal.returns
returns g c =
    let sum = (baby_bear_ring g.row.W).sum in
    let a = c.args.out.now in
    let b = c.args.b.now in
    filled_whole (reduced 0) c.loop-k.out (zip2 sum a b) c.loop-k.k (omega (arith, c.loop-k.invariant.long)) (c.loop-k.invariant.long ∙ sym (length-zip2 sum a b c.requires))
    (λ i h. c.loop-k.invariant.filled i h ∙ sym (get_or-zip2 sum a b i (reduced 0) (reduced 0) (reduced 0) (omega (arith, h)) (omega (arith, h))))
