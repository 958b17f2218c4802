use Rattle.std.proofs.Common.{◌≡◌, ◌*◌, ◌/◌, ◌≤◌, length, arith}
use Rattle.mlu_point.proofs.Pairs.{fours_first, fours_more, fours_whole}
use Rattle.mlu_point.proofs.eq_batch.fours.sum_of_fours.Goals as goal

pub loop-i-init : goal.loop-i-init
loop-i-init g c =
    let long : 4 ≤ length c.args.shares.now = omega (arith, c.requires.fours, c.requires.some) in
    fours_first g.S.Additive.ring g.met.S.Additive.laws c.args.shares.now _ _ _ _ long
    c.index-shares-0.is c.index-shares-1.is c.index-shares-2.is c.index-shares-3.is

pub loop-i-preserved : goal.loop-i-preserved
loop-i-preserved g c =
    let ring = g.S.Additive.ring in
    let n = length c.args.shares.now / 4 in
    let whole : length c.args.shares.now ≡ 4 * (length c.args.shares.now / 4) = omega (arith, c.requires.fours) in
    let adds = g.met.S.Additive.adds in
    fours_more ring g.met.S.Additive.laws c.args.shares.now n c.loop-i.i _ _ _ _ _ _ _ _ _ _ _ _ whole (omega (arith, c.loop-i-test.true))
    c.index-shares-k.is c.index-shares-k-in-loop-i.is c.index-shares-k-in-loop-i-2.is c.index-shares-k-in-loop-i-3.is
    (adds _ _ _ c.add.ensures) (adds _ _ _ c.add-in-loop-i.ensures) (adds _ _ _ c.add-in-loop-i-2.ensures) (adds _ _ _ c.add-in-loop-i-3.ensures)
    c.loop-i.invariant

pub returns : goal.returns
returns g c =
    let whole : length c.args.shares.now ≡ 4 * (length c.args.shares.now / 4) = omega (arith, c.requires.fours) in
    fours_whole g.S.Additive.ring g.met.S.Additive.laws c.args.shares.now (length c.args.shares.now / 4) c.loop-i.i _ _ _ _ whole (omega (arith, c.loop-i-test.false)) c.loop-i.invariant
