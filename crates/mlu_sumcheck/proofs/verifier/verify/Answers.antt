use Rattle.std.proofs.Common.{arith}
use Rattle.mlu_sumcheck.proofs.Chains.{leaves-more, leaves-none, leaves-end}
use Rattle.mlu_sumcheck.proofs.verifier.verify.Goals as goal

pub returns-in_err-claim : goal.returns-in_err-claim
returns-in_err-claim g c =
    rw c.from_residual.ensures
    (leaves-none g.EF.Additive.ring c.args.claim c.loop-i.claim c.args.rounds.now c.args.challenges.now c.loop-i.i c.index-rounds-i.result c.index-challenges-i.result
    c.loop-i-test.true (omega (arith, c.requires, c.loop-i-test.true)) c.index-rounds-i.is c.index-challenges-i.is c.loop-i.invariant c.in_err-claim.ensures)

pub loop-i-preserved : goal.loop-i-preserved
loop-i-preserved g c =
    leaves-more g.EF.Additive.ring c.args.claim c.loop-i.claim c.args.rounds.now c.args.challenges.now c.loop-i.i c.index-rounds-i.result c.index-challenges-i.result
    c.loop-i-test.true (omega (arith, c.requires, c.loop-i-test.true)) c.index-rounds-i.is c.index-challenges-i.is c.loop-i.invariant c.in_ok-claim.claim c.in_ok-claim.ensures.0 c.in_ok-claim.ensures.1

pub returns : goal.returns
returns g c =
    leaves-end g.EF.Additive.ring c.args.claim c.loop-i.claim c.args.rounds.now c.args.challenges.now c.loop-i.i
    c.loop-i-test.false (omega (arith, c.requires, c.loop-i-test.false)) c.loop-i.invariant
