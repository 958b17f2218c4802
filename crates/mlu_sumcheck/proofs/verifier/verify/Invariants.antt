use Rattle.mlu_sumcheck.proofs.Chains.{Leaves}
use Rattle.mlu_sumcheck.proofs.verifier.verify.Given as goal

abbrev pub invariant-loop-i : goal.invariant-loop-i
invariant-loop-i g l = Leaves g.EF.Additive.ring l.fn.claim l.claim l.rounds l.challenges l.i
