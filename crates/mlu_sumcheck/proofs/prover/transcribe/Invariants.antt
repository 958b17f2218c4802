use Rattle.std.proofs.Common.{◌≡◌, ◌+◌, suc, take}
use Rattle.std.specs.Vec.{vec_capacity, vec_len}
use Rattle.mlu_ring.proofs.Tabulated.{tabulate}
use Rattle.mlu_sumcheck.specs.Rounds.{folded, round_at}
use Rattle.mlu_sumcheck.proofs.Chains.{claim_at}
use Rattle.mlu_sumcheck.proofs.prover.transcribe.Given as goal

abbrev pub invariant-loop-challenge : goal.invariant-loop-challenge
invariant-loop-challenge g l =
    let ring = g.EF.Additive.ring in
    let w = l.fn.weights in
    let e = l.fn.poly in
    let i = l.challenge-index in
    record {
      poly : l.poly ≡ folded ring (take i l.challenges) e;
      weights : l.weights ≡ folded ring (take i l.challenges) w;
      rounds : l.rounds.items ≡ tabulate i (round_at ring w e l.challenges);
      claim : l.claim ≡ claim_at ring w e l.challenges i;
      claims : l.claims.items ≡ tabulate (suc i) (claim_at ring w e l.challenges);
      rounds_len : vec_len l.rounds ≡ i;
      claims_len : vec_len l.claims ≡ i + 1;
      rounds_room : vec_capacity l.rounds ≡ l.variables;
      claims_room : vec_capacity l.claims ≡ l.variables + 1;
    }
