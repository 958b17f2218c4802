-- Below k the places have their sums.
use Rattle.std.proofs.Common.{◌≡◌, ℕ, ◌<◌, length, get_or}
use Rattle.mlu_ring.specs.Fours.{places}
use Rattle.mlu_ring.specs.Tables.{pair}
use Rattle.mlu_ring.proofs.ring.PrimeCharacteristicRing.each_four_products.Given as goal

abbrev pub invariant-loop-k : goal.invariant-loop-k
invariant-loop-k g l =
    let ring = g.Self.Additive.ring in
    record {
      long : length l.out ≡ length l.initial.out;
      each : (k : ℕ) → k < l.k → get_or l.out k ring.zero
          ≡ pair ring (places l.l.0.now l.l.1.now l.l.2.now l.l.3.now k ring.zero) (places l.r.0.now l.r.1.now l.r.2.now l.r.3.now k ring.zero);
    }
