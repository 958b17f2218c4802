-- Below k the places have their sums.
use Rattle.std.proofs.Common.{◌≡◌, ℕ, ◌<◌, length, get_or, [], ◌∷◌}
use Rattle.mlu_ring.specs.Fours.{places}
use Rattle.mlu_ring.specs.Tables.{pair}
use Rattle.mlu_ring.proofs.ring.PrimeCharacteristicRing.rows_times_column.Given as goal

abbrev pub invariant-loop-k : goal.invariant-loop-k
invariant-loop-k g l =
    let ring = g.Self.Additive.ring in
    record {
      long : length l.out ≡ length l.initial.out;
      each : (k : ℕ) → k < l.k → get_or l.out k ring.zero
          ≡ pair ring (places l.l.0.now l.l.1.now l.l.2.now l.l.3.now k ring.zero) (l.column.0 ∷ l.column.1 ∷ l.column.2 ∷ l.column.3 ∷ []);
    }
