-- Below j the elements have the words as residues.
use Rattle.std.proofs.Common.{◌≡◌, ℕ, ◌<◌, length, get_or}
use Rattle.mlu_lanes.specs.BabyBear.{canonical, reduced}
use Rattle.mlu_lanes.proofs.baby_bear.packed.lanes_of.Given as goal

abbrev pub invariant-loop-j : goal.invariant-loop-j
invariant-loop-j g l = record {
  long : length l.elements ≡ g.row.W;
  value : (k : ℕ) → k < l.j → canonical (get_or l.elements k (reduced 0)) ≡ get_or l.words k 0;
}
