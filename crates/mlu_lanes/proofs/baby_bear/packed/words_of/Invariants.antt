-- Below j the words are the residues of the lanes.
use Rattle.std.proofs.Common.{◌≡◌, ℕ, ◌<◌, length, get_or}
use Rattle.mlu_lanes.specs.Packed.{residue}
use Rattle.mlu_lanes.proofs.baby_bear.packed.words_of.Given as goal

abbrev pub invariant-loop-j : goal.invariant-loop-j
invariant-loop-j g l = record {
  long : length l.words ≡ g.row.W;
  value : (k : ℕ) → k < l.j → get_or l.words k 0 ≡ residue l.p k;
}
