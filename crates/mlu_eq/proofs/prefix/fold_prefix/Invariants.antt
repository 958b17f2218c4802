use Rattle.std.proofs.Common.{◌≡◌, map, take}
use Rattle.std.specs.Vec.{vec_capacity, vec_len}
use Rattle.mlu_ring.specs.Tables.{front, line}
use Rattle.mlu_eq.proofs.prefix.fold_prefix.Given as goal

abbrev pub invariant-loop-i : goal.invariant-loop-i
invariant-loop-i g l =
    let ring = g.EF.Additive.ring in
    record {
      items : l.folded.items ≡ take l.i (front ring (line ring l.r) (map g.EF.Algebra.embed l.entries));
      len : vec_len l.folded ≡ l.i;
      capacity : vec_capacity l.folded ≡ l.half;
    }
