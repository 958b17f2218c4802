use Rattle.std.proofs.Common.{◌≡◌, ◌*◌, map, take}
use Rattle.std.specs.Vec.{vec_capacity, vec_len}
use Rattle.mlu_ring.specs.Lanes.{logical}
use Rattle.mlu_ring.specs.Tables.{front, line}
use Rattle.mlu_eq.proofs.prefix.fold_prefix_to_packed.Given as goal

abbrev pub invariant-loop-i : goal.invariant-loop-i
invariant-loop-i g l =
    let ring = g.EF.Additive.ring in
    record {
      lanes : logical g.EF.ExtensionPacking.PackedFieldExtension.ext_lanes l.folded.items ≡ take (l.i * g.F.Packing.PackedValue.WIDTH) (front ring (line ring l.r) (map g.EF.Algebra.embed l.entries));
      len : vec_len l.folded ≡ l.i;
      capacity : vec_capacity l.folded ≡ l.groups;
    }
