use Rattle.std.proofs.Common.{◌≡◌, ◌*◌, length, map, take}
use Rattle.std.specs.Vec.{vec_capacity, vec_len}
use Rattle.mlu_ring.specs.Lanes.{logical}
use Rattle.mlu_eq.proofs.half.lane_images.Given as goal

abbrev pub invariant-loop-value : goal.invariant-loop-value
invariant-loop-value g l =
    let width = g.F.Packing.PackedValue.WIDTH in
    record {
      items : l.images.items ≡ map g.R.MapFrom.image (logical g.EF.ExtensionPacking.PackedFieldExtension.ext_lanes (take l.value-index l.packed));
      len : vec_len l.images ≡ l.value-index * width;
      capacity : vec_capacity l.images ≡ length l.packed * width;
    }
