use Rattle.std.proofs.Common.{◌≡◌, ◌+◌, ◌++◌, map, take}
use Rattle.std.specs.Vec.{vec_capacity, vec_len}
use Rattle.mlu_eq.proofs.half.push_lane_images.Given as goal

abbrev pub invariant-loop-k : goal.invariant-loop-k
invariant-loop-k g l = record {
  items : l.images.items ≡ l.initial.images.items ++ map g.R.MapFrom.image (take l.k (g.EF.ExtensionPacking.PackedFieldExtension.ext_lanes l.value));
  len : vec_len l.images ≡ vec_len l.initial.images + l.k;
  capacity : vec_capacity l.images ≡ vec_capacity l.initial.images;
}
