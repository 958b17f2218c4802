use Rattle.std.proofs.Common.{◌≡◌, length, map, take}
use Rattle.std.specs.Vec.{vec_capacity, vec_len}
use Rattle.mlu_eq.proofs.half.images.Given as goal

abbrev pub invariant-loop-element : goal.invariant-loop-element
invariant-loop-element g l = record {
  items : l.images.items ≡ map g.R.MapFrom.image (take l.element-index l.elements);
  len : vec_len l.images ≡ l.element-index;
  capacity : vec_capacity l.images ≡ length l.elements;
}
