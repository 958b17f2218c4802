use Rattle.std.proofs.Common.{◌≡◌, ◌<◌, ◌≤◌, List, length, map, take, replicate, refl, ap, sym, arith, ◌∙◌}
use Rattle.std.proofs.lemmas.List.{length-replicate, length-set, take_all}
use Rattle.std.proofs.lemmas.List.Elements.{All-replicate, All-set}
use Rattle.mlu_kernel.specs.Columns.{columns}
use Rattle.mlu_kernel.proofs.Columns.{columns-more}
use Rattle.mlu_kernel.proofs.basis_split.split_coefficients.Goals as goal

pub loop-k-init : goal.loop-k-init
loop-k-init g c = record {
  long = length-replicate g.row.D _;
  each = All-replicate (λ (l : List g.row.F-Packing.Denot). length l ≡ 128) g.row.D (replicate 128 c.ZERO.result) (length-replicate 128 c.ZERO.result);
  split = refl;
}

pub loop-k-preserved : goal.loop-k-preserved
loop-k-preserved g c =
    let k = c.loop-k.k in
    let made = c.coefficient_column.result in
    let within : c.loop-k.k < length c.loop-k.split = omega arith in
    record {
      long = length-set c.loop-k.split k made ∙ c.loop-k.invariant.long;
      each = All-set (λ (l : List g.row.F-Packing.Denot). length l ≡ 128) c.loop-k.split k made c.coefficient_column.ensures.long c.loop-k.invariant.each;
      split = columns-more g.EF.ExtensionPacking.PackedFieldExtension.packed_coefficients g.F.Packing.Additive.ring.zero c.args.weights.now c.loop-k.split k made within c.loop-k.invariant.split c.coefficient_column.ensures.column;
    }

pub returns : goal.returns
returns g c =
    let all : c.loop-k.k ≡ g.row.D = omega arith in
    let whole : length c.loop-k.split ≤ c.loop-k.k = omega arith in
    let front = take (length c.args.weights.now) in
    let of = columns g.EF.ExtensionPacking.PackedFieldExtension.packed_coefficients g.F.Packing.Additive.ring.zero c.args.weights.now in
    record {
      some = rw (← c.requires.dimension) c.requires.some;
      few = rw (← c.requires.dimension) c.requires.few;
      short = c.requires.short;
      small = c.requires.small;
      long = c.loop-k.invariant.long ∙ c.requires.dimension;
      each = c.loop-k.invariant.each;
      begin = ap (map front) (sym (take_all c.loop-k.k c.loop-k.split whole)) ∙ c.loop-k.invariant.split ∙ ap of (all ∙ c.requires.dimension);
    }
