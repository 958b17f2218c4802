use Rattle.std.proofs.Common.{◌≡◌, ◌+◌, ◌*◌, ◌/◌, ◌∙◌, length, map, take, drop, refl, sym, ap, arith}
use Rattle.std.proofs.Math.Seq.{take-length}
use Rattle.std.proofs.lemmas.List.{length-map}
use Rattle.std.proofs.lemmas.Nat.{div-add-mod'}
use Rattle.mlu_ring.specs.Lanes.{logical}
use Rattle.mlu_ring.specs.Tables.{front, line}
use Rattle.mlu_ring.proofs.Univariate.{length-front}
use Rattle.mlu_ring.proofs.Logical.{lanes_more}
use Rattle.mlu_eq.proofs.prefix.fold_prefix_to_packed.Goals as goal

pub loop-i-preserved : goal.loop-i-preserved
loop-i-preserved g c =
    let ring = g.EF.Additive.ring in
    let width = g.F.Packing.PackedValue.WIDTH in
    let lanes = g.EF.ExtensionPacking.PackedFieldExtension.ext_lanes in
    let folded = front ring (line ring c.args.r) (map g.EF.Algebra.embed c.args.entries.now) in
    let i = c.loop-i.i in
    record {
      lanes = ap (logical lanes) c.push_reserved.ensures.items
          ∙ lanes_more lanes width c.loop-i.folded.items c.fold_group_at.result folded i c.loop-i.invariant.lanes
          (c.fold_group_at.ensures ∙ ap (λ n. take width (drop (i * n) folded)) c.WIDTH-width.ensures);
      len = c.push_reserved.ensures.len ∙ ap (λ n. n + 1) c.loop-i.invariant.len;
      capacity = c.push_reserved.ensures.capacity ∙ c.loop-i.invariant.capacity;
    }

pub returns : goal.returns
returns g c =
    let ring = g.EF.Additive.ring in
    let width = g.F.Packing.PackedValue.WIDTH in
    let entries = map g.EF.Algebra.embed c.args.entries.now in
    let half = length c.args.entries.now / 2 in
    let folded = front ring (line ring c.args.r) entries in
    let groups : c.loop-i.i ≡ half / c.WIDTH-width.result = omega arith in
    let same : half / c.WIDTH-width.result ≡ half / width = ap (λ n. half / n) c.WIDTH-width.ensures in
    let whole : half ≡ half / width * width = omega (arith, div-add-mod' half width, c.requires) in
    let long : length folded ≡ half = length-front ring (line ring c.args.r) entries half (ap (λ n. n / 2) (length-map c.args.entries.now g.EF.Algebra.embed)) in
    record {
      folded = c.loop-i.invariant.lanes ∙ ap (λ n. take (n * width) folded) (groups ∙ same) ∙ ap (λ n. take n folded) (sym (long ∙ whole)) ∙ take-length folded;
      exact = c.loop-i.invariant.capacity ∙ same;
      few = λ h. refl;
    }
