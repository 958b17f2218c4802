use Rattle.std.proofs.Common.{◌≡◌, ◌+◌, ◌-◌, ◌*◌, ◌/◌, ◌∙◌, length, take, drop, sym, ap, arith, rules}
use Rattle.std.proofs.Math.Seq.{take-length}
use Rattle.std.proofs.lemmas.Nat.{div-add-mod'}
use Rattle.mlu_ring.specs.Lanes.{logical}
use Rattle.mlu_ring.proofs.Logical.{length-logical, lanes_more}
use Rattle.multilinear_util.proofs.Lengths.{power_of_groups}
use Rattle.multilinear_util.proofs.packing.packed.Goals as goal

pub loop-i-preserved : goal.loop-i-preserved
loop-i-preserved g c =
    let width = g.F.Packing.PackedValue.WIDTH in
    let lanes = g.EF.ExtensionPacking.PackedFieldExtension.ext_lanes in
    let evals = c.args.evals.now in
    let i = c.loop-i.i in
    let size : i * width + width - i * width ≡ width = omega arith in
    record {
      lanes = ap (logical lanes) c.push_reserved.ensures.items
          ∙ lanes_more lanes width c.loop-i.elements.items c.from_ext_slice-packing.result evals i c.loop-i.invariant.lanes
          (c.from_ext_slice-packing.ensures ∙ ap (λ n. take (i * n + n - i * n) (drop (i * n) evals)) c.WIDTH-width.ensures ∙ ap (λ n. take n (drop (i * width) evals)) size);
      len = c.push_reserved.ensures.len ∙ ap (λ n. n + 1) c.loop-i.invariant.len;
      capacity = c.push_reserved.ensures.capacity ∙ c.loop-i.invariant.capacity;
    }

pub returns-clause-lanes : goal.returns-clause-lanes
returns-clause-lanes g c =
    let width = g.F.Packing.PackedValue.WIDTH in
    let evals = c.args.evals.now in
    let groups : c.loop-i.i ≡ length evals / c.WIDTH-width.result = omega arith in
    let same : length evals / c.WIDTH-width.result ≡ length evals / width = ap (λ n. length evals / n) c.WIDTH-width.ensures in
    let whole : length evals ≡ length evals / width * width = omega (arith, div-add-mod' (length evals) width, c.requires) in
    c.loop-i.invariant.lanes ∙ ap (λ n. take (n * width) evals) (groups ∙ same) ∙ ap (λ n. take n evals) (sym whole) ∙ take-length evals

pub returns-clause-table : goal.returns-clause-table
returns-clause-table g c test wide =
    let width = g.F.Packing.PackedValue.WIDTH in
    let lanes = g.EF.ExtensionPacking.PackedFieldExtension.ext_lanes in
    let long = g.met.EF.ExtensionPacking.PackedFieldExtension.lanes_are.length-parts in
    let elements = c.loop-i.elements.items in
    power_of_groups (length c.args.evals.now) width g.F.Packing.PackedValue.LOG_WIDTH (search rules) test g.met.F.Packing.PackedValue.width_is wide (length elements)
    (sym (length-logical lanes width long elements) ∙ ap length (returns-clause-lanes g c))
