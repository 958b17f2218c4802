use Rattle.std.proofs.Common.{◌≡◌, ◌≤◌, ◌*◌, ◌<◌, ◌∙◌, length, take, ap, sym, arith}
use Rattle.std.proofs.lemmas.List.{length-set, take_all}
use Rattle.mlu_ring.specs.Lanes.{logical}
use Rattle.mlu_ring.proofs.Rows.{row-ends, length-row_at}
use Rattle.mlu_kernel.proofs.Columns.{lanes-more}
use Rattle.mlu_kernel.proofs.basis_split.load_row.Goals as goal

pub row_of_width-requires : goal.row_of_width-requires
row_of_width-requires g c = row-ends _ _ _ _ _ c.loop-i-test.true c.requires c.WIDTH.ensures

pub load-requires : goal.load-requires
load-requires g c = ap length c.row_of_width.ensures ∙ length-row_at _ _ _ (row-ends _ _ _ _ _ c.loop-i-test.true c.requires c.WIDTH.ensures) ∙ c.WIDTH.ensures

pub loop-i-preserved : goal.loop-i-preserved
loop-i-preserved g c =
    let i = c.loop-i.i in
    let blocks = c.loop-i.blocks in
    let within : c.loop-i.i < length c.loop-i.blocks = omega (arith, c.loop-i.invariant.long) in
    record {
      long = length-set blocks i c.load.result ∙ c.loop-i.invariant.long;
      lanes = lanes-more g.F.Packing.PackedValue.lanes g.F.Packing.PackedValue.WIDTH blocks c.args.row.now c.row_of_width.result.now i c.WIDTH.result c.load.result within c.loop-i.invariant.lanes c.load.ensures c.row_of_width.ensures c.WIDTH.ensures;
    }

pub returns : goal.returns
returns g c =
    let width = g.F.Packing.PackedValue.WIDTH in
    let row = c.args.row.now in
    let end : c.loop-i.i ≡ length c.args.blocks.now = omega (arith, c.loop-i.invariant.long) in
    let whole : length c.loop-i.blocks ≤ c.loop-i.i = omega (arith, c.loop-i.invariant.long) in
    ap (logical g.F.Packing.PackedValue.lanes) (sym (take_all c.loop-i.i c.loop-i.blocks whole))
    ∙ c.loop-i.invariant.lanes
    ∙ ap (λ k. take (k * width) row) end
    ∙ take_all (length c.args.blocks.now * width) row (omega (arith, c.requires))
