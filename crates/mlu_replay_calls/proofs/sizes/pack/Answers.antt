use Rattle.multilinear_util.proofs.Packed.{length-packed}
use Rattle.mlu_replay_calls.proofs.sizes.pack.Goals as goal

pub returns-clause-size : goal.returns-clause-size
returns-clause-size g c =
    let lanes = g.EF.ExtensionPacking.PackedFieldExtension.ext_lanes in
    let long = g.met.EF.ExtensionPacking.PackedFieldExtension.lanes_are.length-parts in
    length-packed lanes g.F.Packing.PackedValue.WIDTH long c.in_ok-packed.packed c.args.table.now c.in_ok-packed.ensures
