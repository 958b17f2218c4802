use Rattle.std.proofs.Common.{◌≡◌, ◌∙◌, ◌-◌, ◌++◌, ◌^◌, take, map, length, ap, sym, arith}
use Rattle.std.proofs.Math.Pow.{pow_mono}
use Rattle.std.proofs.lemmas.List.{length-map, take-append-drop}
use Rattle.mlu_ring.specs.Tables.{weights}
use Rattle.mlu_ring.proofs.Joined.{length-weights}
use Rattle.multilinear_util.proofs.Outcomes.{ok_more}
use Rattle.multilinear_util.proofs.EqualityTables.{logical-table}
use Rattle.multilinear_util.proofs.poly.tables.packed_table.Goals as goal

pub new_from_point-requires : goal.new_from_point-requires
new_from_point-requires g c =
    let shorter = c.split_at.ensures.back_len in
    grind (arith, pow_mono {i = length c.split_at.result.1.now} {j = length c.args.point.now}, shorter, c.requires.fits)

pub from_ext_slice-seed-requires : goal.from_ext_slice-seed-requires
from_ext_slice-seed-requires g c =
    let ring = g.EF.Additive.ring in
    let last = c.split_at.result.1.now in
    let width = g.met.F.Packing.PackedValue.width_is in
    let size : length last ≡ g.F.Packing.PackedValue.LOG_WIDTH = omega (arith, c.split_at.ensures.back_len, c.LOG_WIDTH.ensures, c.requires.lanes) in
    ap length c.as_slice.ensures.value
    ∙ ap length c.in_ok-lanes.ensures
    ∙ length-map (weights ring last) (ring.product c.args.scale)
    ∙ length-weights ring last
    ∙ ap (λ n. 2 ^ n) size
    ∙ sym width

pub embedded_table-requires : goal.embedded_table-requires
embedded_table-requires g c =
    let shorter = c.split_at.ensures.front_len in
    grind (arith, pow_mono {i = length c.split_at.result.0.now} {j = length c.args.point.now}, shorter, c.requires.fits)

pub returns : goal.returns
returns g c =
    let ring = g.EF.Additive.ring in
    let embed = g.EF.ExtensionPacking.Algebra-1.embed in
    let packed = g.met.EF.ExtensionPacking.PackedFieldExtension in
    let lanes = g.EF.ExtensionPacking.PackedFieldExtension.ext_lanes in
    let width = g.F.Packing.PackedValue.WIDTH in
    let rest = c.split_at.result.0.now in
    let last = c.split_at.result.1.now in
    let seed = c.from_ext_slice-seed.result in
    let whole : rest ++ last ≡ c.args.point.now =
    ap (λ xs. xs ++ last) c.split_at.ensures.front ∙ ap (λ xs. take (length c.args.point.now - c.LOG_WIDTH.result) c.args.point.now ++ xs) c.split_at.ensures.back ∙ take-append-drop (length c.args.point.now - c.LOG_WIDTH.result) c.args.point.now in
    ok_more _ _
    (λ poly made.
    logical-table width lanes g.EF.ExtensionPacking.Additive.ring ring g.met.EF.Additive.laws packed.lane_by_lane embed packed.embeds_element
    g.met.EF.ExtensionPacking.Additive.laws g.met.EF.ExtensionPacking.Algebra-1.keeps seed c.args.scale rest last poly
    (c.from_ext_slice-seed.ensures ∙ c.as_slice.ensures.value ∙ c.in_ok-lanes.ensures)
    (packed.lanes_are.length-parts seed)
    made
    ∙ ap (λ p. map (ring.product c.args.scale) (weights ring p)) whole)
    c.embedded_table.result c.embedded_table.ensures
