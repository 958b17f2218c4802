use Rattle.std.proofs.Common.{ℕ, Bool, true, false, ◌≡◌, ◌^◌, ◌<◌, ◌∙◌, length, ap, sym, subst, arith, rules}
use Rattle.std.specs.Prelude.{if◌then◌else◌}
use Rattle.mlu_ring.specs.Lanes.{logical}
use Rattle.mlu_ring.specs.Tables.{pair, value}
use Rattle.mlu_ring.proofs.PowersOfTwo.{is_power_of_two-power}
use Rattle.multilinear_util.specs.Split.{split_entries}
use Rattle.multilinear_util.specs.Views.{entries}
use Rattle.multilinear_util.proofs.Outcomes.{ok_more}
use Rattle.multilinear_util.proofs.Splits.{lanes_fit, pair-unit}
use Rattle.multilinear_util.proofs.poly.evaluation.value_of_lanes.Goals as goal

pub new_packed-requires : goal.new_packed-requires
new_packed-requires g c =
    let width = g.F.Packing.PackedValue.WIDTH in
    lanes_fit (length (entries c.args.poly)) width g.F.Packing.PackedValue.LOG_WIDTH (length c.args.point.now) (search rules) c.args.poly.power
    g.met.F.Packing.PackedValue.width_is (subst (λ n. n < 2 ^ 64) c.WIDTH.ensures c.WIDTH.type_inv) c.requires

pub returns : goal.returns
returns g c =
    let ring = g.EF.Additive.ring in
    let ext = g.EF.ExtensionPacking.PackedFieldExtension in
    let p = c.args.point.now in
    let values = logical ext.ext_lanes (entries c.args.poly) in
    let whole = split_entries ring c.in_ok-split.split in
    ok_more (λ x. x ≡ pair ring whole values) (λ x. x ≡ value ring values p)
    (λ x is. is ∙ pair-unit ring g.met.EF.Additive.laws c.ONE.result p whole values (c.ONE.ensures ∙ g.met.EF.Additive.one_is) c.in_ok-split.ensures.value)
    c.eval_packed.result c.eval_packed.ensures.value

pub prove-unreachable-requires : goal.prove-unreachable-requires
prove-unreachable-requires g c =
    let power = is_power_of_two-power c.WIDTH.result g.F.Packing.PackedValue.LOG_WIDTH (c.WIDTH.ensures ∙ g.met.F.Packing.PackedValue.width_is) in
    let number : Bool → ℕ = λ b. if b then 1 else 0 in
    let differ : number false ≡ number true = ap number (sym c.if-prove.true ∙ c.is_power_of_two.ensures ∙ power) in
    absurd (omega (arith, differ))
