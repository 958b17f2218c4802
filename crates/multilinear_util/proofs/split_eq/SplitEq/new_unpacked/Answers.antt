use Rattle.std.proofs.Common.{◌≡◌, ◌∙◌, ◌-◌, ◌/◌, ◌++◌, take, drop, map, length, ap, arith}
use Rattle.std.proofs.Math.Pow.{pow_mono}
use Rattle.std.proofs.lemmas.List.{take-append-drop}
use Rattle.mlu_ring.specs.Tables.{weights}
use Rattle.mlu_ring.proofs.Rings.{map-one}
use Rattle.multilinear_util.proofs.Splits.{split-made, split-size}
use Rattle.multilinear_util.proofs.split_eq.SplitEq.new_unpacked.Goals as goal

pub new_from_point-requires : goal.new_from_point-requires
new_from_point-requires g c =
    let n = length c.args.point.now in
    let first = length c.split_at.result.0.now in
    let coordinates = ap length c.as_slice-coordinates.ensures in
    grind (arith, pow_mono {i = first} {j = n - n / 2}, c.split_at.ensures.front_len, coordinates, c.requires)

pub returns-clause-value : goal.returns-clause-value
returns-clause-value g c =
    let p = c.args.point.now in
    let coordinates = c.as_slice-coordinates.result.now in
    let k = length coordinates / 2 in
    let first = c.split_at.result.0.now in
    let second = c.split_at.result.1.now in
    let whole : first ++ second ≡ p = ap (λ xs. xs ++ second) c.split_at.ensures.front ∙ ap (λ xs. take k coordinates ++ xs) c.split_at.ensures.back ∙ take-append-drop k coordinates ∙ c.as_slice-coordinates.ensures in
    split-made g.EF.Additive.ring g.met.EF.Additive.laws c.args.scale c.ONE.result p first second _ _ (c.ONE.ensures ∙ g.met.EF.Additive.one_is) whole
    c.in_ok-eq0.ensures (ap (λ half. half.weights) c.from_scalars.ensures ∙ c.into_evals.ensures.value ∙ c.in_ok-eq1.ensures)

pub returns-clause-size : goal.returns-clause-size
returns-clause-size g c = split-size g.EF.Additive.ring g.met.EF.Additive.laws c.args.scale c.args.point.now _ (returns-clause-value g c)

pub returns-clause-halves : goal.returns-clause-halves
returns-clause-halves g c =
    let ring = g.EF.Additive.ring in
    let p = c.args.point.now in
    let first : c.split_at.result.0.now ≡ take (length p / 2) p = c.split_at.ensures.front ∙ ap (λ xs. take (length xs / 2) xs) c.as_slice-coordinates.ensures in
    let second : c.split_at.result.1.now ≡ drop (length p / 2) p = c.split_at.ensures.back ∙ ap (λ xs. drop (length xs / 2) xs) c.as_slice-coordinates.ensures in
    record {
      first = c.in_ok-eq0.ensures ∙ ap (λ q. map (ring.product c.args.scale) (weights ring q)) first;
      second = ap (λ half. half.weights) c.from_scalars.ensures ∙ c.into_evals.ensures.value ∙ c.in_ok-eq1.ensures ∙ map-one ring g.met.EF.Additive.laws c.ONE.result (weights ring c.split_at.result.1.now) (c.ONE.ensures ∙ g.met.EF.Additive.one_is) ∙ ap (λ q. weights ring q) second;
    }
