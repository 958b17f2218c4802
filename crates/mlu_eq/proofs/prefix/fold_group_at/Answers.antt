use Rattle.std.proofs.Common.{◌≡◌, ◌+◌, ◌-◌, ◌/◌, ◌∙◌, length, map, sym, ap, arith}
use Rattle.std.proofs.lemmas.List.{length-map}
use Rattle.std.specs.Simd.Lanes.{zip2}
use Rattle.mlu_eq.specs.Combine.{interpolated}
use Rattle.mlu_eq.proofs.Folds.{front_of_runs}
use Rattle.mlu_eq.proofs.Groups.{lower_run, upper_run}
use Rattle.mlu_eq.proofs.prefix.fold_group_at.Goals as goal

pub returns : goal.returns
returns g c =
    let ring = g.EF.Additive.ring in
    let embed = g.EF.Algebra.embed in
    let lanes = g.F.Packing.PackedValue.lanes in
    let width = g.F.Packing.PackedValue.WIDTH in
    let entries = c.args.entries.now in
    let start = c.args.start in
    let r = c.args.r in
    let n = start + c.WIDTH.result - start in
    let size : n ≡ width = omega (arith, c.WIDTH.ensures) in
    let lower = lower_run embed entries c.split_at.result.0.now (lanes c.load.result) width n start size c.split_at.ensures.front c.load.ensures in
    let upper = upper_run embed entries c.split_at.result.1.now (lanes c.load-2.result) width n start size c.split_at.ensures.back c.load-2.ensures in
    let halved : length entries / 2 ≡ length (map embed entries) / 2 = sym (ap (λ n. n / 2) (length-map entries embed)) in
    c.interpolate_packing.ensures
    ∙ (λ i. zip2 (interpolated ring r) (lower i) (upper i))
    ∙ front_of_runs ring g.met.EF.Additive.laws (ring.minus ring.one r) r (map embed entries) (length entries / 2) width start halved c.requires
