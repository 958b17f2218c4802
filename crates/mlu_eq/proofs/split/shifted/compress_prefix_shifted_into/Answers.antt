use Rattle.std.proofs.Common.{◌≡◌, ◌<◌, ◌≤◌, ◌∙◌, rules, map, length, refl, ap, sym, subst, arith}
use Rattle.std.proofs.lemmas.Bool.Decides.{nat_tests}
use Rattle.std.proofs.Math.Nat.{le-mul_of_pos_right}
use Rattle.mlu_ring.specs.Successor.{shifted}
use Rattle.mlu_kernel.specs.Kernels.{plus_rows}
use Rattle.mlu_kernel.proofs.PlusRows.{length-plus_rows}
use Rattle.mlu_eq.specs.Split.{contents}
use Rattle.mlu_eq.proofs.Products.{row_within}
use Rattle.mlu_eq.proofs.Shifted.{plus_rows-shifted_slices, plus_rows-shifted_none, plus_rows-no_places, no-entries, rows_left}
use Rattle.mlu_eq.proofs.split.shifted.compress_prefix_shifted_into.Goals as goal

pub returns-in_default : goal.returns-in_default
returns-in_default g c =
    let ring = g.EF.Additive.ring in
    let w = c.args.eq1.now.weights in
    let e = map g.EF.Algebra.embed c.args.entries.now in
    let none = no-entries c.args.eq0.now c.in_default.ensures.cases in
    sym (ap (λ eq0. plus_rows ring c.args.out.now (shifted ring (contents ring eq0 w)) e) none ∙ plus_rows-shifted_none ring g.met.EF.Additive.laws c.args.out.now w e)

pub returns-then-is_empty : goal.returns-then-is_empty
returns-then-is_empty g c =
    let ring = g.EF.Additive.ring in
    let w = c.args.eq1.now.weights in
    let none : length c.args.out.now ≡ 0 = grind (arith, nat_tests) in
    sym (plus_rows-no_places ring g.met.EF.Additive.laws c.args.out.now (shifted ring (contents ring c.args.eq0.now w)) (map g.EF.Algebra.embed c.args.entries.now) none)

pub num_scalar_evals-requires : goal.num_scalar_evals-requires
num_scalar_evals-requires g c =
    let w = c.args.eq1.now.weights in
    let rows : 0 < length c.args.eq0.now = omega (arith, c.in-Some.ensures.cases.1) in
    let places : 0 < length c.args.out.now = grind (arith, nat_tests) in
    let within = row_within (length c.args.eq0.now) _ _ rows c.requires in
    let one = le-mul_of_pos_right (length w) places in
    let fits : length (c.args.eq1.now.weights) ≤ length c.args.entries.now = omega (arith, within, one) in
    search rules

pub add_leading_rows-requires-clause-size : goal.add_leading_rows-requires-clause-size
add_leading_rows-requires-clause-size g c =
    let ring = g.EF.Additive.ring in
    let w = c.args.eq1.now.weights in
    let some = subst (λ k. 0 < k) c.num_scalar_evals.ensures.value c.num_scalar_evals.ensures.some in
    let same = ap length c.compress_prefix_into.ensures ∙ length-plus_rows ring g.met.EF.Additive.laws c.args.out.now _ _ in
    rows_left c.args.entries.now (length c.in-Some.full.now) (length c.args.eq0.now) (length w) c.num_scalar_evals.result (length c.args.out.now) (length c.compress_prefix_into.new.out) some c.num_scalar_evals.ensures.value (sym c.in-Some.ensures.cases.1) c.requires same

pub returns : goal.returns
returns g c =
    let ring = g.EF.Additive.ring in
    let w = c.args.eq1.now.weights in
    let full = c.in-Some.full.now in
    let x = c.in-Some.last.now in
    let some = subst (λ k. 0 < k) c.num_scalar_evals.ensures.value c.num_scalar_evals.ensures.some in
    c.add_leading_rows.ensures
    ∙ plus_rows-shifted_slices ring g.met.EF.Additive.laws g.EF.Algebra.embed c.args.entries.now c.args.out.now c.compress_prefix_into.new.out full w x c.num_scalar_evals.result (length c.args.out.now) some c.num_scalar_evals.ensures.value refl c.compress_prefix_into.ensures
    ∙ ap (λ eq0. plus_rows ring c.args.out.now (shifted ring (contents ring eq0 w)) (map g.EF.Algebra.embed c.args.entries.now)) (sym c.in-Some.ensures.cases.0)
