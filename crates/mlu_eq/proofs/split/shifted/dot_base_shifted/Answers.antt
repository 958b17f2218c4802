use Rattle.std.proofs.Common.{◌*◌, ◌<◌, ◌∙◌, map, length, ap, sym, subst}
use Rattle.mlu_ring.specs.Tables.{pair}
use Rattle.mlu_ring.specs.Successor.{shifted}
use Rattle.mlu_eq.specs.Split.{contents}
use Rattle.mlu_eq.proofs.Shifted.{pair-shifted_slices, pair-shifted_none, no-entries}
use Rattle.mlu_eq.proofs.split.shifted.dot_base_shifted.Goals as goal

pub returns-in_default : goal.returns-in_default
returns-in_default g c =
    let ring = g.EF.Additive.ring in
    let w = c.args.eq1.now.weights in
    let e = map g.EF.Algebra.embed c.args.entries.now in
    let none = no-entries c.args.eq0.now c.in_default.ensures.cases in
    c.ZERO.ensures ∙ g.met.EF.Additive.zero_is
    ∙ sym (ap (λ eq0. pair ring (shifted ring (contents ring eq0 w)) e) none ∙ pair-shifted_none ring g.met.EF.Additive.laws w e)

pub returns : goal.returns
returns g c =
    let ring = g.EF.Additive.ring in
    let w = c.args.eq1.now.weights in
    let full = c.in-Some.full.now in
    let x = c.in-Some.last.now in
    let n = c.num_scalar_evals.result in
    let some = subst (λ k. 0 < k) c.num_scalar_evals.ensures.value c.num_scalar_evals.ensures.some in
    let joined = c.in-Some.ensures.cases.0 in
    let size = c.requires ∙ ap (λ k. k * length w) (sym c.in-Some.ensures.cases.1) in
    g.met.EF.Additive.adds c.dot_base-before.result c.mul.result c.add.result c.add.ensures
    ∙ ap (λ t. ring.sum t c.mul.result) c.dot_base-before.ensures
    ∙ ap (ring.sum _) (g.met.EF.PrimeCharacteristicRing.multiplies x c.leading_dot.result c.mul.result c.mul.ensures ∙ ap (ring.product x) c.leading_dot.ensures)
    ∙ pair-shifted_slices ring g.met.EF.Additive.laws g.EF.Algebra.embed c.args.entries.now full w x n some c.num_scalar_evals.ensures.value size
    ∙ ap (λ eq0. pair ring (shifted ring (contents ring eq0 w)) (map g.EF.Algebra.embed c.args.entries.now)) (sym joined)
