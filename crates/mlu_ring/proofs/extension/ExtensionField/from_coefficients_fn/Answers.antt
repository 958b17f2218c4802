use Rattle.std.proofs.Common.{◌<◌, ◌≡◌, length, arith, subst, get_or}
use Rattle.mlu_ring.specs.Calls.{CalledInTurn}
use Rattle.mlu_ring.proofs.CallsInTurn.{no_calls, one_place_more}
use Rattle.mlu_ring.proofs.extension.ExtensionField.from_coefficients_fn.Goals as goal

pub loop-k-init : goal.loop-k-init
loop-k-init g c = no_calls (λ s k c t. goal.G-step g s k c t) _ c.args.f

pub f-c-requires : goal.f-c-requires
f-c-requires g c = c.requires (λ j. get_or (g.Self.ExtensionField.coefficients c.loop-k.element) j g.F.Additive.ring.zero) c.loop-k.k c.loop-k.f (omega (arith, c.DIMENSION-k-end.ensures)) c.loop-k.invariant

pub loop-k-preserved : goal.loop-k-preserved
loop-k-preserved g c =
    let long = g.met.Self.ExtensionField.coefficients_are.length-parts c.loop-k.element in
    let within : c.loop-k.k < length (g.Self.ExtensionField.coefficients c.loop-k.element) = omega (arith, long, c.DIMENSION-k-end.ensures) in
    one_place_more (λ s k c t. goal.G-step g s k c t) c.loop-k.k (g.Self.ExtensionField.coefficients c.loop-k.element) _ c.f-c.result _ within
    c.set_coefficient.ensures c.args.f c.loop-k.f _ c.loop-k.invariant c.f-c.ensures

pub returns : goal.returns
returns g c =
    let all : c.loop-k.k ≡ g.Self.ExtensionField.DIMENSION = omega (arith, c.DIMENSION-k-end.ensures) in
    (c.loop-k.f, subst (λ n. CalledInTurn (λ s k c t. goal.G-step g s k c t) n (λ k. get_or (g.Self.ExtensionField.coefficients c.loop-k.element) k g.F.Additive.ring.zero) c.args.f c.loop-k.f) all c.loop-k.invariant)
