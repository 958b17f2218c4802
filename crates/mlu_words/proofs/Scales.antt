-- Tables at scale one.
use Rattle.std.proofs.Common.{◌≡◌, ◌∙◌, List, map, ap}
use Rattle.std.proofs.Math.Path.{fun_ext}
use Rattle.std.proofs.lemmas.List.{map-id}
use Rattle.mlu_ring.specs.Ring.{Ring, RingLaws}

pub at_one : {R : Type 0} (ring : Ring R) → RingLaws ring → (one : R) (w split : List R) → one ≡ ring.one → split ≡ map (ring.product one) w → split ≡ w
at_one {R} ring laws one w split is_one is =
    let unit : (x : R) → ring.product one x ≡ x = λ x. ap (λ t. ring.product t x) is_one ∙ laws.one_product x in
    let same : ring.product one ≡ (λ x. x) = fun_ext unit in
    is ∙ ap (λ f. map f w) same ∙ map-id w
