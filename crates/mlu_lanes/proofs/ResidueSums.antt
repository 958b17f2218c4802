-- Four products of residues, reduced once and one by one.
use Rattle.std.proofs.Common.{◌≡◌, ℕ, ◌+◌, ◌*◌, ◌%◌, [], ◌∷◌, sym, ◌∙◌}
use Rattle.mlu_ring.specs.Tables.{pair}
use Rattle.mlu_ring.proofs.Modulo.{mod-sum_of_sums}
use Rattle.mlu_ring.proofs.Pairs.{pair-of_four}
use Rattle.mlu_lanes.specs.BabyBear.{baby_bear_ring, baby_bear_laws, canonical, same_canonical}
use Rattle.mlu_lanes.specs.declared.baby_bear.BabyBear.{BabyBear}
use Rattle.mlu_lanes.specs.declared.baby_bear.TheConstants.{MODULUS}

pub reduced_once : {W : ℕ} (a b c d u v w x sum : BabyBear W)
    → canonical sum
    ≡ (canonical a * canonical u + canonical b * canonical v + (canonical c * canonical w + canonical d * canonical x)) % MODULUS
    → sum ≡ pair (baby_bear_ring W) (a ∷ b ∷ c ∷ d ∷ []) (u ∷ v ∷ w ∷ x ∷ [])
reduced_once {W} a b c d u v w x sum is =
    let products = mod-sum_of_sums MODULUS (canonical a * canonical u) (canonical b * canonical v) (canonical c * canonical w) (canonical d * canonical x) in
    same_canonical sum _ (is ∙ products) ∙ sym (pair-of_four (baby_bear_ring W) (baby_bear_laws W) a b c d u v w x)
