-- Each sum is reduced once, from columns that were multiplied by 2^32.
use Rattle.std.proofs.Common.{◌*◌, ◌%◌, ◌^◌, ap, ◌∙◌, lit<}
use Rattle.mlu_lanes.specs.declared.baby_bear.TheConstants.{MODULUS}
use Rattle.mlu_lanes.proofs.Prepared.{prepared_once}
use Rattle.mlu_lanes.proofs.baby_bear.ring.BabyBearPrimeCharacteristicRing.row_times_fixed_columns.Goals as goal

pub returns-clause-first : goal.returns-clause-first
returns-clause-first g c =
    let factors = c.prepared-first.ensures in
    prepared_once _ _ _ _ _ _ _ _ _ _ _ _ _ factors.first factors.second factors.third factors.fourth
    (ap (λ v. v * 2 ^ 32 % MODULUS) c.elements_of.ensures.first ∙ c.sum_of_prepared_rows.ensures.value 0 (lit< tt))

pub returns-clause-second : goal.returns-clause-second
returns-clause-second g c =
    let factors = c.prepared-second.ensures in
    prepared_once _ _ _ _ _ _ _ _ _ _ _ _ _ factors.first factors.second factors.third factors.fourth
    (ap (λ v. v * 2 ^ 32 % MODULUS) c.elements_of.ensures.second ∙ c.sum_of_prepared_rows.ensures.value 1 (lit< tt))

pub returns-clause-third : goal.returns-clause-third
returns-clause-third g c =
    let factors = c.prepared-third.ensures in
    prepared_once _ _ _ _ _ _ _ _ _ _ _ _ _ factors.first factors.second factors.third factors.fourth
    (ap (λ v. v * 2 ^ 32 % MODULUS) c.elements_of.ensures.third ∙ c.sum_of_prepared_rows.ensures.value 2 (lit< tt))

pub returns-clause-fourth : goal.returns-clause-fourth
returns-clause-fourth g c =
    let factors = c.prepared-fourth.ensures in
    prepared_once _ _ _ _ _ _ _ _ _ _ _ _ _ factors.first factors.second factors.third factors.fourth
    (ap (λ v. v * 2 ^ 32 % MODULUS) c.elements_of.ensures.fourth ∙ c.sum_of_prepared_rows.ensures.value 3 (lit< tt))
