-- The elements that words stand for: the integers modulo 2013265921.
use Rattle.mlu_ring.specs.Ring.{Ring}
use Rattle.mlu_lanes.specs.declared.baby_bear.BabyBear.{BabyBear}
use Rattle.mlu_lanes.specs.BabyBear.{baby_bear_ring}

abbrev pub Element : Type 0
Element = BabyBear 4

abbrev pub elements : Ring Element
elements = baby_bear_ring 4
