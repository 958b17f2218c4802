-- What a split table stands for.
use Rattle.std.specs.Prelude.{◌≡◌, ◌/◌, List, Option, map, length, take, drop}
use Rattle.std.specs.declared.option.Option.TheVariants.{None, Some}
use Rattle.mlu_ring.specs.Ring.{Ring}
use Rattle.mlu_ring.specs.Successor.{shifted}
use Rattle.mlu_ring.specs.Tables.{weights}
use Rattle.mlu_eq.specs.Half.{Half}
use Rattle.mlu_eq.specs.Split.{contents, AddsScaled}

-- the halves of a table, the first with the scale in it
pub record Split (E : Type 0) : Type 0 where
  pub eq0 : List E
  pub eq1 : Half E

-- the entries of the whole table
abbrev pub split_entries : {E : Type 0} → Ring E → Split E → List E
split_entries ring split = contents ring split.eq0 split.eq1.weights

-- the same, moved up by one place
abbrev pub shifted_entries : {E : Type 0} → Ring E → Split E → List E
shifted_entries ring split = shifted ring (split_entries ring split)

-- the entries of the one table are the images of those of the other
abbrev pub HasImages : {E R : Type 0} → Ring E → Ring R → (E → R) → Split E → Split R → Type 0
HasImages ring image_ring image split images = split_entries image_ring images ≡ map image (split_entries ring split)

-- the halves are the weights of the first half of the coordinates, times the scale, and those of the others
pub record HasHalves {E : Type 0} (ring : Ring E) (scale : E) (p : List E) (split : Split E) : Type 0 where
  pub first : split.eq0 ≡ map (ring.product scale) (weights ring (take (length p / 2) p))
  pub second : split.eq1.weights ≡ weights ring (drop (length p / 2) p)

-- the scale that is given, and one where there is none
abbrev pub scale_or_one : {R : Type 0} → Ring R → Option R → R
scale_or_one ring None = ring.one
scale_or_one ring (Some scale) = scale

-- the entries of the whole table, each times the scale, are added to the lanes of the packed places, joined in order
abbrev pub AddsTable : {Q V : Type 0} → Ring V → (Q → List V) → Option V → Split V → List Q → List Q → Type 0
AddsTable ring lanes scale split old new = AddsScaled ring lanes (scale_or_one ring scale) (split_entries ring split) old new
