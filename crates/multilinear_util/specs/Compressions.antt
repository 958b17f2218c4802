-- Tables compressed at a point that stands for the first or the last of their variables.
use Rattle.std.specs.Prelude.{◌≡◌, ℕ, ◌+◌, ◌^◌, ◌++◌, List, map, length}
use Rattle.mlu_ring.specs.Lanes.{logical}
use Rattle.mlu_ring.specs.Ring.{Ring}
use Rattle.mlu_ring.specs.Tables.{weights, front, back, value}
use Rattle.multilinear_util.specs.Split.{Split, split_entries}
use Rattle.multilinear_util.specs.Views.{entries}
use Rattle.multilinear_util.specs.declared.poly.view.PolyView.{PolyView}

-- the rows of the table, each times its weight at the point and the scale, added up
abbrev pub prefix_compressed : {R : Type 0} → Ring R → R → List R → List R → List R
prefix_compressed ring scale p e = map (ring.product scale) (front ring (weights ring p) e)

-- the dots of the weights at the point with the rows of the table, times the scale
abbrev pub suffix_compressed : {R : Type 0} → Ring R → R → List R → List R → List R
suffix_compressed ring scale p e = map (ring.product scale) (back ring (weights ring p) e)

-- the value of left at rest is the scale times that of the table, of n entries, at the point followed by rest
abbrev pub IsJoinedAfter : {R : Type 0} → Ring R → R → List R → ℕ → List R → List R → Type 0
IsJoinedAfter {R} ring scale p n e left = (rest : List R) → n ≡ 2 ^ (length p + length rest) → value ring left rest ≡ ring.product scale (value ring e (p ++ rest))

-- the value of left at first is the scale times that of the table, of n entries, at first followed by the point
abbrev pub IsJoinedBefore : {R : Type 0} → Ring R → R → List R → ℕ → List R → List R → Type 0
IsJoinedBefore {R} ring scale p n e left = (first : List R) → n ≡ 2 ^ (length first + length p) → value ring left first ≡ ring.product scale (value ring e (first ++ p))

-- the lanes of the packed values, joined in order, are these scalars
abbrev pub Holds : {Q V : Type 0} → (Q → List V) → List V → List Q → Type 0
Holds lanes scalars values = logical lanes values ≡ scalars

-- the rows of the polynomial's values, each times its entry of the split table, added up
abbrev pub weighted_rows : {F E : Type 0} → Ring E → (F → E) → Split E → PolyView F → List E
weighted_rows ring embed split poly = front ring (split_entries ring split) (map embed (entries poly))
