-- Values that are lists of a fixed length: the lanes of a packed value, the coefficients of an extension.
use Rattle.std.specs.Prelude.{◌≡◌, ◌<◌, ℕ, List, length, map, flat_map, replicate, slice_index_or}
use Rattle.std.specs.Simd.Lanes.{zip2}
use Rattle.mlu_ring.specs.Ring.{Ring}

-- a value is the list of its n parts: each has one, and each list of n is that of one value
pub record IsLists {T V : Type 0} (n : ℕ) (parts : T → List V) (whole : List V → T) : Type 0 where
  pub length-parts : (t : T) → length (parts t) ≡ n
  pub whole-parts : (t : T) → whole (parts t) ≡ t
  pub parts-whole : (vs : List V) → length vs ≡ n → parts (whole vs) ≡ vs

-- the operations of the ring of packed values are those of the lanes, lane by lane
pub record IsLaneByLane {P V : Type 0} (width : ℕ) (lanes : P → List V) (packed : Ring P) (ring : Ring V) : Type 0 where
  pub zero : lanes packed.zero ≡ replicate width ring.zero
  pub one : lanes packed.one ≡ replicate width ring.one
  pub sum : (p q : P) → lanes (packed.sum p q) ≡ zip2 ring.sum (lanes p) (lanes q)
  pub minus : (p q : P) → lanes (packed.minus p q) ≡ zip2 ring.minus (lanes p) (lanes q)
  pub negation : (p : P) → lanes (packed.negation p) ≡ map ring.negation (lanes p)
  pub product : (p q : P) → lanes (packed.product p q) ≡ zip2 ring.product (lanes p) (lanes q)

-- coefficient c of the element in lane k is lane k of packed coefficient c
abbrev pub IsTransposed : {P E Q B : Type 0} → ℕ → ℕ → (P → List E) → (E → List B) → (P → List Q) → (Q → List B) → Ring E → Ring Q → Ring B → Type 0
IsTransposed {P} width dimension elements coefficients packed_coefficients lanes extension packing base = (p : P) (k c : ℕ) → k < width → c < dimension
    → slice_index_or (coefficients (slice_index_or (elements p) k extension.zero)) c base.zero
    ≡ slice_index_or (lanes (slice_index_or (packed_coefficients p) c packing.zero)) k base.zero

-- the value in every lane
abbrev pub splat_of : {P V : Type 0} → ℕ → (List V → P) → V → P
splat_of width of_lanes v = of_lanes (replicate width v)

-- the lanes of the elements, joined in order
abbrev pub logical : {P V : Type 0} → (P → List V) → List P → List V
logical lanes ps = flat_map lanes ps
