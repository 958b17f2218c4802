-- Packed values by their lanes, and products with one value in every lane.
use Rattle.std.proofs.Common.{◌≡◌, ℕ, List, map, replicate, sym, ap, ◌∙◌}
use Rattle.std.specs.Simd.Lanes.{zip2}
use Rattle.std.proofs.lemmas.Simd.{zip2_splat_left}
use Rattle.mlu_ring.specs.Ring.{Ring, RingLaws}
use Rattle.mlu_ring.specs.Lanes.{IsLists, IsLaneByLane}
use Rattle.mlu_ring.proofs.EntrywiseLaws.{zip-comm}

-- a value with the parts of another is that value
pub by_parts : {T V : Type 0} {n : ℕ} {parts : T → List V} {whole : List V → T} → IsLists n parts whole → (t u : T) → parts t ≡ parts u → t ≡ u
by_parts {whole = whole} lists t u same = sym (lists.whole-parts t) ∙ ap whole same ∙ lists.whole-parts u

module _ {P V : Type 0} (packed : Ring P) (ring : Ring V) (lanes : P → List V) (of_lanes : List V → P) (n : ℕ) (parts : IsLists n lanes of_lanes) (each : IsLaneByLane n lanes packed ring) where
  pub lanes-splat_product : (q b : P) (x : V) → lanes q ≡ replicate n x → lanes (packed.product q b) ≡ map (ring.product x) (lanes b)
  lanes-splat_product q b x is = each.product q b ∙ ap (λ vs. zip2 ring.product vs (lanes b)) is ∙ zip2_splat_left ring.product x n (lanes b) (parts.length-parts b)

module _ {P V : Type 0} (packed : Ring P) (ring : Ring V) (laws : RingLaws ring) (lanes : P → List V) (of_lanes : List V → P) (n : ℕ) (parts : IsLists n lanes of_lanes) (each : IsLaneByLane n lanes packed ring) where
  pub lanes-product_splat : (p b : P) (x : V) → lanes b ≡ replicate n x → lanes (packed.product p b) ≡ map (ring.product x) (lanes p)
  lanes-product_splat p b x is =
      each.product p b
      ∙ ap (λ vs. zip2 ring.product (lanes p) vs) is
      ∙ zip-comm ring.product laws.product_comm (lanes p) (replicate n x)
      ∙ zip2_splat_left ring.product x n (lanes p) (parts.length-parts p)
