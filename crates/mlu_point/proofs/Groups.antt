-- A group of weights, split in lanes.
use Rattle.std.proofs.Common.{◌≡◌, ℕ, List, map, length, replicate, ap, ◌∙◌, sym}
use Rattle.std.specs.Simd.Lanes.{zip2}
use Rattle.std.proofs.lemmas.List.{map-id}
use Rattle.std.proofs.lemmas.Simd.{zip2_splat, zip2_of_maps}
use Rattle.mlu_ring.specs.Ring.{Ring}
use Rattle.mlu_ring.specs.Lanes.{IsLaneByLane}

module _ {P V : Type 0} (width : ℕ) (lanes : P → List V) (packed : Ring P) (ring : Ring V) (by_lane : IsLaneByLane width lanes packed ring) where
  -- the shares that go with the coordinate
  pub shares-of_lanes : (weights coordinates : P) (ws : List V) (c : V) → length ws ≡ width → lanes weights ≡ ws → lanes coordinates ≡ replicate width c
      → lanes (packed.product weights coordinates) ≡ map (λ w. ring.product w c) ws
  shares-of_lanes weights coordinates ws c long is splat =
      by_lane.product weights coordinates
      ∙ ap (λ vs. zip2 ring.product vs (lanes coordinates)) is
      ∙ ap (λ vs. zip2 ring.product ws vs) splat
      ∙ zip2_splat ring.product ws width c long

  -- what stays
  pub rest-of_lanes : (weights shares : P) (ws : List V) (share : V → V) → lanes weights ≡ ws → lanes shares ≡ map share ws
      → lanes (packed.minus weights shares) ≡ map (λ w. ring.minus w (share w)) ws
  rest-of_lanes weights shares ws share is gone =
      by_lane.minus weights shares
      ∙ zip2_of_maps ring.minus (λ w. w) share ws (is ∙ sym (map-id ws)) gone
