-- Packed tables: when a table fills a packing, and how many lanes it then has.
use Rattle.std.specs.Prelude.{◌≡◌, ◌*◌, ◌^◌, ◌≤◌, ℕ, List, length}
use Rattle.std.proofs.Common.{◌∙◌, arith}
use Rattle.mlu_ring.specs.Lanes.{logical}
use Rattle.multilinear_util.proofs.Packed.{length-packed}
use Rattle.multilinear_util.proofs.Splits.{power_within}

-- a table with no fewer variables than a packing has no fewer values than it has lanes
pub fills_a_packing : (w l n e : ℕ) → w ≡ 2 ^ l → e ≡ 2 ^ n → l ≤ n → w ≤ e
fills_a_packing w l n e width size le =
    let within = power_within l n le in
    omega (arith, width, size, within)

-- packed values have as many lanes as there are values packed in them
pub lanes_of_packed : {P V : Type 0} (lanes : P → List V) (n k : ℕ) (ps : List P) (vs : List V) → ((p : P) → length (lanes p) ≡ n)
    → logical lanes ps ≡ vs → length vs ≡ k → length ps * n ≡ k
lanes_of_packed lanes n k ps vs long is size = length-packed lanes n long ps vs is ∙ size
