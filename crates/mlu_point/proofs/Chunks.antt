-- What a loop leaves that writes a table chunk by chunk, and how many products that takes.
use Rattle.std.proofs.Common.{◌≡◌, ℕ, ◌+◌, ◌-◌, ◌*◌, ◌/◌, ◌^◌, ◌<◌, ◌≤◌, List, [], ◌∷◌, ◌++◌, map, length, get_or, take, drop, sym, ap, ◌∙◌, arith, length-append, length-take}
use Rattle.std.proofs.Math.Nat.{mul-div_cancel, mul_comm}
use Rattle.std.proofs.Math.Pow.{pow_mono}
use Rattle.std.proofs.Math.Seq.{take-append_seam, drop-append_seam}
use Rattle.std.proofs.lemmas.List.{drop-drop, take_more, append_assoc, length-map, flat_map_more}
use Rattle.std.proofs.lemmas.Nat.{pow-add, pow_pos}
use Rattle.mlu_ring.specs.Ring.{Ring}
use Rattle.mlu_point.specs.declared.point.order.BitOrder.{BitOrder}
use Rattle.mlu_point.specs.declared.point.order.BitOrder.TheVariants.{Msb, Lsb}
use Rattle.mlu_point.specs.Orders.{joined_by, scaled_by_each}

-- as many places as the high coordinates have weights, for each of those of the low ones
pub length-joined_by : {R : Type 0} (order : BitOrder) (high low : List R) → length (joined_by order high low) ≡ length high + length low
length-joined_by Msb high low = length-append high low
length-joined_by Lsb high low = omega (arith, length-append low high)

pub places-joined : {R : Type 0} (order : BitOrder) (high low whole : List R) → whole ≡ joined_by order high low → 2 ^ length whole ≡ 2 ^ length high * 2 ^ length low
places-joined order high low whole is = ap (λ n. 2 ^ n) (ap length is ∙ length-joined_by order high low) ∙ pow-add 2 (length high) (length low)

-- a word counts the weights of the high coordinates
pub fits-high : {R : Type 0} (order : BitOrder) (high low whole : List R) (places : ℕ) → whole ≡ joined_by order high low → places ≡ 2 ^ length whole → places < 2 ^ 64 → 2 ^ length high < 2 ^ 64
fits-high order high low whole places is size fits =
    let fewer : length high ≤ length whole = omega (arith, ap length is, length-joined_by order high low) in
    omega (arith, fits, size, pow_mono {i = length high} {j = length whole} fewer)

-- h seeds, and l - 1 products more for each of them, are one less than h * l
products : (h l k : ℕ) → 0 < h → l ≡ k + 1 → (h - 1) + h * (l - 1) ≡ h * l - 1
products h l k some is =
    let fewer : h * (l - 1) ≡ h * k = ap (λ n. h * n) (omega (arith, is)) in
    let whole : h * l ≡ h * k + h = ap (λ n. h * n) is ∙ omega arith in
    omega (arith, fewer, whole)

pub products-joined : {R : Type 0} (order : BitOrder) (high low whole : List R) → whole ≡ joined_by order high low → (2 ^ length high - 1) + 2 ^ length high * (2 ^ length low - 1) ≡ 2 ^ length whole - 1
products-joined order high low whole is =
    let some : 0 < 2 ^ length low = pow_pos (length low) in
    let one : 2 ^ length low ≡ (2 ^ length low - 1) + 1 = omega arith in
    products (2 ^ length high) (2 ^ length low) (2 ^ length low - 1) (pow_pos (length high)) one
    ∙ ap (λ n. n - 1) (sym (places-joined order high low whole is))

-- the places of a chunk, of which there are m
pub chunk-places : (total m n : ℕ) → 0 < m → total ≡ m * n → total / m ≡ n
chunk-places total m n some is = ap (λ k. k / m) (is ∙ mul_comm m n) ∙ mul-div_cancel n some

-- a loop that wrote a chunk of n places for each of the first scales
module _ {R : Type 0} (ring : Ring R) where
  pub length-scaled : (table scales : List R) → length (scaled_by_each ring table scales) ≡ length scales * length table
  length-scaled table [] = omega arith
  length-scaled table (s ∷ scales) =
      let here = length-append (map (λ w. ring.product s w) table) (scaled_by_each ring table scales) in
      let size = length-map table (λ w. ring.product s w) in
      omega (arith, here, size, length-scaled table scales)

  pub chunk-written : (table scales old out written : List R) (i n start v : ℕ) (s : R) → i < length scales → length table ≡ n → start ≡ i * n → v ≡ n
      → s ≡ get_or scales i s → out ≡ scaled_by_each ring table (take i scales) ++ drop (i * n) old → written ≡ map (λ w. ring.product s w) table
      → take start out ++ (written ++ drop v (drop start out)) ≡ scaled_by_each ring table (take (i + 1) scales) ++ drop ((i + 1) * n) old
  chunk-written table scales old out written i n start v s h size at places here is filled =
      let done = scaled_by_each ring table (take i scales) in
      let rest = drop (i * n) old in
      let share = λ (s : R). map (λ w. ring.product s w) table in
      let taken : length (take i scales) ≡ i = omega (arith, length-take i scales) in
      let many : length done ≡ i * n = length-scaled table (take i scales) ∙ ap (λ k. k * length table) taken ∙ ap (λ k. i * k) size in
      let place : start ≡ length done = at ∙ sym many in
      let next : i * n + n ≡ (i + 1) * n = omega arith in
      ap (λ k. take start out ++ (written ++ drop k (drop start out))) places
      ∙ ap (λ l. take start l ++ (written ++ drop n (drop start l))) is
      ∙ ap (λ k. take k (done ++ rest) ++ (written ++ drop n (drop k (done ++ rest)))) place
      ∙ ap (λ l. l ++ (written ++ drop n (drop (length done) (done ++ rest)))) (take-append_seam done rest)
      ∙ ap (λ l. done ++ (written ++ drop n l)) (drop-append_seam done rest)
      ∙ ap (λ l. done ++ (l ++ drop n rest)) filled
      ∙ sym (append_assoc done (share s) (drop n rest))
      ∙ ap (λ l. l ++ drop n rest) (flat_map_more share [] (take i scales) s ∙ ap (λ x. scaled_by_each ring table (take i scales ++ x ∷ [])) here ∙ ap (scaled_by_each ring table) (sym (take_more scales i s h)))
      ∙ ap (λ l. scaled_by_each ring table (take (i + 1) scales) ++ l) (drop-drop n (i * n) old ∙ ap (λ k. drop k old) next)
