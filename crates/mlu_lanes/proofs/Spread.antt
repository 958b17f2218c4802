-- A word in eight lanes, read as four lanes of twice its bits.
use Rattle.std.proofs.Common.{◌≡◌, ℕ, zero, suc, ◌+◌, ◌*◌, ◌/◌, ◌%◌, ◌^◌, ◌<◌, List, refl, ap, ◌∙◌, get_or, replicate, arith, lit<}
use Rattle.std.specs.Simd.Lanes.{Each1, digits_l, number_l, chunk}
use Rattle.std.proofs.lemmas.Simd.{Each1-replicate, get_or_narrower, get_or_wider}

-- the bytes of the eight lanes
abbrev bytes : ℕ → List ℕ
bytes w = digits_l 256 32 (number_l (2 ^ 32) (replicate 8 w))

are_bytes : (n x : ℕ) → Each1 (λ y. y < 256) (digits_l 256 n x)
are_bytes zero x = tt
are_bytes (suc n) x = (omega arith, are_bytes n (x / 256))

byte : (w : ℕ) → w < 2 ^ 32 → (k i : ℕ) → i < 4 → 4 * k + i < 32 → get_or (bytes w) (4 * k + i) 0 ≡ get_or (replicate 8 w) k 0 / 256 ^ i % 256
byte w small k i lt within = get_or_narrower (2 ^ 32) 4 256 32 (replicate 8 w) k i refl (Each1-replicate (λ x. x < 2 ^ 32) 8 w small) lt within

from_bytes : (w a b c d rest : ℕ) → w < 2 ^ 32 → a ≡ w / 1 % 256 → b ≡ w / 256 % 256 → c ≡ w / 65536 % 256 → d ≡ w / 16777216 % 256
    → (a + 256 * (b + 256 * (c + 256 * (d + 256 * rest)))) % 2 ^ 32 ≡ w
from_bytes w a b c d rest small first second third fourth = omega (arith, first, second, third, fourth)

lower_half : (w : ℕ) → w < 2 ^ 32 → (j : ℕ) → j < 4 → number_l 256 (chunk (8 * j) 8 (bytes w)) % 2 ^ 32 ≡ w
lower_half w small zero h = from_bytes w _ _ _ _ _ small (byte w small 0 0 (lit< tt) (lit< tt)) (byte w small 0 1 (lit< tt) (lit< tt)) (byte w small 0 2 (lit< tt) (lit< tt)) (byte w small 0 3 (lit< tt) (lit< tt))
lower_half w small (suc zero) h = from_bytes w _ _ _ _ _ small (byte w small 2 0 (lit< tt) (lit< tt)) (byte w small 2 1 (lit< tt) (lit< tt)) (byte w small 2 2 (lit< tt) (lit< tt)) (byte w small 2 3 (lit< tt) (lit< tt))
lower_half w small (suc (suc zero)) h = from_bytes w _ _ _ _ _ small (byte w small 4 0 (lit< tt) (lit< tt)) (byte w small 4 1 (lit< tt) (lit< tt)) (byte w small 4 2 (lit< tt) (lit< tt)) (byte w small 4 3 (lit< tt) (lit< tt))
lower_half w small (suc (suc (suc zero))) h = from_bytes w _ _ _ _ _ small (byte w small 6 0 (lit< tt) (lit< tt)) (byte w small 6 1 (lit< tt) (lit< tt)) (byte w small 6 2 (lit< tt) (lit< tt)) (byte w small 6 3 (lit< tt) (lit< tt))
lower_half w small (suc (suc (suc (suc j)))) h = absurd (omega arith)

pub spread_lane : (w : ℕ) → w < 2 ^ 32 → (j : ℕ) → j < 4 → get_or (digits_l (2 ^ 64) 4 (number_l 256 (digits_l 256 32 (number_l (2 ^ 32) (replicate 8 w))))) j 0 % 2 ^ 32 ≡ w
spread_lane w small j h = ap (λ x. x % 2 ^ 32) (get_or_wider 256 8 (2 ^ 64) 4 (bytes w) j refl (are_bytes 32 (number_l (2 ^ 32) (replicate 8 w))) h) ∙ lower_half w small j h
