-- The batch of one point: its table, times the scalar.
use Rattle.std.proofs.Common.{◌≡◌, ℕ, suc, ◌+◌, ◌*◌, ◌/◌, ◌^◌, List, [], ◌∷◌, map, length, get_or, refl, sym, ap, ◌∙◌, arith}
use Rattle.std.specs.List.{range_with_len}
use Rattle.std.proofs.lemmas.List.FromFn.{fill_by_all}
use Rattle.mlu_ring.specs.Ring.{Ring, RingLaws}
use Rattle.mlu_ring.specs.Sums.{sum_below}
use Rattle.mlu_ring.specs.Tables.{weight, weights}
use Rattle.mlu_ring.specs.Matrices.{batch, column}
use Rattle.mlu_ring.proofs.Rings.{sum_zero}
use Rattle.mlu_ring.proofs.SumsBelow.{map_from, sum_below-suc, sum_below-zero}
use Rattle.mlu_ring.proofs.Doubling.{map_twice}

module _ {R : Type 0} (ring : Ring R) (laws : RingLaws ring) where
  infixl 50 ◌⊕◌
  infixl 60 ◌⊗◌
  open ring use {sum as ◌⊕◌, product as ◌⊗◌, zero as 𝟘}

  -- one column is all values
  column-one : (values : List R) → column ring values 1 0 ≡ values
  unfolding column
  column-one values =
      let rows : length values ≡ length values / 1 = omega arith in
      sym (fill_by_all (λ j. get_or values (j * 1 + 0) 𝟘) values (length values / 1) 𝟘 rows (λ k h. ap (λ n. get_or values n 𝟘) (omega arith)))

  sum_below-one : (f : ℕ → R) → sum_below ring 1 f ≡ f 0
  sum_below-one f = sum_below-suc ring 0 f ∙ ap (λ t. f 0 ⊕ t) (sum_below-zero ring (λ k. f (suc k))) ∙ sum_zero ring laws (f 0)

  -- what is filled with the table of the point is the batch
  pub batch_one : (values scalars out filled : List R) (s : R) → length scalars ≡ 1 → s ≡ get_or scalars 0 s → length out ≡ 2 ^ (length values / length scalars)
      → filled ≡ map (λ w. s ⊗ w) (weights ring values) → filled ≡ batch ring values scalars (length out)
  unfolding batch weights
  batch_one values [] out filled s one at size is = absurd (omega arith)
  batch_one values (x ∷ y ∷ more) out filled s one at size is = absurd (omega arith)
  batch_one values (x ∷ []) out filled s one at size is =
      let long : length out ≡ 2 ^ length values = size ∙ ap (λ n. 2 ^ n) (omega arith) in
      let term = λ (y i : ℕ). get_or (x ∷ []) i 𝟘 ⊗ weight ring (column ring values 1 i) y in
      is
      ∙ map_twice (λ w. s ⊗ w) (weight ring values) (λ y. s ⊗ weight ring values y) (λ y. refl) (range_with_len 0 (2 ^ length values))
      ∙ ap (λ n. map (λ y. s ⊗ weight ring values y) (range_with_len 0 n)) (sym long)
      ∙ map_from 0 0 (length out) (λ y. s ⊗ weight ring values y) (λ y. sum_below ring 1 (term y))
      (λ k h. ap (λ t. t ⊗ weight ring values (0 + k)) at ∙ sym (sum_below-one (term (0 + k)) ∙ ap (λ p. x ⊗ weight ring p (0 + k)) (column-one values)))
