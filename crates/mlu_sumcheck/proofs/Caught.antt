-- A false claim that passes is caught at a round.
use Rattle.std.proofs.Common.{◌≡◌, ◌≢◌, ℕ, suc, ◌^◌, List, [], ◌∷◌, length, get_or, sym, ap, ◌∙◌, arith, ⊎_elim, inl, inr, ◌⊎◌}
use Rattle.std.specs.Prelude.{Bool, true, false, ◌↔◌}
use Rattle.std.proofs.lemmas.Bool.{cases_Bool, false≢true}
use Rattle.mlu_ring.specs.Ring.{Ring, RingLaws}
use Rattle.mlu_ring.specs.Tables.{pair, front, line, univariate, value}
use Rattle.mlu_ring.proofs.Univariate.{length-front}
use Rattle.mlu_sumcheck.specs.Rounds.{round, AddsUpTo, BeginWithSum, EndWithProduct, Fit, IsCaughtAt}
use Rattle.mlu_sumcheck.proofs.Rounds.{round-adds_up, univariate-round}
use Rattle.mlu_sumcheck.proofs.Folded.{doubled, power_halved, value-front, pair-folded}
use Rattle.mlu_sumcheck.proofs.Chains.{fit-rest}

-- two values are the same or not, where a test tells
pub decided : {X : Type 0} (same : X → X → Bool) → ((a b : X) → (same a b ≡ true) ↔ (a ≡ b)) → (a b : X) → (a ≡ b) ⊎ (a ≢ b)
decided same tells a b =
    ⊎_elim
    (λ (is : same a b ≡ true). inl ((tells a b).0 is))
    (λ (is : same a b ≡ false). inr (λ e. false≢true (sym is ∙ (tells a b).1 e)))
    (cases_Bool (same a b))

module _ {R : Type 0} (ring : Ring R) (laws : RingLaws ring) (decide : (a b : R) → (a ≡ b) ⊎ (a ≢ b)) where
  infixl 60 ◌⊗◌
  open ring use {product as ◌⊗◌, zero as 𝟘}

  -- the first claim is the pair of the tables, or a round is caught
  abbrev pub TrueOrCaught : List R → List R → List R → List (List R) → List R → Type 0
  TrueOrCaught claims w e rounds challenges = BeginWithSum ring claims w e ⊎ ((i : ℕ) × IsCaughtAt ring w e rounds challenges i)

  later : (r : R) (rs : List R) (g : List R) (gs : List (List R)) (w e : List R) (i : ℕ) → IsCaughtAt ring (front ring (line ring r) w) (front ring (line ring r) e) gs rs i → IsCaughtAt ring w e (g ∷ gs) (r ∷ rs) (suc i)
  later r rs g gs w e i caught = let below = caught.within in record { within = omega (arith, below); wrong = caught.wrong; other = caught.other; same = caught.same }

  pub true_or_caught : (challenges : List R) (rounds : List (List R)) (claims w e : List R) → length w ≡ 2 ^ length challenges → length e ≡ 2 ^ length challenges → length rounds ≡ length challenges → Fit ring claims rounds challenges
      → EndWithProduct ring claims w e challenges → TrueOrCaught claims w e rounds challenges
  true_or_caught [] rounds claims w e size_w size_e many fit last = inl (last ∙ sym (pair-folded ring laws [] w e size_w size_e))
  true_or_caught (r ∷ rs) [] claims w e size_w size_e many fit last = absurd (omega (arith, many))
  true_or_caught (r ∷ rs) (g ∷ gs) [] w e size_w size_e many fit last = let count = fit.count in absurd (omega (arith, count))
  true_or_caught (r ∷ rs) (g ∷ gs) (s ∷ claims) w e size_w size_e many fit last =
      let w_folded = front ring (line ring r) w in
      let e_folded = front ring (line ring r) e in
      let half = 2 ^ length rs in
      let halves_w = doubled (length w) (length rs) size_w in
      let halves_e = doubled (length e) (length rs) size_e in
      let rest =
      true_or_caught rs gs claims w_folded e_folded
      (length-front ring (line ring r) w half (power_halved (length w) (length rs) size_w)) (length-front ring (line ring r) e half (power_halved (length e) (length rs) size_e))
      (omega (arith, many)) (fit-rest ring s claims g gs r rs fit)
      (last ∙ ap (λ t. t ⊗ value ring e (r ∷ rs)) (sym (value-front ring laws w rs r size_w)) ∙ ap (λ t. value ring w_folded rs ⊗ t) (sym (value-front ring laws e rs r size_e))) in
      ⊎_elim
      (λ (true_next : get_or claims 0 𝟘 ≡ pair ring (front ring (line ring r) w) (front ring (line ring r) e)).
      ⊎_elim
      (λ (is : s ≡ pair ring w e). inl is)
      (λ (not : s ≢ pair ring w e).
      inr (
        0,
        record {
          within = omega arith;
          wrong = λ (sums : AddsUpTo ring (pair ring w e) g). not (sym (fit.adds_up 0 (omega arith)) ∙ sums);
          other = λ (is : g ≡ round ring w e). not (sym (fit.adds_up 0 (omega arith)) ∙ ap (λ t. ring.sum (univariate ring t 𝟘) (univariate ring t ring.one)) is ∙ round-adds_up ring laws w e half halves_w halves_e);
          same = sym (fit.next 0 (omega arith)) ∙ true_next ∙ sym (univariate-round ring laws w e half r halves_w halves_e);
        },
      ))
      (decide s (pair ring w e)))
      (λ (caught : (i : ℕ) × IsCaughtAt ring (front ring (line ring r) w) (front ring (line ring r) e) gs rs i). inr (suc caught.0, later r rs g gs w e caught.0 caught.1))
      rest
