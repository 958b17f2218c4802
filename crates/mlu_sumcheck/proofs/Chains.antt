-- Claims that fit, one round at a time, and those of the rounds of two tables.
use Rattle.std.proofs.Common.{◌≡◌, ℕ, zero, suc, ◌+◌, ◌-◌, ◌^◌, ◌<◌, ◌≤◌, List, [], ◌∷◌, ◌++◌, length, take, drop, get_or, refl, sym, ap, ◌∙◌, arith, subst, zero-add}
use Rattle.std.proofs.lemmas.List.{drop_more, drop_all, get_or_default, take_all}
use Rattle.mlu_ring.specs.Ring.{Ring, RingLaws}
use Rattle.mlu_ring.specs.Tables.{pair, front, line, univariate}
use Rattle.mlu_ring.proofs.Doubling.{map_range-add}
use Rattle.mlu_ring.proofs.Tabulated.{tabulate, length-tabulate, get_or-tabulate}
use Rattle.mlu_sumcheck.specs.Rounds.{folded, round_at, AddsUpTo, EndWithProduct, Fit, FitFromTo}
use Rattle.mlu_sumcheck.proofs.Rounds.{round-adds_up, univariate-round}
use Rattle.mlu_sumcheck.proofs.Folded.{folded-take_more, halves-folded_at, pair-folded}

pub tabulate-more : {X : Type 0} (n : ℕ) (f : ℕ → X) → tabulate (suc n) f ≡ tabulate n f ++ (f n ∷ [])
tabulate-more n f =
    let next : suc n ≡ n + 1 = omega arith in
    ap (λ k. tabulate k f) next ∙ map_range-add f 0 n 1 ∙ ap (λ k. tabulate n f ++ (f k ∷ [])) (zero-add n)

-- a list of the first n values to which the next is pushed
pub tabulate-pushed : {X : Type 0} (n : ℕ) (f : ℕ → X) (old new : List X) (x : X) → old ≡ tabulate n f → new ≡ old ++ (x ∷ []) → x ≡ f n → new ≡ tabulate (suc n) f
tabulate-pushed n f old new x so_far pushed is =
    pushed ∙ ap (λ l. l ++ (x ∷ [])) so_far ∙ ap (λ t. tabulate n f ++ (t ∷ [])) is ∙ sym (tabulate-more n f)

module _ {R : Type 0} (ring : Ring R) where
  open ring use {zero as 𝟘}

  -- the pair of two tables, folded at the first i challenges
  abbrev pub claim_at : List R → List R → List R → ℕ → R
  claim_at w e challenges i = pair ring (folded ring (take i challenges) w) (folded ring (take i challenges) e)

  adds_up-cons : (s : R) (claims : List R) (g : List R) (gs : List (List R)) → AddsUpTo ring s g → ((i : ℕ) → i < length gs → AddsUpTo ring (get_or claims i 𝟘) (get_or gs i [])) → (i : ℕ) → i < suc (length gs) → AddsUpTo ring (get_or (s ∷ claims) i 𝟘) (get_or (g ∷ gs) i [])
  adds_up-cons s claims g gs here rest zero h = here
  adds_up-cons s claims g gs here rest (suc i) h = rest i (omega arith)

  next-cons : (s t : R) (claims : List R) (g : List R) (gs : List (List R)) (r : R) (rs : List R) → t ≡ univariate ring g r → ((i : ℕ) → i < length gs → get_or (t ∷ claims) (suc i) 𝟘 ≡ univariate ring (get_or gs i []) (get_or rs i 𝟘))
      → (i : ℕ) → i < suc (length gs) → get_or (s ∷ t ∷ claims) (suc i) 𝟘 ≡ univariate ring (get_or (g ∷ gs) i []) (get_or (r ∷ rs) i 𝟘)
  next-cons s t claims g gs r rs here rest zero h = here
  next-cons s t claims g gs r rs here rest (suc i) h = rest i (omega arith)

  -- the claims after the first
  pub fit-rest : (s : R) (claims : List R) (g : List R) (gs : List (List R)) (r : R) (rs : List R) → Fit ring (s ∷ claims) (g ∷ gs) (r ∷ rs) → Fit ring claims gs rs
  fit-rest s claims g gs r rs fit =
      let many = fit.count in
      record {
        count = omega (arith, many);
        adds_up = λ i h. fit.adds_up (suc i) (omega (arith, h));
        next = λ i h. fit.next (suc i) (omega (arith, h));
      }

  fit-first : (s t : R) (claims : List R) (g : List R) (gs : List (List R)) (r : R) (rs : List R) → Fit ring (s ∷ claims) (g ∷ gs) (r ∷ rs) → get_or (s ∷ claims) (suc (length gs)) 𝟘 ≡ t → AddsUpTo ring s g × FitFromTo ring (univariate ring g r) t gs rs
  fit-first s t [] g gs r rs fit end = let many = fit.count in absurd (omega (arith, many))
  fit-first s t (u ∷ claims) g gs r rs fit end =
      (fit.adds_up 0 (omega arith), subst (λ v. FitFromTo ring v t gs rs) (fit.next 0 (omega arith)) (claims, fit-rest s (u ∷ claims) g gs r rs fit, end))

  chain-first : (s t : R) (g : List R) (gs : List (List R)) (r : R) (rs : List R) → FitFromTo ring s t (g ∷ gs) (r ∷ rs) → AddsUpTo ring s g × FitFromTo ring (univariate ring g r) t gs rs
  chain-first s t g gs r rs chain = fit-first s t chain.0 g gs r rs chain.1 chain.2

  chain-more : (s t : R) (g : List R) (gs : List (List R)) (r : R) (rs : List R) → AddsUpTo ring s g → FitFromTo ring (univariate ring g r) t gs rs → FitFromTo ring s t (g ∷ gs) (r ∷ rs)
  chain-more s t g gs r rs here chain =
      let u = univariate ring g r in
      let fit = chain.1 in (
        u ∷ chain.0,
        record {
          count = ap suc fit.count;
          adds_up = adds_up-cons s (u ∷ chain.0) g gs here fit.adds_up;
          next = next-cons s u chain.0 g gs r rs refl fit.next;
        },
        chain.2,
      )

  chain-none : (s : R) → FitFromTo ring s s [] []
  chain-none s = ([], record { count = refl; adds_up = λ i h. absurd (omega (arith, h)); next = λ i h. absurd (omega (arith, h)) }, refl)

  -- from the first claim to the last through all rounds is from the claim s through those from round i on
  abbrev pub Leaves : R → R → List (List R) → List R → ℕ → Type 0
  Leaves first s rounds challenges i = (last : R) → (FitFromTo ring first last rounds challenges → FitFromTo ring s last (drop i rounds) (drop i challenges)) × (FitFromTo ring s last (drop i rounds) (drop i challenges) → FitFromTo ring first last rounds challenges)

  module _ (first s : R) (rounds : List (List R)) (challenges : List R) (i : ℕ) (g : List R) (r : R) (within : i < length rounds) (within_challenges : i < length challenges) (at_round : g ≡ get_or rounds i g) (at_challenge : r ≡ get_or challenges i r) (so_far : Leaves first s rounds challenges i) where
    rounds_left : drop i rounds ≡ g ∷ drop (i + 1) rounds
    rounds_left = drop_more rounds i g within ∙ ap (λ x. x ∷ drop (i + 1) rounds) (sym at_round)

    challenges_left : drop i challenges ≡ r ∷ drop (i + 1) challenges
    challenges_left = drop_more challenges i r within_challenges ∙ ap (λ x. x ∷ drop (i + 1) challenges) (sym at_challenge)

    left : (last : R) → FitFromTo ring s last (drop i rounds) (drop i challenges) ≡ FitFromTo ring s last (g ∷ drop (i + 1) rounds) (r ∷ drop (i + 1) challenges)
    left last = ap (λ gs. FitFromTo ring s last gs (drop i challenges)) rounds_left ∙ ap (λ rs. FitFromTo ring s last (g ∷ drop (i + 1) rounds) rs) challenges_left

    opened : (last : R) → FitFromTo ring first last rounds challenges → AddsUpTo ring s g × FitFromTo ring (univariate ring g r) last (drop (i + 1) rounds) (drop (i + 1) challenges)
    opened last chain =
        chain-first s last g (drop (i + 1) rounds) r (drop (i + 1) challenges)
        (subst (λ rs. FitFromTo ring s last (g ∷ drop (i + 1) rounds) rs) challenges_left (subst (λ gs. FitFromTo ring s last gs (drop i challenges)) rounds_left ((so_far last).0 chain)))

    -- a round that adds up to the claim
    pub leaves-more : (t : R) → AddsUpTo ring s g → t ≡ univariate ring g r → Leaves first t rounds challenges (i + 1)
    leaves-more t here is = λ last. (
      (λ chain. subst (λ v. FitFromTo ring v last (drop (i + 1) rounds) (drop (i + 1) challenges)) (sym is) (opened last chain).1),
      (λ chain.
          let more = chain-more s last g (drop (i + 1) rounds) r (drop (i + 1) challenges) here (subst (λ v. FitFromTo ring v last (drop (i + 1) rounds) (drop (i + 1) challenges)) is chain) in
          (so_far last).1 (subst (λ gs. FitFromTo ring s last gs (drop i challenges)) (sym rounds_left) (subst (λ rs. FitFromTo ring s last (g ∷ drop (i + 1) rounds) rs) (sym challenges_left) more))),
    )

    -- and one that does not
    pub leaves-none : (AddsUpTo ring s g → ⊥) → (last : R) → FitFromTo ring first last rounds challenges → ⊥
    leaves-none never last chain = never (opened last chain).0

  pub leaves-end : (first s : R) (rounds : List (List R)) (challenges : List R) (i : ℕ) → length rounds ≤ i → length challenges ≤ i → Leaves first s rounds challenges i → FitFromTo ring first s rounds challenges
  leaves-end first s rounds challenges i past past_challenges so_far =
      (so_far s).1
      (subst (λ gs. FitFromTo ring s s gs (drop i challenges)) (sym (drop_all i rounds past))
      (subst (λ rs. FitFromTo ring s s [] rs) (sym (drop_all i challenges past_challenges)) (chain-none s)))

module _ {R : Type 0} (ring : Ring R) (laws : RingLaws ring) where
  open ring use {zero as 𝟘}

  module _ (w e challenges : List R) (size_w : length w ≡ 2 ^ length challenges) (size_e : length e ≡ 2 ^ length challenges) where
    pub round_at-adds_up : (i : ℕ) → i < length challenges → AddsUpTo ring (claim_at ring w e challenges i) (round_at ring w e challenges i)
    round_at-adds_up i h =
        round-adds_up ring laws (folded ring (take i challenges) w) (folded ring (take i challenges) e) (2 ^ (length challenges - suc i))
        (halves-folded_at ring challenges w i size_w h) (halves-folded_at ring challenges e i size_e h)

    pub round_at-next : (i : ℕ) (r : R) → i < length challenges → r ≡ get_or challenges i r → univariate ring (round_at ring w e challenges i) r ≡ claim_at ring w e challenges (suc i)
    round_at-next i r h at =
        univariate-round ring laws (folded ring (take i challenges) w) (folded ring (take i challenges) e) (2 ^ (length challenges - suc i)) r
        (halves-folded_at ring challenges w i size_w h) (halves-folded_at ring challenges e i size_e h)
        ∙ ap (λ t. pair ring t (front ring (line ring r) (folded ring (take i challenges) e))) (sym (folded-take_more ring challenges w i r h at))
        ∙ ap (λ t. pair ring (folded ring (take (suc i) challenges) w) t) (sym (folded-take_more ring challenges e i r h at))

    module _ (rounds : List (List R)) (claims : List R) (are_rounds : rounds ≡ tabulate (length challenges) (round_at ring w e challenges)) (are_claims : claims ≡ tabulate (suc (length challenges)) (claim_at ring w e challenges)) where
      pub transcript-round : (i : ℕ) → i < length challenges → get_or rounds i [] ≡ round_at ring w e challenges i
      transcript-round i h = ap (λ l. get_or l i []) are_rounds ∙ get_or-tabulate (length challenges) (round_at ring w e challenges) i [] h

      pub transcript-claim : (i : ℕ) → i < suc (length challenges) → get_or claims i 𝟘 ≡ claim_at ring w e challenges i
      transcript-claim i h = ap (λ l. get_or l i 𝟘) are_claims ∙ get_or-tabulate (suc (length challenges)) (claim_at ring w e challenges) i 𝟘 h

      pub length-transcript_rounds : length rounds ≡ length challenges
      length-transcript_rounds = ap length are_rounds ∙ length-tabulate (length challenges) (round_at ring w e challenges)

      pub length-transcript_claims : length claims ≡ suc (length challenges)
      length-transcript_claims = ap length are_claims ∙ length-tabulate (suc (length challenges)) (claim_at ring w e challenges)

      transcript-adds_up : (i : ℕ) → i < length rounds → AddsUpTo ring (get_or claims i 𝟘) (get_or rounds i [])
      transcript-adds_up i h =
          let below : i < length challenges = omega (arith, h, length-transcript_rounds) in
          ap (λ g. ring.sum (univariate ring g 𝟘) (univariate ring g ring.one)) (transcript-round i below)
          ∙ round_at-adds_up i below
          ∙ sym (transcript-claim i (omega (arith, below)))

      transcript-next : (i : ℕ) → i < length rounds → get_or claims (suc i) 𝟘 ≡ univariate ring (get_or rounds i []) (get_or challenges i 𝟘)
      transcript-next i h =
          let below : i < length challenges = omega (arith, h, length-transcript_rounds) in
          transcript-claim (suc i) (omega (arith, below))
          ∙ sym (round_at-next i (get_or challenges i 𝟘) below (get_or_default challenges i 𝟘 (get_or challenges i 𝟘) below))
          ∙ ap (λ g. univariate ring g (get_or challenges i 𝟘)) (sym (transcript-round i below))

      pub transcript-fit : Fit ring claims rounds challenges
      transcript-fit = record {
        count = length-transcript_claims ∙ ap suc (sym length-transcript_rounds);
        adds_up = transcript-adds_up;
        next = transcript-next;
      }

      pub transcript-last : EndWithProduct ring claims w e challenges
      transcript-last =
          transcript-claim (length challenges) (omega arith)
          ∙ ap (λ rs. pair ring (folded ring rs w) (folded ring rs e)) (take_all (length challenges) challenges (omega arith))
          ∙ pair-folded ring laws challenges w e size_w size_e
