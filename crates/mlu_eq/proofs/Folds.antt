-- Folds of one variable, from what is read of the table.
use Rattle.std.proofs.Common.{◌≡◌, ℕ, ◌+◌, ◌-◌, ◌*◌, ◌/◌, ◌<◌, ◌≤◌, ◌⊎◌, ⊎_elim, List, [], ◌∷◌, ◌++◌, map, length, get_or, take, drop, refl, sym, ap, ◌∙◌, arith}
use Rattle.std.proofs.lemmas.List.{ext_get_or, get_or_default, get_or-take, get_or-drop, get_or-map, length-take, length-drop, length-map, length-append, append_assoc, get_or_append_left, get_or-append_right, take-append-le, take_all}
use Rattle.std.proofs.lemmas.Bool.{cases_lt}
use Rattle.std.proofs.lemmas.Simd.{get_or-zip2, length-zip2}
use Rattle.std.specs.Simd.Lanes.{zip2}
use Rattle.mlu_ring.specs.Ring.{Ring, RingLaws}
use Rattle.mlu_ring.specs.Tables.{front, back}
use Rattle.mlu_ring.proofs.Univariate.{length-front}
use Rattle.mlu_ring.proofs.Folds.{length-back, back_of_two-entry, front_of_two-entry, front_by_index, back_by_index}
use Rattle.mlu_ring.proofs.Pairs.{read-map}
use Rattle.mlu_eq.specs.Combine.{combined}

module _ {R : Type 0} (ring : Ring R) (laws : RingLaws ring) where
  infixl 50 ◌⊕◌
  infixl 60 ◌⊗◌
  open ring use {sum as ◌⊕◌, product as ◌⊗◌, zero as 𝟘}

  -- an entry of the fold from the two that it joins
  front_of_reads : (u c : R) (e : List R) (z : ℕ) (a b d : R) → z < length e / 2 → a ≡ get_or e z a → b ≡ get_or e (length e / 2 + z) b → combined ring u c a b ≡ get_or (front ring (u ∷ c ∷ []) e) z d
  front_of_reads u c e z a b d h at_a at_b =
      let low = at_a ∙ get_or_default e z a 𝟘 (omega arith) in
      let high = at_b ∙ get_or_default e (length e / 2 + z) b 𝟘 (omega arith) in
      let long = length-front ring (u ∷ c ∷ []) e (length e / 2) refl in
      ap (λ t. combined ring u c t b) low
      ∙ ap (λ t. combined ring u c (get_or e z 𝟘) t) high
      ∙ sym (front_of_two-entry ring laws u c e z h)
      ∙ get_or_default (front ring (u ∷ c ∷ []) e) z 𝟘 d (omega arith)

  -- the same of the images of base entries
  pub front_of_image : {B : Type 0} (f : B → R) (u c : R) (es : List B) (z : ℕ) (a b : B) (x d : R) → z < length es / 2 → a ≡ get_or es z a → b ≡ get_or es (length es / 2 + z) b → x ≡ combined ring u c (f a) (f b) → x ≡ get_or (front ring (u ∷ c ∷ []) (map f es)) z d
  front_of_image f u c es z a b x d h at_a at_b is =
      let same : length (map f es) / 2 ≡ length es / 2 = ap (λ n. n / 2) (length-map es f) in
      is ∙ front_of_reads u c (map f es) z (f a) (f b) d (omega (arith, same)) (read-map f es z a at_a) (rw same (read-map f es (length es / 2 + z) b at_b))

  -- the lower half of a table where the fold was written over it
  pub front_written : (u c : R) (e ys : List R) (half : ℕ) → half ≡ length e / 2 → length ys ≡ length e → ((k : ℕ) (d : R) → k < half → get_or ys k d ≡ combined ring u c (get_or e k d) (get_or e (half + k) d)) → take (length e / 2) ys ≡ front ring (u ∷ c ∷ []) e
  front_written u c e ys half is long at =
      rw (← is) (front_by_index ring laws u c e (take half ys) (simp length-take (omega arith))
      (λ z h. get_or-take half ys z 𝟘 (omega arith) ∙ rw (← is) (at z 𝟘 (omega arith))))

  pub back_filled : (u c : R) (e ys : List R) (half : ℕ) → half ≡ length e / 2 → length ys ≡ half → ((k : ℕ) (d : R) → k < half → get_or ys k d ≡ combined ring u c (get_or e (2 * k) d) (get_or e (2 * k + 1) d)) → ys ≡ back ring (u ∷ c ∷ []) e
  back_filled u c e ys half is long at = back_by_index ring laws u c e ys (long ∙ is) (λ k h. at k 𝟘 (omega arith))

  pub back_written : (u c : R) (e ys : List R) (half : ℕ) → half ≡ length e / 2 → length ys ≡ length e → ((k : ℕ) (d : R) → k < half → get_or ys k d ≡ combined ring u c (get_or e (2 * k) d) (get_or e (2 * k + 1) d)) → take (length e / 2) ys ≡ back ring (u ∷ c ∷ []) e
  back_written u c e ys half is long at =
      rw (← is) (back_filled u c e (take half ys) half is (simp length-take (omega arith)) (λ k d h. get_or-take half ys k d h ∙ at k d h))

  pub back_of_image : {B : Type 0} (f : B → R) (u c : R) (es : List B) (ys : List R) (half : ℕ) (b : B) → half ≡ length es / 2 → length ys ≡ half → ((k : ℕ) (d : R) → k < half → get_or ys k d ≡ combined ring u c (f (get_or es (2 * k) b)) (f (get_or es (2 * k + 1) b))) → ys ≡ back ring (u ∷ c ∷ []) (map f es)
  back_of_image f u c es ys half b is long at =
      let same : half ≡ length (map f es) / 2 = is ∙ sym (ap (λ n. n / 2) (length-map es f)) in
      back_filled u c (map f es) ys half same long
      (λ k d h.
      at k d h
      ∙ ap (λ t. combined ring u c t (f (get_or es (2 * k + 1) b))) (sym (get_or-map f es (2 * k) b d (omega arith)))
      ∙ ap (λ t. combined ring u c (get_or (map f es) (2 * k) d) t) (sym (get_or-map f es (2 * k + 1) b d (omega arith))))

  -- the first entries of a fold over their table, and the others in the places after them
  pub back_of_parts : (u c : R) (e low pairs folded out after rest : List R) (first half : ℕ) → half ≡ length e / 2 → first ≤ half → half ≤ 2 * first
      → low ≡ take (2 * first) e → pairs ≡ take (2 * (half - first)) (drop (2 * first) e)
      → take (length low / 2) folded ≡ back ring (u ∷ c ∷ []) low → length folded ≡ length low → out ≡ back ring (u ∷ c ∷ []) pairs
      → take half ((take first folded ++ (out ++ after)) ++ rest) ≡ back ring (u ∷ c ∷ []) e
  back_of_parts u c e low pairs folded out after rest first half is within fits lower upper at_low same at_pairs =
      let low_long : length low ≡ 2 * first = rw lower (simp length-take (omega arith)) in
      let pairs_long : length pairs ≡ 2 * (half - first) = rw upper (simp (length-take, length-drop) (omega arith)) in
      let halves : length low / 2 ≡ first = omega (arith, low_long) in
      let start : take first folded ≡ back ring (u ∷ c ∷ []) low = ap (λ n. take n folded) (sym halves) ∙ at_low in
      let start_long : length (take first folded) ≡ first = simp length-take (omega (arith, same, low_long)) in
      let out_long : length out ≡ half - first = ap length at_pairs ∙ length-back ring (u ∷ c ∷ []) pairs ∙ omega (arith, pairs_long) in
      let written = take first folded ++ out in
      let long : length written ≡ half = length-append (take first folded) out ∙ omega (arith, start_long, out_long) in
      let parts : (take first folded ++ (out ++ after)) ++ rest ≡ written ++ (after ++ rest) =
      append_assoc (take first folded) (out ++ after) rest ∙ ap (λ l. take first folded ++ l) (append_assoc out after rest) ∙ sym (append_assoc (take first folded) out (after ++ rest)) in
      let entry : (y : ℕ) → (y < first) ⊎ (first ≤ y) → y < half → get_or written y 𝟘 ≡ combined ring u c (get_or e (2 * y) 𝟘) (get_or e (2 * y + 1) 𝟘) =
      λ y place h.
      ⊎_elim
      (λ before.
      get_or_append_left (take first folded) out 𝟘 y (omega (arith, start_long))
      ∙ ap (λ l. get_or l y 𝟘) start
      ∙ back_of_two-entry ring laws u c low y (omega (arith, halves))
      ∙ rw (lower, get_or-take (2 * first) e (2 * y) 𝟘 (omega arith), get_or-take (2 * first) e (2 * y + 1) 𝟘 (omega arith)) refl)
      (λ after_it.
      let at : 2 * first + 2 * (y - first) ≡ 2 * y = omega arith in
      let at_next : 2 * first + (2 * (y - first) + 1) ≡ 2 * y + 1 = omega arith in
      get_or-append_right (take first folded) out first y 𝟘 start_long after_it
      ∙ ap (λ l. get_or l (y - first) 𝟘) at_pairs
      ∙ back_of_two-entry ring laws u c pairs (y - first) (omega (arith, pairs_long))
      ∙ rw (
        upper,
        get_or-take (2 * (half - first)) (drop (2 * first) e) (2 * (y - first)) 𝟘 (omega arith),
        get_or-take (2 * (half - first)) (drop (2 * first) e) (2 * (y - first) + 1) 𝟘 (omega arith),
        get_or-drop (2 * first) e (2 * (y - first)) 𝟘,
        get_or-drop (2 * first) e (2 * (y - first) + 1) 𝟘,
        at,
        at_next,
      ) refl)
      place in
      ap (take half) parts
      ∙ take-append-le half written (after ++ rest) (omega (arith, long))
      ∙ take_all half written (omega (arith, long))
      ∙ back_by_index ring laws u c e written (long ∙ is) (λ y h. entry y (cases_lt y first) (omega (arith, is)))

  -- the two halves joined place by place
  pub front_of_halves : (u c : R) (f : R → R → R) → ((a b : R) → f a b ≡ combined ring u c a b)
      → (e low high rest out : List R) (half : ℕ) → half ≡ length e / 2 → low ≡ take half e → high ≡ take half (drop half e) → out ≡ zip2 f low high
      → take half (out ++ rest) ≡ front ring (u ∷ c ∷ []) e
  front_of_halves u c f joins e low high rest out half is lower upper joined =
      let low_long : length low ≡ half = rw lower (simp length-take (omega arith)) in
      let high_long : length high ≡ half = rw upper (simp (length-take, length-drop) (omega arith)) in
      let long : length out ≡ half = rw joined (length-zip2 f low high (low_long ∙ sym high_long) ∙ low_long) in
      take-append-le half out rest (omega arith)
      ∙ take_all half out (omega arith)
      ∙ front_by_index ring laws u c e out (long ∙ is)
      (λ z h.
      let here : z < half = omega arith in
      rw (joined, ← is)
      (get_or-zip2 f low high z 𝟘 𝟘 𝟘 (omega arith) (omega arith)
      ∙ joins (get_or low z 𝟘) (get_or high z 𝟘)
      ∙ rw (lower, upper, get_or-take half e z 𝟘 here, get_or-take half (drop half e) z 𝟘 here, get_or-drop half e z 𝟘) refl))

  -- the two halves added up
  pub front_added : (e low high rest out : List R) (half : ℕ) → half ≡ length e / 2 → low ≡ take half e → high ≡ take half (drop half e) → out ≡ zip2 ring.sum low high → take half (out ++ rest) ≡ front ring (ring.one ∷ ring.one ∷ []) e
  front_added = front_of_halves ring.one ring.one ring.sum (λ a b. sym (ap (λ t. ring.sum t (ring.product ring.one b)) (laws.one_product a) ∙ ap (ring.sum a) (laws.one_product b)))

  -- a run of the fold from the runs of the two halves
  pub front_of_runs : (u c : R) (e : List R) (half width start : ℕ) → half ≡ length e / 2 → start + width ≤ half → zip2 (combined ring u c) (take width (drop start (take half e))) (take width (drop start (drop half e))) ≡ take width (drop start (front ring (u ∷ c ∷ []) e))
  front_of_runs u c e half width start is within =
      let low = take width (drop start (take half e)) in
      let high = take width (drop start (drop half e)) in
      let whole = length-front ring (u ∷ c ∷ []) e half (sym is) in
      let low_long : length low ≡ width = simp (length-take, length-drop) (omega arith) in
      let high_long : length high ≡ width = simp (length-take, length-drop) (omega arith) in
      let run_long : length (take width (drop start (front ring (u ∷ c ∷ []) e))) ≡ width = simp (length-take, length-drop) (omega (arith, whole)) in
      let long : length (zip2 (combined ring u c) low high) ≡ width = length-zip2 (combined ring u c) low high (low_long ∙ sym high_long) ∙ low_long in
      ext_get_or 𝟘 (zip2 (combined ring u c) low high) (take width (drop start (front ring (u ∷ c ∷ []) e))) (long ∙ sym run_long)
      (λ j h.
      let here : j < width = omega arith in
      get_or-zip2 (combined ring u c) low high j 𝟘 𝟘 𝟘 (omega arith) (omega arith)
      ∙ ap (λ t. combined ring u c t (get_or high j 𝟘)) (get_or-take width (drop start (take half e)) j 𝟘 here ∙ get_or-drop start (take half e) j 𝟘 ∙ get_or-take half e (start + j) 𝟘 (omega arith))
      ∙ ap (λ t. combined ring u c (get_or e (start + j) 𝟘) t) (get_or-take width (drop start (drop half e)) j 𝟘 here ∙ get_or-drop start (drop half e) j 𝟘 ∙ get_or-drop half e (start + j) 𝟘 ∙ ap (λ n. get_or e (n + (start + j)) 𝟘) is)
      ∙ sym (front_of_two-entry ring laws u c e (start + j) (omega arith))
      ∙ sym (get_or-take width (drop start (front ring (u ∷ c ∷ []) e)) j 𝟘 here ∙ get_or-drop start (front ring (u ∷ c ∷ []) e) j 𝟘))
