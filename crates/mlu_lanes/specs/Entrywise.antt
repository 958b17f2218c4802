-- Operations that go entry by entry, as relations of the entries.
use Rattle.std.specs.Prelude.{◌≡◌, ◌<◌, ℕ, List, slice_index_or}
use Rattle.std.proofs.Common.{sym, ◌∙◌, arith}
use Rattle.std.proofs.lemmas.List.{ext_get_or, get_or-map}
use Rattle.std.proofs.lemmas.Simd.{get_or-zip2}
use Rattle.mlu_lanes.specs.LaneRing.{same_values, zipped, mapped}
use Rattle.mlu_lanes.specs.declared.lanes.Lanes.{Lanes}

module _ {A : Type 0} where
  -- P holds of the entry at each place below n
  abbrev pub Entrywise : ℕ → (A → Type 0) → List A → Type 0
  Entrywise n P xs = (k : ℕ) → k < n → (d : A) → P (slice_index_or xs k d)

  -- and of the entries of two lists there
  abbrev pub EntrywisePair : ℕ → (A → A → Type 0) → List A → List A → Type 0
  EntrywisePair n P xs ys = (k : ℕ) → k < n → (d : A) → P (slice_index_or xs k d) (slice_index_or ys k d)

  -- and of those of three
  abbrev pub EntrywiseTriple : ℕ → (A → A → A → Type 0) → List A → List A → List A → Type 0
  EntrywiseTriple n P xs ys zs =
      (k : ℕ) → k < n → (d : A) → P (slice_index_or xs k d) (slice_index_or ys k d) (slice_index_or zs k d)

  -- where a relation of the entries is a function, that of the lanes is this function lane by lane
  pub zipped_by : (W : ℕ) (P : A → A → A → Type 0) (f : A → A → A) → ((x y z : A) → P x y z → z ≡ f x y) → A → (a b r : Lanes A W)
      → EntrywiseTriple W P a.values b.values r.values → r ≡ zipped W f a b
  zipped_by W P f gives d a b r h =
      let zip = zipped W f a b in
      let full = r.full in
      let full_a = a.full in
      let full_b = b.full in
      same_values W r zip
      (ext_get_or d r.values zip.values (full ∙ sym zip.full)
      (λ k below. gives _ _ _ (h k (omega (arith, full, below)) d) ∙ sym (get_or-zip2 f a.values b.values k d d d (omega (arith, full, full_a, below)) (omega (arith, full, full_b, below)))))

  pub mapped_by : (W : ℕ) (P : A → A → Type 0) (f : A → A) → ((x z : A) → P x z → z ≡ f x) → A → (a r : Lanes A W)
      → EntrywisePair W P a.values r.values → r ≡ mapped W f a
  mapped_by W P f gives d a r h =
      let image = mapped W f a in
      let full = r.full in
      let full_a = a.full in
      same_values W r image
      (ext_get_or d r.values image.values (full ∙ sym image.full)
      (λ k below. gives _ _ (h k (omega (arith, full, below)) d) ∙ sym (get_or-map f a.values k d d (omega (arith, full, full_a, below)))))
