-- Runs of the images of a half, and the lanes of packed values, joined in order.
use Rattle.std.proofs.Common.{◌≡◌, ℕ, suc, ◌+◌, ◌*◌, ◌/◌, ◌<◌, List, [], ◌∷◌, ◌++◌, length, get_or, take, drop, map, flat_map, refl, sym, ap, ◌∙◌, arith}
use Rattle.std.proofs.lemmas.List.{drop-drop, length-drop, take-append-drop, take-map, drop-map}

module _ {B R : Type 0} (f : B → R) where
  -- the images of a run of a half
  pub lower_run : (es front run : List B) (width n start : ℕ) → n ≡ width → front ≡ take (length es / 2) es → run ≡ take n (drop start front) → map f run ≡ take width (drop start (take (length es / 2) (map f es)))
  lower_run es front run width n start size half is =
      ap (map f) (is ∙ ap (λ k. take k (drop start front)) size ∙ ap (λ t. take width (drop start t)) half) ∙ simp (take-map, drop-map)

  pub upper_run : (es back run : List B) (width n start : ℕ) → n ≡ width → back ≡ drop (length es / 2) es → run ≡ take n (drop start back) → map f run ≡ take width (drop start (drop (length es / 2) (map f es)))
  upper_run es back run width n start size half is =
      ap (map f) (is ∙ ap (λ k. take k (drop start back)) size ∙ ap (λ t. take width (drop start t)) half) ∙ simp (take-map, drop-map)

module _ {P V : Type 0} (width : ℕ) (lanes : P → List V) where
  -- packed values whose lanes are the runs of a list have that list as their lanes, joined in order
  pub flat_map-runs : (ps : List P) (es : List V) → length es ≡ length ps * width → ((k : ℕ) (d : P) → k < length ps → lanes (get_or ps k d) ≡ take width (drop (k * width) es)) → flat_map lanes ps ≡ es
  flat_map-runs [] [] size at = refl
  flat_map-runs [] (x ∷ es) size at = absurd (omega arith)
  flat_map-runs (p ∷ ps) es size at =
      let none : 0 * width ≡ 0 = omega arith in
      let more : suc (length ps) * width ≡ width + length ps * width = omega arith in
      let first : lanes p ≡ take width es = at 0 p (omega arith) ∙ ap (λ n. take width (drop n es)) none in
      let rest : flat_map lanes ps ≡ drop width es =
      flat_map-runs ps (drop width es) (simp length-drop (omega (arith, size, more)))
      (λ k d h.
      let next : suc k * width ≡ width + k * width = omega arith in
      at (suc k) d (omega arith) ∙ ap (λ n. take width (drop n es)) next ∙ ap (take width) (sym (drop-drop (k * width) width es))) in
      ap (λ t. t ++ flat_map lanes ps) first ∙ ap (λ t. take width es ++ t) rest ∙ take-append-drop width es
