-- The packed coefficients of sums, and of products with packed values of the base.
use Rattle.std.proofs.Common.{◌≡◌, ℕ, ◌<◌, List, map, length, get_or, replicate, sym, ap, ◌∙◌}
use Rattle.std.specs.Simd.Lanes.{zip2}
use Rattle.std.proofs.lemmas.List.{ext_get_or, get_or-map, get_or-replicate, length-map, length-replicate}
use Rattle.std.proofs.lemmas.Simd.{get_or-zip2, zip2_splat_left}
use Rattle.mlu_ring.specs.Ring.{Ring, RingLaws}
use Rattle.mlu_ring.specs.Lanes.{IsLists, IsLaneByLane, splat_of}
use Rattle.mlu_ring.proofs.EntrywiseLaws.{map-replicate, zip-comm}
use Rattle.mlu_ring.proofs.Rings.{sum_zero, sum_cancel}

-- the laws of a packed extension Q of E: its lanes are elements of E, and its coefficients packed values P of the base B
pub record IsPackedExtension {B E P Q : Type 0} (base : Ring B) (ext : Ring E) (packing : Ring P) (packed : Ring Q) (width dimension : ℕ) (lanes : P → List B) (of_lanes : List B → P) (coefficients : E → List B) (ext_lanes : Q → List E) (of_ext_lanes : List E → Q) (packed_coefficients : Q → List P) (of_packed_coefficients : List P → Q) (embed : B → E) (embed_packing : P → Q) : Type 0 where
  pub ext_laws : RingLaws ext
  pub packing_laws : RingLaws packing
  pub packed_laws : RingLaws packed
  pub lanes_are : IsLists width lanes of_lanes
  pub lane_by_lane : IsLaneByLane width lanes packing base
  pub length-coefficients : (a : E) → length (coefficients a) ≡ dimension
  pub coefficients_sum : (a b : E) → coefficients (ext.sum a b) ≡ zip2 base.sum (coefficients a) (coefficients b)
  pub coefficients_scale : (a : E) (f : B) → coefficients (ext.product a (embed f)) ≡ map (λ c. base.product c f) (coefficients a)
  pub ext_lanes_are : IsLists width ext_lanes of_ext_lanes
  pub ext_lane_by_lane : IsLaneByLane width ext_lanes packed ext
  pub embeds_packing : (f : P) → ext_lanes (embed_packing f) ≡ map embed (lanes f)
  pub packed_coefficients_are : IsLists dimension packed_coefficients of_packed_coefficients
  pub transposed : (p : Q) (k c : ℕ) → k < width → c < dimension → get_or (coefficients (get_or (ext_lanes p) k ext.zero)) c base.zero ≡ get_or (lanes (get_or (packed_coefficients p) c packing.zero)) k base.zero

-- the laws of a packed extension, from those of the traits of F, of EF and of its packed form
pub packed_extension : {B E P Q : Type 0} {base : Ring B} {ext : Ring E} {packing : Ring P} {packed : Ring Q} {width dimension : ℕ} {lanes : P → List B} {of_lanes : List B → P} {coefficients : E → List B} {ext_lanes : Q → List E} {of_ext_lanes : List E → Q} {packed_coefficients : Q → List P} {of_packed_coefficients : List P → Q} {embed : B → E} {embed_packing : P → Q} {of_coefficients : List B → E}
    → IsLists width lanes of_lanes → IsLaneByLane width lanes packing base → RingLaws packing
    → RingLaws ext → IsLists dimension coefficients of_coefficients
    → ((a b : E) → coefficients (ext.sum a b) ≡ zip2 base.sum (coefficients a) (coefficients b))
    → ((a : E) (f : B) → coefficients (ext.product a (embed f)) ≡ map (λ c. base.product c f) (coefficients a))
    → RingLaws packed → IsLists width ext_lanes of_ext_lanes → IsLaneByLane width ext_lanes packed ext → ((f : P) → ext_lanes (embed_packing f) ≡ map embed (lanes f))
    → IsLists dimension packed_coefficients of_packed_coefficients
    → ((p : Q) (k c : ℕ) → k < width → c < dimension → get_or (coefficients (get_or (ext_lanes p) k ext.zero)) c base.zero ≡ get_or (lanes (get_or (packed_coefficients p) c packing.zero)) k base.zero)
    → IsPackedExtension base ext packing packed width dimension lanes of_lanes coefficients ext_lanes of_ext_lanes packed_coefficients of_packed_coefficients embed embed_packing
packed_extension lanes_are lane_by_lane packing_laws ext_laws coefficients_are sum scale packed_laws ext_lanes_are ext_lane_by_lane embeds_packing packed_coefficients_are transposed = record {
  ext_laws = ext_laws;
  packing_laws = packing_laws;
  packed_laws = packed_laws;
  lanes_are = lanes_are;
  lane_by_lane = lane_by_lane;
  length-coefficients = coefficients_are.length-parts;
  coefficients_sum = sum;
  coefficients_scale = scale;
  ext_lanes_are = ext_lanes_are;
  ext_lane_by_lane = ext_lane_by_lane;
  embeds_packing = embeds_packing;
  packed_coefficients_are = packed_coefficients_are;
  transposed = transposed;
}

module _ {B E P Q : Type 0} {base : Ring B} {ext : Ring E} {packing : Ring P} {packed : Ring Q} {width dimension : ℕ} {lanes : P → List B} {of_lanes : List B → P} {coefficients : E → List B} {ext_lanes : Q → List E} {of_ext_lanes : List E → Q} {packed_coefficients : Q → List P} {of_packed_coefficients : List P → Q} {embed : B → E} {embed_packing : P → Q} (laws : IsPackedExtension base ext packing packed width dimension lanes of_lanes coefficients ext_lanes of_ext_lanes packed_coefficients of_packed_coefficients embed embed_packing) where
  -- packed values of the base with the same lanes
  by_lanes : (x y : P) → ((k : ℕ) → k < width → get_or (lanes x) k base.zero ≡ get_or (lanes y) k base.zero) → x ≡ y
  by_lanes x y at =
      let long = laws.lanes_are.length-parts x in
      sym (laws.lanes_are.whole-parts x)
      ∙ ap of_lanes (ext_get_or base.zero (lanes x) (lanes y) (long ∙ sym (laws.lanes_are.length-parts y)) (λ k h. at k (rw (← long) h)))
      ∙ laws.lanes_are.whole-parts y

  -- packed coefficient c
  abbrev at : Q → ℕ → P
  at p c = get_or (packed_coefficients p) c packing.zero

  pub coefficient-sum : (p q : Q) (c : ℕ) → c < dimension → get_or (packed_coefficients (packed.sum p q)) c packing.zero ≡ packing.sum (get_or (packed_coefficients p) c packing.zero) (get_or (packed_coefficients q) c packing.zero)
  coefficient-sum p q c h =
      by_lanes (at (packed.sum p q) c) (packing.sum (at p c) (at q c))
      (λ k b.
      let x = get_or (ext_lanes p) k ext.zero in
      let y = get_or (ext_lanes q) k ext.zero in
      sym (laws.transposed (packed.sum p q) k c b h)
      ∙ ap (λ l. get_or (coefficients (get_or l k ext.zero)) c base.zero) (laws.ext_lane_by_lane.sum p q)
      ∙ ap (λ e. get_or (coefficients e) c base.zero)
      (get_or-zip2 ext.sum (ext_lanes p) (ext_lanes q) k ext.zero ext.zero ext.zero (rw (laws.ext_lanes_are.length-parts p) b) (rw (laws.ext_lanes_are.length-parts q) b))
      ∙ ap (λ l. get_or l c base.zero) (laws.coefficients_sum x y)
      ∙ get_or-zip2 base.sum (coefficients x) (coefficients y) c base.zero base.zero base.zero (rw (laws.length-coefficients x) h) (rw (laws.length-coefficients y) h)
      ∙ ap (λ t. base.sum t (get_or (coefficients y) c base.zero)) (laws.transposed p k c b h)
      ∙ ap (λ t. base.sum (get_or (lanes (at p c)) k base.zero) t) (laws.transposed q k c b h)
      ∙ sym (ap (λ l. get_or l k base.zero) (laws.lane_by_lane.sum (at p c) (at q c))
      ∙ get_or-zip2 base.sum (lanes (at p c)) (lanes (at q c)) k base.zero base.zero base.zero (rw (laws.lanes_are.length-parts (at p c)) b) (rw (laws.lanes_are.length-parts (at q c)) b)))

  pub coefficient-scale : (p : Q) (f : P) (c : ℕ) → c < dimension → get_or (packed_coefficients (packed.product p (embed_packing f))) c packing.zero ≡ packing.product (get_or (packed_coefficients p) c packing.zero) f
  coefficient-scale p f c h =
      by_lanes (at (packed.product p (embed_packing f)) c) (packing.product (at p c) f)
      (λ k b.
      let x = get_or (ext_lanes p) k ext.zero in
      let y = get_or (lanes f) k base.zero in
      let in_f : k < length (lanes f) = rw (laws.lanes_are.length-parts f) b in
      let image = get_or-map embed (lanes f) k base.zero ext.zero in_f in
      sym (laws.transposed (packed.product p (embed_packing f)) k c b h)
      ∙ ap (λ l. get_or (coefficients (get_or l k ext.zero)) c base.zero) (laws.ext_lane_by_lane.product p (embed_packing f))
      ∙ ap (λ e. get_or (coefficients e) c base.zero)
      (get_or-zip2 ext.product (ext_lanes p) (ext_lanes (embed_packing f)) k ext.zero ext.zero ext.zero (rw (laws.ext_lanes_are.length-parts p) b) (rw (laws.ext_lanes_are.length-parts (embed_packing f)) b)
      ∙ ap (λ l. ext.product x (get_or l k ext.zero)) (laws.embeds_packing f)
      ∙ ap (ext.product x) image)
      ∙ ap (λ l. get_or l c base.zero) (laws.coefficients_scale x y)
      ∙ get_or-map (λ t. base.product t y) (coefficients x) c base.zero base.zero (rw (laws.length-coefficients x) h)
      ∙ ap (λ t. base.product t y) (laws.transposed p k c b h)
      ∙ sym (ap (λ l. get_or l k base.zero) (laws.lane_by_lane.product (at p c) f)
      ∙ get_or-zip2 base.product (lanes (at p c)) (lanes f) k base.zero base.zero base.zero (rw (laws.lanes_are.length-parts (at p c)) b) in_f))

  -- an element stands for each of its coefficients in every lane
  pub coefficient-splat : (embed_element : E → Q) → ((x : E) → ext_lanes (embed_element x) ≡ replicate width x) → (x : E) (c : ℕ) → c < dimension → get_or (packed_coefficients (embed_element x)) c packing.zero ≡ splat_of width of_lanes (get_or (coefficients x) c base.zero)
  coefficient-splat embed_element in_each_lane x c h =
      let p = get_or (packed_coefficients (embed_element x)) c packing.zero in
      let e = get_or (coefficients x) c base.zero in
      let long = laws.lanes_are.length-parts p in
      sym (laws.lanes_are.whole-parts p)
      ∙ ap of_lanes (ext_get_or base.zero (lanes p) (replicate width e) (long ∙ sym (length-replicate width e))
      (λ k b.
      let below : k < width = rw (← long) b in
      sym (laws.transposed (embed_element x) k c below h)
      ∙ ap (λ l. get_or (coefficients (get_or l k ext.zero)) c base.zero) (in_each_lane x)
      ∙ ap (λ v. get_or (coefficients v) c base.zero) (get_or-replicate width k x ext.zero below)
      ∙ sym (get_or-replicate width k e base.zero below)))

  pub coefficient-zero : (c : ℕ) → c < dimension → get_or (packed_coefficients packed.zero) c packing.zero ≡ packing.zero
  coefficient-zero c h =
      let z = at packed.zero c in
      sum_cancel packing laws.packing_laws z z packing.zero
      (sym (coefficient-sum packed.zero packed.zero c h)
      ∙ ap (λ p. at p c) (laws.packed_laws.zero_sum packed.zero)
      ∙ sym (sum_zero packing laws.packing_laws z))

  -- packed values with the same coefficients
  pub by_coefficients : (p q : Q) → ((c : ℕ) → c < dimension → get_or (packed_coefficients p) c packing.zero ≡ get_or (packed_coefficients q) c packing.zero) → p ≡ q
  by_coefficients p q same =
      let lists = laws.packed_coefficients_are in
      let long = lists.length-parts p in
      sym (lists.whole-parts p)
      ∙ ap of_packed_coefficients (ext_get_or packing.zero (packed_coefficients p) (packed_coefficients q) (long ∙ sym (lists.length-parts q)) (λ c h. same c (rw (← long) h)))
      ∙ lists.whole-parts q

  -- a packed value whose coefficients are those of another, each times a packed value of the base
  pub scaled_each : (p q : Q) (f : P) → ((c : ℕ) → c < dimension → get_or (packed_coefficients q) c packing.zero ≡ packing.product (get_or (packed_coefficients p) c packing.zero) f) → ext_lanes q ≡ zip2 ext.product (ext_lanes p) (map embed (lanes f))
  scaled_each p q f each =
      ap ext_lanes (by_coefficients q (packed.product p (embed_packing f)) (λ c h. each c h ∙ sym (coefficient-scale p f c h)))
      ∙ laws.ext_lane_by_lane.product p (embed_packing f)
      ∙ ap (zip2 ext.product (ext_lanes p)) (laws.embeds_packing f)

  -- or an element of the base, in every lane
  pub scaled_by_base : (p q : Q) (x : B) → ((c : ℕ) → c < dimension → get_or (packed_coefficients q) c packing.zero ≡ packing.product (get_or (packed_coefficients p) c packing.zero) (splat_of width of_lanes x)) → ext_lanes q ≡ map (ext.product (embed x)) (ext_lanes p)
  scaled_by_base p q x each =
      scaled_each p q (splat_of width of_lanes x) each
      ∙ ap (λ l. zip2 ext.product (ext_lanes p) l) (ap (map embed) (laws.lanes_are.parts-whole (replicate width x) (length-replicate width x)) ∙ map-replicate embed x width)
      ∙ zip-comm ext.product laws.ext_laws.product_comm (ext_lanes p) (replicate width (embed x))
      ∙ zip2_splat_left ext.product (embed x) width (ext_lanes p) (laws.ext_lanes_are.length-parts p)

  -- or a packed value of the base, times each coefficient of an element
  pub scaled_by_element : (embed_element : E → Q) → ((x : E) → ext_lanes (embed_element x) ≡ replicate width x) → (x : E) (q : Q) (f : P)
      → ((c : ℕ) → c < dimension → get_or (packed_coefficients q) c packing.zero ≡ packing.product f (splat_of width of_lanes (get_or (coefficients x) c base.zero))) → ext_lanes q ≡ map (ext.product x) (map embed (lanes f))
  scaled_by_element embed_element in_each_lane x q f each =
      scaled_each (embed_element x) q f
      (λ c h.
      each c h
      ∙ laws.packing_laws.product_comm f (splat_of width of_lanes (get_or (coefficients x) c base.zero))
      ∙ ap (λ t. packing.product t f) (sym (coefficient-splat embed_element in_each_lane x c h)))
      ∙ ap (λ l. zip2 ext.product l (map embed (lanes f))) (in_each_lane x)
      ∙ zip2_splat_left ext.product x width (map embed (lanes f)) (length-map (lanes f) embed ∙ laws.lanes_are.length-parts f)
