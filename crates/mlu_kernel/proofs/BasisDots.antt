-- Packed dots, coefficient by coefficient and by the sum of their lanes.
use Rattle.std.proofs.Common.{◌≡◌, ℕ, ◌<◌, List, [], ◌∷◌, ◌++◌, map, length, take, drop, get_or, sym, ap, ◌∙◌, arith}
use Rattle.std.proofs.Math.Seq.{take-append_seam, drop-append_seam}
use Rattle.std.proofs.lemmas.List.{map-append, length-map, get_or-map}
use Rattle.mlu_ring.specs.Ring.{Ring}
use Rattle.mlu_ring.specs.Sums.{sum_of}
use Rattle.mlu_ring.specs.Tables.{pair}
use Rattle.mlu_ring.specs.Lanes.{logical}
use Rattle.mlu_ring.proofs.Tabulated.{get_or-tabulate}
use Rattle.mlu_ring.proofs.Totals.{pair-nil, pair-cons, pair-append, pair-take, total-zero, total-sum, total-product}
use Rattle.mlu_ring.specs.Columns.{column_of}
use Rattle.mlu_kernel.specs.Columns.{columns}
use Rattle.mlu_ring.proofs.PackedCoefficients.{IsPackedExtension, coefficient-zero, coefficient-sum, coefficient-scale, by_coefficients}

module _ {B E P Q : Type 0} {base : Ring B} {ext : Ring E} {packing : Ring P} {packed : Ring Q} {width dimension : ℕ} {lanes : P → List B} {of_lanes : List B → P} {coefficients : E → List B} {ext_lanes : Q → List E} {of_ext_lanes : List E → Q} {packed_coefficients : Q → List P} {of_packed_coefficients : List P → Q} {embed : B → E} {embed_packing : P → Q} (laws : IsPackedExtension base ext packing packed width dimension lanes of_lanes coefficients ext_lanes of_ext_lanes packed_coefficients of_packed_coefficients embed embed_packing) where
  -- packed coefficient c of a packed dot is the dot of column c
  coefficient-dot : (ws : List Q) (bs : List P) (c : ℕ) → c < dimension → length ws ≡ length bs → get_or (packed_coefficients (pair packed ws (map embed_packing bs))) c packing.zero ≡ pair packing (column_of packing.zero packed_coefficients ws c) bs
  coefficient-dot [] [] c h long =
      ap (λ p. get_or (packed_coefficients p) c packing.zero) (pair-nil packed laws.packed_laws [])
      ∙ coefficient-zero laws c h
      ∙ sym (pair-nil packing laws.packing_laws [])
  coefficient-dot [] (b ∷ bs) c h long = absurd (omega arith)
  coefficient-dot (w ∷ ws) [] c h long = absurd (omega arith)
  coefficient-dot (w ∷ ws) (b ∷ bs) c h long =
      let rest = pair packed ws (map embed_packing bs) in
      let first = get_or (packed_coefficients w) c packing.zero in
      ap (λ p. get_or (packed_coefficients p) c packing.zero) (pair-cons packed laws.packed_laws w (embed_packing b) ws (map embed_packing bs))
      ∙ coefficient-sum laws (packed.product w (embed_packing b)) rest c h
      ∙ ap (λ t. packing.sum t (get_or (packed_coefficients rest) c packing.zero)) (coefficient-scale laws w b c h)
      ∙ ap (packing.sum (packing.product first b)) (coefficient-dot ws bs c h (omega arith))
      ∙ sym (pair-cons packing laws.packing_laws first b (column_of packing.zero packed_coefficients ws c) bs)

  -- the lanes of a packed dot add up to the dot of the lanes
  total-dot : (ws : List Q) (bs : List P) → length ws ≡ length bs → sum_of ext (ext_lanes (pair packed ws (map embed_packing bs))) ≡ pair ext (logical ext_lanes ws) (map embed (logical lanes bs))
  total-dot [] [] long =
      ap (λ p. sum_of ext (ext_lanes p)) (pair-nil packed laws.packed_laws [])
      ∙ total-zero packed ext laws.ext_laws ext_lanes of_ext_lanes width laws.ext_lanes_are laws.ext_lane_by_lane
      ∙ sym (pair-nil ext laws.ext_laws [])
  total-dot [] (b ∷ bs) long = absurd (omega arith)
  total-dot (w ∷ ws) [] long = absurd (omega arith)
  total-dot (w ∷ ws) (b ∷ bs) long =
      let rest = pair packed ws (map embed_packing bs) in
      let here = map embed (lanes b) in
      let others = map embed (logical lanes bs) in
      let same : length (ext_lanes w) ≡ length (map embed (lanes b)) = laws.ext_lanes_are.length-parts w ∙ sym (length-map (lanes b) embed ∙ laws.lanes_are.length-parts b) in
      ap (λ p. sum_of ext (ext_lanes p)) (pair-cons packed laws.packed_laws w (embed_packing b) ws (map embed_packing bs))
      ∙ total-sum packed ext laws.ext_laws ext_lanes of_ext_lanes width laws.ext_lanes_are laws.ext_lane_by_lane (packed.product w (embed_packing b)) rest
      ∙ ap (λ t. ext.sum t (sum_of ext (ext_lanes rest)))
      (total-product packed ext laws.ext_laws ext_lanes of_ext_lanes width laws.ext_lanes_are laws.ext_lane_by_lane w (embed_packing b)
      ∙ ap (pair ext (ext_lanes w)) (laws.embeds_packing b))
      ∙ ap (ext.sum (pair ext (ext_lanes w) here)) (total-dot ws bs (omega arith))
      ∙ sym (ap (pair ext (ext_lanes w ++ logical ext_lanes ws)) (map-append embed (lanes b) (logical lanes bs))
      ∙ pair-append ext laws.ext_laws (ext_lanes w) (logical ext_lanes ws) (here ++ others)
      ∙ ap (λ t. ext.sum t (pair ext (logical ext_lanes ws) (drop (length (ext_lanes w)) (here ++ others))))
      (sym (pair-take ext laws.ext_laws (ext_lanes w) (here ++ others))
      ∙ ap (λ k. pair ext (ext_lanes w) (take k (here ++ others))) same
      ∙ ap (pair ext (ext_lanes w)) (take-append_seam here others))
      ∙ ap (λ k. ext.sum (pair ext (ext_lanes w) here) (pair ext (logical ext_lanes ws) (drop k (here ++ others)))) same
      ∙ ap (λ l. ext.sum (pair ext (ext_lanes w) here) (pair ext (logical ext_lanes ws) l)) (drop-append_seam here others))

  -- the packed value whose coefficients are the dots of the columns
  pub total-dots_of_columns : (ws : List Q) (bs : List P) (q : Q) → length ws ≡ length bs → packed_coefficients q ≡ map (λ v. pair packing v bs) (columns packed_coefficients packing.zero ws dimension) → sum_of ext (ext_lanes q) ≡ pair ext (logical ext_lanes ws) (map embed (logical lanes bs))
  total-dots_of_columns ws bs q long is =
      let of = columns packed_coefficients packing.zero ws dimension in
      let many : length (columns packed_coefficients packing.zero ws dimension) ≡ dimension = sym (length-map of (λ v. pair packing v bs)) ∙ sym (ap length is) ∙ laws.packed_coefficients_are.length-parts q in
      ap (λ p. sum_of ext (ext_lanes p))
      (by_coefficients laws q (pair packed ws (map embed_packing bs))
      (λ c h.
      ap (λ l. get_or l c packing.zero) is
      ∙ get_or-map (λ v. pair packing v bs) of c [] packing.zero (rw many h)
      ∙ ap (λ v. pair packing v bs) (get_or-tabulate dimension (column_of packing.zero packed_coefficients ws) c [] h)
      ∙ sym (coefficient-dot ws bs c h long)))
      ∙ total-dot ws bs long
