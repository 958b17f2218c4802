-- Columns of coefficients, one more at a time, and rows in packed values.
use Rattle.std.proofs.Common.{◌≡◌, ℕ, ◌+◌, ◌*◌, ◌<◌, List, [], ◌∷◌, ◌++◌, map, length, take, set, ap, sym, ◌∙◌, arith, zero-add}
use Rattle.std.specs.List.{range_with_len}
use Rattle.std.proofs.lemmas.Grind.{flat_map-append}
use Rattle.std.proofs.lemmas.List.{take_more_set, map-append, append-nil}
use Rattle.std.proofs.Math.Seq.{take-add}
use Rattle.mlu_ring.specs.Lanes.{logical}
use Rattle.mlu_ring.specs.Matrices.{row_at}
use Rattle.mlu_ring.proofs.Doubling.{map_range-add}
use Rattle.mlu_ring.specs.Columns.{column_of}
use Rattle.mlu_kernel.specs.Columns.{columns}

-- one more column is written
pub columns-more : {P Q : Type 0} (coefficients : Q → List P) (z : P) (ws : List Q) (split : List (List P)) (k : ℕ) (made : List P) → k < length split → map (take (length ws)) (take k split) ≡ columns coefficients z ws k → take (length ws) made ≡ column_of z coefficients ws k
    → map (take (length ws)) (take (k + 1) (set split k made)) ≡ columns coefficients z ws (k + 1)
columns-more coefficients z ws split k made h before is =
    let front = take (length ws) in
    ap (map front) (take_more_set split k made h)
    ∙ map-append front (take k split) (made ∷ [])
    ∙ ap (λ l. l ++ front made ∷ []) before
    ∙ ap (λ v. columns coefficients z ws k ++ v ∷ []) (is ∙ ap (column_of z coefficients ws) (sym (zero-add k)))
    ∙ sym (map_range-add (column_of z coefficients ws) 0 k 1)

-- one more packed value is loaded
pub lanes-more : {P V : Type 0} (lanes : P → List V) (n : ℕ) (blocks : List P) (row loaded : List V) (i v : ℕ) (p : P) → i < length blocks → logical lanes (take i blocks) ≡ take (i * n) row → lanes p ≡ loaded → loaded ≡ row_at v row i → v ≡ n
    → logical lanes (take (i + 1) (set blocks i p)) ≡ take ((i + 1) * n) row
lanes-more lanes n blocks row loaded i v p h before loads is width =
    let next : i * n + n ≡ (i + 1) * n = omega arith in
    ap (logical lanes) (take_more_set blocks i p h)
    ∙ flat_map-append lanes (take i blocks) (p ∷ [])
    ∙ ap (λ l. l ++ (lanes p ++ [])) before
    ∙ ap (λ l. take (i * n) row ++ l) (append-nil (lanes p) ∙ loads ∙ is ∙ ap (λ w. row_at w row i) width)
    ∙ sym (take-add (i * n) n row)
    ∙ ap (λ m. take m row) next

-- one more value is written
pub values-more : {R : Type 0} (f : ℕ → R) (out : List R) (y : ℕ) (x : R) → y < length out → take y out ≡ map f (range_with_len 0 y) → x ≡ f y → take (y + 1) (set out y x) ≡ map f (range_with_len 0 (y + 1))
values-more f out y x h before is =
    take_more_set out y x h
    ∙ ap (λ l. l ++ x ∷ []) before
    ∙ ap (λ v. map f (range_with_len 0 y) ++ v ∷ []) (is ∙ ap f (sym (zero-add y)))
    ∙ sym (map_range-add f 0 y 1)
