-- Numbers of values that are whole rows, and one row of them.
use Rattle.std.proofs.Common.{◌≡◌, ℕ, zero, suc, ◌+◌, ◌-◌, ◌*◌, ◌/◌, ◌<◌, ◌≤◌, List, map, length, take, drop, ap, sym, ◌∙◌, arith, length-take, length-drop}
use Rattle.std.proofs.Math.Nat.{mul-div_cancel, mul-div_cancel_left, mul-div-le, mul-le-mul_right, mul-sub, mul_comm}
use Rattle.std.proofs.lemmas.List.{take-map, drop-map}
use Rattle.mlu_ring.specs.Matrices.{AreRows, row_at}

pub rows_of-multiple : (n i width : ℕ) → n ≡ i * width → AreRows n width
rows_of-multiple n i zero h = omega (arith, h)
rows_of-multiple n i (suc w) h =
    let rows : n / suc w ≡ i = ap (λ m. m / suc w) h ∙ mul-div_cancel i (omega arith) in
    rw rows h

-- so many rows are not more values than there are
pub rows-fit : (n i width : ℕ) → AreRows n width → i ≤ n / width → i * width ≤ n
rows-fit n i width whole h = omega (arith, whole, mul-le-mul_right width h)

rows_apart : (m n width : ℕ) → m * width - n * width ≡ (m - n) * width
rows_apart m n width = simp (mul_comm, mul-sub)

pub rows_of-take : {X : Type 0} (xs : List X) (i width : ℕ) → AreRows (length xs) width → i ≤ length xs / width → AreRows (length (take (i * width) xs)) width
rows_of-take xs i width whole h =
    let fits = rows-fit (length xs) i width whole h in
    rows_of-multiple (length (take (i * width) xs)) i width (omega (arith, length-take (i * width) xs, fits))

pub rows_of-drop : {X : Type 0} (xs : List X) (i width : ℕ) → AreRows (length xs) width → i ≤ length xs / width → AreRows (length (drop (i * width) xs)) width
rows_of-drop xs i width whole h =
    rows_of-multiple (length (drop (i * width) xs)) (length xs / width - i) width
    (length-drop (i * width) xs ∙ ap (λ n. n - i * width) whole ∙ rows_apart (length xs / width) i width)

-- row j ends within so many rows
pub row-fits : (n rows width j : ℕ) → j < rows → rows * width ≤ n → (j + 1) * width ≤ n
row-fits n rows width j h fits =
    let within : j + 1 ≤ rows = omega (arith, h) in
    omega (arith, fits, mul-le-mul_right width within)

-- the place z of row y stands within so many rows
pub place-within : (y rows z width : ℕ) → y < rows → z < width → y * width + z < rows * width
place-within y rows z width h q = omega (arith, q, row-fits (rows * width) rows width y h (omega arith))

-- row i ends within exactly so many rows
pub row_end : (i rows width n : ℕ) → i < rows → n ≡ rows * width → i * width + width ≤ n
row_end i rows width n h is = omega (arith, row-fits n rows width i h (omega (arith, is)))

-- row j of exactly so many rows, where v is read for the width
pub row-ends : (n rows width v j : ℕ) → j < rows → n ≡ rows * width → v ≡ width → (j + 1) * v ≤ n
row-ends n rows width v j h is same = rw same (row-fits n rows width j h (omega (arith, is)))

-- so does row j of so many rows whose length is the quotient
pub row-within : (n rows j : ℕ) → j < rows → (j + 1) * (n / rows) ≤ n
row-within n rows j h = row-fits n rows (n / rows) j h (mul-div-le n rows)

-- the length of each of so many rows
pub row-width : (n rows width j : ℕ) → j < rows → n ≡ rows * width → n / rows ≡ width
row-width n rows width j h is =
    let some : 0 < rows = omega (arith, h) in
    ap (λ k. k / rows) is ∙ mul-div_cancel_left width some

module _ {A : Type 0} where
  pub length-row_at : (width : ℕ) (values : List A) (j : ℕ) → (j + 1) * width ≤ length values → length (row_at width values j) ≡ width
  length-row_at width values j h = omega (arith, length-take width (drop (j * width) values), length-drop (j * width) values, h)

  -- the row that the number of rows gives is the row of its width
  pub row_at-width : (values : List A) (rows width j : ℕ) → j < rows → length values ≡ rows * width → row_at (length values / rows) values j ≡ row_at width values j
  row_at-width values rows width j h is = ap (λ n. row_at n values j) (row-width (length values) rows width j h is)

  pub length-row_of : (values : List A) (rows width j : ℕ) → j < rows → length values ≡ rows * width → length (row_at (length values / rows) values j) ≡ width
  length-row_of values rows width j h is =
      length-row_at (length values / rows) values j (row-within (length values) rows j h) ∙ row-width (length values) rows width j h is

pub map-row_at : {A B : Type 0} (f : A → B) (width : ℕ) (values : List A) (j : ℕ) → map f (row_at width values j) ≡ row_at width (map f values) j
map-row_at f width values j = sym (take-map f width (drop (j * width) values)) ∙ ap (λ ys. take width ys) (sym (drop-map f (j * width) values))

-- row j of so many, mapped
pub map-row_of : {A B : Type 0} (f : A → B) (values : List A) (rows width j : ℕ) → j < rows → length values ≡ rows * width → map f (row_at (length values / rows) values j) ≡ row_at width (map f values) j
map-row_of f values rows width j h is = ap (map f) (row_at-width values rows width j h is) ∙ map-row_at f width values j
