-- Lists of elements, and single elements, as words.
use Rattle.std.specs.Prelude.{◌≡◌, ◌≢◌, ℕ, List, [], ◌∷◌, ◌++◌, map, flat_map, length, decimal, slice_index}
use Rattle.std.specs.List.{join_with_byte}
use Rattle.mlu_command.specs.Elements.{Element}
use Rattle.mlu_lanes.specs.BabyBear.{canonical}

-- the decimal of the least residue
abbrev pub decimal_of : Element → List ℕ
decimal_of x = decimal (canonical x)

-- the decimals joined by commas, and `-` for none
abbrev pub text : List Element → List ℕ
text [] = 45 ∷ []
text (x ∷ xs) = join_with_byte 44 (map decimal_of (x ∷ xs))

-- the text and a line feed
abbrev pub line_of : List Element → List ℕ
line_of xs = text xs ++ (10 ∷ [])

-- a line for each element
abbrev pub lines_of : List Element → List ℕ
lines_of xs = flat_map (λ x. line_of (x ∷ [])) xs

-- the word is the text of a list of n entries
abbrev pub IsTextOf : ℕ → List ℕ → Type 0
IsTextOf n w = (xs : List Element) × (text xs ≡ w) × (length xs ≡ n)

-- the word is the text of no list
abbrev pub IsNoList : List ℕ → Type 0
IsNoList w = (xs : List Element) → text xs ≢ w

-- the word is the decimal of no element
abbrev pub IsNoDecimal : List ℕ → Type 0
IsNoDecimal w = (x : Element) → decimal_of x ≢ w

-- no plus sign in front, nor a zero before other digits
abbrev pub HasPlainStart : List ℕ → Type 0
HasPlainStart w = (slice_index w 0 ≢ 43) × (slice_index w 0 ≡ 48 → length w ≡ 1)
