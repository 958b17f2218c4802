-- The words that stand for elements, and for lists of them.
use Rattle.std.specs.Prelude.{◌≡◌, ℕ, List, [], ◌∷◌, ◌++◌, ◌==◌, codes, decimal, length, ⊤, MatchOption, MatchResult}
use Rattle.std.specs.List.{join_with_byte, slice_split}
use Rattle.std.specs.declared.option.Option.{Option}
use Rattle.std.specs.declared.result.Result.{Result}
use Rattle.mlu_replay_lines.specs.declared.fault.Reason.{Reason}
use Rattle.mlu_replay_lines.specs.declared.fault.Reason.TheVariants.{Element}
use Rattle.mlu_lanes.specs.BabyBear.{canonical}
use Rattle.mlu_lanes.specs.declared.baby_bear.BabyBear.{BabyBear}

-- words that stand for elements of some ring
module _ {T : Type 0} (Stands : List ℕ → T → Type 0) where
  -- the element that the word stands for
  abbrev pub IsElement : List ℕ → Result T Reason → Type 0
  IsElement word result = MatchResult result (λ x. Stands word x) (λ reason. (reason ≡ Element) × ((x : T) → Stands word x → ⊥))

  -- none, or the element that the word stands for
  abbrev pub IsScale : List ℕ → Result (Option T) Reason → Type 0
  IsScale word result =
      MatchResult result (λ scale. MatchOption scale (word ≡ codes "none") (λ x. Stands word x)) (λ reason. (reason ≡ Element) × ((x : T) → Stands word x → ⊥))

  -- each word stands for its element
  abbrev pub EachStands : List (List ℕ) → List T → Type 0
  EachStands [] [] = ⊤
  EachStands [] (x ∷ xs) = ⊥
  EachStands (word ∷ words) [] = ⊥
  EachStands (word ∷ words) (x ∷ xs) = Stands word x × EachStands words xs

  -- a dash for no elements, else their words between commas
  abbrev pub IsListWord : List ℕ → List T → Type 0
  IsListWord word [] = word ≡ codes "-"
  IsListWord word (x ∷ xs) = (words : List (List ℕ)) × EachStands words (x ∷ xs) × (word ≡ join_with_byte 44 words)

  -- words of the elements were appended, with a separator between
  abbrev pub IsWrittenBetween : ℕ → List ℕ → List ℕ → List T → Type 0
  IsWrittenBetween separator old new xs = (words : List (List ℕ)) × EachStands words xs × (new ≡ old ++ join_with_byte separator words)

-- residues and what is made of them
module _ {W : ℕ} where
  -- the decimal of the least residue
  abbrev pub IsResidue : List ℕ → BabyBear W → Type 0
  IsResidue word x = decimal (canonical x) ≡ word

  -- the residues, with colons between
  abbrev pub AreCoefficients : List ℕ → List (BabyBear W) → Type 0
  AreCoefficients word xs = EachStands IsResidue (slice_split (λ byte. byte == 58) word) xs

  -- so many residues with colons between, and none exactly where they are not so many or one is none
  abbrev pub ReadsCoefficients : ℕ → List ℕ → Option (List (BabyBear W)) → Type 0
  ReadsCoefficients count word result = MatchOption result ((xs : List (BabyBear W)) → length xs ≡ count → AreCoefficients word xs → ⊥) (λ xs. AreCoefficients word xs)

  -- the image of a residue
  abbrev pub IsImage : {E : Type 0} → (BabyBear W → E) → List ℕ → E → Type 0
  IsImage image word x = (c : BabyBear W) × IsResidue word c × (x ≡ image c)
