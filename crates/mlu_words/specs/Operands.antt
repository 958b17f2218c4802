-- What each call demands of its operands.
use Rattle.std.specs.Prelude.{◌≡◌, ℕ, ◌+◌, ◌*◌, ◌/◌, ◌^◌, ◌<◌, Bool, IsTrue, List}
use Rattle.mlu_ring.specs.Matrices.{AreRows}
use Rattle.mlu_words.specs.Codings.{Coding, AreResidues, element_count}
use Rattle.mlu_words.specs.Outcomes.{Demands}
use Rattle.mlu_words.specs.Sizes.{AreWhole, IsOne, IsTable}

-- a table, a point with a coordinate for each of its variables, and room for an element
abbrev pub EvaluationOperands : {A B : Type 0} → Coding A → Coding B → List ℕ → List ℕ → List ℕ → Demands
EvaluationOperands a b table point out = record {
  sized = IsTable a table × AreWhole b point × IsOne b out;
  fit = element_count a table ≡ 2 ^ element_count b point;
  canonical = AreResidues table × AreResidues point;
}

-- a point, a scale, and room for a table with a variable for each coordinate
abbrev pub WeightsOperands : {B : Type 0} → Coding B → List ℕ → List ℕ → List ℕ → Demands
WeightsOperands b point scale out = record {
  sized = AreWhole b point × IsOne b scale × IsTable b out;
  fit = element_count b out ≡ 2 ^ element_count b point;
  canonical = AreResidues point × AreResidues scale;
}

-- a table that has a variable, and an element
abbrev pub FoldOperands : {B : Type 0} → Coding B → List ℕ → List ℕ → Demands
FoldOperands b table r = record {
  sized = IsTable b table × IsOne b r;
  fit = 1 < element_count b table;
  canonical = AreResidues table × AreResidues r;
}

-- a table, a point with a coordinate for some of its variables, a scale, and room for a table with the others
abbrev pub CompressionOperands : {A B : Type 0} → Coding A → Coding B → List ℕ → List ℕ → List ℕ → List ℕ → Demands
CompressionOperands a b table point scale out = record {
  sized = IsTable a table × AreWhole b point × IsOne b scale × IsTable b out;
  fit = element_count a table ≡ 2 ^ element_count b point * element_count b out;
  canonical = AreResidues table × AreResidues point × AreResidues scale;
}

-- so many entries are a table with a variable for each coordinate of the points; with no points any number will do
abbrev pub AreEntriesFor : ℕ → ℕ → ℕ → Type 0
AreEntriesFor values points entries = 0 < points → entries ≡ 2 ^ (values / points)

-- as many coordinates for each of so many points, and entries for them
abbrev pub ArePoints : ℕ → ℕ → ℕ → Type 0
ArePoints values points entries = AreRows values points × AreEntriesFor values points entries

-- the same of the elements that the words are: the coordinates, a scalar for each point, and a table
abbrev pub FitPoints : {B : Type 0} → Coding B → List ℕ → List ℕ → List ℕ → Type 0
FitPoints b values scalars table = ArePoints (element_count b values) (element_count b scalars) (element_count b table)

-- the coordinates of points, a scalar for each, and a table, which is read where the batch is added to it
abbrev pub BatchOperands : {B : Type 0} → Coding B → Bool → List ℕ → List ℕ → List ℕ → Demands
BatchOperands b adds values scalars out = record {
  sized = AreWhole b values × AreWhole b scalars × IsTable b out;
  fit = FitPoints b values scalars out;
  canonical = AreResidues values × AreResidues scalars × (IsTrue adds → AreResidues out);
}

-- a table, a point and challenges with a coordinate for each of its variables, and room for rounds of three elements and one claim more
abbrev pub ProofOperands : {B : Type 0} → Coding B → List ℕ → List ℕ → List ℕ → List ℕ → List ℕ → Demands
ProofOperands b table point challenges rounds claims = record {
  sized = IsTable b table × AreWhole b point × AreWhole b challenges × AreWhole b rounds × AreWhole b claims;
  fit =
      (element_count b table ≡ 2 ^ element_count b point) × (element_count b challenges ≡ element_count b point)
      × (element_count b rounds ≡ element_count b point * 3) × (element_count b claims ≡ element_count b point + 1);
  canonical = AreResidues table × AreResidues point × AreResidues challenges;
}

-- a claim, rounds of three elements, a challenge for each round, and room for a claim
abbrev pub VerifierOperands : {B : Type 0} → Coding B → List ℕ → List ℕ → List ℕ → List ℕ → Demands
VerifierOperands b claim rounds challenges out = record {
  sized = IsOne b claim × AreWhole b rounds × AreWhole b challenges × IsOne b out;
  fit = element_count b rounds ≡ element_count b challenges * 3;
  canonical = AreResidues claim × AreResidues rounds × AreResidues challenges;
}
