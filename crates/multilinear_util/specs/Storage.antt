-- What a table stands for, scalar or packed.
use Rattle.std.specs.Prelude.{List, length, ⊤, IsTrue}
use Rattle.std.specs.Int.{is_power_of_two}
use Rattle.mlu_ring.specs.Lanes.{logical}
use Rattle.multilinear_util.specs.declared.poly.maybe_packed.PolyMaybePacked.{PolyMaybePacked}
use Rattle.multilinear_util.specs.declared.poly.maybe_packed.PolyMaybePacked.TheVariants.{Scalar, Packed}
use Rattle.multilinear_util.specs.declared.poly.maybe_packed.PolyMaybePackedView.{PolyMaybePackedView}
use Rattle.multilinear_util.specs.declared.poly.maybe_packed.PolyMaybePackedView.TheVariants as V

-- a power of two of values
abbrev pub IsTable : {X : Type 0} → List X → Type 0
IsTable values = IsTrue (is_power_of_two (length values))

-- the scalars of a table, the lanes of a packed one joined in order
abbrev pub scalars : {F E Q P O : Type 0} → (P → List E) → PolyMaybePacked F E Q P O → List E
scalars lanes (Scalar es) = es
scalars lanes (Packed ps) = logical lanes ps

-- the table holds scalars
abbrev pub IsScalar : {F E Q P O : Type 0} → PolyMaybePacked F E Q P O → Type 0
IsScalar (Scalar es) = ⊤
IsScalar (Packed ps) = ⊥

-- the scalars of a view
abbrev pub view_scalars : {F E Q P O : Type 0} → (P → List E) → PolyMaybePackedView F E Q P O → List E
view_scalars lanes (V.Scalar es) = es.evals.now
view_scalars lanes (V.Packed ps) = logical lanes ps.evals.now

-- the view holds scalars
abbrev pub IsScalarView : {F E Q P O : Type 0} → PolyMaybePackedView F E Q P O → Type 0
IsScalarView (V.Scalar es) = ⊤
IsScalarView (V.Packed ps) = ⊥
