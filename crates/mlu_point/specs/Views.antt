-- What a contract sees of a borrowed point.
use Rattle.std.specs.Prelude.{List}
use Rattle.mlu_point.specs.declared.point.view.PointView.{PointView}

-- the coordinates of a view
abbrev pub coordinates : {F : Type 0} → PointView F → List F
coordinates view = view.coords.now
