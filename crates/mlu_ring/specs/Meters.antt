-- What meters have counted.
use Rattle.std.specs.Prelude.{ℕ}
use Rattle.mlu_ring.specs.declared.meter.Unmetered.{Unmetered}
use Rattle.mlu_ring.specs.declared.meter.Counter.{Counter}

-- the products that a meter without a display has made, each lane counted
abbrev pub products_of : Unmetered → ℕ
products_of meter = meter.products.count

-- its sums of four packed products
abbrev pub groups_of : Unmetered → ℕ
groups_of meter = meter.fours.count

-- the products that a counter has made, however many
abbrev pub products_counted : Counter → ℕ
products_counted counter = products_of counter.exact

-- its sums of four packed products
abbrev pub groups_counted : Counter → ℕ
groups_counted counter = groups_of counter.exact
