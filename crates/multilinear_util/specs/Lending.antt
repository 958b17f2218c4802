-- What a polynomial ends as, where a `&mut` to its entries is lent.
use Rattle.std.specs.Prelude.{List, length, take, drop, ◌++◌}
use Rattle.std.specs.Borrow.{Lends, Fml, RattleType, MutBor, Array}
use Rattle.multilinear_util.specs.contracts.poly.Poly.{the_row}

-- ws as the entries in place of es; where ws has another length it is cut, or filled up from es
abbrev pub refilled : {X : Type 0} → List X → List X → List X
refilled es ws = take (length es) (ws ++ drop (length ws) es)

module _ (F : RattleType) (p : MutBor (List F.Denot)) where
  -- once the borrow r ends, the entries are those that r shows last
  abbrev pub lends_entries : MutBor (List F.Denot) → Fml
  lends_entries r = Lends (the_row F) (Array F 0) p r (refilled p.now)
