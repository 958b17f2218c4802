use Rattle.std.proofs.Common.{◌≡◌, ◌<◌, length, string_bytes, sym, arith}
use Rattle.mlu_ext.specs.Product.{diagonal, entries_of}
use Rattle.mlu_replay_calls.specs.Elements.{IsImage}
use Rattle.mlu_replay_calls.proofs.Colons.{coefficients-written, residue-written}
use Rattle.mlu_replay_calls.proofs.element.ProductAlgebraBabyBearElement.write.Goals as goal

pub returns : goal.returns
returns g c =
    let x = c.args.self in
    let full : length (entries_of x) ≡ g.row.D = x.copies.full in
    let some : 0 < length (entries_of x) = omega (arith, full, c.if-this-eq0.false) in
    coefficients-written (string_bytes c.args.text.now) (string_bytes c.write_between.new.text) (λ word. IsImage (diagonal g.row.D) word x) (entries_of x) some c.write_between.result (rw (sym c.to_array.ensures) c.write_between.ensures)

pub returns-then-this-eq0 : goal.returns-then-this-eq0
returns-then-this-eq0 g c =
    residue-written (string_bytes c.args.text.now) (string_bytes c.write.new.text) g.row.D c.args.self c.ZERO.result c.if-this-eq0.true c.write.result c.write.ensures
