use Rattle.mlu_ring.proofs.Rows.{rows_of-take, rows_of-drop}
use Rattle.mlu_ring.proofs.matrix.RowMajorMatrixView.split_rows.Goals as goal

pub new-requires : goal.new-requires
new-requires g c = rw c.split_at.ensures.front (rows_of-take c.args.self.now.values.now c.args.i c.args.self.now.width c.args.self.now.rows c.requires)

pub new-requires-2 : goal.new-requires-2
new-requires-2 g c = rw c.split_at.ensures.back (rows_of-drop c.args.self.now.values.now c.args.i c.args.self.now.width c.args.self.now.rows c.requires)
