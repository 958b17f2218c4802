use Rattle.std.proofs.Common.{◌≡◌, ◌+◌}
use Rattle.std.specs.Vec.{vec_len}
use Rattle.mlu_ring.specs.Shares.{share_of, rest_of}
use Rattle.multilinear_util.proofs.Shares.{split_first}
use Rattle.multilinear_util.proofs.poly.tables.append_shares.Given as goal

abbrev pub invariant-loop-i : goal.invariant-loop-i
invariant-loop-i g l =
    let ring = g.R.Additive.ring in
    let c = g.R.Algebra.embed l.coordinate in
    record {
      items : l.table.items ≡ split_first (rest_of ring c) (share_of ring c) l.i l.initial.table.items;
      len : vec_len l.table ≡ vec_len l.initial.table + l.i;
    }
