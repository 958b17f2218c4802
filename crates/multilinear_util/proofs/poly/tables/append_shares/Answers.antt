use Rattle.std.proofs.Common.{◌≡◌, ◌+◌, ◌<◌, ◌≤◌, ◌∷◌, [], ◌++◌, ◌∙◌, length, get_or, set, sym, ap, arith}
use Rattle.std.proofs.lemmas.List.{get_or_default}
use Rattle.mlu_ring.specs.Shares.{share_of, rest_of}
use Rattle.multilinear_util.proofs.Shares.{split_first, split_first-none, split_first-read, split_first-all, split_one}
use Rattle.multilinear_util.proofs.poly.tables.append_shares.Goals as goal

pub loop-i-init : goal.loop-i-init
loop-i-init g c =
    let ring = g.R.Additive.ring in
    let e = g.R.Algebra.embed c.args.coordinate in
    record {
      items = sym (split_first-none (rest_of ring e) (share_of ring e) c.args.table.now.items);
      len = omega arith;
    }

pub loop-i-preserved : goal.loop-i-preserved
loop-i-preserved g c =
    let ring = g.R.Additive.ring in
    let e = g.R.Algebra.embed c.args.coordinate in
    let w = c.args.table.now.items in
    let i = c.loop-i.i in
    let x = c.index.result.now in
    let y = c.index-in-loop-i.result.now in
    let made = c.scale-share.result in
    let before = split_first (rest_of ring e) (share_of ring e) i w in
    let within : c.loop-i.i < length c.args.table.now.items = omega (arith, c.loop-i-test.true, c.len-i-end.ensures) in
    let reads = split_first-read (rest_of ring e) (share_of ring e) w i in
    let at_x = c.index.ensures ∙ ap (λ l. get_or l i x) c.loop-i.invariant.items ∙ reads x within in
    let at_y = c.index-in-loop-i.ensures ∙ ap (λ l. get_or l i y) c.loop-i.invariant.items ∙ reads y within in
    let same = at_y ∙ get_or_default w i y x within ∙ sym at_x in
    let left = g.met.R.Additive.subtracts y made c.sub.result c.sub.ensures ∙ ap (λ t. ring.minus t made) same ∙ ap (ring.minus x) c.scale-share.ensures in
    let len = c.in_ok-push.ensures.len in
    let count = c.loop-i.invariant.len in
    record {
      items = c.in_ok-push.ensures.items
          ∙ ap (λ l. set l i c.sub.result ++ made ∷ []) c.loop-i.invariant.items
          ∙ ap (λ t. set before i t ++ made ∷ []) left
          ∙ ap (λ t. set before i (rest_of ring e x) ++ t ∷ []) c.scale-share.ensures
          ∙ split_one (rest_of ring e) (share_of ring e) w i x within at_x;
      len = omega (arith, len, count);
    }

pub returns : goal.returns
returns g c =
    let ring = g.R.Additive.ring in
    let e = g.R.Algebra.embed c.args.coordinate in
    let end : length c.args.table.now.items ≤ c.loop-i.i = omega (arith, c.loop-i-test.false, c.len-i-end.ensures) in
    c.loop-i.invariant.items ∙ split_first-all (rest_of ring e) (share_of ring e) c.args.table.now.items c.loop-i.i end
