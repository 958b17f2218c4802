use Rattle.std.proofs.Common.{◌<◌, ◌*◌, ◌∙◌, map, length, take, drop, ap, sym, subst, arith}
use Rattle.std.proofs.lemmas.List.{length-map, length-set}
use Rattle.mlu_ring.specs.Tables.{pair}
use Rattle.mlu_eq.specs.Split.{contents}
use Rattle.mlu_eq.proofs.Compressions.{back_of_dots, written_more}
use Rattle.mlu_eq.proofs.Contents.{length-contents}
use Rattle.std.proofs.Math.Nat.{mul-pos}
use Rattle.mlu_eq.proofs.RowsMapped.{row-map}
use Rattle.mlu_eq.proofs.split.suffix.compress_rows.Goals as goal

pub loop-y-preserved : goal.loop-y-preserved
loop-y-preserved g c =
    let w = c.args.eq1.now.weights in
    let ring = g.EF.Additive.ring in
    let e = map g.EF.Algebra.embed c.args.entries.now in
    let whole = contents ring c.args.eq0.now w in
    let table = g.S.SuffixCompression.moved whole in
    let places = mul-pos c.requires.some c.show_not_empty.ensures in
    let long = length-contents ring c.args.eq0.now w in
    let many = g.met.S.SuffixCompression.length_moved whole (subst (λ k. 0 < k) (sym long) places) ∙ long in
    let n = length c.args.eq0.now * length w in
    let exact = c.row_of.ensures.exact n (c.requires.size ∙ ap (λ k. k * n) (sym c.loop-y.invariant.size)) in
    let row = row-map g.EF.Algebra.embed c.args.entries.now c.row_of.result.now n c.loop-y.y exact in
    let dot = c.row_dot.ensures ∙ ap (pair ring table) (row ∙ ap (λ k. take k (drop (c.loop-y.y * k) e)) (sym many)) in
    record {
      size = length-set c.loop-y.out c.loop-y.y c.row_dot.result ∙ c.loop-y.invariant.size;
      done = written_more (λ k. pair ring table (take (length table) (drop (k * length table) e))) c.loop-y.out c.loop-y.y c.row_dot.result
          (omega (arith, c.loop-y.invariant.size)) dot c.loop-y.invariant.done;
    }

pub returns : goal.returns
returns g c =
    let w = c.args.eq1.now.weights in
    let ring = g.EF.Additive.ring in
    let whole = contents ring c.args.eq0.now w in
    let places = mul-pos c.requires.some c.show_not_empty.ensures in
    let long = length-contents ring c.args.eq0.now w in
    let many = g.met.S.SuffixCompression.length_moved whole (subst (λ k. 0 < k) (sym long) places) ∙ long in
    back_of_dots ring g.met.EF.Additive.laws (g.S.SuffixCompression.moved whole) (map g.EF.Algebra.embed c.args.entries.now) c.loop-y.out (length c.args.out.now)
    (subst (λ k. 0 < k) (sym many) places)
    (length-map c.args.entries.now g.EF.Algebra.embed ∙ c.requires.size ∙ ap (λ k. length c.args.out.now * k) (sym many))
    c.loop-y.invariant.size
    (λ k d h. c.loop-y.invariant.done k d (omega arith))
