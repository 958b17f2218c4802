use Rattle.std.proofs.Common.{◌≡◌, ◌+◌, ◌/◌, ◌∷◌, [], ◌++◌, ◌∙◌, length, map, take, refl, sym, ap, arith}
use Rattle.std.proofs.Math.Seq.{take-length}
use Rattle.std.proofs.lemmas.List.{length-map, take_more}
use Rattle.mlu_ring.specs.Tables.{front, line}
use Rattle.mlu_ring.proofs.Univariate.{length-front}
use Rattle.mlu_eq.proofs.prefix.fold_prefix.Goals as goal

pub loop-i-preserved : goal.loop-i-preserved
loop-i-preserved g c =
    let ring = g.EF.Additive.ring in
    let entries = map g.EF.Algebra.embed c.args.entries.now in
    let folded = front ring (line ring c.args.r) entries in
    let i = c.loop-i.i in
    let entry = c.fold_prefix_at.result in
    let long = length-front ring (line ring c.args.r) entries (length c.args.entries.now / 2) (ap (λ n. n / 2) (length-map c.args.entries.now g.EF.Algebra.embed)) in
    record {
      items = c.push_reserved.ensures.items
          ∙ ap (λ l. l ++ entry ∷ []) c.loop-i.invariant.items
          ∙ ap (λ x. take i folded ++ x ∷ []) (c.fold_prefix_at.ensures entry)
          ∙ sym (take_more folded i entry (omega (arith, long)));
      len = c.push_reserved.ensures.len ∙ ap (λ n. n + 1) c.loop-i.invariant.len;
      capacity = c.push_reserved.ensures.capacity ∙ c.loop-i.invariant.capacity;
    }

pub returns : goal.returns
returns g c =
    let ring = g.EF.Additive.ring in
    let entries = map g.EF.Algebra.embed c.args.entries.now in
    let folded = front ring (line ring c.args.r) entries in
    let long = length-front ring (line ring c.args.r) entries (length c.args.entries.now / 2) (ap (λ n. n / 2) (length-map c.args.entries.now g.EF.Algebra.embed)) in
    let all : c.loop-i.i ≡ length folded = omega (arith, long) in
    record {
      folded = c.loop-i.invariant.items ∙ ap (λ n. take n folded) all ∙ take-length folded;
      exact = c.loop-i.invariant.capacity;
      few = λ h. refl;
    }
