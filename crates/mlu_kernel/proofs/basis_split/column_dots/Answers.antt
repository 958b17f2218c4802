use Rattle.std.proofs.Common.{◌≡◌, ◌≤◌, ◌∙◌, List, length, map, take, refl, ap, sym, arith}
use Rattle.std.proofs.lemmas.List.{take_all}
use Rattle.mlu_ring.specs.Tables.{pair}
use Rattle.mlu_ring.proofs.Doubling.{map_twice}
use Rattle.mlu_kernel.proofs.basis_split.column_dots.Goals as goal

pub returns : goal.returns
returns g c =
    let dot = λ (v : List g.row.F-Packing.Denot). pair g.F.Packing.Additive.ring v c.args.row.now in
    let end : c.loop-k.k ≡ g.row.D = omega arith in
    let whole : length c.args.split.now ≤ c.loop-k.k = omega arith in
    c.packed_basis_dot.ensures.value
    ∙ sym (map_twice dot (λ r. r.now) (λ r. pair g.F.Packing.Additive.ring r.now c.args.row.now) (λ r. refl) (take g.row.D c.loop-k.columns))
    ∙ ap (λ k. map dot (map (λ r. r.now) (take k c.loop-k.columns))) (sym end)
    ∙ ap (map dot) (c.loop-k.invariant.so_far ∙ ap (map (take (length c.args.row.now))) (take_all c.loop-k.k c.args.split.now whole))
