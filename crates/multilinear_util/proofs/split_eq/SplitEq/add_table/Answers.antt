use Rattle.std.proofs.Common.{◌≡◌, ◌∙◌, ◌++◌, map, take, drop, length, ap, sym, arith, rules}
use Rattle.std.proofs.Math.Seq.{take-append_seam}
use Rattle.std.proofs.lemmas.Grind.{common_steps}
use Rattle.std.proofs.lemmas.List.{length-map}
use Rattle.std.specs.Simd.Lanes.{zip2}
use Rattle.mlu_ring.specs.Lanes.{logical}
use Rattle.mlu_eq.proofs.Zipped.{zip_zeros}
use Rattle.multilinear_util.specs.Split.{split_entries, scale_or_one}
use Rattle.multilinear_util.proofs.split_eq.SplitEq.add_table.Goals as goal

pub returns-clause-ok : goal.returns-clause-ok
returns-clause-ok g c =
    let ring = g.EF.Additive.ring in
    let ext = g.EF.ExtensionPacking.PackedFieldExtension in
    let whole = split_entries ring c.args.self.now in
    let entries = map (ring.product (scale_or_one ring c.args.scale)) whole in
    let new = c.accumulate_into.new.out in
    let old = c.in_ok-table.table.items in
    let long : c.in_ok-table.table.len ≡ length new = first_of (search rules, grind (arith, common_steps)) in
    let count : length entries ≡ c.in-Some.entries = length-map whole (ring.product (scale_or_one ring c.args.scale)) ∙ sym c.requires ∙ search rules in
    let table : c.as_slice.result.now ≡ entries =
    c.as_slice.ensures.value
    ∙ ap (λ m. take m (new ++ drop (length new) old)) long
    ∙ take-append_seam new (drop (length new) old)
    ∙ c.accumulate_into.ensures
    ∙ ap (λ o. zip2 ring.sum o entries) (c.as_mut_slice.ensures.value ∙ c.in_ok-table.ensures.zeros)
    ∙ zip_zeros ring g.met.EF.Additive.laws c.in-Some.entries entries count in
    c.add_groups.ensures ∙ ap (λ v. zip2 ring.sum (logical ext.ext_lanes c.args.out.now) v) table
