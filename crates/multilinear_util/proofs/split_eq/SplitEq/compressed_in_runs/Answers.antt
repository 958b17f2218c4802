use Rattle.std.proofs.Common.{◌*◌, ◌^◌, ◌∙◌, ◌++◌, take, drop, length, ap, sym}
use Rattle.std.proofs.Math.Seq.{take-append_seam}
use Rattle.std.proofs.lemmas.List.{length-replicate}
use Rattle.mlu_ring.specs.Lanes.{logical}
use Rattle.mlu_ring.proofs.Logical.{logical-replicate}
use Rattle.mlu_eq.proofs.Compressions.{compressed}
use Rattle.multilinear_util.proofs.Splits.{halves-entries, halves-room}
use Rattle.multilinear_util.proofs.split_eq.SplitEq.compressed_in_runs.Goals as goal

pub compress_prefix_in_runs-requires-clause-accumulator : goal.compress_prefix_in_runs-requires-clause-accumulator
compress_prefix_in_runs-requires-clause-accumulator g c =
    ap length c.as_mut_slice-2.ensures.value ∙ ap length c.in_ok-accumulator.ensures ∙ sym (ap length c.as_mut_slice.ensures.value ∙ ap length c.in_ok-out.ensures)

pub compress_prefix_in_runs-requires-clause-size : goal.compress_prefix_in_runs-requires-clause-size
compress_prefix_in_runs-requires-clause-size g c =
    let width = g.P.PrefixCompression.width in
    let places = ap length c.as_mut_slice.ensures.value ∙ ap length c.in_ok-out.ensures ∙ length-replicate _ _ in
    ap length c.as_slice.ensures.value
    ∙ halves-room g.EF.Additive.ring c.args.self.now c.halves.result.0.now c.halves.result.1.now c.halves.ensures.first c.halves.ensures.second _ (2 ^ c.args.variables * width) c.requires.size
    ∙ ap (λ k. length c.halves.result.0.now * (length c.halves.result.1.now.weights * (k * width))) (sym places)

pub returns : goal.returns
returns g c =
    let ring = g.EF.Additive.ring in
    let lanes = g.P.PrefixCompression.lanes in
    let width = g.P.PrefixCompression.width in
    let new = c.compress_prefix_in_runs.new.out in
    let old = c.in_ok-out.out in
    let long = ap length (sym c.as_mut_slice.ensures.value) ∙ sym c.compress_prefix_in_runs.auto.out in
    ap (λ m. logical lanes (take m (new ++ drop (length new) old))) long
    ∙ ap (logical lanes) (take-append_seam new (drop (length new) old))
    ∙ compressed ring g.met.EF.Additive.laws g.EF.Algebra.embed g.P.PrefixCompression.moved g.met.P.PrefixCompression.length_moved
    _ _ (halves-entries ring c.args.self.now c.halves.result.0.now c.halves.result.1.now c.halves.ensures.first c.halves.ensures.second) c.requires.some
    _ c.as_slice.result.now c.as_slice.ensures.value (2 ^ c.args.variables * width) c.requires.size
    (logical lanes c.as_mut_slice.result.now) (logical lanes new)
    (ap (logical lanes) (c.as_mut_slice.ensures.value ∙ c.in_ok-out.ensures)
    ∙ logical-replicate lanes width _ _ ring.zero g.met.P.PrefixCompression.lane_by_lane.zero)
    c.compress_prefix_in_runs.ensures
