use Rattle.std.proofs.Common.{ℕ, ◌≡◌, ◌+◌, ◌-◌, ◌*◌, ◌<◌, ◌≤◌, [], map, length, take, ap, sym, ◌∙◌, subst, arith}
use Rattle.std.specs.Int.{div_ceil}
use Rattle.std.proofs.Math.Nat.{min-le_left, min-le_right, mul-le-mul_right}
use Rattle.std.proofs.lemmas.List.{take_all}
use Rattle.std.proofs.lemmas.Simd.{splat_is_map}
use Rattle.mlu_ring.specs.Lanes.{logical}
use Rattle.mlu_ring.proofs.Logical.{length-logical}
use Rattle.mlu_kernel.specs.Kernels.{plus_rows}
use Rattle.mlu_kernel.proofs.PlusRows.{plus_rows-none}
use Rattle.mlu_eq.specs.Split.{contents}
use Rattle.mlu_eq.proofs.Contents.{length-contents}
use Rattle.std.proofs.Math.Nat.{mul-pos}
use Rattle.mlu_eq.proofs.Runs.{run-starts, run-ends, run-some, run-closes, run-more, map-run}
use Rattle.mlu_eq.proofs.split.runs.compress_prefix_in_runs.Goals as goal

-- a run begins before the end of the first half
starts : (count l i n : ℕ) → 0 < l → n ≡ div_ceil count l → i < n → i * l < count
starts count l i n some is h = run-starts count l i some (subst (λ k. i < k) is h)

pub rows_of_run-rows-requires-clause-some : goal.rows_of_run-rows-requires-clause-some
rows_of_run-rows-requires-clause-some g c =
    let begins = starts (length c.args.eq0.now) c.args.run_length c.loop-i.i c.div_ceil-i-end.result c.requires.run c.div_ceil-i-end.ensures c.loop-i-test.true in
    subst (λ k. 0 < k) (sym c.min-run.ensures) (run-some c.args.run_length (length c.args.eq0.now - c.loop-i.i * c.args.run_length) c.requires.run (omega (arith, begins)))

pub rows_of_run-rows-requires-clause-within : goal.rows_of_run-rows-requires-clause-within
rows_of_run-rows-requires-clause-within g c =
    let begins = starts (length c.args.eq0.now) c.args.run_length c.loop-i.i c.div_ceil-i-end.result c.requires.run c.div_ceil-i-end.ensures c.loop-i-test.true in
    omega (arith, begins, c.min-run.ensures, min-le_right c.args.run_length (length c.args.eq0.now - c.loop-i.i * c.args.run_length))

pub add_run-requires-clause-some : goal.add_run-requires-clause-some
add_run-requires-clause-some g c =
    let begins = starts (length c.args.eq0.now) c.args.run_length c.loop-i.i c.div_ceil-i-end.result c.requires.run c.div_ceil-i-end.ensures c.loop-i-test.true in
    subst (λ k. 0 < k) (sym c.min-run.ensures) (run-some c.args.run_length (length c.args.eq0.now - c.loop-i.i * c.args.run_length) c.requires.run (omega (arith, begins)))

pub add_run-requires-clause-within : goal.add_run-requires-clause-within
add_run-requires-clause-within g c =
    let begins = starts (length c.args.eq0.now) c.args.run_length c.loop-i.i c.div_ceil-i-end.result c.requires.run c.div_ceil-i-end.ensures c.loop-i-test.true in
    omega (arith, begins, c.min-run.ensures, min-le_right c.args.run_length (length c.args.eq0.now - c.loop-i.i * c.args.run_length))

pub add_run-requires-clause-size : goal.add_run-requires-clause-size
add_run-requires-clause-size g c =
    let w = c.args.eq1.now.weights in
    let same = c.clear.auto.out ∙ c.loop-i.auto.accumulator ∙ c.requires.accumulator in
    c.rows_of_run-rows.ensures.size (length w * (length c.args.out.now * g.P.PrefixCompression.width)) c.requires.size
    ∙ ap (λ k. c.min-run.result * (length w * (k * g.P.PrefixCompression.width))) (sym same)

pub loop-i-init : goal.loop-i-init
loop-i-init g c =
    let ring = g.EF.Additive.ring in
    let w = c.args.eq1.now.weights in
    let old = logical g.P.PrefixCompression.lanes c.args.out.now in
    let v = g.P.PrefixCompression.moved (contents ring c.args.eq0.now w) in
    let e = map g.EF.Algebra.embed c.args.entries.now in
    let none : 0 * c.args.run_length * length w ≡ 0 = omega arith in
    sym (ap (λ k. plus_rows ring old (take k v) e) none ∙ plus_rows-none ring g.met.EF.Additive.laws old [] e (omega arith))

pub loop-i-preserved : goal.loop-i-preserved
loop-i-preserved g c =
    let ring = g.EF.Additive.ring in
    let lanes = g.P.PrefixCompression.lanes in
    let width = g.P.PrefixCompression.width in
    let long = g.met.P.PrefixCompression.lanes_are.length-parts in
    let embed = g.EF.Algebra.embed in
    let w = c.args.eq1.now.weights in
    let whole = contents ring c.args.eq0.now w in
    let n = length w in
    let m = length c.args.eq0.now in
    let l = c.args.run_length in
    let i = c.loop-i.i in
    let run = c.min-run.result in
    let s = length c.args.out.now * width in
    let some : 0 < length (contents ring c.args.eq0.now w) = subst (λ k. 0 < k) (sym (length-contents ring c.args.eq0.now w)) (mul-pos c.requires.some c.show_not_empty.ensures) in
    let size = g.met.P.PrefixCompression.length_moved whole some ∙ length-contents ring c.args.eq0.now w in
    let begins = starts m l i c.div_ceil-i-end.result c.requires.run c.div_ceil-i-end.ensures c.loop-i-test.true in
    let left = length c.args.eq0.now - c.loop-i.i * c.args.run_length in
    let room : c.loop-i.i * c.args.run_length + c.min-run.result ≤ length c.args.eq0.now = omega (arith, begins, c.min-run.ensures, min-le_right l left) in
    let short : c.min-run.result ≤ c.args.run_length = omega (arith, c.min-run.ensures, min-le_left l left) in
    let accumulators = c.loop-i.auto.accumulator ∙ c.requires.accumulator in
    let rows = map-run embed c.args.entries.now c.rows_of_run-rows.result.now (n * s) (i * l) run (c.rows_of_run-rows.ensures.exact (n * s) c.requires.size) in
    run-more g.T.Additive.ring ring g.met.EF.Additive.laws lanes width long g.met.P.PrefixCompression.lane_by_lane
    (g.P.PrefixCompression.moved whole) (map embed c.args.entries.now) (logical lanes c.args.out.now) (map embed c.rows_of_run-rows.result.now)
    c.loop-i.out c.clear.new.out c.add_run.new.out c.add_each.new.out n m l i run s (length c.args.out.now)
    size (length-logical lanes width long c.args.out.now) room short (run-closes m (i * l) l run c.min-run.ensures begins)
    (c.clear.ensures ∙ sym (splat_is_map c.loop-i.accumulator (length c.args.out.now) g.T.Additive.ring.zero accumulators))
    (sym c.loop-i.auto.out)
    (c.add_run.auto.out ∙ c.clear.auto.out ∙ accumulators ∙ sym c.loop-i.auto.out)
    c.loop-i.invariant rows c.add_run.ensures c.add_each.ensures

pub returns : goal.returns
returns g c =
    let ring = g.EF.Additive.ring in
    let w = c.args.eq1.now.weights in
    let whole = contents ring c.args.eq0.now w in
    let n = length w in
    let m = length c.args.eq0.now in
    let old = logical g.P.PrefixCompression.lanes c.args.out.now in
    let e = map g.EF.Algebra.embed c.args.entries.now in
    let done = c.loop-i.i * c.args.run_length in
    let some : 0 < length (contents ring c.args.eq0.now w) = subst (λ k. 0 < k) (sym (length-contents ring c.args.eq0.now w)) (mul-pos c.requires.some c.show_not_empty.ensures) in
    let size = g.met.P.PrefixCompression.length_moved whole some ∙ length-contents ring c.args.eq0.now w in
    let reached : length c.args.eq0.now ≤ c.loop-i.i * c.args.run_length = run-ends m c.args.run_length c.loop-i.i c.requires.run (subst (λ k. k ≤ c.loop-i.i) c.div_ceil-i-end.ensures c.loop-i-test.false) in
    let all = mul-le-mul_right n reached in
    c.loop-i.invariant ∙ ap (λ v. plus_rows ring old v e) (take_all (done * n) (g.P.PrefixCompression.moved whole) (subst (λ k. k ≤ done * n) (sym size) all))
