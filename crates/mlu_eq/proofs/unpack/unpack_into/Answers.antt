use Rattle.std.proofs.Common.{◌≡◌, ℕ, ◌+◌, ◌-◌, ◌*◌, List, ◌++◌, length, take, drop, sym, ap, ◌∙◌, arith}
use Rattle.std.proofs.Math.Seq.{take-append_seam, drop-append_seam}
use Rattle.std.proofs.lemmas.List.{append_assoc, drop-drop, length-take-le}
use Rattle.mlu_ring.specs.Lanes.{logical}
use Rattle.mlu_ring.proofs.Logical.{length-logical, logical-take_more}
use Rattle.mlu_eq.proofs.unpack.unpack_into.Goals as goal

-- n places more of a list whose first k were written
block_written : {V : Type 0} (out done initial w : List V) (k n : ℕ) → out ≡ done ++ drop k initial → length done ≡ k
    → take k out ++ (w ++ drop (k + n - k) (drop k out)) ≡ done ++ w ++ drop (k + n) initial
block_written out done initial w k n is long =
    let front : take k out ≡ done = ap (take k) is ∙ ap (λ j. take j (done ++ drop k initial)) (sym long) ∙ take-append_seam done (drop k initial) in
    let back : drop k out ≡ drop k initial = ap (drop k) is ∙ ap (λ j. drop j (done ++ drop k initial)) (sym long) ∙ drop-append_seam done (drop k initial) in
    let count : k + n - k ≡ n = omega arith in
    ap (λ xs. xs ++ (w ++ drop (k + n - k) (drop k out))) front
    ∙ ap (λ xs. done ++ (w ++ drop (k + n - k) xs)) back
    ∙ ap (λ j. done ++ (w ++ drop j (drop k initial))) count
    ∙ ap (λ xs. done ++ (w ++ xs)) (drop-drop n k initial)
    ∙ sym (append_assoc done w (drop (k + n) initial))

pub loop-i-preserved : goal.loop-i-preserved
loop-i-preserved g c =
    let lanes = g.EF.ExtensionPacking.PackedFieldExtension.ext_lanes in
    let long = g.met.EF.ExtensionPacking.PackedFieldExtension.lanes_are.length-parts in
    let n = g.F.Packing.PackedValue.WIDTH in
    let elements = c.args.elements.now in
    let out = c.loop-i.out in
    let rest = c.args.out.now in
    let i = c.loop-i.i in
    let element = c.index-elements-i.result in
    let done = logical lanes (take i elements) in
    let size : length done ≡ i * n =
    length-logical lanes n long (take i elements) ∙ ap (λ k. k * n) (length-take-le i elements (omega (arith, c.loop-i-test.true))) in
    let next : i * n + n ≡ (i + 1) * n = omega arith in
    ap (λ k. take (i * k) out ++ (c.store_ext.new.out ++ drop (i * k + k - i * k) (drop (i * k) out))) c.WIDTH-width.ensures
    ∙ block_written out done rest c.store_ext.new.out (i * n) n c.loop-i.invariant size
    ∙ ap (λ w. done ++ w ++ drop (i * n + n) rest) (c.store_ext.ensures ∙ ap lanes c.index-elements-i.is)
    ∙ ap (λ xs. xs ++ drop (i * n + n) rest) (sym (logical-take_more lanes n long elements i element c.loop-i-test.true))
    ∙ ap (λ k. logical lanes (take (i + 1) elements) ++ drop k rest) next
