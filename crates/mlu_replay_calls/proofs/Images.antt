-- Split tables of images.
use Rattle.std.proofs.Common.{◌≡◌, ◌*◌, ◌<◌, ◌^◌, List, map, length, sym, ap, subst, ◌∙◌, Result, Ok, Err, IfOk}
use Rattle.std.proofs.lemmas.List.{length-map}
use Rattle.mlu_ring.specs.Ring.{Ring}
use Rattle.mlu_eq.specs.Split.{contents}
use Rattle.mlu_eq.proofs.Contents.{length-contents}
use Rattle.multilinear_util.specs.Split.{Split, split_entries}

-- a table whose halves are images has as many entries
length-contents-images : {R S : Type 0} (ring : Ring R) (images : Ring S) (f : R → S) (eq0 w : List R) (first second : List S)
    → first ≡ map f eq0 → second ≡ map f w → length (contents images first second) ≡ length (contents ring eq0 w)
length-contents-images ring images f eq0 w first second is0 is1 =
    length-contents images first second
    ∙ ap (λ xs. length xs * length second) is0
    ∙ ap (λ xs. length (map f eq0) * length xs) is1
    ∙ ap (λ n. n * length (map f w)) (length-map eq0 f)
    ∙ ap (λ n. length eq0 * n) (length-map w f)
    ∙ sym (length-contents ring eq0 w)

-- so it fits where the table does
pub images_fit : {R S E : Type 0} (ring : Ring R) (images : Ring S) (f : R → S) (split : Split R) (result : Result (Split S) E)
    → IfOk result (λ s. s.eq0 ≡ map f split.eq0) → IfOk result (λ s. s.eq1.weights ≡ map f split.eq1.weights)
    → length (split_entries ring split) < 2 ^ 64 → IfOk result (λ s. length (split_entries images s) < 2 ^ 64)
images_fit ring images f split (Ok s) first second fits =
    subst (λ n. n < 2 ^ 64) (sym (length-contents-images ring images f split.eq0 split.eq1.weights s.eq0 s.eq1.weights first second)) fits
images_fit ring images f split (Err e) first second fits = tt
