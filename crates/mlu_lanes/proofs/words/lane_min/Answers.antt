-- The lesser of two words, from the lanes that are compared and chosen.
use Rattle.std.proofs.Common.{false, cond, ltb, get_or, ap, ◌∙◌, arith, w32}
use lib.Lanes.{zip2, sel_l}
use Rattle.std.proofs.lemmas.Simd.{tops_compared, length-zip2, get_or-sel_l, get_or-zip2}
use Rattle.std.proofs.lemmas.Bool.Decides.{nat_tests}
use Rattle.mlu_lanes.proofs.words.lane_min.Goals as goal

pub returns : goal.returns
returns g c j lt =
    let a = c.args.a in
    let b = c.args.b in
    let long = length-zip2 ltb a b (omega (arith, c.fits-a.0, c.fits-b.0)) in
    let is = ap (λ ms. sel_l ms a b) (tops_compared w32 ltb a b) in
    ap (λ l. get_or l j 0) is ∙ get_or-sel_l (zip2 ltb a b) a b j 0 (omega (arith, c.fits-a.0, long)) (omega (arith, c.fits-a.0)) (omega (arith, c.fits-b.0))
    ∙ ap (λ t. cond t (get_or a j 0) (get_or b j 0)) (get_or-zip2 ltb a b j 0 0 false (omega (arith, c.fits-a.0)) (omega (arith, c.fits-b.0)))
    ∙ grind (arith, nat_tests)
