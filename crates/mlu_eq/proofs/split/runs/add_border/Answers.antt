use Rattle.std.proofs.Common.{◌≡◌, ◌<◌, ◌∙◌, map, length, take, sym, arith}
use Rattle.std.proofs.lemmas.Bool.Decides.{nat_tests}
use Rattle.std.proofs.lemmas.List.{take-map}
use Rattle.mlu_eq.specs.Split.{contents}
use Rattle.mlu_eq.proofs.Runs.{plus_rows-no_border, plus_rows-first, row_weight-shifted}
use Rattle.mlu_eq.proofs.split.runs.add_border.Goals as goal

pub returns-then-start-eq0 : goal.returns-then-start-eq0
returns-then-start-eq0 g c =
    let ring = g.EF.Additive.ring in
    let w = c.args.eq1.now.weights in
    let none : c.args.start ≡ 0 = grind (arith, nat_tests) in
    plus_rows-no_border ring g.met.EF.Additive.laws c.args.out.now (map g.EF.Algebra.embed c.args.rows.now) (contents ring c.args.eq0.now w) (length w) c.args.start none

pub returns : goal.returns
returns g c =
    let ring = g.EF.Additive.ring in
    let laws = g.met.EF.Additive.laws in
    let embed = g.EF.Algebra.embed in
    let w = c.args.eq1.now.weights in
    let x = c.index-eq0-start.result in
    let later : 0 < c.args.start = grind (arith, nat_tests) in
    let border = row_weight-shifted ring laws c.args.eq0.now w c.args.start x c.last_scalar.result c.mul-border.result later c.requires.within c.show_not_empty.ensures
    c.index-eq0-start.is c.last_scalar.ensures (g.met.EF.PrimeCharacteristicRing.multiplies x c.last_scalar.result c.mul-border.result c.mul-border.ensures) in
    c.add_scalar_row.ensures
    ∙ plus_rows-first ring laws c.args.out.now (map embed c.args.rows.now) (map embed (take (length c.args.out.now) c.args.rows.now)) c.mul-border.result _ border
    (sym (take-map embed (length c.args.out.now) c.args.rows.now))
