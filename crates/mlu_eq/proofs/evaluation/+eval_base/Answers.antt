use Rattle.std.proofs.Common.{◌∙◌, map, arith}
use Rattle.std.proofs.lemmas.List.{length-map}
use Rattle.mlu_ring.proofs.Pairs.{read-map}
use Rattle.mlu_ring.proofs.Values.{value-empty}
use Rattle.mlu_eq.proofs.Evaluations.{value-two, value-halves, map-lower, map-upper}
use Rattle.mlu_eq.proofs.evaluation.+eval_base.Goals as goal

pub returns-in-empty : goal.returns-in-empty
returns-in-empty g t c =
    let embed = g.EF.Algebra.embed in
    let entries = c.args.entries.now in
    let first = read-map embed entries 0 c.index-entries-0.result c.index-entries-0.is in
    value-empty g.EF.Additive.ring g.met.EF.Additive.laws (map embed entries) c.args.point.now c.from_base.result
    (omega arith) (length-map entries embed ∙ c.requires) (rw c.from_base.ensures first)

pub returns-in-len1 : goal.returns-in-len1
returns-in-len1 g t c =
    let embed = g.EF.Algebra.embed in
    let entries = c.args.entries.now in
    value-two g.EF.Additive.ring g.met.EF.Additive.laws (map embed entries) c.args.point.now c.last-item.result
    (embed c.index-entries-0-in-len1.result) (embed c.index-entries-1.result) c.interpolate_base.result
    (omega arith) (length-map entries embed ∙ c.requires) c.last-item.is
    (read-map embed entries 0 c.index-entries-0-in-len1.result c.index-entries-0-in-len1.is)
    (read-map embed entries 1 c.index-entries-1.result c.index-entries-1.is) c.interpolate_base.ensures

pub returns-in-len1-up : goal.returns-in-len1-up
returns-in-len1-up g t c =
    let embed = g.EF.Algebra.embed in
    let entries = c.args.entries.now in
    let split = c.split_at.ensures in
    value-halves g.EF.Additive.ring g.met.EF.Additive.laws (map embed entries) c.args.point.now (map embed c.split_at.result.0.now) (map embed c.split_at.result.1.now)
    c.first-item.result c.eval_base.result c.eval_base-in-len1-up.result c.interpolate.result
    (omega arith) (length-map entries embed ∙ c.requires) c.first-item.is
    (map-lower embed entries c.split_at.result.0.now split.front) (map-upper embed entries c.split_at.result.1.now split.back)
    c.eval_base.ensures c.eval_base-in-len1-up.ensures c.interpolate.ensures
