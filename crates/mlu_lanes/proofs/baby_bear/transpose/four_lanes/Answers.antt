-- The words of a column are those of a lane.
use Rattle.std.proofs.Common.{◌≡◌, ℕ, ◌+◌, List, get_or, ap, ◌∙◌, arith, lit<}
use Rattle.mlu_lanes.specs.BabyBear.{canonical, reduced, same_canonical}
use Rattle.mlu_lanes.specs.Packed.{residue_at}
use Rattle.mlu_lanes.specs.declared.baby_bear.BabyBear.{BabyBear}
use Rattle.mlu_lanes.proofs.baby_bear.transpose.four_lanes.Goals as goal

-- an element with a word that stands for an entry of a list
lane : {W : ℕ} (x : BabyBear W) (array values : List (BabyBear W)) (word n m : ℕ) → canonical x ≡ word → word ≡ residue_at array n → n ≡ m → array ≡ values → x ≡ get_or values m (reduced 0)
lane x array values word n m is read same full = same_canonical _ _ (is ∙ read ∙ ap (residue_at array) same) ∙ ap (λ l. get_or l m (reduced 0)) full

pub returns-clause-first : goal.returns-clause-first
returns-clause-first g c =
    let k = c.args.k in
    let columns = c.transposed-columns.ensures in
    let kept = c.kept_together.ensures in
    let elements = c.elements_of.ensures in
    let same : c.args.k + 0 ≡ c.args.k = omega arith in (
      lane _ c.to_array.result _ _ (k + 0) _ elements.first (kept 0 (lit< tt) ∙ columns.first.0 ∙ c.words_at.ensures.value 0 (lit< tt)) same c.to_array.ensures,
      lane _ c.to_array-2.result _ _ (k + 0) _ elements.second (kept 1 (lit< tt) ∙ columns.first.1 ∙ c.words_at-2.ensures.value 0 (lit< tt)) same c.to_array-2.ensures,
      lane _ c.to_array-3.result _ _ (k + 0) _ elements.third (kept 2 (lit< tt) ∙ columns.first.2 ∙ c.words_at-3.ensures.value 0 (lit< tt)) same c.to_array-3.ensures,
      lane _ c.to_array-4.result _ _ (k + 0) _ elements.fourth (kept 3 (lit< tt) ∙ columns.first.3 ∙ c.words_at-4.ensures.value 0 (lit< tt)) same c.to_array-4.ensures,
    )

pub returns-clause-second : goal.returns-clause-second
returns-clause-second g c =
    let k = c.args.k in
    let columns = c.transposed-columns.ensures in
    let kept = c.kept_together-2.ensures in
    let elements = c.elements_of-2.ensures in
    let same : c.args.k + 1 ≡ c.args.k + 1 = omega arith in (
      lane _ c.to_array.result _ _ (k + 1) _ elements.first (kept 0 (lit< tt) ∙ columns.second.0 ∙ c.words_at.ensures.value 1 (lit< tt)) same c.to_array.ensures,
      lane _ c.to_array-2.result _ _ (k + 1) _ elements.second (kept 1 (lit< tt) ∙ columns.second.1 ∙ c.words_at-2.ensures.value 1 (lit< tt)) same c.to_array-2.ensures,
      lane _ c.to_array-3.result _ _ (k + 1) _ elements.third (kept 2 (lit< tt) ∙ columns.second.2 ∙ c.words_at-3.ensures.value 1 (lit< tt)) same c.to_array-3.ensures,
      lane _ c.to_array-4.result _ _ (k + 1) _ elements.fourth (kept 3 (lit< tt) ∙ columns.second.3 ∙ c.words_at-4.ensures.value 1 (lit< tt)) same c.to_array-4.ensures,
    )

pub returns-clause-third : goal.returns-clause-third
returns-clause-third g c =
    let k = c.args.k in
    let columns = c.transposed-columns.ensures in
    let kept = c.kept_together-3.ensures in
    let elements = c.elements_of-3.ensures in
    let same : c.args.k + 2 ≡ c.args.k + 2 = omega arith in (
      lane _ c.to_array.result _ _ (k + 2) _ elements.first (kept 0 (lit< tt) ∙ columns.third.0 ∙ c.words_at.ensures.value 2 (lit< tt)) same c.to_array.ensures,
      lane _ c.to_array-2.result _ _ (k + 2) _ elements.second (kept 1 (lit< tt) ∙ columns.third.1 ∙ c.words_at-2.ensures.value 2 (lit< tt)) same c.to_array-2.ensures,
      lane _ c.to_array-3.result _ _ (k + 2) _ elements.third (kept 2 (lit< tt) ∙ columns.third.2 ∙ c.words_at-3.ensures.value 2 (lit< tt)) same c.to_array-3.ensures,
      lane _ c.to_array-4.result _ _ (k + 2) _ elements.fourth (kept 3 (lit< tt) ∙ columns.third.3 ∙ c.words_at-4.ensures.value 2 (lit< tt)) same c.to_array-4.ensures,
    )

pub returns-clause-fourth : goal.returns-clause-fourth
returns-clause-fourth g c =
    let k = c.args.k in
    let columns = c.transposed-columns.ensures in
    let kept = c.kept_together-4.ensures in
    let elements = c.elements_of-4.ensures in
    let same : c.args.k + 3 ≡ c.args.k + 3 = omega arith in (
      lane _ c.to_array.result _ _ (k + 3) _ elements.first (kept 0 (lit< tt) ∙ columns.fourth.0 ∙ c.words_at.ensures.value 3 (lit< tt)) same c.to_array.ensures,
      lane _ c.to_array-2.result _ _ (k + 3) _ elements.second (kept 1 (lit< tt) ∙ columns.fourth.1 ∙ c.words_at-2.ensures.value 3 (lit< tt)) same c.to_array-2.ensures,
      lane _ c.to_array-3.result _ _ (k + 3) _ elements.third (kept 2 (lit< tt) ∙ columns.fourth.2 ∙ c.words_at-3.ensures.value 3 (lit< tt)) same c.to_array-3.ensures,
      lane _ c.to_array-4.result _ _ (k + 3) _ elements.fourth (kept 3 (lit< tt) ∙ columns.fourth.3 ∙ c.words_at-4.ensures.value 3 (lit< tt)) same c.to_array-4.ensures,
    )
