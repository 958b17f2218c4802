use Rattle.std.proofs.Common.{string_bytes, lit<}
use Rattle.mlu_lanes.specs.BabyBear.{baby_bear_ring}
use Rattle.mlu_ext.specs.Quartic.{constant, quartic_coefficients}
use Rattle.mlu_replay_calls.specs.Elements.{IsImage}
use Rattle.mlu_replay_calls.proofs.Colons.{coefficients-written}
use Rattle.mlu_replay_calls.proofs.element.QuarticExtensionBabyBearElement.write.Goals as goal

pub returns : goal.returns
returns g c =
    let x = c.args.self in
    coefficients-written (string_bytes c.args.text.now) (string_bytes c.write_between.new.text) (λ word. IsImage (constant (baby_bear_ring g.row.W).zero) word x) (quartic_coefficients x) (lit< tt) c.write_between.result c.write_between.ensures
