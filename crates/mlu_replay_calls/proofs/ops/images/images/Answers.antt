use Rattle.mlu_replay_calls.proofs.Images.{images_fit}
use Rattle.mlu_replay_calls.proofs.ops.images.images.Goals as goal

pub returns : goal.returns
returns g c = images_fit _ _ _ c.args.split.now c.to_field.result c.to_field.ensures.first c.to_field.ensures.second c.requires
