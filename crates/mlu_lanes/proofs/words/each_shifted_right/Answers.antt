-- Each lane is shifted by fewer bits than it has.
use Rattle.std.proofs.Common.{◌<◌, arith, w64}
use mir.Val.{Fits}
use Rattle.std.proofs.lemmas.Simd.{Each2-of, Each1-from_get_or}
use Rattle.mlu_lanes.proofs.words.each_shifted_right.Goals as goal

pub overflow_shr-result : goal.overflow_shr-result
overflow_shr-result g c =
    let short = Each1-from_get_or (λ bits. bits < 64) c.args.bits 0 (λ j below. c.requires j (omega (arith, c.fits-bits.0))) in
    Each2-of (Fits w64) (λ bits. bits < 64) _ (λ word bits fits few. few) c.args.words c.args.bits c.fits-words.1 short
