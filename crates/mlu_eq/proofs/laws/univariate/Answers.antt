use Rattle.mlu_ring.proofs.Univariate.{univariate-folds}
use Rattle.mlu_eq.proofs.laws.univariate.Goals as goal

pub returns : goal.returns
returns g c = λ y n h. univariate-folds g.R.Additive.ring g.met.R.Additive.laws n c.args.entries.now y h
