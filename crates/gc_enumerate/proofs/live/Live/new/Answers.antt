use Rattle.std.proofs.Common.{subst}
use Rattle.gc_enumerate.specs.Live.{LiveKeys, IsLiveAt}
use Rattle.gc_enumerate.proofs.Kept.{none_live}
use Rattle.gc_enumerate.proofs.live.Live.new.Goals as goal

pub returns : goal.returns
returns c key place is = none_live key place (subst (λ (live : LiveKeys). IsLiveAt live key place) c.new.ensures is)
