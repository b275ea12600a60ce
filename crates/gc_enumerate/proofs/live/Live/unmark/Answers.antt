use Rattle.std.proofs.Common.{◌≡◌, subst}
use Rattle.std.specs.FinMap as finite
use Rattle.gc_enumerate.specs.Live.{LiveKeys}
use Rattle.gc_enumerate.proofs.Kept.{unmarked}
use Rattle.gc_enumerate.proofs.live.Live.unmark.Goals as goal

pub returns : goal.returns
returns c =
    unmarked c.args.self.now c.remove.new.self c.args.key.now c.args.place.now
    (subst (λ (live : LiveKeys). c.remove.new.self ≡ finite.remove live c.args.key.now) c.self.view_is c.remove.ensures)
