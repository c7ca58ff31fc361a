use Rattle.std.proofs.Common.{refl}
use Rattle.fed_main.specs.Thread.{MakesPacket}
use Rattle.fed_main.proofs.Threads.{Answers-one}
use Rattle.fed_main.proofs.live_sites.LiveSite.ship.Goals as goal

pub returns : goal.returns
returns g c =
    Answers-one (MakesPacket c.args.self.now.here c.args.to) _ _ _ _ _ _ (record { place = _; claim = c.in_ok-ship.ensures.ok; told = refl }) refl c.in_ok-add.ensures
