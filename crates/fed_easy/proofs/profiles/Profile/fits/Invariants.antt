use Rattle.std.proofs.Common.{◌≡◌, drop}
use Rattle.fed_easy.proofs.Room.{has_room_in}
use Rattle.fed_easy.proofs.profiles.Profile.fits.Given as goal

abbrev pub invariant-loop-step : goal.invariant-loop-step
invariant-loop-step l = has_room_in l.most l.until l.self.steps.items ≡ has_room_in l.most l.until (drop l.step-index l.step-items)
