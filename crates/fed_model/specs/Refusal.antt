-- Refusals have numbers, in the order in which they are looked for.
use Rattle.std.specs.Prelude.{ℕ}
use Rattle.fed_model.specs.declared.refusals.Refusal.{Refusal}
use Rattle.fed_model.specs.declared.refusals.Refusal.TheVariants.{UnknownJob, NotPermitted, Gone, Granted, NotOrigin, Held, NotEligible, TakenBy, NotGranted, Begun, NotBegun, BadWindow, UnknownReservation, SiteFull, ClockFull, NoMemory, NotSettled}

abbrev pub number_of : Refusal → ℕ
number_of UnknownJob = 1
number_of NotPermitted = 2
number_of Gone = 3
number_of Granted = 4
number_of NotOrigin = 5
number_of Held = 6
number_of NotEligible = 7
number_of (TakenBy site) = 8
number_of NotGranted = 9
number_of Begun = 10
number_of NotBegun = 11
number_of BadWindow = 12
number_of UnknownReservation = 13
number_of SiteFull = 14
number_of ClockFull = 15
number_of NoMemory = 16
number_of NotSettled = 17
