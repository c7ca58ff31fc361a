-- Events whose values are in range, as the types of their parts keep them.
use Rattle.std.specs.Prelude.{List, All}
use Rattle.fed_model.specs.Ranges.{IsRanged}
use Rattle.fed_model.specs.declared.events.Event.{Event}
use Rattle.fed_model.specs.declared.events.Event.TheVariants.{Do, Ship, Take}

abbrev pub IsRangedEvent : Event → Type 0
IsRangedEvent (Do site who command) = IsRanged who command
IsRangedEvent (Ship site to) = Unit {0}
IsRangedEvent (Take site packet) = Unit {0}

abbrev pub AreRanged : List Event → Type 0
AreRanged events = All IsRangedEvent events
