-- A look is seen as what it asks.
use Rattle.fed_looks.specs.declared.looks.Look.{Look}
use Rattle.fed_looks.specs.declared.looks.Look.TheVariants.{Why, Machine, MachineJson, Reservations, ReservationsJson, Jobs, Seen, SeenJson, Chart, Plan, PlanJson, Roster}
use Rattle.fed_looks.specs.Look.{Look as Asked, whys, machines, machines_json, reserves, reserves_json, tells, sees, sees_json, charts, plans, plans_json, rosters}

abbrev pub asked_by : Look → Asked
asked_by (Why job moment) = whys job moment
asked_by (Machine moment) = machines moment
asked_by (MachineJson moment) = machines_json moment
asked_by Reservations = reserves
asked_by ReservationsJson = reserves_json
asked_by (Jobs jobs) = tells jobs.items
asked_by Seen = sees
asked_by SeenJson = sees_json
asked_by (Chart moment) = charts moment
asked_by (Plan moment but) = plans moment but.items
asked_by (PlanJson moment but) = plans_json moment but.items
asked_by Roster = rosters
