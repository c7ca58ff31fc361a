-- The text of a look, by what is read of a site.
use Rattle.std.specs.Prelude.{ℕ, List}
use Rattle.fed_replica.specs.State.{State}
use Rattle.fed_machine.specs.Planned.{text_of_plan_without}
use Rattle.fed_machine.specs.Chart.{svg_of_chart}
use Rattle.fed_looks.specs.JobObject.{json_of_jobs}
use Rattle.fed_looks.specs.Look.{Look, whys, machines, machines_json, reserves, reserves_json, tells, sees, sees_json, charts, plans, plans_json, rosters}
use Rattle.fed_machine.specs.Machine.{lines_of_machine}
use Rattle.fed_looks.specs.Reserved.{json_of_reservations, lines_of_reservations}
use Rattle.fed_site.specs.MachineJson.{json_of_machine}
use Rattle.fed_site.specs.PlanJson.{json_of_plan}
use Rattle.fed_site.specs.Rosters.{line_of_roster}
use Rattle.fed_site.specs.Seen.{json_of_seen, lines_of_seen}
use Rattle.fed_looks.specs.Why.{line_of_why}

abbrev pub text_of_look : List (List ℕ × ℕ) → State → Look → List ℕ
text_of_look roster s (whys job moment) = line_of_why roster s.view s.site job moment
text_of_look roster s (machines moment) = lines_of_machine roster s.view s.site moment
text_of_look roster s (machines_json moment) = json_of_machine roster s.view s.site moment
text_of_look roster s reserves = lines_of_reservations roster s.view
text_of_look roster s reserves_json = json_of_reservations roster s.view
text_of_look roster s (tells jobs) = json_of_jobs roster s.view jobs
text_of_look roster s sees = lines_of_seen roster s
text_of_look roster s sees_json = json_of_seen roster s
text_of_look roster s (charts moment) = svg_of_chart roster s.view s.site moment
text_of_look roster s (plans moment but) = text_of_plan_without but roster s.view s.site moment
text_of_look roster s (plans_json moment but) = json_of_plan but roster s.view s.site moment
text_of_look roster s rosters = line_of_roster roster
