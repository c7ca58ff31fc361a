use Rattle.std.proofs.Common.{refl, string_bytes}
use Rattle.fed_looks.specs.declared.looks.Look.TheVariants.{Why, Machine, MachineJson, Reservations, ReservationsJson, Chart}
use Rattle.fed_looks.specs.Reserved.{json_of_reservations, lines_of_reservations}
use Rattle.fed_looks.specs.Why.{line_of_why}
use Rattle.fed_machine.specs.Chart.{svg_of_chart}
use Rattle.fed_machine.specs.Machine.{lines_of_machine}
use Rattle.fed_machine.specs.Planned.{text_of_plan_without}
use Rattle.fed_site.specs.MachineJson.{json_of_machine}
use Rattle.fed_site.specs.PlanJson.{json_of_plan}
use Rattle.fed_site.proofs.LookCases.{told_of}
use Rattle.fed_site.proofs.look_texts.look_text.Goals as goal

pub returns-in-Why : goal.returns-in-Why
returns-in-Why c = told_of string_bytes c.why_line.result c.args.roster.now c.args.replica.now c.args.look.now c.board-board.result.now c.board-board.ensures (λ v here. line_of_why c.args.roster.now v here c.in-Why.job c.in-Why.moment) (Why c.in-Why.job c.in-Why.moment) c.site-here.result c.site-here.ensures c.in-Why.is refl c.why_line.ensures

pub returns-in-Machine : goal.returns-in-Machine
returns-in-Machine c = told_of string_bytes c.machine_lines.result c.args.roster.now c.args.replica.now c.args.look.now c.board-board.result.now c.board-board.ensures (λ v here. lines_of_machine c.args.roster.now v here c.in-Machine.moment) (Machine c.in-Machine.moment) c.site-here.result c.site-here.ensures c.in-Machine.is refl c.machine_lines.ensures

pub returns-in-MachineJson : goal.returns-in-MachineJson
returns-in-MachineJson c = told_of string_bytes c.machine_json.result c.args.roster.now c.args.replica.now c.args.look.now c.board-board.result.now c.board-board.ensures (λ v here. json_of_machine c.args.roster.now v here c.in-MachineJson.moment) (MachineJson c.in-MachineJson.moment) c.site-here.result c.site-here.ensures c.in-MachineJson.is refl c.machine_json.ensures

pub returns-in-Reservations : goal.returns-in-Reservations
returns-in-Reservations c = told_of string_bytes c.reservation_lines.result c.args.roster.now c.args.replica.now c.args.look.now c.board-board.result.now c.board-board.ensures (λ v here. lines_of_reservations c.args.roster.now v) Reservations c.site-here.result c.site-here.ensures c.in-Reservations.is refl c.reservation_lines.ensures

pub returns-in-ReservationsJson : goal.returns-in-ReservationsJson
returns-in-ReservationsJson c = told_of string_bytes c.reservations_json.result c.args.roster.now c.args.replica.now c.args.look.now c.board-board.result.now c.board-board.ensures (λ v here. json_of_reservations c.args.roster.now v) ReservationsJson c.site-here.result c.site-here.ensures c.in-ReservationsJson.is refl c.reservations_json.ensures

pub returns-in-Chart : goal.returns-in-Chart
returns-in-Chart c = told_of string_bytes c.chart_svg.result c.args.roster.now c.args.replica.now c.args.look.now c.board-board.result.now c.board-board.ensures (λ v here. svg_of_chart c.args.roster.now v here c.in-Chart.moment) (Chart c.in-Chart.moment) c.site-here.result c.site-here.ensures c.in-Chart.is refl c.chart_svg.ensures.picture

pub returns-in-Plan : goal.returns-in-Plan
returns-in-Plan c =
    told_of string_bytes c.plan_text_without.result c.args.roster.now c.args.replica.now c.args.look.now c.board-board.result.now c.board-board.ensures (λ v here. text_of_plan_without c.in-Plan.but.items c.args.roster.now v here c.in-Plan.moment) _ c.site-here.result c.site-here.ensures c.in-Plan.is refl
    (rw c.deref-in-Plan.ensures.value at c.plan_text_without.ensures)

pub returns-in-PlanJson : goal.returns-in-PlanJson
returns-in-PlanJson c =
    told_of string_bytes c.plan_json.result c.args.roster.now c.args.replica.now c.args.look.now c.board-board.result.now c.board-board.ensures (λ v here. json_of_plan c.in-PlanJson.but.items c.args.roster.now v here c.in-PlanJson.moment) _ c.site-here.result c.site-here.ensures c.in-PlanJson.is refl
    (rw c.deref-in-PlanJson.ensures.value at c.plan_json.ensures)
