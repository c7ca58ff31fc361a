-- A picture of a site's machine, as an SVG document.
use Rattle.std.specs.Prelude.{ℕ, ◌+◌, ◌-◌, ◌*◌, ◌/◌, Bool, List, [], ◌++◌, codes, flat_map, is_some, length, Option, Some, None, if◌then◌else◌}
use Rattle.std.specs.Fmt.{decimal}
use Rattle.std.specs.List.{range_with_len}
use Rattle.fed_stamp.specs.Roster.{nodes_at}
use Rattle.fed_model.specs.View.{View}
use Rattle.fed_easy.specs.Plan.{PlanValue}
use Rattle.fed_qstat.specs.Identifier.{text_of_site}
use Rattle.fed_machine.specs.declared.chart_bars.Bar.{Bar}
use Rattle.fed_machine.specs.ChartBars.{bars_in}
use Rattle.fed_machine.specs.ChartMarks.{levels_in, pixels_up, span_in, text_of_box, text_of_row}
use Rattle.fed_easy.specs.RosterPlan.{plan_in}

-- the start of a picture with a list of so many rows
unfoldable pub text_of_head : ℕ → List ℕ
text_of_head rows = codes "<svg xmlns='http://www.w3.org/2000/svg' width='1020' height='" ++ decimal (rows * 18 + 500)
    ++ codes "' font-family='sans-serif' font-size='13'>\n"

-- the colours, and what they tell
unfoldable pub text_of_style : List ℕ
text_of_style = codes "<style>line{stroke:#ccc}line.nodes{stroke:#222;stroke-dasharray:6 4}.middle{text-anchor:middle}.end{text-anchor:end}.running{fill:#9ecae1}.start{fill:#a1d99b}.head{fill:#fdae6b}.reservation{fill:#cbb4e2}g rect{stroke:#444}g text{fill:#222;font-family:monospace;text-anchor:middle;dominant-baseline:central}</style>\n<text x='960' y='24' class='end'><tspan class='running'>&#9608;&#9608;</tspan> running <tspan class='start'>&#9608;&#9608;</tspan> start <tspan class='head'>&#9608;&#9608;</tspan> head <tspan class='reservation'>&#9608;&#9608;</tspan> reservation</text>\n"

-- that there is no plan, where there is none
abbrev pub note_of_plan : Bool → List ℕ
note_of_plan planned = if planned then [] else codes ", no plan"

-- the site, its nodes and the moment
unfoldable pub text_of_heading : List (List ℕ × ℕ) → ℕ → ℕ → ℕ → Bool → List ℕ
text_of_heading roster here moment nodes planned = codes "<text x='60' y='24' font-size='16'>" ++ text_of_site roster here
    ++ codes ": nodes " ++ decimal nodes ++ codes ", from second " ++ decimal moment ++ codes " on" ++ note_of_plan planned
    ++ codes "</text>\n"

unfoldable pub upward_line_at : ℕ → List ℕ
upward_line_at x = codes "<line x1='" ++ decimal x ++ codes "' y1='40' x2='" ++ decimal x ++ codes "' y2='446'/>"

-- a line upwards at so many quarters of the seconds that are shown, with its moment
unfoldable pub text_of_tick : ℕ → ℕ → ℕ → List ℕ
text_of_tick moment span quarters = upward_line_at (60 + 225 * quarters) ++ codes "<text x='" ++ decimal (60 + 225 * quarters)
    ++ codes "' y='462' class='middle'>" ++ decimal (moment + span * quarters / 4) ++ codes "</text>\n"

unfoldable pub level_line_at : ℕ → List ℕ
level_line_at y = codes "<line x1='60' y1='" ++ decimal y ++ codes "' x2='960' y2='" ++ decimal y ++ codes "' class='nodes'/>"

-- a line to the right at the number of the machine's nodes
unfoldable pub text_of_nodes : ℕ → ℕ → List ℕ
text_of_nodes levels nodes = level_line_at (440 - pixels_up levels nodes) ++ codes "<text x='54' y='"
    ++ decimal (440 - pixels_up levels nodes) ++ codes "' class='end'>" ++ decimal nodes ++ codes "</text>\n"

-- the words at the axes, the 0 of the nodes, and the start of the list
unfoldable pub text_of_ground : List ℕ
text_of_ground = codes "<text x='54' y='440' class='end'>0</text>\n<text x='30' y='240' class='middle' transform='rotate(-90 30 240)'>nodes</text>\n<text x='510' y='478' class='middle'>seconds</text>\n<text y='480'>\n"

unfoldable pub text_of_foot : List ℕ
text_of_foot = codes "</text>\n</svg>\n"

-- the picture of bars: the bars themselves, and a list of the same in words
abbrev pub picture_of : List (List ℕ × ℕ) → ℕ → ℕ → Bool → List Bar → List ℕ
picture_of roster here moment planned bars =
    let nodes = nodes_at roster here in let span = span_in bars in let levels = levels_in nodes bars in
    text_of_head (length bars) ++ text_of_style ++ text_of_heading roster here moment nodes planned
    ++ flat_map (text_of_tick moment span) (range_with_len 0 5) ++ flat_map (text_of_box roster moment span levels) bars
    ++ text_of_nodes levels nodes ++ text_of_ground ++ flat_map (text_of_row roster moment) bars ++ text_of_foot

-- the plan, or one that has nothing
abbrev pub plan_or_empty : Option PlanValue → PlanValue
plan_or_empty None = record { starts = []; head = None }
plan_or_empty (Some plan) = plan

-- the bars of a site's machine from a moment on
abbrev pub chart_bars : List (List ℕ × ℕ) → View → ℕ → ℕ → List Bar
chart_bars roster v here moment = bars_in v here moment (plan_or_empty (plan_in roster v here moment))

-- their picture
abbrev pub svg_of_chart : List (List ℕ × ℕ) → View → ℕ → ℕ → List ℕ
svg_of_chart roster v here moment =
    picture_of roster here moment (is_some (plan_in roster v here moment)) (chart_bars roster v here moment)
