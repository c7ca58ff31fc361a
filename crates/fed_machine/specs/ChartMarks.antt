-- How the bars of a chart are drawn. The seconds and nodes that are shown take 900 and 400 pixels, from 60 to the right
-- and from 440 upwards.
use Rattle.std.specs.Prelude.{ℕ, ◌+◌, ◌-◌, ◌*◌, ◌/◌, List, ◌++◌, codes, length, max, min, nat_lt, if◌then◌else◌}
use Rattle.std.specs.Fmt.{decimal}
use Rattle.std.specs.List.{fold}
use Rattle.fed_qstat.specs.Identifier.{text_of_identifier}
use Rattle.fed_machine.specs.declared.chart_bars.Bar.{Bar}
use Rattle.fed_machine.specs.declared.chart_bars.Kind.{Kind}
use Rattle.fed_machine.specs.declared.chart_bars.Kind.TheVariants.{Running, Start, Head, Reservation}
use Rattle.fed_machine.specs.declared.chart_marks.Area.{Area}
use Rattle.fed_machine.specs.ChartBars.{end_of, top_of}

-- up to the last end of a bar, 4 seconds at least
abbrev pub span_in : List Bar → ℕ
span_in bars = fold (λ span b. max span (end_of b)) 4 bars

-- the nodes of the machine, and more where a bar lies above them
abbrev pub levels_in : ℕ → List Bar → ℕ
levels_in nodes bars = fold (λ levels b. max levels (top_of b)) (max nodes 1) bars

abbrev pub pixels_across : ℕ → ℕ → ℕ
pixels_across span second = min (second * 900 / span) 900

abbrev pub pixels_up : ℕ → ℕ → ℕ
pixels_up levels level = min (level * 400 / levels) 400

-- where a bar lies; it is drawn 2 pixels wide and 1 high at least
abbrev pub area_of_bar : ℕ → ℕ → Bar → Area
area_of_bar span levels b = record {
  x = 60 + pixels_across span b.from;
  y = 440 - pixels_up levels (top_of b);
  width = max (pixels_across span (end_of b) - pixels_across span b.from) 2;
  height = max (pixels_up levels (top_of b) - pixels_up levels b.bottom) 1;
}

abbrev pub class_of : Kind → List ℕ
class_of Running = codes "running"
class_of Start = codes "start"
class_of Head = codes "head"
class_of Reservation = codes "reservation"

unfoldable pub words_of : List (List ℕ × ℕ) → ℕ → Bar → List ℕ
words_of roster moment b = text_of_identifier roster b.id ++ codes ": " ++ class_of b.kind ++ codes ", nodes " ++ decimal b.nodes
    ++ codes ", from " ++ decimal (moment + b.from) ++ codes " to " ++ decimal (moment + b.from + b.seconds)

unfoldable pub text_of_rect : Area → List ℕ
text_of_rect a = codes "<rect x='" ++ decimal a.x ++ codes "' y='" ++ decimal a.y ++ codes "' width='" ++ decimal a.width
    ++ codes "' height='" ++ decimal a.height ++ codes "'/>"

-- a letter is 0.6 of its size wide: so many fit along the longer side
abbrev pub size_of_label : Area → ℕ → ℕ
size_of_label a letters = min (min (max a.width a.height * 5 / (letters * 3 + 1)) (min a.width a.height)) 14

-- by how many degrees a label is turned
abbrev pub turn_of : Area → List ℕ
turn_of a = if nat_lt a.width a.height then codes "-90" else codes "0"

-- the middle of the area, and the size of so many letters
unfoldable pub text_of_place : ℕ → Area → List ℕ
text_of_place letters a = codes "x='" ++ decimal (a.x + a.width / 2) ++ codes "' y='" ++ decimal (a.y + a.height / 2)
    ++ codes "' font-size='" ++ decimal (size_of_label a letters) ++ codes "'"

unfoldable pub text_of_turning : Area → List ℕ
text_of_turning a = codes "rotate(" ++ turn_of a ++ codes " " ++ decimal (a.x + a.width / 2) ++ codes " "
    ++ decimal (a.y + a.height / 2) ++ codes ")"

-- a label in the middle of an area
unfoldable pub text_of_label : List ℕ → Area → List ℕ
text_of_label label a = codes "<text " ++ text_of_place (length label) a ++ codes " transform='" ++ text_of_turning a
    ++ codes "'>" ++ label ++ codes "</text>"

-- a bar with its identifier; a browser shows the words at the pointer
unfoldable pub text_of_box : List (List ℕ × ℕ) → ℕ → ℕ → ℕ → Bar → List ℕ
text_of_box roster moment span levels b = codes "<g class='" ++ class_of b.kind ++ codes "'><title>" ++ words_of roster moment b
    ++ codes "</title>" ++ text_of_rect (area_of_bar span levels b)
    ++ text_of_label (text_of_identifier roster b.id) (area_of_bar span levels b)
    ++ codes "</g>\n"

-- its row in the list below the picture
unfoldable pub text_of_row : List (List ℕ × ℕ) → ℕ → Bar → List ℕ
text_of_row roster moment b = codes "<tspan x='60' dy='18' class='" ++ class_of b.kind ++ codes "'>&#9608;&#9608;</tspan> "
    ++ words_of roster moment b ++ codes "\n"
