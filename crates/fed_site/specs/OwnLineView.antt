-- A line of a site is seen as what it says.
use Rattle.std.specs.Option.{option_map}
use Rattle.fed_script.specs.LineView.{said_by}
use Rattle.fed_looks.specs.LookView.{asked_by}
use Rattle.fed_site.specs.declared.own_lines.OwnLine.{OwnLine}
use Rattle.fed_site.specs.declared.own_lines.OwnLine.TheVariants.{Roster, Packet, Look, Line}
use Rattle.fed_site.specs.OwnLine.{OwnLine as Read, tells, carries, asks, says}

abbrev pub read_as : OwnLine → Read
read_as (Roster told) = tells told
read_as (Packet text) = carries text.now
read_as (Look look) = asks (asked_by look)
read_as (Line line) = says (option_map said_by line)
