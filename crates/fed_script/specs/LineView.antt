-- A line is seen as what it says.
use Rattle.fed_script.specs.declared.script_lines.Line.{Line}
use Rattle.fed_script.specs.declared.script_lines.Line.TheVariants.{Skip, Begin, Act, List as Lists, Misuse, Ship, Take, Plan, Compare}
use Rattle.fed_script.specs.Line.{Line as Said, skips, begins, acts, lists, misuses, ships, takes, plans, compares}

abbrev pub said_by : Line → Said
said_by Skip = skips
said_by (Begin roster) = begins roster
said_by (Act site who commands) = acts site who commands.items
said_by (Lists site full jobs) = lists site full jobs.items
said_by (Misuse site fault) = misuses site fault
said_by (Ship site to) = ships site to
said_by (Take site packet) = takes site packet
said_by (Plan site moment) = plans site moment
said_by (Compare site other) = compares site other
