use Rattle.std.proofs.Common.{◌≡◌, ◌++◌, string_bytes}
use Rattle.fed_looks.specs.Reserved.{line_of_window}
use Rattle.fed_looks.proofs.Entries.{said_of}
use Rattle.fed_looks.proofs.reserved.reservation_lines.Given as goal

abbrev pub invariant-loop-id : goal.invariant-loop-id
invariant-loop-id l = string_bytes l.text ++ said_of (line_of_window l.roster) l.id-iterator ≡ said_of (line_of_window l.roster) l.board.reservations
