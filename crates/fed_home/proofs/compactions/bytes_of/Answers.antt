use Rattle.std.proofs.Common.{arith}
use Rattle.fed_home.proofs.Entries.{length-at_rest, no_bytes}
use Rattle.fed_home.proofs.compactions.bytes_of.Goals as goal

pub returns : goal.returns
returns c =
    let none = no_bytes c.args.entries.now c.loop-entry.entry-index c.loop-entry-test.false in
    let all = length-at_rest c.args.entries.now in
    let small = c.loop-entry.invariant.small in
    let total = c.loop-entry.invariant.total in
    omega (arith, none, all, small, total)
