use Rattle.std.proofs.Common.{◌∷◌, ◌++◌, [], arith, refl}
use Rattle.std.specs.Fmt.{decimal}
use Rattle.std.proofs.lemmas.Fmt.{length-decimal-le}
use Rattle.fed_qstat.specs.Columns.{right_in}
use Rattle.fed_qstat.proofs.Columns.{numbers_are_text}
use Rattle.fed_qstat.proofs.padding.push_nodes_and_limit.Goals as goal

pub write_right-requires-clause-digits : goal.write_right-requires-clause-digits
write_right-requires-clause-digits c = length-decimal-le 9 c.args.limit (omega arith) (omega arith) (omega arith)

pub write_right-requires-2-clause-digits : goal.write_right-requires-2-clause-digits
write_right-requires-2-clause-digits c = length-decimal-le 8 c.args.nodes (omega arith) (omega arith) (omega arith)

pub from_utf8_unchecked-requires : goal.from_utf8_unchecked-requires
from_utf8_unchecked-requires c =
    let row = c.write_right-2.ensures (32 ∷ right_in 9 (decimal c.args.limit) ++ 32 ∷ []) (c.write_right.ensures (32 ∷ []) refl) in
    numbers_are_text _ c.args.nodes c.args.limit (omega arith) (omega arith) row
