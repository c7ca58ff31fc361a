use Rattle.std.proofs.Common.{ap, arith, length, length-append, string_bytes, ◌+◌, ◌-◌, ◌++◌, ◌≡◌}
use Rattle.std.proofs.lemmas.Result.{on_ok_weaker}
use Rattle.std.specs.Str.{IsAscii}
use Rattle.fed_qstat.specs.Identifier.{text_of_identifier}
use Rattle.fed_qstat.proofs.Columns.{identifier_ascii, left-of_ascii}
use Rattle.fed_qstat.proofs.padding.push_id_column.Goals as goal

pub returns : goal.returns
returns c =
    let identifier = text_of_identifier c.args.roster.now c.args.id in
    let ascii : IsAscii identifier = identifier_ascii c.args.roster.now c.args.id c.roster_is_lawful.ensures (omega arith) (omega arith) in
    let more : string_bytes c.push_identifier.new.text ≡ string_bytes c.args.text.now ++ identifier = c.in_ok-push_identifier.ensures in
    let few : c.saturating_sub.result + 1 ≡ (18 - length identifier) + 1 = omega (arith, ap length more, length-append (string_bytes c.args.text.now) identifier, ap length c.as_str-start.ensures.value, ap length c.as_str.ensures.value) in
    on_ok_weaker c.push_spaces.result (left-of_ascii 18 (c.saturating_sub.result + 1) (string_bytes c.args.text.now) identifier _ _ ascii more few) c.push_spaces.ensures
