use Rattle.std.proofs.Common.{◌∙◌, ap, arith, length, string_bytes, ◌+◌, ◌-◌, ◌++◌, ◌≡◌}
use Rattle.std.proofs.lemmas.Result.{on_ok_weaker}
use Rattle.std.specs.Str.{IsAscii}
use Rattle.fed_stamp.proofs.WordLemmas.{name_ascii}
use Rattle.fed_qstat.proofs.Columns.{left-of_ascii}
use Rattle.fed_qstat.proofs.padding.push_word.Goals as goal

pub returns : goal.returns
returns c =
    let name : c.as_str-name.result.now ≡ c.args.word.now = c.as_str-name.ensures.same in
    let ascii : IsAscii c.args.word.now = name_ascii c.args.word.now (rw name at c.as_str-name.ensures.name) in
    let first : string_bytes c.push_str.new.self ≡ string_bytes c.args.text.now ++ c.args.word.now = c.in_ok-push_str.ensures.bytes ∙ ap (λ t. string_bytes c.args.text.now ++ t) name in
    let few : c.saturating_sub.result + 1 ≡ (16 - length c.args.word.now) + 1 = omega (arith, ap length name) in
    on_ok_weaker c.push_spaces.result (left-of_ascii 16 (c.saturating_sub.result + 1) (string_bytes c.args.text.now) c.args.word.now _ _ ascii first few) c.push_spaces.ensures
