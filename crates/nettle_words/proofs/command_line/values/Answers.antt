use Rattle.std.proofs.Common.{ap, map, unwrap_or, [], ◌∙◌}
use Rattle.std.proofs.lemmas.Result.{IfOk-weaker}
use Rattle.clap.specs.Words.{found_of}
use Rattle.clap.proofs.WalkLemmas.{raw_values-rows}
use Rattle.nettle_words.proofs.command_line.values.Goals as goal

pub returns-in-Some : goal.returns-in-Some
returns-in-Some c =
    IfOk-weaker c.from_slice.result _ _ (λ found same. ap (map (λ w. w.now)) same
    ∙ ap (λ texts. unwrap_or texts []) (c.in-Some.ensures ∙ raw_values-rows (found_of c.args.matches.now) c.args.id.now)) c.from_slice.ensures.items

pub returns-in-None : goal.returns-in-None
returns-in-None c = ap (map (λ w. w.now)) c.new.ensures.items
    ∙ ap (λ texts. unwrap_or texts []) (c.in-None.ensures ∙ raw_values-rows (found_of c.args.matches.now) c.args.id.now)
