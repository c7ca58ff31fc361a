use Rattle.std.proofs.Common.{rules, ap, ap₂, codes, ◌≡◌, ◌∙◌}
use Rattle.std.proofs.lemmas.Result.{IfOk-weaker}
use Rattle.clap.specs.Words.{app_of, new_app, rule_of, with_rule}
use Rattle.clap.specs.Simple.{app_of_fields}
use Rattle.nettle_words.specs.CommandLine.{required}
use Rattle.nettle_words.proofs.command_line.with_directory.Goals as goal

pub returns : goal.returns
returns c =
    let argument_is : rule_of c.help-directory.result ≡ required (codes "DIR") = search rules in
    let bare_is : app_of c.about.result ≡ new_app c.args.name.now = ap app_of_fields c.about.ensures ∙ c.new-2.ensures.app in
    IfOk-weaker c.arg.result _ _ (λ command added. added.shape (search rules) ∙ ap₂ with_rule bare_is argument_is) c.arg.ensures
