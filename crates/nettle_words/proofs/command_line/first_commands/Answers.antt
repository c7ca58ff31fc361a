use Rattle.std.proofs.Common.{rules, ap, ap₂, codes, true, ◌≡◌, ◌∙◌}
use Rattle.std.proofs.lemmas.Result.{IfOk-weaker}
use Rattle.clap.specs.Words.{App, app_of, with_subcommand}
use Rattle.clap.specs.Simple.{app_of_fields}
use Rattle.clap.proofs.SimpleLemmas.{plain_fields}
use Rattle.nettle_words.specs.CommandLine.{at, bare, init}
use Rattle.nettle_words.proofs.command_line.first_commands.Goals as goal

pub returns : goal.returns
returns c =
    let bare_is : app_of c.subcommand_required.result ≡ bare = search rules in
    let init_is = c.in_ok-init.ensures in
    let at_is = c.in_ok-at.ensures in
    let top = λ (a : App). a.top in
    let plain = λ (a : App). a.top.is_plain in
    let with_init = c.in_ok-subcommand.ensures.shape (plain_fields _ (ap plain init_is)).globals ∙ ap₂ with_subcommand bare_is (ap top init_is) in
    IfOk-weaker c.subcommand-2.result _ _ (λ command added. added.shape (plain_fields _ (ap plain at_is)).globals ∙ ap₂ with_subcommand with_init (ap top at_is)) c.subcommand-2.ensures
