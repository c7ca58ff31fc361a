use Rattle.std.proofs.Common.{ap, ap₂, ◌∙◌}
use Rattle.std.proofs.lemmas.Result.{IfOk-weaker}
use Rattle.clap.specs.Words.{App, with_subcommand}
use Rattle.clap.proofs.SimpleLemmas.{plain_fields}
use Rattle.nettle_words.proofs.command_line.command.Goals as goal

pub returns : goal.returns
returns c =
    let first_is = c.in_ok-first_commands.ensures in
    let serve_is = c.in_ok-serve.ensures in
    let compact_is = c.in_ok-compact.ensures in
    let check_is = c.in_ok-with_directory.ensures in
    let words_is = c.words.ensures in
    let top = λ (a : App). a.top in
    let plain = λ (a : App). a.top.is_plain in
    let with_serve = c.in_ok-subcommand.ensures.shape (plain_fields _ (ap plain serve_is)).globals ∙ ap₂ with_subcommand first_is (ap top serve_is) in
    let with_compact = c.in_ok-subcommand-2.ensures.shape (plain_fields _ (ap plain compact_is)).globals ∙ ap₂ with_subcommand with_serve (ap top compact_is) in
    let with_check = c.in_ok-subcommand-3.ensures.shape (plain_fields _ (ap plain check_is)).globals ∙ ap₂ with_subcommand with_compact (ap top check_is) in
    IfOk-weaker c.subcommand-4.result _ _ (λ command added. added.shape (plain_fields _ (ap plain words_is)).globals ∙ ap₂ with_subcommand with_check (ap top words_is)) c.subcommand-4.ensures
