use Rattle.std.proofs.Common.{◌≡◌, ◌++◌, ◌∷◌, [], Err, ap, inl, inr, refl}
use Rattle.fed_stamp.specs.Word.{is_name}
use Rattle.fed_lattice.specs.Results.{mapped}
use Rattle.fed_words.specs.declared.faults.UsageFault.TheVariants.{BadValue}
use Rattle.fed_words.specs.declared.settings.Setting.{Setting}
use Rattle.fed_words.specs.declared.utilities.Choice.{Choice}
use Rattle.fed_words.specs.Kinds.{kinds_in}
use Rattle.fed_words.specs.Priority.{priority_in}
use Rattle.fed_words.specs.Setting.{settings_in}
use Rattle.fed_words.proofs.Each.{gives-either}
use Rattle.fed_words.proofs.Readings.{account-err, account-ok, made-err, made-ok, name-err, name-ok, set-fault, set-more}
use Rattle.fed_words.proofs.settings.Settings.set.Goals as goal

pub returns-in_err-read_account-in-Account : goal.returns-in_err-read_account-in-Account
returns-in_err-read_account-in-Account c = λ items e.
    let wrong : settings_in c.args.roster.now (items ++ (c.args.option, c.args.argument.now) ∷ []) ≡ Err c.in_err-read_account-in-Account.field-0.0 = rw c.in-Account.is (set-fault c.args.roster.now items c.args.self.now e Choice.Account c.args.argument.now c.in_err-read_account-in-Account.field-0.0 (account-err (is_name c.args.argument.now) c.args.argument.now BadValue c.in_err-read_account-in-Account.field-0.0 c.in_err-read_account-in-Account.ensures)) in
    gives-either _ c.from_residual.result _ c.in_err-read_account-in-Account.field-0.0 c.from_residual.ensures.1 (inr wrong)

pub returns-in_err-ok_or-in-Kinds : goal.returns-in_err-ok_or-in-Kinds
returns-in_err-ok_or-in-Kinds c = λ items e.
    let wrong : settings_in c.args.roster.now (items ++ (c.args.option, c.args.argument.now) ∷ []) ≡ Err c.in_err-ok_or-in-Kinds.field-0.0 = rw c.in-Kinds.is (set-fault c.args.roster.now items c.args.self.now e Choice.Kinds c.args.argument.now c.in_err-ok_or-in-Kinds.field-0.0 (made-err Setting.Kinds (kinds_in c.args.argument.now) BadValue c.in_err-ok_or-in-Kinds.field-0.0 (rw c.read_kinds.ensures at c.in_err-ok_or-in-Kinds.ensures.value))) in
    gives-either _ c.from_residual-in_err-ok_or-in-Kinds.result _ c.in_err-ok_or-in-Kinds.field-0.0 c.from_residual-in_err-ok_or-in-Kinds.ensures.1 (inr wrong)

pub returns-in_err-resources-in-Resources : goal.returns-in_err-resources-in-Resources
returns-in_err-resources-in-Resources c = λ items e.
    gives-either _ c.from_residual-in_err-resources-in-Resources.result _ c.in_err-resources-in-Resources.field-0.0 c.from_residual-in_err-resources-in-Resources.ensures.1 (elim c.in_err-resources-in-Resources.ensures [
      | inl refused ↦ inl refused
      | inr wrong ↦ inr (rw c.in-Resources.is (set-fault c.args.roster.now items c.args.self.now e Choice.Resources c.args.argument.now c.in_err-resources-in-Resources.field-0.0 (ap (mapped Setting.Resources) wrong)))
    ])

pub returns-in_err-ok_or-in-Name : goal.returns-in_err-ok_or-in-Name
returns-in_err-ok_or-in-Name c = λ items e.
    let wrong : settings_in c.args.roster.now (items ++ (c.args.option, c.args.argument.now) ∷ []) ≡ Err c.in_err-ok_or-in-Name.field-0.0 = rw c.in-Name.is (set-fault c.args.roster.now items c.args.self.now e Choice.Name c.args.argument.now c.in_err-ok_or-in-Name.field-0.0 (name-err (is_name c.args.argument.now) c.args.argument.now BadValue c.in_err-ok_or-in-Name.field-0.0 (rw c.new.ensures at c.in_err-ok_or-in-Name.ensures.value))) in
    gives-either _ c.from_residual-in_err-ok_or-in-Name.result _ c.in_err-ok_or-in-Name.field-0.0 c.from_residual-in_err-ok_or-in-Name.ensures.1 (inr wrong)

pub returns-in_err-ok_or-in-Priority : goal.returns-in_err-ok_or-in-Priority
returns-in_err-ok_or-in-Priority c = λ items e.
    let wrong : settings_in c.args.roster.now (items ++ (c.args.option, c.args.argument.now) ∷ []) ≡ Err c.in_err-ok_or-in-Priority.field-0.0 = rw c.in-Priority.is (set-fault c.args.roster.now items c.args.self.now e Choice.Priority c.args.argument.now c.in_err-ok_or-in-Priority.field-0.0 (made-err Setting.Priority (priority_in c.args.argument.now) BadValue c.in_err-ok_or-in-Priority.field-0.0 (rw c.read_priority.ensures at c.in_err-ok_or-in-Priority.ensures.value))) in
    gives-either _ c.from_residual-in_err-ok_or-in-Priority.result _ c.in_err-ok_or-in-Priority.field-0.0 c.from_residual-in_err-ok_or-in-Priority.ensures.1 (inr wrong)

pub returns-in_ok-read_account-in-Account : goal.returns-in_ok-read_account-in-Account
returns-in_ok-read_account-in-Account c = λ items e. rw c.in-Account.is (set-more c.args.roster.now items c.args.self.now e Choice.Account c.args.argument.now (Setting.Account c.in_ok-read_account-in-Account.field-0) (account-ok (is_name c.args.argument.now) c.args.argument.now c.in_ok-read_account-in-Account.field-0 BadValue c.in_ok-read_account-in-Account.ensures))

pub returns-in-Held : goal.returns-in-Held
returns-in-Held c = λ items e. rw c.in-Held.is (set-more c.args.roster.now items c.args.self.now e Choice.Held c.args.argument.now Setting.Held (refl))

pub returns-in_ok-ok_or-in-Kinds : goal.returns-in_ok-ok_or-in-Kinds
returns-in_ok-ok_or-in-Kinds c = λ items e. rw c.in-Kinds.is (set-more c.args.roster.now items c.args.self.now e Choice.Kinds c.args.argument.now (Setting.Kinds c.in_ok-ok_or-in-Kinds.field-0) (made-ok Setting.Kinds (kinds_in c.args.argument.now) BadValue c.in_ok-ok_or-in-Kinds.field-0 (rw c.read_kinds.ensures at c.in_ok-ok_or-in-Kinds.ensures.value)))

pub returns-in_ok-resources-in-Resources : goal.returns-in_ok-resources-in-Resources
returns-in_ok-resources-in-Resources c = λ items e. rw c.in-Resources.is (set-more c.args.roster.now items c.args.self.now e Choice.Resources c.args.argument.now (Setting.Resources c.in_ok-resources-in-Resources.resources) (ap (mapped Setting.Resources) c.in_ok-resources-in-Resources.ensures))

pub returns-in_ok-ok_or-in-Name : goal.returns-in_ok-ok_or-in-Name
returns-in_ok-ok_or-in-Name c = λ items e. rw c.in-Name.is (set-more c.args.roster.now items c.args.self.now e Choice.Name c.args.argument.now (Setting.Name c.in_ok-ok_or-in-Name.field-0) (name-ok (is_name c.args.argument.now) c.args.argument.now c.in_ok-ok_or-in-Name.field-0 BadValue (rw c.new.ensures at c.in_ok-ok_or-in-Name.ensures.value)))

pub returns-in_ok-ok_or-in-Priority : goal.returns-in_ok-ok_or-in-Priority
returns-in_ok-ok_or-in-Priority c = λ items e. rw c.in-Priority.is (set-more c.args.roster.now items c.args.self.now e Choice.Priority c.args.argument.now (Setting.Priority c.in_ok-ok_or-in-Priority.field-0) (made-ok Setting.Priority (priority_in c.args.argument.now) BadValue c.in_ok-ok_or-in-Priority.field-0 (rw c.read_priority.ensures at c.in_ok-ok_or-in-Priority.ensures.value)))

pub returns-in-Full : goal.returns-in-Full
returns-in-Full c = λ items e. rw c.in-Full.is (set-more c.args.roster.now items c.args.self.now e Choice.Full c.args.argument.now Setting.Full (refl))
