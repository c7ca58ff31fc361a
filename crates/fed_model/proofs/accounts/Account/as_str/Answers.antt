use Rattle.std.proofs.Common.{Some, ap, sym, ◌∙◌}
use Rattle.fed_model.proofs.AccountLaws.{name_again}
use Rattle.fed_model.proofs.accounts.Account.as_str.Goals as goal

pub returns-in-Some-clause-again : goal.returns-in-Some-clause-again
returns-in-Some-clause-again c =
    name_again _ c.as_str.ensures.name ∙ ap (λ name. Some (Some name)) c.as_str.ensures.same ∙ ap Some (sym c.in-Some.is ∙ c.self.view_is)
