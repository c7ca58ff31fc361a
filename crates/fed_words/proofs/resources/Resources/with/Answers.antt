use Rattle.std.proofs.Common.{refl}
use Rattle.fed_words.proofs.Lasts.{last_resources-push}
use Rattle.fed_words.proofs.resources.Resources.with.Goals as goal

pub returns-in-Nodes : goal.returns-in-Nodes
returns-in-Nodes c = λ given e. rw (c.in-Nodes.is, e, last_resources-push) refl

pub returns-in-Limit : goal.returns-in-Limit
returns-in-Limit c = λ given e. rw (c.in-Limit.is, e, last_resources-push) refl

pub returns-in-Sites : goal.returns-in-Sites
returns-in-Sites c = λ given e. rw (c.in-Sites.is, e, last_resources-push) refl
