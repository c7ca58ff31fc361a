use Rattle.std.proofs.Common.{sym, subst}
use Rattle.fed_board.specs.Changes.{SiteValue, IsListed}
use Rattle.fed_board.proofs.site_changes.SiteChanges.note.Goals as goal
use Rattle.fed_board.proofs.site_changes.SiteChanges.note.Goals.{then-len-jobs, else-len-jobs}

pub returns-clause-kept : goal.returns-clause-kept
returns-clause-kept c other k h = elim c.if-len-jobs.branch [
  | then-len-jobs w ↦ c.push.ensures.kept other k (subst (λ (v : SiteValue). IsListed v other k) (sym w.self-is) (w.forget_first.ensures other k h))
  | else-len-jobs w ↦ c.push.ensures.kept other k (subst (λ (v : SiteValue). IsListed v other k) (sym w.self-is) h)
]
