use Rattle.std.proofs.Common.{◌<◌, ◌≤◌, leb, arith, rules, sym, subst}
use Rattle.std.proofs.lemmas.List.Sorted.{IsPartitionPoint-from_clause, IsPartitionedBy-leb}
use Rattle.fed_board.specs.declared.changes.Change.{Change}
use Rattle.fed_board.specs.Changes.{SiteValue, HasChange, IsFound, is_later}
use Rattle.fed_board.proofs.ChangeLists.{stands_at, stands_after, StandsAt}
use Rattle.fed_board.proofs.site_changes.SiteChanges.add_later.Goals as goal

pub returns-clause-found : goal.returns-clause-found
returns-clause-found c job k above late listed =
    let xs = c.self.inside.changes.items in
    let parted = IsPartitionedBy-leb (λ (y : Change). y.counter) xs c.args.seen c.self.invariant in
    let point = IsPartitionPoint-from_clause (λ (y : Change). leb y.counter c.args.seen) xs _ c.partition_point-start.ensures.partitioned parted (λ a r q k. search rules) in
    let h : HasChange xs job k = subst (λ (v : SiteValue). HasChange v.changes job k) (sym c.self.view_is) (listed above) in
    let at : StandsAt xs h.change = stands_at xs h.change h.listed in
    let from : c.partition_point-start.result ≤ at.index = stands_after xs _ c.args.seen h.change point (let l = h.late in omega arith) at in
    let below : at.index < c.loop-i.i = let b = at.below in let n = c.self.inside.changes.ok.0 in omega (arith, b, n, c.len-i-end.ensures, c.loop-i-test.false) in
    subst (λ q. IsFound (is_later c.args.need.now) c.args.jobs.now c.loop-i.changed q) h.of
    (subst (λ (y : Change). IsFound (is_later c.args.need.now) c.args.jobs.now c.loop-i.changed y.job) (at.is h.change) (c.loop-i.invariant.found at.index h.change from below))
