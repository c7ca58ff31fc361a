use Rattle.std.proofs.Common.{◌≤◌, ◌-◌, All, length, arith, sym, subst}
use Rattle.std.specs.List.Sorted.{IsNonDecreasingBy}
use Rattle.std.proofs.lemmas.List.Sorted.{IsNonDecreasingBy-push}
use Rattle.fed_board.specs.declared.changes.Change.{Change}
use Rattle.fed_board.specs.Changes.{SiteValue, HasChange, IsListed}
use Rattle.fed_board.proofs.ChangeLists.{change_left, change_last}
use Rattle.fed_board.proofs.site_changes.SiteChanges.push.Goals as goal

pub invariant_of-self-2 : goal.invariant_of-self-2
invariant_of-self-2 c =
    let x : Change = record { counter = c.max-counter.result; job = c.args.job } in
    let most : All (λ (y : Change). y.counter ≤ c.greatest.result) c.self.inside.changes.items = subst (λ (v : SiteValue). All (λ (y : Change). y.counter ≤ c.greatest.result) v.changes) (sym c.self.view_is) c.greatest.ensures in
    subst (λ xs. IsNonDecreasingBy (λ (y : Change). y.counter) xs) (sym c.in_ok-push_back.ensures.items)
    (IsNonDecreasingBy-push (λ (y : Change). y.counter) c.self.inside.changes.items x c.self.invariant
    (λ d h. let last = most (length c.self.inside.changes.items - 1) d (omega arith) in omega (arith, last, c.max-counter.ensures)))

pub returns-clause-kept : goal.returns-clause-kept
returns-clause-kept c other k h above =
    subst (λ xs. HasChange xs other k) (sym c.in_ok-push_back.ensures.items)
    (change_left c.self.inside.changes.items _ other k (subst (λ (v : SiteValue). IsListed v other k) (sym c.self.view_is) h above))

pub returns-clause-listed : goal.returns-clause-listed
returns-clause-listed c above =
    let x : Change = record { counter = c.max-counter.result; job = c.args.job } in
    subst (λ xs. HasChange xs c.args.job c.args.counter) (sym c.in_ok-push_back.ensures.items)
    (change_last c.self.inside.changes.items x c.args.counter (omega (arith, c.max-counter.ensures)))
