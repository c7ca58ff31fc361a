use Rattle.std.proofs.Common.{sym, ap, ◌∙◌, subst}
use Rattle.std.specs.List.Sorted.{IsStrictlySortedBy}
use Rattle.std.specs.BTreeSet.{insert_key}
use Rattle.fed_lattice.specs.Latest.{stamp_cmp}
use Rattle.fed_lattice.specs.LatestLaws.{stamp_total}
use Rattle.fed_lattice.specs.ExactLaws.{exact_stamp}
use Rattle.fed_lattice.specs.KeySetLaws.{sorted_insert_key}
use Rattle.fed_tags.proofs.StampLists.{insert_found, insert_same_found}
use Rattle.fed_tags.proofs.tags.Tags.insert.Goals as goal

pub invariant_of-self : goal.invariant_of-self
invariant_of-self c =
    let e = c.in_ok-insert.ensures.ok ∙ insert_found stamp_cmp stamp_total _ _ c.in-Err.place c.args.stamp c.as_slice.ensures c.self.invariant c.in-Err.ensures.bound c.in-Err.ensures.position in
    subst (IsStrictlySortedBy stamp_cmp) (sym e) (sorted_insert_key stamp_cmp stamp_total c.self.inside.stamps.items c.args.stamp c.self.invariant)

pub returns-in_ok-insert-clause-ok : goal.returns-in_ok-insert-clause-ok
returns-in_ok-insert-clause-ok c =
    c.in_ok-insert.ensures.ok
    ∙ insert_found stamp_cmp stamp_total _ _ c.in-Err.place c.args.stamp c.as_slice.ensures c.self.invariant c.in-Err.ensures.bound c.in-Err.ensures.position
    ∙ ap (λ (xs : _). insert_key stamp_cmp xs c.args.stamp) c.self.view_is

pub returns-in_default-clause-ok : goal.returns-in_default-clause-ok
returns-in_default-clause-ok c =
    let e = insert_same_found stamp_cmp stamp_total exact_stamp _ _ c.in_default.field-0 c.args.stamp c.as_slice.ensures c.self.invariant c.in_default.ensures.bound c.in_default.ensures.ok in
    sym c.self.view_is ∙ e ∙ ap (λ (xs : _). insert_key stamp_cmp xs c.args.stamp) c.self.view_is
