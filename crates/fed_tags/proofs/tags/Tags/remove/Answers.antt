use Rattle.std.proofs.Common.{sym, ap, ◌∙◌, subst, filter, not, rules}
use Rattle.std.specs.Ordering.{is_eq}
use Rattle.std.specs.List.Sorted.{IsStrictlySortedBy}
use Rattle.std.proofs.lemmas.List.Kept.{IsStrictlySortedBy-filter}
use Rattle.fed_stamp.specs.Stamp.{StampValue}
use Rattle.fed_lattice.specs.Latest.{stamp_cmp}
use Rattle.fed_tags.proofs.StampLists.{retained_same}
use Rattle.fed_tags.proofs.tags.Tags.remove.Goals as goal

pub invariant_of-self : goal.invariant_of-self
invariant_of-self c =
    let e = retained_same _ (λ (tag : StampValue). not (is_eq (stamp_cmp tag c.args.stamp))) _ (λ x b g y h. search rules) _ _ c.retain.ensures.filtered in
    subst (IsStrictlySortedBy stamp_cmp) (sym e) (IsStrictlySortedBy-filter stamp_cmp (λ tag. not (is_eq (stamp_cmp tag c.args.stamp))) c.self.inside.stamps.items c.self.invariant)

pub returns : goal.returns
returns c =
    let e = retained_same _ (λ (tag : StampValue). not (is_eq (stamp_cmp tag c.args.stamp))) _ (λ x b g y h. search rules) _ _ c.retain.ensures.filtered in
    e ∙ ap (filter (λ (tag : StampValue). not (is_eq (stamp_cmp tag c.args.stamp)))) c.self.view_is
