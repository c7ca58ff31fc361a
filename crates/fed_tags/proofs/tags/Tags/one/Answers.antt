use Rattle.std.proofs.Common.{sym, ap, ◌∙◌, subst, ◌++◌, ◌∷◌, []}
use Rattle.std.specs.List.Sorted.{IsStrictlySortedBy}
use Rattle.fed_lattice.specs.Latest.{stamp_cmp}
use Rattle.fed_tags.proofs.tags.Tags.one.Goals as goal

pub invariant_of-result : goal.invariant_of-result
unfolding IsStrictlySortedBy
invariant_of-result c =
    let e = c.push_reserved.ensures.items ∙ ap (λ xs. xs ++ c.args.stamp ∷ []) c.new-stamps.ensures.items in
    subst (IsStrictlySortedBy stamp_cmp) (sym e) (tt, tt)
