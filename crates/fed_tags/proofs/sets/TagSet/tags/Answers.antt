use Rattle.std.proofs.Common.{ap, ◌∙◌, sym, subst, unwrap_or, []}
use Rattle.std.specs.BTreeMap.{is_at}
use Rattle.std.specs.List.Sorted.{IsStrictlySortedBy}
use Rattle.std.specs.Map.{lookup}
use Rattle.fed_lattice.specs.Latest.{stamp_cmp}
use Rattle.fed_tags.specs.Tags.{tags_of}
use Rattle.fed_tags.proofs.GroupLaws.{tags_pairs}
use Rattle.fed_tags.proofs.sets.TagSet.tags.Goals as goal

pub returns-in-Some-clause-tags : goal.returns-in-Some-clause-tags
returns-in-Some-clause-tags g c =
    c.as_slice.ensures.same ∙ ap (λ r. unwrap_or r []) (c.in-Some.ensures.value ∙ ap (lookup (is_at (g.T.Ord.cmp c.args.element.now))) c.deref.ensures.value)
    ∙ sym (tags_pairs g.T.Ord.cmp g.met.T.Ord.total _ c.args.element.now c.self.invariant.0)
    ∙ ap (λ xs. tags_of g.T.Ord.cmp xs c.args.element.now) c.self.view_is

pub returns-in-Some-clause-ascending : goal.returns-in-Some-clause-ascending
returns-in-Some-clause-ascending g c = subst (IsStrictlySortedBy stamp_cmp) (sym c.as_slice.ensures.same) c.as_slice.ensures.ascending

pub returns-in-None-clause-tags : goal.returns-in-None-clause-tags
returns-in-None-clause-tags g c =
    ap (λ r. unwrap_or r []) (c.in-None.ensures.value ∙ ap (lookup (is_at (g.T.Ord.cmp c.args.element.now))) c.deref.ensures.value)
    ∙ sym (tags_pairs g.T.Ord.cmp g.met.T.Ord.total _ c.args.element.now c.self.invariant.0)
    ∙ ap (λ xs. tags_of g.T.Ord.cmp xs c.args.element.now) c.self.view_is

pub returns-in-None-clause-ascending : goal.returns-in-None-clause-ascending
unfolding IsStrictlySortedBy
returns-in-None-clause-ascending g c = tt
