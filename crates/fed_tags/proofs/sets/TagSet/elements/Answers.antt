use Rattle.std.proofs.Common.{subst, sym, ap, ◌∙◌, ◌↔◌}
use Rattle.std.specs.Map.{keys_of}
use Rattle.fed_lattice.specs.Sets.{Has}
use Rattle.fed_lattice.specs.TableEntryLaws.{any_lookup}
use Rattle.fed_tags.specs.Tags.{IsElement}
use Rattle.fed_tags.proofs.GroupLaws.{has_key}
use Rattle.fed_tags.proofs.sets.TagSet.elements.Goals as goal

pub returns-clause-members : goal.returns-clause-members
returns-clause-members g c t =
    let keys = c.new.ensures ∙ ap (λ es. keys_of es) c.deref.ensures.value in
    subst (λ ks. Has ks t ↔ IsElement c.args.self.now t) (sym keys)
    (has_key g.T.Ord.cmp g.met.T.Ord.total g.met.T.Exact.exact _ _ _ t c.self.view_is c.self.invariant (sym (any_lookup g.T.Ord.cmp g.met.T.Ord.total t c.self.inside.groups.items)))
