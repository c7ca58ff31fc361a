use Rattle.std.proofs.Common.{sym, subst, ◌∙◌, All}
use Rattle.std.specs.Map.{values_of}
use Rattle.std.proofs.lemmas.List.Elements.{All-head}
use Rattle.std.proofs.lemmas.List.{nil_from_length}
use Rattle.fed_tags.specs.Groups.{IsGroup}
use Rattle.fed_tags.proofs.GroupLaws.{groups_rest}
use Rattle.fed_tags.proofs.pairs.PairsIterator.next.Goals as goal

pub invariant_of-self-in_err-stamp : goal.invariant_of-self-in_err-stamp
invariant_of-self-in_err-stamp g c =
    groups_rest _ c.in_ok-element.groups.now c.in_ok-element.field-0-0.now c.in_ok-element.ensures.cases.0 c.self.invariant

pub returns-in_err-stamp-clause-steps : goal.returns-in_err-stamp-clause-steps
returns-in_err-stamp-clause-steps g c =
    let head : IsGroup c.in_ok-element.field-0-0.now.1 = All-head IsGroup _ (values_of c.in_ok-element.groups.now) (subst (λ l. All IsGroup (values_of l)) c.in_ok-element.ensures.cases.0 c.self.invariant) in
    absurd (head.1 (sym c.as_slice.ensures.same ∙ nil_from_length _ c.in_err-stamp.ensures.cases))

pub invariant_of-self-2 : goal.invariant_of-self-2
invariant_of-self-2 g c =
    groups_rest _ c.in_ok-element.groups.now c.in_ok-element.field-0-0.now c.in_ok-element.ensures.cases.0 c.self.invariant
