use Rattle.std.proofs.Common.{sym, ◌∙◌, ◌≢◌, [], refl, subst}
use Rattle.std.specs.BTreeMap.{is_at}
use Rattle.std.specs.List.Sorted.{IsStrictlySortedBy}
use Rattle.std.specs.Map.{keys_of}
use Rattle.fed_lattice.proofs.EntryLoops.{sorted_removed}
use Rattle.fed_tags.proofs.GroupLaws.{absent_view, removed_table, removed_view, gone_table, gone_view, remove_set}
use Rattle.fed_tags.proofs.Places.{none_found, found_here, written_here, taken_here}
use Rattle.fed_tags.proofs.sets.TagSet.remove_one.Goals as goal

pub returns-in_default : goal.returns-in_default
returns-in_default g c =
    sym c.self.view_is ∙ absent_view g.T.Ord.cmp g.met.T.Ord.total g.met.T.Exact.exact _ _ _ c.args.element c.args.stamp c.self.view_is c.self.invariant
    (none_found g.T.Ord.cmp g.met.T.Ord.total g.met.T.Exact.exact _ _ c.deref.ensures.value c.args.element c.in_default.field-0 c.in_default.ensures.absent) refl

pub invariant_of-self : goal.invariant_of-self
invariant_of-self g c =
    let cmp = g.T.Ord.cmp in
    let o = g.met.T.Ord.total in
    let exact = g.met.T.Exact.exact in
    let es = c.self.inside.groups.items in
    let w = c.remove.new.self in
    let x = c.index_mut.result.now in
    let taken = c.remove-then-is_empty.ensures.items ∙ taken_here cmp o exact es _ c.deref.ensures.value c.args.element c.in-Ok.place c.self.invariant.0 c.in-Ok.ensures.found x c.index_mut.ensures.value (x.0, w) w in
    let ascends = subst (λ l. IsStrictlySortedBy cmp (keys_of l)) (sym (taken ∙ remove_set cmp o exact es (is_at (cmp c.args.element)) w)) (sorted_removed cmp (is_at (cmp c.args.element)) es c.self.invariant.0) in
    gone_table cmp o exact es _ c.remove-then-is_empty.new.self.items c.args.element w c.self.invariant refl taken ascends

pub invariant_of-self-else-is_empty : goal.invariant_of-self-else-is_empty
invariant_of-self-else-is_empty g c =
    let cmp = g.T.Ord.cmp in
    let o = g.met.T.Ord.total in
    let exact = g.met.T.Exact.exact in
    let found = found_here cmp o exact _ _ c.deref.ensures.value c.args.element c.in-Ok.place c.self.invariant.0 c.in-Ok.ensures.found c.index_mut.result.now c.index_mut.ensures.value in
    let written = written_here cmp o exact _ _ c.deref.ensures.value c.args.element c.in-Ok.place c.self.invariant.0 c.in-Ok.ensures.found c.index_mut.result.now c.index_mut.ensures.value c.remove.new.self in
    let left : c.remove.new.self ≢ [] = λ e. let t = c.is_empty.ensures.1 e in let f = c.if-is_empty.false in cc in
    removed_table cmp o exact _ _ c.args.element _ _ c.args.stamp c.self.invariant found written c.remove.ensures left

pub returns-then-is_empty : goal.returns-then-is_empty
returns-then-is_empty g c =
    let cmp = g.T.Ord.cmp in
    let o = g.met.T.Ord.total in
    let exact = g.met.T.Exact.exact in
    let es = c.self.inside.groups.items in
    let w = c.remove.new.self in
    let x = c.index_mut.result.now in
    let found = found_here cmp o exact es _ c.deref.ensures.value c.args.element c.in-Ok.place c.self.invariant.0 c.in-Ok.ensures.found x c.index_mut.ensures.value in
    let taken = c.remove-then-is_empty.ensures.items ∙ taken_here cmp o exact es _ c.deref.ensures.value c.args.element c.in-Ok.place c.self.invariant.0 c.in-Ok.ensures.found x c.index_mut.ensures.value (x.0, w) w in
    let ascends = subst (λ l. IsStrictlySortedBy cmp (keys_of l)) (sym (taken ∙ remove_set cmp o exact es (is_at (cmp c.args.element)) w)) (sorted_removed cmp (is_at (cmp c.args.element)) es c.self.invariant.0) in
    gone_view cmp o exact es _ c.remove-then-is_empty.new.self.items _ c.args.element _ w c.args.stamp c.self.view_is c.self.invariant found refl c.remove.ensures (c.is_empty.ensures.0 c.if-is_empty.true) taken ascends

pub returns-else-is_empty : goal.returns-else-is_empty
returns-else-is_empty g c =
    let cmp = g.T.Ord.cmp in
    let o = g.met.T.Ord.total in
    let exact = g.met.T.Exact.exact in
    let found = found_here cmp o exact _ _ c.deref.ensures.value c.args.element c.in-Ok.place c.self.invariant.0 c.in-Ok.ensures.found c.index_mut.result.now c.index_mut.ensures.value in
    let written = written_here cmp o exact _ _ c.deref.ensures.value c.args.element c.in-Ok.place c.self.invariant.0 c.in-Ok.ensures.found c.index_mut.result.now c.index_mut.ensures.value c.remove.new.self in
    let left : c.remove.new.self ≢ [] = λ e. let t = c.is_empty.ensures.1 e in let f = c.if-is_empty.false in cc in
    removed_view cmp o exact _ _ _ c.args.element _ _ c.args.stamp c.self.view_is c.self.invariant found written c.remove.ensures left
