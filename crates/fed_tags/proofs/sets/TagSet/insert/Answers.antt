use Rattle.std.proofs.Common.{ap, sym, ◌∙◌, subst, refl}
use Rattle.std.proofs.lemmas.Result.{on_ok_weaker, on_err_weaker}
use Rattle.fed_lattice.specs.Table.{IsTable}
use Rattle.fed_lattice.proofs.TableWrites.{in_either}
use Rattle.fed_tags.specs.Groups.{pairs, IsGroup}
use Rattle.fed_tags.proofs.GroupLaws.{inserted_table, inserted_view, present_entries, absent_entries, same_entries}
use Rattle.fed_tags.proofs.Places.{found_here, written_here, none_found, put_in}
use Rattle.fed_tags.proofs.sets.TagSet.insert.Goals as goal

pub invariant_of-self : goal.invariant_of-self
invariant_of-self g c =
    let cmp = g.T.Ord.cmp in
    let o = g.met.T.Ord.total in
    let exact = g.met.T.Exact.exact in
    let found = found_here cmp o exact _ _ c.deref.ensures.value c.args.element c.in-Ok.place c.self.invariant.0 c.in-Ok.ensures.found c.index_mut.result.now c.index_mut.ensures.value in
    let written = written_here cmp o exact _ _ c.deref.ensures.value c.args.element c.in-Ok.place c.self.invariant.0 c.in-Ok.ensures.found c.index_mut.result.now c.index_mut.ensures.value c.insert.new.self in
    in_either c.insert.result c.insert.ensures.ok c.insert.ensures.unchanged
    (λ e. inserted_table cmp o exact _ _ c.args.element c.args.stamp c.self.invariant (present_entries cmp o exact _ _ _ _ _ _ c.self.invariant found written e))
    (λ e. subst (IsTable cmp IsGroup) (sym (same_entries cmp o exact _ _ _ _ _ found written e)) c.self.invariant)

pub returns-in-Ok-clause-ok : goal.returns-in-Ok-clause-ok
returns-in-Ok-clause-ok g c =
    let cmp = g.T.Ord.cmp in
    let o = g.met.T.Ord.total in
    let exact = g.met.T.Exact.exact in
    let found = found_here cmp o exact _ _ c.deref.ensures.value c.args.element c.in-Ok.place c.self.invariant.0 c.in-Ok.ensures.found c.index_mut.result.now c.index_mut.ensures.value in
    let written = written_here cmp o exact _ _ c.deref.ensures.value c.args.element c.in-Ok.place c.self.invariant.0 c.in-Ok.ensures.found c.index_mut.result.now c.index_mut.ensures.value c.insert.new.self in
    on_ok_weaker c.insert.result
    (λ e. inserted_view cmp o exact _ _ _ c.args.element c.args.stamp c.self.view_is c.self.invariant (present_entries cmp o exact _ _ _ _ _ _ c.self.invariant found written e))
    c.insert.ensures.ok

pub returns-in-Ok-clause-unchanged : goal.returns-in-Ok-clause-unchanged
returns-in-Ok-clause-unchanged g c =
    let cmp = g.T.Ord.cmp in
    let o = g.met.T.Ord.total in
    let exact = g.met.T.Exact.exact in
    let found = found_here cmp o exact _ _ c.deref.ensures.value c.args.element c.in-Ok.place c.self.invariant.0 c.in-Ok.ensures.found c.index_mut.result.now c.index_mut.ensures.value in
    let written = written_here cmp o exact _ _ c.deref.ensures.value c.args.element c.in-Ok.place c.self.invariant.0 c.in-Ok.ensures.found c.index_mut.result.now c.index_mut.ensures.value c.insert.new.self in
    on_err_weaker c.insert.result (λ e. ap (λ l. pairs l) (same_entries cmp o exact _ _ _ _ _ found written e) ∙ c.self.view_is) c.insert.ensures.unchanged

pub invariant_of-self-in-Err : goal.invariant_of-self-in-Err
invariant_of-self-in-Err g c =
    let cmp = g.T.Ord.cmp in
    let o = g.met.T.Ord.total in
    let exact = g.met.T.Exact.exact in
    let none = none_found cmp o exact _ _ c.deref.ensures.value c.args.element c.in-Err.place c.in-Err.ensures.absent in
    in_either c.put.result c.put.ensures.ok c.put.ensures.unchanged
    (λ e. inserted_table cmp o exact _ _ c.args.element c.args.stamp c.self.invariant
    (absent_entries cmp o exact _ _ _ _ _ _ refl none (e ∙ put_in cmp o exact _ _ c.deref.ensures.value c.args.element c.in-Err.place c.one-tags.result c.in-Err.ensures.absent) c.one-tags.ensures))
    (λ e. subst (IsTable cmp IsGroup) (sym e) c.self.invariant)

pub returns-in-Err-clause-ok : goal.returns-in-Err-clause-ok
returns-in-Err-clause-ok g c =
    let cmp = g.T.Ord.cmp in
    let o = g.met.T.Ord.total in
    let exact = g.met.T.Exact.exact in
    let none = none_found cmp o exact _ _ c.deref.ensures.value c.args.element c.in-Err.place c.in-Err.ensures.absent in
    on_ok_weaker c.put.result
    (λ e. inserted_view cmp o exact _ _ _ c.args.element c.args.stamp c.self.view_is c.self.invariant
    (absent_entries cmp o exact _ _ _ _ _ _ refl none (e ∙ put_in cmp o exact _ _ c.deref.ensures.value c.args.element c.in-Err.place c.one-tags.result c.in-Err.ensures.absent) c.one-tags.ensures))
    c.put.ensures.ok
