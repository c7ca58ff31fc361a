use Rattle.std.proofs.Common.{◌≡◌, List, All, Some, is_some, true, false, sym, ap, ap₂, subst, length, arith, rules, vec_len, ◌∙◌}
use Rattle.std.specs.BTreeMap.{is_at}
use Rattle.std.specs.Map.{keys_of, lookup}
use Rattle.std.specs.Vec.Iter.{into_iter_items}
use Rattle.std.proofs.lemmas.List.{nil_from_length}
use Rattle.fed_lattice.specs.Table.{IsTable, filled, value_at}
use Rattle.fed_lattice.specs.TableJoinLaws.{well_formed_filled, value_at_well_formed}
use Rattle.fed_lattice.proofs.TableWrites.{in_either}
use Rattle.fed_lattice.proofs.EntryLoops.{found_each, replacing_more, replacing_there, replacing_end}
use Rattle.fed_lattice.proofs.tables.Table.replace.Goals as goal

pub loop-key-init : goal.loop-key-init
loop-key-init g c =
    let R = g.K.Ord.cmp in
    let given = c.into_iter-key-iterator.ensures.into_iter_gives in
    let all : into_iter_items c.into_iter-key-iterator.result ≡ c.args.former.items = given.0 in
    let count : vec_len c.args.former ≡ length c.args.former.items = search rules in
    let f : g.row.K.Denot → g.row.V.Denot = value_at R g.V.Causal.bottom c.args.former.items in
    let P : List (g.row.K.Denot × g.row.V.Denot) → List (g.row.K.Denot × g.row.V.Denot) → Type 0 = λ es l. All (λ (e : g.row.K.Denot × g.row.V.Denot). lookup (is_at (R e.0)) es ≡ Some e.1) l in (
      record {
        left = ap₂ (λ (es l : List (g.row.K.Denot × g.row.V.Denot)). filled R f es (keys_of l)) c.self.view_is all;
        found = subst (P c.args.former.items) (sym all) (found_each R g.met.K.Ord.total g.met.K.Exact.exact c.args.former.items c.requires.table.0);
        there = λ q i. ap (λ (es : List (g.row.K.Denot × g.row.V.Denot)). is_some (lookup (is_at (R q)) es)) c.self.view_is ∙ c.requires.there q i;
      },
      given.1 ∙ count ∙ ap length (sym all),
    )

pub loop-key-preserved : goal.loop-key-preserved
loop-key-preserved g c =
    let R = g.K.Ord.cmp in
    let p = c.loop-key.invariant in
    let n = c.in-Some.ensures.steps in
    let there = replacing_there R g.met.K.Ord.total g.met.K.Exact.exact _ _ _ _ _ _ _ _ p.0 n.0 in (
      in_either c.insert.result c.insert.ensures.entries c.insert.ensures.absent
          (λ e. replacing_more R g.met.K.Ord.total g.met.K.Exact.exact _ _ _ _ _ _ _ _ _ p.0 n.0 e)
          (λ e. absurd (let u : false ≡ true = sym (ap is_some e) ∙ there in cc)),
      omega (arith, n.1, p.1, ap length n.0),
    )

pub invariant_of-self : goal.invariant_of-self
invariant_of-self g c =
    let R = g.K.Ord.cmp in
    let o = g.met.K.Ord.total in
    let wf = g.V.Causal.well_formed in
    let p = c.loop-key.invariant in
    let e = replacing_end R o g.met.K.Exact.exact _ _ _ _ _ p.0 (nil_from_length _ (sym p.1 ∙ c.in-None.ensures.steps.0)) in
    subst (IsTable R wf) (sym e)
    (well_formed_filled R o wf _ c.args.self.now (keys_of c.args.former.items)
    (λ k. value_at_well_formed R o wf g.V.Causal.bottom g.met.V.Causal.well_formed_bottom c.args.former.items k c.requires.table)
    (subst (IsTable R wf) c.self.view_is c.self.invariant))
