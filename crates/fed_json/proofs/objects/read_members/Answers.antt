use Rattle.std.proofs.Common.{◌≡◌, ◌+◌, ◌≤◌, length, map, ◌∙◌, sym, refl, true, arith}
use Rattle.std.proofs.lemmas.List.{take_all, drop_all, append-nil, length-map}
use Rattle.serde_json.specs.View.{view}
use Rattle.fed_json.specs.Objects.{has_names}
use Rattle.fed_json.proofs.Views.{has_names_by, other_length, object_by}
use Rattle.fed_json.proofs.objects.read_members.Goals as goal

pub returns-then-len-names-clause-named : goal.returns-then-len-names-clause-named
returns-then-len-names-clause-named c =
    let names = map (λ n. n.now) c.args.names.now in
    other_length (view c.args.value.now) c.in-Some.entries.now.entries names c.in-Some.ensures (λ same. c.if-len-names.true (c.len.ensures.len ∙ same ∙ length-map c.args.names.now (λ n. n.now)))

pub loop-index-init : goal.loop-index-init
loop-index-init c =
    let many : length c.in-Some.entries.now.entries ≡ length c.args.names.now = sym c.len.ensures.len ∙ c.if-len-names.false in
    record {
      count = rw (c.iter-name-items.ensures.rest) (omega arith);
      len = c.requires;
      named = rw (c.iter-name-items.ensures.rest) (has_names_by _ c.in-Some.entries.now.entries (map (λ n. n.now) c.args.names.now) c.in-Some.ensures);
      values = refl;
    }

pub returns-clause-members : goal.returns-clause-members
returns-clause-members c =
    let names = map (λ n. n.now) c.args.names.now in
    let count : c.loop-index.index + 0 ≡ length c.args.names.now = rw c.in-None.ensures.steps.0 at c.loop-index.invariant.count in
    let all : length c.args.names.now ≤ c.loop-index.index = omega arith in
    let every : length c.loop-index.members ≤ c.loop-index.index = rw c.loop-index.invariant.len all in
    let named : has_names names (view c.args.value.now) ≡ true = sym (rw (c.in-None.ensures.steps.0, drop_all _ _ all) at c.loop-index.invariant.named) in
    object_by (view c.args.value.now) c.in-Some.entries.now.entries names (map (λ m. view m.now) c.loop-index.members) c.in-Some.ensures named
    (sym (rw (c.in-None.ensures.steps.0, take_all _ _ every, append-nil, c.iter-name-items.ensures.rest) at c.loop-index.invariant.values))
