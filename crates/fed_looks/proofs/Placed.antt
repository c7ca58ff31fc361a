-- A job that nothing keeps from the queue is in it, and no other.
use Rattle.std.specs.Prelude.{nat_le}
use Rattle.std.proofs.Common.{◌≡◌, ◌↔◌, inl, inr, ℕ, Bool, true, false, cond, not, ◌&&◌, ◌||◌, List, [], ◌∷◌, map, Option, Some, None, is_some, is_none, refl, sym, ap, subst}
use Rattle.std.specs.Prelude.{ℤ}
use Rattle.std.proofs.lemmas.Bool.{and_parts}
use Rattle.fed_stamp.specs.Roster.{nodes_at}
use Rattle.fed_stamp.specs.Stamp.{StampValue}
use Rattle.fed_lattice.specs.Sets.{Has}
use Rattle.fed_model.specs.Identifiers.{jobs_in}
use Rattle.fed_model.specs.JobView.{JobView}
use Rattle.fed_model.specs.Letter.{has_site, is_gone, is_granted, is_granted_to, is_held, is_submitted}
use Rattle.fed_model.specs.View.{View}
use Rattle.fed_easy.specs.Plan.{ids}
use Rattle.fed_easy.specs.Queue.{is_waiting, queue_in, queued, queued_with}
use Rattle.fed_easy.proofs.QueueMembers.{queue_members, queued_id}
use Rattle.fed_looks.specs.Why.{HasPlace, IsQueued, is_narrow, obstacle_of}

-- ---- obstacles
record Parts (h k s n : Bool) : Type 0 where
  held : h ≡ false
  elsewhere : k ≡ false
  named : s ≡ true
  narrow : n ≡ true

none_of : (h k s n : Bool) (a b c d : List ℕ) → cond h (Some a) (cond k (Some b) (cond (not s) (Some c) (cond n None (Some d)))) ≡ None → Parts h k s n
none_of true k s n a b c d e = absurd cc
none_of false true s n a b c d e = absurd cc
none_of false false false n a b c d e = absurd cc
none_of false false true false a b c d e = absurd cc
none_of false false true true a b c d e = record { held = refl; elsewhere = refl; named = refl; narrow = refl }

of_none : (h k s n : Bool) (a b c d : List ℕ) → Parts h k s n → cond h (Some a) (cond k (Some b) (cond (not s) (Some c) (cond n None (Some d)))) ≡ None
of_none h k s n a b c d p = rw (p.held, p.elsewhere, p.named, p.narrow) refl

open_from : (g t : Bool) → (g && not t) ≡ false → (not g || t) ≡ true
open_from true true e = refl
open_from true false e = absurd cc
open_from false t e = refl

from_open : (g t : Bool) → (not g || t) ≡ true → (g && not t) ≡ false
from_open true true e = refl
from_open true false e = absurd cc
from_open false t e = refl

from_not : (b : Bool) → not b ≡ true → b ≡ false
from_not true e = absurd cc
from_not false e = refl

no_value : {X : Type 0} (o : Option X) → is_none o ≡ true → o ≡ None
no_value None e = refl
no_value (Some x) e = absurd cc

value_of : {X : Type 0} (o : Option X) → is_some o ≡ true → (x : X) × (o ≡ Some x)
value_of None e = absurd cc
value_of (Some x) e = (x, refl)

is_there : {X : Type 0} (o : Option X) (x : X) → o ≡ Some x → is_some o ≡ true
is_there o x e = ap is_some e

-- ---- members of a list of what is read of members
Has-map : {X Y : Type 0} (f : X → Y) (xs : List X) (x : X) → Has xs x → Has (map f xs) (f x)
Has-map f [] x h = absurd h
Has-map f (y ∷ xs) x (inl e) = inl (ap f e)
Has-map f (y ∷ xs) x (inr h) = inr (Has-map f xs x h)

from_map : {X Y : Type 0} (f : X → Y) (xs : List X) (y : Y) → Has (map f xs) y → (x : X) × Has xs x × (f x ≡ y)
from_map f [] y h = absurd h
from_map f (x ∷ xs) y (inl e) = (x, inl refl, e)
from_map f (x ∷ xs) y (inr h) = let rest = from_map f xs y h in (rest.0, inr rest.1, rest.2)

-- ---- the fields of a job that is submitted
with_fields : (capacity : ℕ) (id : StampValue) (granted : Bool) (p : Option (StampValue × ℤ)) (n l : Option (StampValue × ℕ)) → is_some p ≡ true → is_some n ≡ true → is_some l ≡ true → is_narrow capacity n ≡ true
    → is_some (queued_with capacity id granted p n l) ≡ true
with_fields capacity id granted (Some p) (Some n) (Some l) hp hn hl narrow = rw narrow refl
with_fields capacity id granted None n l hp hn hl narrow = absurd cc
with_fields capacity id granted (Some p) None l hp hn hl narrow = absurd cc
with_fields capacity id granted (Some p) (Some n) None hp hn hl narrow = absurd cc

narrow_some : {X : Type 0} (t : Bool) (x : X) → is_some (cond t (Some x) None) ≡ true → t ≡ true
narrow_some true x e = refl
narrow_some false x e = absurd cc

narrow_from : (capacity : ℕ) (id : StampValue) (granted : Bool) (p : Option (StampValue × ℤ)) (n l : Option (StampValue × ℕ)) → is_some (queued_with capacity id granted p n l) ≡ true → is_narrow capacity n ≡ true
narrow_from capacity id granted (Some p) (Some n) (Some l) e = narrow_some (nat_le n.1 capacity) _ e
narrow_from capacity id granted None n l e = absurd cc
narrow_from capacity id granted (Some p) None l e = absurd cc
narrow_from capacity id granted (Some p) (Some n) None e = absurd cc

record Fields (j : JobView) : Type 0 where
  priority : is_some j.fields.priority ≡ true
  nodes : is_some j.fields.nodes ≡ true
  limit : is_some j.fields.limit ≡ true

fields_of : (j : JobView) → is_submitted j ≡ true → Fields j
fields_of j e =
    let a = and_parts (is_some j.fields.owner) (is_some j.fields.name && (is_some j.fields.priority && (is_some j.fields.nodes && (is_some j.fields.limit && is_some j.fields.account)))) e in
    let b = and_parts (is_some j.fields.name) (is_some j.fields.priority && (is_some j.fields.nodes && (is_some j.fields.limit && is_some j.fields.account))) a.1 in
    let c = and_parts (is_some j.fields.priority) (is_some j.fields.nodes && (is_some j.fields.limit && is_some j.fields.account)) b.1 in
    let d = and_parts (is_some j.fields.nodes) (is_some j.fields.limit && is_some j.fields.account) c.1 in
    let f = and_parts (is_some j.fields.limit) (is_some j.fields.account) d.1 in
    record { priority = c.0; nodes = d.0; limit = f.0 }

-- ---- jobs that wait
record Waits (site : ℕ) (j : JobView) : Type 0 where
  submitted : is_submitted j ≡ true
  here : not (is_gone j) ≡ true
  not_begun : is_none j.stages.begun ≡ true
  free : not (is_held j) ≡ true
  opened : (not (is_granted j) || is_granted_to j site) ≡ true
  named : has_site j site ≡ true

waits_from : (site : ℕ) (j : JobView) → Waits site j → is_waiting site j ≡ true
waits_from site j w = rw (w.submitted, w.here, w.not_begun, w.free, w.opened, w.named) refl

waits_parts : (site : ℕ) (j : JobView) → is_waiting site j ≡ true → Waits site j
waits_parts site j e =
    let opened : Bool = not (is_granted j) || is_granted_to j site in
    let a = and_parts (is_submitted j && not (is_gone j) && is_none j.stages.begun && not (is_held j) && opened) (has_site j site) e in
    let b = and_parts (is_submitted j && not (is_gone j) && is_none j.stages.begun && not (is_held j)) opened a.0 in
    let c = and_parts (is_submitted j && not (is_gone j) && is_none j.stages.begun) (not (is_held j)) b.0 in
    let d = and_parts (is_submitted j && not (is_gone j)) (is_none j.stages.begun) c.0 in
    let f = and_parts (is_submitted j) (not (is_gone j)) d.0 in
    record { submitted = f.0; here = f.1; not_begun = d.1; free = c.1; opened = b.1; named = a.1 }

module _ (roster : List (List ℕ × ℕ)) (site : ℕ) (id : StampValue) (j : JobView) where
  abbrev capacity : ℕ
  capacity = nodes_at roster site

  abbrev Free : Type 0
  Free = Parts (is_held j) (is_granted j && not (is_granted_to j site)) (has_site j site) (is_narrow capacity j.fields.nodes)

  free_parts : obstacle_of roster site j ≡ None → Free
  free_parts e = none_of (is_held j) (is_granted j && not (is_granted_to j site)) (has_site j site) (is_narrow capacity j.fields.nodes) _ _ _ _ e

  placed_waits : is_submitted j ≡ true → HasPlace roster site j → Waits site j
  placed_waits submitted p =
      let parts = free_parts p.free in
      record {
        submitted = submitted;
        here = rw (p.unfinished, p.not_deleted) refl;
        not_begun = ap is_none p.not_begun;
        free = ap not parts.held;
        opened = open_from (is_granted j) (is_granted_to j site) parts.elsewhere;
        named = parts.named;
      }

  pub placed_queued : is_submitted j ≡ true → HasPlace roster site j → is_some (queued site capacity id j) ≡ true
  placed_queued submitted p =
      let waits = waits_from site j (placed_waits submitted p) in
      let fields = fields_of j submitted in
      rw waits (with_fields capacity id (is_granted_to j site) j.fields.priority j.fields.nodes j.fields.limit fields.priority fields.nodes fields.limit (free_parts p.free).narrow)

  both_of : {X : Type 0} (t : Bool) (o : Option X) → is_some (cond t o None) ≡ true → (t ≡ true) × (is_some o ≡ true)
  both_of true o e = (refl, e)
  both_of false o e = absurd cc

  not_gone : (finished deleted : Bool) → not (finished || (deleted && true)) ≡ true → (finished ≡ false) × (deleted ≡ false)
  not_gone true deleted e = absurd cc
  not_gone false true e = absurd cc
  not_gone false false e = (refl, refl)

  no_finish : {X : Type 0} (o : Option X) → is_some o ≡ false → o ≡ None
  no_finish None e = refl
  no_finish (Some x) e = absurd cc

  pub queued_placed : is_some (queued site capacity id j) ≡ true → (is_submitted j ≡ true) × HasPlace roster site j
  queued_placed e =
      let both = both_of (is_waiting site j) (queued_with capacity id (is_granted_to j site) j.fields.priority j.fields.nodes j.fields.limit) e in
      let w = waits_parts site j both.0 in
      let begun = no_value j.stages.begun w.not_begun in
      let gone : not (is_some j.stages.finished || (j.stages.deleted && true)) ≡ true = subst (λ b. not (is_some j.stages.finished || (j.stages.deleted && b)) ≡ true) w.not_begun w.here in
      let left = not_gone (is_some j.stages.finished) j.stages.deleted gone in
      let parts : Free = record {
        held = from_not (is_held j) w.free;
        elsewhere = from_open (is_granted j) (is_granted_to j site) w.opened;
        named = w.named;
        narrow = narrow_from capacity id (is_granted_to j site) j.fields.priority j.fields.nodes j.fields.limit both.1;
      } in (
        w.submitted,
        record {
          not_deleted = left.1;
          unfinished = no_finish j.stages.finished left.0;
          not_begun = begun;
          free = of_none (is_held j) (is_granted j && not (is_granted_to j site)) (has_site j site) (is_narrow capacity j.fields.nodes) _ _ _ _ parts;
        },
      )

-- ---- the queue of a view whose jobs are those that are submitted
module _ (v : View) (all : (job : StampValue) → Has (jobs_in v) job ↔ (is_submitted (v.job job) ≡ true)) (roster : List (List ℕ × ℕ)) (site : ℕ) (id : StampValue) where
  into_queue : is_submitted (v.job id) ≡ true → HasPlace roster site (v.job id) → IsQueued site (nodes_at roster site) v id
  into_queue submitted p =
      let found = value_of (queued site (nodes_at roster site) id (v.job id)) (placed_queued roster site id (v.job id) submitted p) in
      let own = queued_id site (nodes_at roster site) id (v.job id) found.0 found.1 in
      let waits = subst (λ (s : StampValue). queued site (nodes_at roster site) s (v.job s) ≡ Some found.0) own found.1 in
      let member = (queue_members v site (nodes_at roster site) found.0).1 (subst (Has (jobs_in v)) own ((all id).1 submitted), waits) in
      subst (Has (ids (queue_in site (nodes_at roster site) v))) (sym own) (Has-map (λ q. q.id) (queue_in site (nodes_at roster site) v) found.0 member)

  out_of_queue : IsQueued site (nodes_at roster site) v id → (is_submitted (v.job id) ≡ true) × HasPlace roster site (v.job id)
  out_of_queue h =
      let found = from_map (λ q. q.id) (queue_in site (nodes_at roster site) v) id h in
      let member = (queue_members v site (nodes_at roster site) found.0).0 found.1 in
      let waits = subst (λ (s : StampValue). queued site (nodes_at roster site) s (v.job s) ≡ Some found.0) found.2 member.1 in
      queued_placed roster site id (v.job id) (is_there (queued site (nodes_at roster site) id (v.job id)) found.0 waits)

  pub placed_are_queued : ((is_submitted (v.job id) ≡ true) × HasPlace roster site (v.job id)) ↔ IsQueued site (nodes_at roster site) v id
  placed_are_queued = (λ p. into_queue p.0 p.1, out_of_queue)
