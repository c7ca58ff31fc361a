-- Tests that each field of a job passes once one more operation is there, and where two jobs are joined.
use Rattle.std.proofs.Common.{◌≡◌, true, Bool, Option, Ordering}
use Rattle.std.proofs.lemmas.Bool.{and_parts, and_from}
use Rattle.std.specs.Ordering.{nat_cmp, int_cmp}
use Rattle.fed_stamp.specs.Stamp.{StampValue}
use Rattle.fed_lattice.specs.Both.{applied_option}
use Rattle.fed_lattice.specs.Register.{joined_registers}
use Rattle.fed_model.specs.JobView.{JobFields}
use Rattle.fed_model.specs.Letter.{all_fields}
use Rattle.fed_theory.specs.JobSteps.{JobFieldChanges, set_register, changed_fields, joined_fields}
use Rattle.fed_theory.specs.ValueOrders.{name_cmp, account_cmp}

-- a register that passes a test passes another after a change
pub fields_changed : (p r : (T : Type 0) → Option (StampValue × T) → Bool) (s : StampValue)
    → ((T : Type 0) (cmp : T → T → Ordering) (x : Option (StampValue × T)) (o : Option T) → p T x ≡ true → r T (applied_option (set_register cmp) x s o) ≡ true)
    → (f : JobFields) (c : JobFieldChanges) → all_fields p f ≡ true → all_fields r (changed_fields f s c) ≡ true
fields_changed p r s keeps f c e =
    let owner = and_parts (p _ f.owner) _ e in
    let name = and_parts (p _ f.name) _ owner.1 in
    let priority = and_parts (p _ f.priority) _ name.1 in
    let nodes = and_parts (p _ f.nodes) _ priority.1 in
    let last = and_parts (p _ f.limit) (p _ f.account) nodes.1 in
    and_from _ _ (keeps _ name_cmp f.owner c.owner owner.0) (and_from _ _ (keeps _ name_cmp f.name c.name name.0)
    (and_from _ _ (keeps _ int_cmp f.priority c.priority priority.0) (and_from _ _ (keeps _ nat_cmp f.nodes c.nodes nodes.0)
    (and_from _ _ (keeps _ nat_cmp f.limit c.limit last.0) (keeps _ account_cmp f.account c.account last.1)))))

-- registers that pass a test each pass a third where they are joined
pub fields_joined : (p q r : (T : Type 0) → Option (StampValue × T) → Bool)
    → ((T : Type 0) (cmp : T → T → Ordering) (x y : Option (StampValue × T)) → p T x ≡ true → q T y ≡ true → r T (joined_registers cmp x y) ≡ true)
    → (f g : JobFields) → all_fields p f ≡ true → all_fields q g ≡ true → all_fields r (joined_fields f g) ≡ true
fields_joined p q r keeps f g e k =
    let owner = and_parts (p _ f.owner) _ e in
    let name = and_parts (p _ f.name) _ owner.1 in
    let priority = and_parts (p _ f.priority) _ name.1 in
    let nodes = and_parts (p _ f.nodes) _ priority.1 in
    let last = and_parts (p _ f.limit) (p _ f.account) nodes.1 in
    let owner-2 = and_parts (q _ g.owner) _ k in
    let name-2 = and_parts (q _ g.name) _ owner-2.1 in
    let priority-2 = and_parts (q _ g.priority) _ name-2.1 in
    let nodes-2 = and_parts (q _ g.nodes) _ priority-2.1 in
    let last-2 = and_parts (q _ g.limit) (q _ g.account) nodes-2.1 in
    and_from _ _ (keeps _ name_cmp f.owner g.owner owner.0 owner-2.0) (and_from _ _ (keeps _ name_cmp f.name g.name name.0 name-2.0)
    (and_from _ _ (keeps _ int_cmp f.priority g.priority priority.0 priority-2.0) (and_from _ _ (keeps _ nat_cmp f.nodes g.nodes nodes.0 nodes-2.0)
    (and_from _ _ (keeps _ nat_cmp f.limit g.limit last.0 last-2.0) (keeps _ account_cmp f.account g.account last.1 last-2.1)))))
