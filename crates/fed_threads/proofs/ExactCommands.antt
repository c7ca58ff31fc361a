-- The derived `==` of commands, of their values and of those who ask tells all values apart.
use Rattle.std.proofs.Common.{◌≡◌, Bool, true, false, refl, ap, subst, sym, ◌∙◌}
use Rattle.std.specs.Prelude.{nat_eq}
use Rattle.std.specs.Bool.{beq}
use Rattle.std.specs.Ordering.{int_cmp, int_eq}
use Rattle.std.proofs.lemmas.Cmp.{int_cmp_total}
use Rattle.std.proofs.lemmas.Map.Lookups.{exact_signed}
use Rattle.fed_lattice.specs.Exact.{TellsApart}
use Rattle.fed_lattice.specs.ExactLaws.{tells_booleans, tells_by_order, tells_lists, tells_numbers, tells_options, tells_pairs, tells_stamps}
use Rattle.fed_record.specs.JobRecordLaws.{tells_names}
use Rattle.fed_record.specs.ReservationLaws.{tells_windows}
use Rattle.fed_model.specs.declared.values.JobValues.{JobValues}
use Rattle.fed_model.specs.declared.askers.Role.{Role}
use Rattle.fed_model.specs.declared.askers.Role.TheVariants.{User, Operator, Administrator}
use Rattle.fed_model.specs.declared.askers.Who.{Who}
use Rattle.fed_model.specs.contracts.askers.RolePartialEq.TheImpl.{ghosts as roles}
use Rattle.fed_model.specs.contracts.askers.WhoPartialEq.TheImpl.{ghosts as askers}
use Rattle.fed_model.specs.declared.values.Changes.{Changes}
use Rattle.fed_model.specs.declared.commands.Command.{Command}
use Rattle.fed_model.specs.declared.commands.Command.TheVariants.{Submit, Alter, Hold, Release, Delete, Grant, HandBack, Decline, Begin, Finish, Reserve, Cancel, Retire}
use Rattle.fed_model.specs.declared.holds.HoldKinds.{HoldKinds}
use Rattle.fed_model.specs.contracts.holds.HoldKindsPartialEq.TheImpl.{ghosts as kinds}
use Rattle.fed_model.specs.contracts.values.JobValuesPartialEq.TheImpl.{ghosts as values}
use Rattle.fed_model.specs.contracts.values.ChangesPartialEq.TheImpl.{ghosts as changes}
use Rattle.fed_model.specs.contracts.commands.CommandPartialEq.TheImpl.{ghosts as commands}

pub apart : {P : Type 0} → false ≡ true → P
apart e = cc

-- a value is told by its parts
tells_parts : {X Y : Type 0} (eq : Y → Y → Bool) → TellsApart eq → (parts : X → Y) (make : Y → X) → ((x : X) → make (parts x) ≡ x) → TellsApart (λ a b. eq (parts a) (parts b))
tells_parts eq tells parts make back a b = (
  λ e. sym (back a) ∙ ap make ((tells (parts a) (parts b)).0 e) ∙ back b,
  λ e. (tells (parts a) (parts b)).1 (ap parts e),
)

tells_integers : TellsApart int_eq
tells_integers = tells_by_order int_cmp int_eq int_cmp_total exact_signed (λ a b. refl)

pub tells_values : TellsApart values.eq
tells_values =
    tells_parts _
    (tells_pairs _ _ tells_names
    (tells_pairs _ _ tells_integers
    (tells_pairs _ _ tells_numbers
    (tells_pairs _ _ tells_numbers
    (tells_pairs _ _ (tells_options _ tells_names) (tells_lists _ tells_booleans))))))
    (λ (v : JobValues). (v.name, (v.priority, (v.nodes, (v.limit, (v.account, v.sites))))))
    (λ p. record { name = p.0; priority = p.1.0; nodes = p.1.1.0; limit = p.1.1.1.0; account = p.1.1.1.1.0; sites = p.1.1.1.1.1 })
    (λ v. refl)

pub tells_changes : TellsApart changes.eq
tells_changes =
    tells_parts _
    (tells_pairs _ _ (tells_options _ tells_names)
    (tells_pairs _ _ (tells_options _ tells_integers)
    (tells_pairs _ _ (tells_options _ tells_numbers)
    (tells_pairs _ _ (tells_options _ tells_numbers)
    (tells_pairs _ _ (tells_options _ (tells_options _ tells_names)) (tells_options _ (tells_lists _ tells_booleans)))))))
    (λ (v : Changes). (v.name, (v.priority, (v.nodes, (v.limit, (v.account, v.sites))))))
    (λ p. record { name = p.0; priority = p.1.0; nodes = p.1.1.0; limit = p.1.1.1.0; account = p.1.1.1.1.0; sites = p.1.1.1.1.1 })
    (λ v. refl)

tells_kinds : TellsApart kinds.eq
tells_kinds = tells_parts nat_eq tells_numbers (λ (k : HoldKinds). k.0) (λ n. record { 0 = n }) (λ k. refl)

pub made : {X Y : Type 0} (eq : X → X → Bool) → TellsApart eq → (make : X → Y) (a b : X) → eq a b ≡ true → make a ≡ make b
made eq tells make a b e = ap make ((tells a b).0 e)

same : (a b : Command) → commands.eq a b ≡ true → a ≡ b
same (Submit v h) (Submit w k) e = made _ (tells_pairs values.eq beq tells_values tells_booleans) (λ p. Submit p.0 p.1) (v, h) (w, k) e
same (Alter j c) (Alter k d) e = made _ (tells_pairs _ changes.eq tells_stamps tells_changes) (λ p. Alter p.0 p.1) (j, c) (k, d) e
same (Hold j c) (Hold k d) e = made _ (tells_pairs _ kinds.eq tells_stamps tells_kinds) (λ p. Hold p.0 p.1) (j, c) (k, d) e
same (Release j c) (Release k d) e = made _ (tells_pairs _ kinds.eq tells_stamps tells_kinds) (λ p. Release p.0 p.1) (j, c) (k, d) e
same (Delete j) (Delete k) e = made _ tells_stamps Delete j k e
same (Grant j s) (Grant k t) e = made _ (tells_pairs _ nat_eq tells_stamps tells_numbers) (λ p. Grant p.0 p.1) (j, s) (k, t) e
same (HandBack j) (HandBack k) e = made _ tells_stamps HandBack j k e
same (Decline j) (Decline k) e = made _ tells_stamps Decline j k e
same (Begin j m) (Begin k n) e = made _ (tells_pairs _ nat_eq tells_stamps tells_numbers) (λ p. Begin p.0 p.1) (j, m) (k, n) e
same (Finish j m s) (Finish k n t) e = made _ (tells_pairs _ _ tells_stamps (tells_pairs nat_eq nat_eq tells_numbers tells_numbers)) (λ p. Finish p.0 p.1.0 p.1.1) (j, (m, s)) (k, (n, t)) e
same (Reserve v) (Reserve w) e = made _ tells_windows Reserve v w e
same (Cancel j) (Cancel k) e = made _ tells_stamps Cancel j k e
same (Retire f l) (Retire g k) e = made _ (tells_pairs nat_eq nat_eq tells_numbers tells_numbers) (λ p. Retire p.0 p.1) (f, l) (g, k) e
same _ _ e = apart e

pub itself : {X : Type 0} (eq : X → X → Bool) → TellsApart eq → (a : X) → eq a a ≡ true
itself eq tells a = (tells a a).1 refl

own : (a : Command) → commands.eq a a ≡ true
own (Submit v h) = itself _ (tells_pairs values.eq beq tells_values tells_booleans) (v, h)
own (Alter j c) = itself _ (tells_pairs _ changes.eq tells_stamps tells_changes) (j, c)
own (Hold j c) = itself _ (tells_pairs _ kinds.eq tells_stamps tells_kinds) (j, c)
own (Release j c) = itself _ (tells_pairs _ kinds.eq tells_stamps tells_kinds) (j, c)
own (Delete j) = itself _ tells_stamps j
own (Grant j s) = itself _ (tells_pairs _ nat_eq tells_stamps tells_numbers) (j, s)
own (HandBack j) = itself _ tells_stamps j
own (Decline j) = itself _ tells_stamps j
own (Begin j m) = itself _ (tells_pairs _ nat_eq tells_stamps tells_numbers) (j, m)
own (Finish j m s) = itself _ (tells_pairs _ _ tells_stamps (tells_pairs nat_eq nat_eq tells_numbers tells_numbers)) (j, (m, s))
own (Reserve v) = itself _ tells_windows v
own (Cancel j) = itself _ tells_stamps j
own (Retire f l) = itself _ (tells_pairs nat_eq nat_eq tells_numbers tells_numbers) (f, l)

pub tells_commands : TellsApart commands.eq
tells_commands a b = (same a b, λ e. subst (λ c. commands.eq a c ≡ true) e (own a))

same_role : (a b : Role) → roles.eq a b ≡ true → a ≡ b
same_role User User e = refl
same_role Operator Operator e = refl
same_role Administrator Administrator e = refl
same_role _ _ e = apart e

own_role : (a : Role) → roles.eq a a ≡ true
own_role User = refl
own_role Operator = refl
own_role Administrator = refl

tells_roles : TellsApart roles.eq
tells_roles a b = (same_role a b, λ e. subst (λ c. roles.eq a c ≡ true) e (own_role a))

pub tells_askers : TellsApart askers.eq
tells_askers = tells_parts _ (tells_pairs _ roles.eq tells_names tells_roles) (λ (w : Who). (w.user, w.role)) (λ p. record { user = p.0; role = p.1 }) (λ w. refl)
