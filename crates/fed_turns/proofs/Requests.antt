-- What words ask is in range.
use Rattle.std.specs.Prelude.{codes, unwrap_or, option_map, position, is_some, if◌then◌else◌, IfSome}
use Rattle.std.specs.List.{AllByRecursion, after_first, before_first, slice_split}
use Rattle.std.specs.Option.{ok_or, option_or}
use Rattle.std.specs.Str.{bytes_eq}
use Rattle.std.proofs.Common.{◌≡◌, ℕ, List, [], ◌∷◌, Bool, true, false, All, Option, Some, None, Ok, Err, refl, subst, arith}
use Rattle.std.proofs.lemmas.Bool.{and_parts, leb-true}
use Rattle.std.proofs.lemmas.List.Elements.{All-cons, All-map, All-nil, recursion_from_All}
use Rattle.fed_stamp.specs.Stamp.{StampValue}
use Rattle.fed_stamp.specs.declared.rosters.TheConstants.{MAX_NODES}
use Rattle.fed_stamp.specs.Word.{is_name}
use Rattle.fed_lattice.specs.Results.{◌>>=◌, mapped, each}
use Rattle.fed_lattice.proofs.ResultLaws.{mapped_ok, each_all}
use Rattle.fed_model.specs.declared.askers.Who.{Who}
use Rattle.fed_model.specs.declared.commands.Command.TheVariants.{Submit, Alter, Hold, Release, Delete}
use Rattle.fed_model.specs.declared.limits.TheConstants.{MAX_LIMIT}
use Rattle.fed_model.specs.Ranges.{IsFrom, IsAccount, IsName, IsPriority, AreChanges, AreValues, IsRanged}
use Rattle.fed_words.specs.declared.faults.UsageFault.{UsageFault}
use Rattle.fed_words.specs.declared.faults.UsageFault.TheVariants.{BadValue, UnknownUtility}
use Rattle.fed_words.specs.declared.resources.Resource.{Resource}
use Rattle.fed_words.specs.declared.resources.Resource.TheVariants.{Nodes, Limit, Sites}
use Rattle.fed_words.specs.declared.resources.Resources.{Resources}
use Rattle.fed_words.specs.declared.settings.Setting.{Setting}
use Rattle.fed_words.specs.declared.settings.Settings.{Settings}
use Rattle.fed_words.specs.declared.utilities.Choice.{Choice}
use Rattle.fed_words.specs.declared.utilities.Utility.{Utility}
use Rattle.fed_words.specs.declared.utilities.Utility.TheVariants.{Qsub, Qalter, Qhold, Qrls, Qdel, Qstat}
use Rattle.fed_words.specs.Fault.{OrFault}
use Rattle.fed_words.specs.Kinds.{kinds_in}
use Rattle.fed_words.specs.Last.{last_of}
use Rattle.fed_words.specs.Number.{number_in}
use Rattle.fed_words.specs.Priority.{priority_in}
use Rattle.fed_words.specs.Request.{Asked, acts, list, jobs_in, kinds_given, request_in, request_of, values_of}
use Rattle.fed_words.specs.Resource.{is_comma, is_equals, last_resources, limit_in, nodes_in, resource_in, resources_in, sites_in, value_in}
use Rattle.fed_words.specs.Setting.{account_in, last_list, last_settings, name_in, priority_of, resources_of, setting_in, settings_in}
use Rattle.fed_words.specs.Spelling.{spelling}
use Rattle.fed_words.specs.Utility.{utility_named}
use Rattle.fed_words.proofs.Given.{when_some}

-- ---- words and lists of words
pub in_range : (least most : ℕ) (word : List ℕ) (k : ℕ) → number_in least most word ≡ Some k → IsFrom least most k
in_range least most word k e =
    let told = when_some _ _ k e in
    let within = and_parts _ _ (and_parts _ _ told.0).1 in
    subst (IsFrom least most) told.1 (leb-true least _ within.0, leb-true _ most within.1)

either_some : {B : Type 0} (Q : B → Type 0) (o p : Option B) → IfSome o Q → IfSome p Q → IfSome (option_or o p) Q
either_some Q None p h k = k
either_some Q (Some x) p h k = h

last_is : {A B : Type 0} (says : A → Option B) (R : A → Type 0) (Q : B → Type 0) → ((x : A) → R x → IfSome (says x) Q) → (xs : List A) → AllByRecursion R xs → IfSome (last_of says xs) Q
last_is says R Q h [] all = tt
last_is says R Q h (x ∷ xs) all = either_some Q (last_of says xs) (says x) (last_is says R Q h xs all.1) (h x all.0)

or_else : {B : Type 0} (Q : B → Type 0) (o : Option B) (d : B) → IfSome o Q → Q d → Q (unwrap_or o d)
or_else Q None d h k = k
or_else Q (Some x) d h k = h

-- what is made of what a word says
ok_made : {A B : Type 0} (Q : B → Type 0) (o : Option A) (make : A → B) (fault : UsageFault) (y : B) → ((a : A) → o ≡ Some a → Q (make a)) → ok_or (option_map make o) fault ≡ Ok y → Q y
ok_made Q None make fault y h e = cc
ok_made Q (Some a) make fault y h e = let same : make a ≡ y = cc in subst Q same (h a refl)

ok_mapped : {A B : Type 0} (Q : B → Type 0) (o : OrFault A) (make : A → B) (y : B) → ((a : A) → o ≡ Ok a → Q (make a)) → mapped make o ≡ Ok y → Q y
ok_mapped Q o make y h e = let m = mapped_ok o make y e in subst Q m.2 (h m.0 m.1)

-- ---- resources
abbrev IsRangedResource : Resource → Type 0
IsRangedResource (Nodes n) = IsFrom 1 MAX_NODES n
IsRangedResource (Limit n) = IsFrom 1 MAX_LIMIT n
IsRangedResource (Sites set) = Unit {0}

record AreRangedResources (r : Resources) : Type 0 where
  nodes : IfSome r.nodes (IsFrom 1 MAX_NODES)
  limit : IfSome r.limit (IsFrom 1 MAX_LIMIT)

nodes_ranged : (r : Resource) → IsRangedResource r → IfSome (nodes_in r) (IsFrom 1 MAX_NODES)
nodes_ranged (Nodes n) h = h
nodes_ranged (Limit n) h = tt
nodes_ranged (Sites set) h = tt

limit_ranged : (r : Resource) → IsRangedResource r → IfSome (limit_in r) (IsFrom 1 MAX_LIMIT)
limit_ranged (Nodes n) h = tt
limit_ranged (Limit n) h = h
limit_ranged (Sites set) h = tt

last_ranged : (given : List Resource) → AllByRecursion IsRangedResource given → AreRangedResources (last_resources given)
last_ranged given all = record {
  nodes = last_is nodes_in IsRangedResource (IsFrom 1 MAX_NODES) nodes_ranged given all;
  limit = last_is limit_in IsRangedResource (IsFrom 1 MAX_LIMIT) limit_ranged given all;
}

value_ranged : (a b c : Bool) (o p : Option ℕ) (sites : OrFault (List Bool)) (r : Resource) → ((n : ℕ) → o ≡ Some n → IsFrom 1 MAX_NODES n) → ((n : ℕ) → p ≡ Some n → IsFrom 1 MAX_LIMIT n)
    → (if a then ok_or (option_map Nodes o) BadValue else (if b then ok_or (option_map Limit p) BadValue else (if c then mapped Sites sites else Err BadValue))) ≡ Ok r → IsRangedResource r
value_ranged true b c o p sites r h k e = ok_made IsRangedResource o Nodes BadValue r h e
value_ranged false true c o p sites r h k e = ok_made IsRangedResource p Limit BadValue r k e
value_ranged false false true o p sites r h k e = ok_mapped IsRangedResource sites Sites r (λ set is. tt) e
value_ranged false false false o p sites r h k e = cc

module _ (roster : List (List ℕ × ℕ)) where
  resource_ranged : (pair : List ℕ) (r : Resource) → resource_in roster pair ≡ Ok r → IsRangedResource r
  resource_ranged pair r e = go (is_some (position is_equals pair)) e
    where
      go : (b : Bool) → (if b then value_in roster (before_first is_equals pair) (after_first is_equals pair) else Err BadValue) ≡ Ok r → IsRangedResource r
      go false f = cc
      go true f =
          let name = before_first is_equals pair in
          let value = after_first is_equals pair in
          value_ranged (bytes_eq name (codes "nodes")) (bytes_eq name (codes "walltime")) (bytes_eq name (codes "sites")) (number_in 1 MAX_NODES value) (number_in 1 MAX_LIMIT value) (sites_in roster value) r
          (in_range 1 MAX_NODES value) (in_range 1 MAX_LIMIT value) f

  resources_ranged : (text : List ℕ) (r : Resources) → resources_in roster text ≡ Ok r → AreRangedResources r
  resources_ranged text r e =
      ok_mapped AreRangedResources (each (resource_in roster) (slice_split is_comma text)) last_resources r
      (λ given is. last_ranged given (recursion_from_All IsRangedResource given (each_all (resource_in roster) IsRangedResource resource_ranged (slice_split is_comma text) given is))) e

-- ---- settings
abbrev IsRangedSetting : Setting → Type 0
IsRangedSetting (Setting.Account account) = IsAccount account
IsRangedSetting Setting.Held = Unit {0}
IsRangedSetting (Setting.Kinds kinds) = Unit {0}
IsRangedSetting (Setting.Resources resources) = AreRangedResources resources
IsRangedSetting (Setting.Name name) = IsName name
IsRangedSetting (Setting.Priority priority) = IsPriority priority
IsRangedSetting Setting.Full = Unit {0}

abbrev AreRangedSettings : Settings → Type 0
AreRangedSettings s = AreChanges s.changes

name_ranged : (s : Setting) → IsRangedSetting s → IfSome (name_in s) IsName
name_ranged (Setting.Account account) h = tt
name_ranged Setting.Held h = tt
name_ranged (Setting.Kinds kinds) h = tt
name_ranged (Setting.Resources resources) h = tt
name_ranged (Setting.Name name) h = h
name_ranged (Setting.Priority priority) h = tt
name_ranged Setting.Full h = tt

priority_ranged : (s : Setting) → IsRangedSetting s → IfSome (priority_of s) IsPriority
priority_ranged (Setting.Account account) h = tt
priority_ranged Setting.Held h = tt
priority_ranged (Setting.Kinds kinds) h = tt
priority_ranged (Setting.Resources resources) h = tt
priority_ranged (Setting.Name name) h = tt
priority_ranged (Setting.Priority priority) h = h
priority_ranged Setting.Full h = tt

account_ranged : (s : Setting) → IsRangedSetting s → IfSome (account_in s) IsAccount
account_ranged (Setting.Account account) h = h
account_ranged Setting.Held h = tt
account_ranged (Setting.Kinds kinds) h = tt
account_ranged (Setting.Resources resources) h = tt
account_ranged (Setting.Name name) h = tt
account_ranged (Setting.Priority priority) h = tt
account_ranged Setting.Full h = tt

given_ranged : (s : Setting) → IsRangedSetting s → IfSome (resources_of s) AreRangedResources
given_ranged (Setting.Account account) h = tt
given_ranged Setting.Held h = tt
given_ranged (Setting.Kinds kinds) h = tt
given_ranged (Setting.Resources resources) h = h
given_ranged (Setting.Name name) h = tt
given_ranged (Setting.Priority priority) h = tt
given_ranged Setting.Full h = tt

list_ranged : (given : List Setting) → AllByRecursion IsRangedSetting given → AreRangedResources (last_list given)
list_ranged given all =
    or_else AreRangedResources (last_of resources_of given) (last_resources []) (last_is resources_of IsRangedSetting AreRangedResources given_ranged given all) (record { nodes = tt; limit = tt })

all_ranged : (given : List Setting) → AllByRecursion IsRangedSetting given → AreRangedSettings (last_settings given)
all_ranged given all = record {
  name = last_is name_in IsRangedSetting IsName name_ranged given all;
  priority = last_is priority_of IsRangedSetting IsPriority priority_ranged given all;
  nodes = (list_ranged given all).nodes;
  limit = (list_ranged given all).limit;
  account = last_is account_in IsRangedSetting IsAccount account_ranged given all;
}

named_setting : (b : Bool) (y s : Setting) → (b ≡ true → IsRangedSetting y) → (if b then Ok y else Err BadValue) ≡ Ok s → IsRangedSetting s
named_setting true y s h e = let same : y ≡ s = cc in subst IsRangedSetting same (h refl)
named_setting false y s h e = cc

module _ (roster : List (List ℕ × ℕ)) where
  setting_ranged : (choice : Choice) (text : List ℕ) (s : Setting) → setting_in roster choice text ≡ Ok s → IsRangedSetting s
  setting_ranged Choice.Account text s e = named_setting (is_name text) (Setting.Account (Some text)) s (λ h. h) e
  setting_ranged Choice.Held text s e = let same : Setting.Held ≡ s = cc in subst IsRangedSetting same tt
  setting_ranged Choice.Kinds text s e = ok_made IsRangedSetting (kinds_in text) Setting.Kinds BadValue s (λ kinds is. tt) e
  setting_ranged Choice.Resources text s e = ok_mapped IsRangedSetting (resources_in roster text) Setting.Resources s (resources_ranged roster text) e
  setting_ranged Choice.Name text s e = named_setting (is_name text) (Setting.Name text) s (λ h. h) e
  setting_ranged Choice.Priority text s e = ok_made IsRangedSetting (priority_in text) Setting.Priority BadValue s (λ k is. (let told = when_some _ _ k is in subst IsPriority told.1 (and_parts _ _ told.0).1)) e
  setting_ranged Choice.Full text s e = let same : Setting.Full ≡ s = cc in subst IsRangedSetting same tt

  settings_ranged : (items : List (Choice × List ℕ)) (s : Settings) → settings_in roster items ≡ Ok s → AreRangedSettings s
  settings_ranged items s e =
      ok_mapped AreRangedSettings (each (λ (item : Choice × List ℕ). setting_in roster item.0 item.1) items) last_settings s
      (λ given is. all_ranged given (recursion_from_All IsRangedSetting given (each_all (λ (item : Choice × List ℕ). setting_in roster item.0 item.1) IsRangedSetting (λ item. setting_ranged item.0 item.1) items given is))) e

-- ---- requests
abbrev pub IsRangedAsked : Who → OrFault Asked → Type 0
IsRangedAsked who (Ok (acts commands)) = All (IsRanged who) commands
IsRangedAsked who (Ok (list full jobs)) = Unit {0}
IsRangedAsked who (Err fault) = Unit {0}

default_name : is_name (codes "STDIN") ≡ true
unfolding is_name
default_name = refl

module _ (roster : List (List ℕ × ℕ)) (who : Who) (named : IsName who.user) where
  module _ (s : Settings) (ranged : AreRangedSettings s) where
    values_ranged : AreValues (values_of roster s.changes)
    values_ranged = record {
      name = or_else IsName s.changes.name (codes "STDIN") ranged.name default_name;
      priority = or_else IsPriority s.changes.priority _ ranged.priority refl;
      nodes = or_else (IsFrom 1 MAX_NODES) s.changes.nodes 1 ranged.nodes (omega arith, omega arith);
      limit = or_else (IsFrom 1 MAX_LIMIT) s.changes.limit 3600 ranged.limit (omega arith, omega arith);
      account = or_else IsAccount s.changes.account None ranged.account tt;
    }

    of_utility : (utility : Utility) (jobs : List StampValue) → IsRangedAsked who (Ok (request_of roster utility s jobs))
    of_utility Qsub jobs = All-cons (IsRanged who) (Submit (values_of roster s.changes) s.held) [] (named, values_ranged) (All-nil (IsRanged who))
    of_utility Qalter jobs = All-map (IsRanged who) (λ job. Alter job s.changes) jobs (λ k d h. ranged)
    of_utility Qhold jobs = All-map (IsRanged who) (λ job. Hold job (kinds_given s)) jobs (λ k d h. tt)
    of_utility Qrls jobs = All-map (IsRanged who) (λ job. Release job (kinds_given s)) jobs (λ k d h. tt)
    of_utility Qdel jobs = All-map (IsRanged who) Delete jobs (λ k d h. tt)
    of_utility Qstat jobs = tt

  pub request_ranged : (here : ℕ) (words : List (List ℕ)) → IsRangedAsked who (request_in roster here words)
  request_ranged here [] = tt
  request_ranged here (name ∷ words) = with_utility (utility_named name)
    where
      with_jobs : (utility : Utility) (s : Settings) → AreRangedSettings s → (jobs : OrFault (List StampValue)) → IsRangedAsked who (jobs >>= λ js. Ok (request_of roster utility s js))
      with_jobs utility s ranged (Err fault) = tt
      with_jobs utility s ranged (Ok js) = of_utility s ranged utility js

      with_operands : (utility : Utility) (s : Settings) → AreRangedSettings s → (operands : OrFault (List (List ℕ))) → IsRangedAsked who (operands >>= λ os. jobs_in roster here utility os >>= λ js. Ok (request_of roster utility s js))
      with_operands utility s ranged (Err fault) = tt
      with_operands utility s ranged (Ok os) = with_jobs utility s ranged (jobs_in roster here utility os)

      with_settings : (utility : Utility) (settings : OrFault Settings) (operands : OrFault (List (List ℕ))) → ((s : Settings) → settings ≡ Ok s → AreRangedSettings s)
          → IsRangedAsked who (settings >>= λ s. operands >>= λ os. jobs_in roster here utility os >>= λ js. Ok (request_of roster utility s js))
      with_settings utility (Err fault) operands h = tt
      with_settings utility (Ok s) operands h = with_operands utility s (h s refl) operands

      with_utility : (utility : Option Utility)
          → IsRangedAsked who (ok_or utility UnknownUtility >>= λ u. settings_in roster (spelling u None words).items >>= λ s. (spelling u None words).rest >>= λ os. jobs_in roster here u os >>= λ js. Ok (request_of roster u s js))
      with_utility None = tt
      with_utility (Some u) = with_settings u (settings_in roster (spelling u None words).items) (spelling u None words).rest (settings_ranged roster (spelling u None words).items)
