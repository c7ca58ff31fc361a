-- What a look-up of an entry's identifier finds.
use Rattle.std.specs.declared.cmp.Ordering.TheVariants.{Less}
use Rattle.std.specs.BTreeMap.{is_at}
use Rattle.std.specs.List.{AllByRecursion}
use Rattle.std.specs.List.Sorted.{IsStrictlySortedBy}
use Rattle.std.specs.Map.{keys_of, lookup}
use Rattle.std.specs.Ordering.{is_eq}
use Rattle.std.proofs.Common.{◌≡◌, List, [], ◌∷◌, Bool, true, false, Some, refl, ap, subst, inl, inr}
use Rattle.std.proofs.lemmas.Cmp.{tied_itself}
use Rattle.std.proofs.lemmas.Map.Views.{tells_apart}
use Rattle.fed_stamp.specs.Stamp.{StampValue}
use Rattle.fed_lattice.specs.ExactLaws.{exact_stamp}
use Rattle.fed_lattice.specs.Latest.{stamp_cmp}
use Rattle.fed_lattice.specs.LatestLaws.{stamp_total}
use Rattle.fed_lattice.specs.Sets.{Has}

-- what holds of all holds of each
pub all_has : {A : Type 0} (P : A → Type 0) (xs : List A) (x : A) → AllByRecursion P xs → Has xs x → P x
all_has P [] x a h = absurd h
all_has P (y ∷ ys) x a (inl same) = subst P same a.0
all_has P (y ∷ ys) x a (inr h) = all_has P ys x a.1 h

pub key_has : {X : Type 0} (es : List (StampValue × X)) (e : StampValue × X) → Has es e → Has (keys_of es) e.0
key_has [] e h = elim h [ ]
key_has (x ∷ es) e (inl same) = inl (ap (λ x. x.0) same)
key_has (x ∷ es) e (inr h) = inr (key_has es e h)

at_itself : (s : StampValue) → is_eq (stamp_cmp s s) ≡ true
at_itself s = ap is_eq (tied_itself stamp_total s)

less_apart : (s t : StampValue) → stamp_cmp s t ≡ Less → (b : Bool) → is_eq (stamp_cmp t s) ≡ b → b ≡ false
less_apart s t less true e =
    let same : t ≡ s = tells_apart exact_stamp t s e in
    let tied : stamp_cmp s s ≡ Less = rw same at less in
    let own = tied_itself stamp_total s in
    absurd cc
less_apart s t less false e = refl

-- a look-up of an entry's identifier finds its value
pub entry_found : {X : Type 0} (es : List (StampValue × X)) (e : StampValue × X) → IsStrictlySortedBy stamp_cmp (keys_of es) → Has es e → lookup (is_at (stamp_cmp e.0)) es ≡ Some e.1
unfolding IsStrictlySortedBy
entry_found [] e sorted h = elim h [ ]
entry_found (x ∷ es) e sorted (inl same) =
    subst (λ y. lookup (is_at (stamp_cmp y.0)) (x ∷ es) ≡ Some y.1) same (rw (at_itself x.0) refl)
entry_found (x ∷ es) e sorted (inr h) =
    let less : stamp_cmp x.0 e.0 ≡ Less = all_has (λ y. stamp_cmp x.0 y ≡ Less) (keys_of es) e.0 sorted.0 (key_has es e h) in
    rw (less_apart x.0 e.0 less (is_eq (stamp_cmp e.0 x.0)) refl) (entry_found es e sorted.1 h)
