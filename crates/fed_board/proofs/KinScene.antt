-- Two sites that submitted a job each hold kin sets.
use Rattle.std.proofs.Common.{◌≡◌, ℕ, ◌<◌, [], ◌∷◌, ◌++◌, true, false, refl, sym, ap, subst, inl, inr, arith}
use Rattle.std.proofs.lemmas.Bool.{both_ways}
use Rattle.fed_stamp.specs.Stamp.{StampValue}
use Rattle.fed_stamp.specs.Version.{covers}
use Rattle.fed_lattice.specs.Sets.{Has}
use Rattle.fed_lattice.specs.History.{History, OneEach}
use Rattle.fed_lattice.specs.VersionOf.{version_of, HasSites}
use Rattle.fed_model.specs.Body.{Body, Body.Submit}
use Rattle.fed_model.specs.View.{view}
use Rattle.fed_theory.specs.ViewSteps.{join_views}
use Rattle.fed_model.specs.Lawful.{IsGrounded, IsLawful, AreKin}
use Rattle.fed_theory.proofs.ViewLaws.{view_union}
use Rattle.fed_board.proofs.Scenes.{here, there}

abbrev IsSubmit : Body → Type 0
IsSubmit (Submit owner values held) = Unit {0}
IsSubmit _ = ⊥

grounded_submit : (ops : History Body) (t : StampValue) (body : Body) → IsSubmit body → IsGrounded ops t body
grounded_submit ops t (Submit owner values held) s = tt
grounded_submit ops t _ s = absurd s

-- a set of Submits at the 16 sites with different stamps is lawful
submits_lawful : (ops : History Body) → HasSites ops → OneEach ops → ((e : StampValue × Body) → Has ops e → IsSubmit e.1) → IsLawful ops
submits_lawful ops sites one all = record {
  sites = sites;
  distinct = one;
  grounded = λ e h. grounded_submit ops e.0 e.1 (all e h);
  one_begin = λ named s t a b h k. absurd (all _ h);
  one_finish = λ named s t a b h k. absurd (all _ h);
  one_grant = λ named s t a b term h k. absurd (all _ h);
  one_return = λ named s t term h k. absurd (all _ h);
  begun_held = λ named s a h. absurd (all _ h);
}

-- what holds of the one operation of a set of one
alone : (e : StampValue × Body) (P : StampValue × Body → Type 0) → P e → (f : StampValue × Body) → Has (e ∷ []) f → P f
alone e P p f (inl q) = subst P q p
alone e P p f (inr k) = absurd k

-- two Submits of one site or of two, by different stamps
module _ (d e : StampValue × Body) (first : IsSubmit d.1) (second : IsSubmit e.1) (small : d.0.site < 16) (small_too : e.0.site < 16) (apart : d.0 ≡ e.0 → ⊥) where
  one_lawful : (x : StampValue × Body) → IsSubmit x.1 → x.0.site < 16 → IsLawful (x ∷ [])
  one_lawful x submit below = submits_lawful (x ∷ []) (alone x (λ f. f.0.site < 16) below)
      (λ f g h k same. alone x (λ (y : StampValue × Body). y ≡ g) (alone x (λ (y : StampValue × Body). x ≡ y) refl g k) f h)
      (alone x (λ f. IsSubmit f.1) submit)

  pair : (P : StampValue × Body → Type 0) → P d → P e → (f : StampValue × Body) → Has (d ∷ e ∷ []) f → P f
  pair P p q f (inl i) = subst P i p
  pair P p q f (inr k) = alone e P q f k

  pair_one_each : OneEach (d ∷ e ∷ [])
  pair_one_each f g h k = pair (λ x. x.0 ≡ g.0 → x ≡ g)
      (pair (λ y. d.0 ≡ y.0 → d ≡ y) (λ s. refl) (λ s. absurd (apart s)) g k)
      (pair (λ y. e.0 ≡ y.0 → e ≡ y) (λ s. absurd (apart (sym s))) (λ s. refl) g k) f h

  pair_kin : covers (version_of (e ∷ [])) d.0 ≡ false → covers (version_of (d ∷ [])) e.0 ≡ false → AreKin (d ∷ []) (e ∷ [])
  pair_kin new new_too = record {
    left = one_lawful d first small;
    right = one_lawful e second small_too;
    both = submits_lawful (d ∷ e ∷ []) (pair (λ f. f.0.site < 16) small small_too) pair_one_each (pair (λ f. IsSubmit f.1) first second);
    left_shares = alone d (λ f. covers (version_of (e ∷ [])) f.0 ≡ true → Has (e ∷ []) f) (λ c. absurd (both_ways _ new c));
    right_shares = alone e (λ f. covers (version_of (d ∷ [])) f.0 ≡ true → Has (d ∷ []) f) (λ c. absurd (both_ways _ new_too c));
  }

pub exchange_kin : AreKin here there
exchange_kin = pair_kin _ _ tt tt (omega arith) (omega arith) (λ s. let p : ◌≡◌ {A = ℕ} 0 1 = ap (λ (t : StampValue). t.site) s in absurd (omega arith)) refl refl

exchange_joins : view (here ++ there) ≡ join_views (view here) (view there)
exchange_joins = view_union here there exchange_kin
