-- The laws of changes that are read together with their stamps.
use Rattle.std.proofs.Common.{◌≡◌, [], ◌∷◌, ◌++◌, refl, ap, inl, inr, sym, subst, ◌∙◌}
use Rattle.fed_stamp.specs.Stamp.{StampValue}
use Rattle.fed_lattice.specs.Sets.{Has, Includes, IsSameSet}
use Rattle.fed_lattice.specs.History.{History}
use Rattle.fed_lattice.specs.Stamped.{stamped}

module _ {C : Type 0} where
  pub stamped-append : (g h : History C) → stamped (g ++ h) ≡ stamped g ++ stamped h
  stamped-append [] h = refl
  stamped-append (e ∷ g) h = ap (λ l. (e.0, e) ∷ l) (stamped-append g h)

  pub stamped-Has : (h : History C) (e : StampValue × C) → Has h e → Has (stamped h) (e.0, e)
  stamped-Has [] e k = absurd k
  stamped-Has (d ∷ h) e (inl p) = inl (ap (λ (x : StampValue × C). (x.0, x)) p)
  stamped-Has (d ∷ h) e (inr k) = inr (stamped-Has h e k)

  pub Has-stamped : (h : History C) (s : StampValue × (StampValue × C)) → Has (stamped h) s → Has h s.1 × ((s.1.0, s.1) ≡ s)
  Has-stamped [] s k = absurd k
  Has-stamped (d ∷ h) s (inl p) =
      let q : d ≡ s.1 = ap (λ (x : StampValue × (StampValue × C)). x.1) p in
      (inl q, sym (ap (λ (x : StampValue × C). (x.0, x)) q) ∙ p)
  Has-stamped (d ∷ h) s (inr k) = let r = Has-stamped h s k in (inr r.0, r.1)

  included_stamped : (g h : History C) → Includes g h → Includes (stamped g) (stamped h)
  included_stamped g h more s k = let r = Has-stamped h s k in subst (Has (stamped g)) r.1 (stamped-Has g s.1 (more s.1 r.0))

  pub same_stamped : (g h : History C) → IsSameSet g h → IsSameSet (stamped g) (stamped h)
  same_stamped g h same = (included_stamped g h same.0, included_stamped h g same.1)
