-- What one site made up to a counter: the part of a set of which its jobs and its retired ranges are counted.
use Rattle.std.specs.Prelude.{filter, nat_le, ◌&&◌, ◌==◌, if◌then◌else◌}
use Rattle.std.proofs.Common.{◌≡◌, ℕ, ◌≤◌, ◌<◌, [], ◌∷◌, ◌++◌, Bool, true, false, sym, subst, ◌∙◌, inl, inr, arith, append-nil}
use Rattle.std.proofs.lemmas.Bool.{and_parts, and_from, eqb-true, eq-eqb, leb-true, le-leb}
use Rattle.std.proofs.lemmas.List.Elements.{filter-append}
use Rattle.fed_stamp.specs.Stamp.{StampValue}
use Rattle.fed_stamp.specs.Version.{counter_of, covers}
use Rattle.fed_lattice.specs.Sets.{Has}
use Rattle.fed_lattice.specs.SetLaws.{Has-left, Has-right, Has-push}
use Rattle.fed_lattice.specs.History.{History}
use Rattle.fed_lattice.specs.VersionOf.{version_of, HasSites}
use Rattle.fed_lattice.proofs.FilterLaws.{Has-filter, filter-Has}
use Rattle.fed_lattice.proofs.VersionOfLaws.{version_of-Has}
use Rattle.fed_model.specs.Body.{Body}
use Rattle.fed_theory.proofs.OriginCounts.{HasSameOwn}

abbrev pub is_own : ℕ → ℕ → StampValue × Body → Bool
is_own site counter e = (e.0.site == site) && nat_le e.0.counter counter

-- the operations that the site made up to the counter
abbrev pub made_upto : ℕ → ℕ → History Body → History Body
made_upto site counter ops = filter (is_own site counter) ops

pub own_upto : (site counter : ℕ) (ops : History Body) (e : StampValue × Body) → Has (made_upto site counter ops) e → Has ops e × (e.0.site ≡ site) × (e.0.counter ≤ counter)
own_upto site counter ops e h =
    let m = Has-filter (is_own site counter) ops e h in
    let p = and_parts (e.0.site == site) (nat_le e.0.counter counter) m.1 in
    (m.0, eqb-true e.0.site site p.0, leb-true e.0.counter counter p.1)

pub upto_own : (site counter : ℕ) (ops : History Body) (e : StampValue × Body) → Has ops e → e.0.site ≡ site → e.0.counter ≤ counter → Has (made_upto site counter ops) e
upto_own site counter ops e h at low = filter-Has (is_own site counter) ops e h (and_from (e.0.site == site) (nat_le e.0.counter counter) (eq-eqb e.0.site site at) (le-leb e.0.counter counter low))

-- a part of a history that is whole up to its version has of each site what the site made up to a counter
pub whole_own : (history ops : History Body) → HasSites ops → ((e : StampValue × Body) → Has ops e → Has history e) → ((e : StampValue × Body) → Has history e → covers (version_of ops) e.0 ≡ true → Has ops e)
    → (site : ℕ) → HasSameOwn ops (made_upto site (counter_of (version_of ops) site) history) site
whole_own history ops sites within whole site = record {
  there = λ e h at.
      let le : e.0.counter ≤ counter_of (version_of ops) e.0.site = version_of-Has ops e h (sites e h) in
      upto_own site (counter_of (version_of ops) site) history e (within e h) at (subst (λ n. e.0.counter ≤ counter_of (version_of ops) n) at le);
  back = λ e h at.
      let m = own_upto site (counter_of (version_of ops) site) history e h in
      whole e m.0 (le-leb e.0.counter _ (subst (λ n. e.0.counter ≤ counter_of (version_of ops) n) (sym at) m.2));
}

-- one operation more, of another site or of a greater counter
pub upto_kept : (site counter : ℕ) (ops : History Body) (new : StampValue × Body) → is_own site counter new ≡ false → made_upto site counter (ops ++ new ∷ []) ≡ made_upto site counter ops
upto_kept site counter ops new e = filter-append (is_own site counter) ops (new ∷ []) ∙ go (is_own site counter new) e
  where
    go : (b : Bool) → b ≡ false → made_upto site counter ops ++ (if b then new ∷ [] else []) ≡ made_upto site counter ops
    go true f = cc
    go false f = append-nil (made_upto site counter ops)

-- else it is the last of its site, whose set has all that was made there
pub upto_added : (site counter : ℕ) (history ops : History Body) (new : StampValue × Body) → is_own site counter new ≡ true
    → ((e : StampValue × Body) → Has ops e → Has history e) → ((e : StampValue × Body) → Has history e → e.0.site ≡ site → Has ops e)
    → ((e : StampValue × Body) → Has ops e → e.0.counter < new.0.counter) → HasSameOwn (made_upto site counter (history ++ new ∷ [])) (ops ++ new ∷ []) site
upto_added site counter history ops new own within had below = record {
  there = λ e h at.
      let m = own_upto site counter (history ++ new ∷ []) e h in
      elim (Has-push history new e m.0) [
        | inl k ↦ Has-left ops (new ∷ []) e (had e k at)
        | inr q ↦ Has-right ops (new ∷ []) e (inl q)
      ];
  back = λ e h at.
      let top : new.0.counter ≤ counter = leb-true new.0.counter counter (and_parts (new.0.site == site) (nat_le new.0.counter counter) own).1 in
      elim (Has-push ops new e h) [
        | inl k ↦ (let low = below e k in upto_own site counter (history ++ new ∷ []) e (Has-left history (new ∷ []) e (within e k)) at (omega arith))
        | inr q ↦ upto_own site counter (history ++ new ∷ []) e (Has-right history (new ∷ []) e (inl q)) at (subst (λ (x : StampValue × Body). x.0.counter ≤ counter) q top)
      ];
}
