use Rattle.std.proofs.Common.{◌≡◌, true, false, Some, refl, sym, ◌∙◌, map}
use Rattle.std.specs.List.{list_any}
use Rattle.std.proofs.lemmas.Result.{IfOk-weaker}
use Rattle.fed_stamp.specs.Roster.{sites_of}
use Rattle.fed_script.specs.Rosters.{is_reserved, sites_in}
use Rattle.fed_script.proofs.SiteWords.{list_any-map}
use Rattle.fed_script.proofs.rosters.read_roster.Goals as goal

pub returns-then-has_reserved : goal.returns-then-has_reserved
returns-then-has_reserved c =
    let named : sites_in (map (λ word. word.now) c.args.words.now) ≡ Some (sites_of c.in-Some.sites.items) = sym (rw c.in-Some.is at c.in_ok-sites.ensures) in
    let reserved : list_any (λ site. is_reserved site.0) (sites_of c.in-Some.sites.items) ≡ true =
    list_any-map (λ site. is_reserved site.0) (λ s. (s.0.now, s.1)) c.in-Some.sites.items ∙ rw c.deref.ensures.value at (sym c.has_reserved.ensures) ∙ c.if-has_reserved.true in
    rw (named, reserved) refl

pub returns : goal.returns
returns c =
    let named : sites_in (map (λ word. word.now) c.args.words.now) ≡ Some (sites_of c.in-Some.sites.items) = sym (rw c.in-Some.is at c.in_ok-sites.ensures) in
    let free : list_any (λ site. is_reserved site.0) (sites_of c.in-Some.sites.items) ≡ false =
    list_any-map (λ site. is_reserved site.0) (λ s. (s.0.now, s.1)) c.in-Some.sites.items ∙ rw c.deref.ensures.value at (sym c.has_reserved.ensures) ∙ c.if-has_reserved.false in
    IfOk-weaker c.boxed.result _ _ (λ held e. e ∙ c.ok.ensures.value ∙ rw (named, free, c.new.ensures.same, c.deref-2.ensures.value) refl) c.boxed.ensures
