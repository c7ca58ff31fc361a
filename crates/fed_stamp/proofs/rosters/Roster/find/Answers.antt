use Rattle.std.proofs.Common.{◌≡◌, ◌<◌, ◌∙◌, true, false, arith, length, ltb, below_more}
use Rattle.std.proofs.lemmas.Bool.{lt-ltb}
use Rattle.fed_stamp.proofs.LeastIndex.{least_index_found, least_index_none}
use Rattle.fed_stamp.proofs.RosterLemmas.{site_read, named_site, within_from_site, past_from_none}
use Rattle.fed_stamp.specs.Roster.{is_named, sites_in}
use Rattle.fed_stamp.proofs.rosters.Roster.find.Goals as goal
use Rattle.fed_stamp.proofs.rosters.Roster.find.Goals.{in-Some+else-eq, in_default}

pub returns-then-eq : goal.returns-then-eq
returns-then-eq c =
    let sites = sites_in c.self.inside.sites in
    let site = site_read sites c.loop-i.i c.self.inside.sites _ _ c.self.invariant.0 c.loop-i-test.true c.in-Some.is in
    let l : c.loop-i.i < length sites = within_from_site sites c.loop-i.i _ site in
    let named : is_named sites c.args.name.now c.loop-i.i ≡ true = named_site sites c.loop-i.i _ c.args.name.now site ∙ (cc) in
    let fits : ltb c.loop-i.i 16 ≡ true = lt-ltb c.loop-i.i 16 c.loop-i-test.true in
    rw (← c.self.view_is) (c.new.ensures ∙ rw (fits) (least_index_found _ _ _ l named (λ k p. c.loop-i.invariant k p (omega arith))))

pub loop-i-preserved : goal.loop-i-preserved
loop-i-preserved c =
    let sites = sites_in c.self.inside.sites in
    below_more (λ k. k < length sites → is_named sites c.args.name.now k ≡ false) c.loop-i.i c.loop-i.invariant (λ l. elim c.match-self-i.branch [
      | in-Some+else-eq w ↦ named_site sites c.loop-i.i _ c.args.name.now (site_read sites c.loop-i.i c.self.inside.sites _ _ c.self.invariant.0 c.loop-i-test.true w.in-Some.is) ∙ (cc)
      | in_default w ↦ absurd (omega (arith, past_from_none sites c.loop-i.i (site_read sites c.loop-i.i c.self.inside.sites _ _ c.self.invariant.0 c.loop-i-test.true w.in_default.is)))
    ])

pub returns : goal.returns
returns c = rw (← c.self.view_is) (least_index_none _ _ (λ k h. c.loop-i.invariant k (omega (arith, c.self.invariant.1.at_most)) h))
