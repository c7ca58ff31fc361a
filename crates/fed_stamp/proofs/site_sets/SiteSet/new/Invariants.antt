use Rattle.std.proofs.Common.{◌≡◌, length, take}
use Rattle.fed_stamp.proofs.SiteSetLemmas.{AgreesWith}
use Rattle.fed_stamp.proofs.site_sets.SiteSet.new.Given as goal

abbrev pub invariant-loop-site : goal.invariant-loop-site
invariant-loop-site l = record {
  len : length l.members ≡ 16;
  seen : AgreesWith (take l.site-index l.sites) l.members;
}
