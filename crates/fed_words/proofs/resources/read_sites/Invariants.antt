use Rattle.std.proofs.Common.{◌≡◌, drop, length}
use Rattle.std.specs.List.{slice_split}
use Rattle.fed_lattice.specs.Results.{each}
use Rattle.fed_words.specs.declared.faults.UsageFault.TheVariants.{BadValue}
use Rattle.fed_words.specs.Resource.{is_plus}
use Rattle.fed_words.specs.Site.{site_in}
use Rattle.fed_words.proofs.Each.{each_after}
use Rattle.fed_words.proofs.resources.read_sites.Given as goal

abbrev pub invariant-loop-name : goal.invariant-loop-name
invariant-loop-name l = each (site_in BadValue l.roster) (slice_split is_plus l.value)
    ≡ each_after (site_in BadValue l.roster) l.sites.items (drop (length l.yielded) (slice_split is_plus l.value))
