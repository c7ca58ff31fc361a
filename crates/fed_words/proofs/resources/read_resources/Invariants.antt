use Rattle.std.proofs.Common.{◌≡◌, List, drop, length}
use Rattle.std.specs.List.{slice_split}
use Rattle.fed_lattice.specs.Results.{each}
use Rattle.fed_words.specs.declared.resources.Resource.{Resource}
use Rattle.fed_words.specs.Resource.{is_comma, last_resources, resource_in}
use Rattle.fed_words.proofs.Each.{each_after}
use Rattle.fed_words.proofs.resources.read_resources.Given as goal

abbrev pub invariant-loop-pair : goal.invariant-loop-pair
invariant-loop-pair l = (given : List Resource) × (l.resources ≡ last_resources given)
    × (each (resource_in l.roster) (slice_split is_comma l.text)
    ≡ each_after (resource_in l.roster) given (drop (length l.yielded) (slice_split is_comma l.text)))
