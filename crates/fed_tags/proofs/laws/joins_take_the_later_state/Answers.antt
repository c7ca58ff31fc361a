use Rattle.fed_tags.specs.TagLaws.{pair_state_joined}
use Rattle.fed_tags.proofs.laws.joins_take_the_later_state.Goals as goal

pub returns : goal.returns
returns c = pair_state_joined
