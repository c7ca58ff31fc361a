use Rattle.std.proofs.Common.{refl}
use Rattle.fed_stamp.specs.Word.{is_name}
use Rattle.test_values.proofs.bob.Goals as goal

pub unwrap-requires : goal.unwrap-requires
unfolding is_name
unwrap-requires c = rw c.new.ensures refl
