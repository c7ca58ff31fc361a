use Rattle.std.proofs.Common.{refl}
use Rattle.fed_stamp.specs.Word.{is_name}
use Rattle.fed_stamp.specs.Roster.{first_fault, is_site_name}
use Rattle.test_values.proofs.two_sites.Goals as goal

pub unwrap-requires : goal.unwrap-requires
unfolding first_fault is_site_name is_name
unwrap-requires c = rw c.new.ensures.same refl
