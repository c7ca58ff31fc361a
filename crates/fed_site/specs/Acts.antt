-- How the code does commands.
use Rattle.std.specs.Prelude.{◌≡◌}
use Rattle.fed_replica.specs.Replica.{ReplicaValue}
use Rattle.fed_replica.specs.State.{state_of}
use Rattle.fed_site.specs.declared.answers.TextAnswer.{TextAnswer}
use Rattle.fed_site.specs.SiteAnswer.{text_of}
use Rattle.fed_site.specs.Says.{Done}

-- it was done: the replica is what is left, and the answer says so
pub record DoneAs (new : ReplicaValue) (answer : TextAnswer) (d : Done) : Type 0 where
  pub after : state_of new ≡ d.after
  pub said : text_of answer.text ≡ d.text
  pub keeps : answer.kept ≡ d.kept
  pub complains : answer.complaint ≡ d.complaint
  pub begins : answer.begun ≡ d.begun
