-- The parts of something of each stage of a job.
use Rattle.fed_model.specs.declared.stages.Stages.{Stages}

module _ {Deleted Grant Begun Finished : Type 0} where
  abbrev pub deleted_part : Stages Deleted Grant Begun Finished → Deleted
  deleted_part x = x.deleted

  abbrev pub grant_part : Stages Deleted Grant Begun Finished → Grant
  grant_part x = x.grant

  abbrev pub begun_part : Stages Deleted Grant Begun Finished → Begun
  begun_part x = x.begun

  abbrev pub finished_part : Stages Deleted Grant Begun Finished → Finished
  finished_part x = x.finished
