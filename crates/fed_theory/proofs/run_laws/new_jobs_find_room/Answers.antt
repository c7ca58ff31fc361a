use Rattle.fed_theory.proofs.JobRoom.{jobs_since, room_left}
use Rattle.fed_theory.proofs.run_laws.new_jobs_find_room.Goals as goal

pub returns-clause-jobs : goal.returns-clause-jobs
returns-clause-jobs c n early late site few = jobs_since n early late site few

pub returns-clause-room : goal.returns-clause-room
returns-clause-room c n early late site who values held few room = room_left n early late site who values held few room
