use Rattle.fed_board.proofs.CountedIdentifiers.{jobs_counted, reservations_counted}
use Rattle.fed_replica.proofs.counts.counts_are_read.Goals as goal

pub returns-clause-jobs : goal.returns-clause-jobs
returns-clause-jobs c = jobs_counted c.args.board.now c.board_is_covered.ensures c.board_is_in_order.ensures.jobs c.args.site

pub returns-clause-reservations : goal.returns-clause-reservations
returns-clause-reservations c = reservations_counted c.args.board.now c.board_is_covered.ensures c.board_is_in_order.ensures.reservations c.args.site
