use Rattle.fed_replica.proofs.Receipts.{gap_left, gap_said, lacks, lacks_nothing, taken_left, taken_said}
use Rattle.fed_replica.proofs.replicas.Replica.receive.Goals as goal

pub returns-in-Ok-clause-said : goal.returns-in-Ok-clause-said
returns-in-Ok-clause-said c =
    let old = c.args.self.now in let new = c.take.new.self in let p = c.args.packet.now in
    taken_said old new p c.in-Ok.taken c.in-Ok.ensures.grew (lacks_nothing old new p c.in-Ok.ensures.known)

pub returns-in-Ok-clause-left : goal.returns-in-Ok-clause-left
returns-in-Ok-clause-left c =
    let old = c.args.self.now in let new = c.take.new.self in let p = c.args.packet.now in
    taken_left old new p c.take.ensures.site c.in-Ok.ensures.joined c.sender_is_in_range.ensures c.in-Ok.ensures.heard (lacks_nothing old new p c.in-Ok.ensures.known)

pub returns-in-Ok-clause-stands : goal.returns-in-Ok-clause-stands
returns-in-Ok-clause-stands c = λ ops others none kin here there. c.in-Ok.ensures.stands ops others kin here there

pub returns-in-Gap-clause-said : goal.returns-in-Gap-clause-said
returns-in-Gap-clause-said c =
    let old = c.args.self.now in let new = c.take.new.self in let p = c.args.packet.now in
    gap_said old new p c.in-Gap.missing (lacks old new p c.in-Gap.missing c.site_is_in_range.ensures (rw c.in-Gap.is at c.in-Err.ensures.fault))

pub returns-in-Gap-clause-left : goal.returns-in-Gap-clause-left
returns-in-Gap-clause-left c =
    let old = c.args.self.now in let new = c.take.new.self in let p = c.args.packet.now in
    gap_left old new p c.in-Gap.missing (lacks old new p c.in-Gap.missing c.site_is_in_range.ensures (rw c.in-Gap.is at c.in-Err.ensures.fault)) c.in-Err.ensures.unchanged

pub returns-in-Gap-clause-stands : goal.returns-in-Gap-clause-stands
returns-in-Gap-clause-stands c =
    let old = c.args.self.now in let new = c.take.new.self in let p = c.args.packet.now in
    let e = lacks old new p c.in-Gap.missing c.site_is_in_range.ensures (rw c.in-Gap.is at c.in-Err.ensures.fault) in
    λ ops others none kin here there. cc

pub returns-in-NoMemory-clause-memory : goal.returns-in-NoMemory-clause-memory
returns-in-NoMemory-clause-memory c =
    lacks_nothing c.args.self.now c.take.new.self c.args.packet.now (rw c.in-NoMemory.is at c.in-Err.ensures.fault)
