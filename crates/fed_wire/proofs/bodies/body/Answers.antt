use Rattle.std.specs.Prelude.{is_some, option_map}
use Rattle.std.specs.Borrow.{Bor}
use Rattle.std.proofs.Common.{rules, ◌≡◌, ℕ, List, Ok, Err, None, sym, ap, ◌∙◌}
use Rattle.serde_json.specs.View.{view}
use Rattle.serde_json.specs.declared.value.Value.{Value}
use Rattle.fed_wire.specs.declared.faults.Part.TheVariants.{Need}
use Rattle.fed_wire.specs.declared.faults.WireFault.TheVariants.{Range}
use Rattle.fed_wire.specs.Faults.{Gives}
use Rattle.fed_board.specs.Board.{BoardValue}
use Rattle.fed_delta.specs.Delta.{DeltaValue}
use Rattle.fed_delta.specs.Packet.{PacketValue}
use Rattle.fed_wire.specs.Reading.{place, body_in, least_above}
use Rattle.fed_wire.proofs.BodyLaws.{sender_fault, need_fault, reached_fault, above_fault, jobs_fault, reservations_fault, retired_fault, packet_is, board_read}
use Rattle.fed_wire.proofs.bodies.body.Goals as goal

pub returns-in_err-sender : goal.returns-in_err-sender
returns-in_err-sender c d are =
    let f : Gives (body_in c.args.format (is_some c.args.members.now.retired) d) (Err c.in_err-sender.field-0.0) = λ n. sender_fault c.args.format d c.args.members.now are c.in_err-sender.field-0.0 c.in_err-sender.ensures in
    search rules

pub returns-in_err-need : goal.returns-in_err-need
returns-in_err-need c d are =
    let f : Gives (body_in c.args.format (is_some c.args.members.now.retired) d) (Err c.in_err-need.field-0.0) = λ n. need_fault c.args.format d c.args.members.now are c.in_ok-sender.sender c.in_ok-sender.ensures c.in_err-need.field-0.0 c.in_err-need.ensures in
    search rules

pub returns-in_err-reached : goal.returns-in_err-reached
returns-in_err-reached c d are =
    let f : Gives (body_in c.args.format (is_some c.args.members.now.retired) d) (Err c.in_err-reached.field-0.0) = λ n. reached_fault c.args.format d c.args.members.now are c.in_ok-sender.sender c.in_ok-sender.ensures c.in_ok-need.need c.in_ok-need.ensures c.in_err-reached.field-0.0 c.in_err-reached.ensures in
    search rules

pub returns-in-Some : goal.returns-in-Some
returns-in-Some c d are n =
    ap (λ k. Err (Range (place Need k))) c.get.ensures.same ∙ above_fault c.args.format d c.args.members.now are c.in_ok-sender.sender c.in_ok-sender.ensures c.in_ok-need.need c.in_ok-need.ensures c.in_ok-reached.reached c.in_ok-reached.ensures c.in-Some.site c.in-Some.ensures

pub returns-in_err-jobs : goal.returns-in_err-jobs
returns-in_err-jobs c d are =
    let below : None ≡ least_above 0 c.in_ok-need.need c.in_ok-reached.reached = sym c.in_default.is ∙ c.least_site_above.ensures in
    let f : Gives (body_in c.args.format (is_some c.args.members.now.retired) d) (Err c.in_err-jobs.field-0.0) = λ n. jobs_fault c.args.format d c.args.members.now are c.in_ok-sender.sender c.in_ok-sender.ensures c.in_ok-need.need c.in_ok-need.ensures c.in_ok-reached.reached c.in_ok-reached.ensures below
    c.in_err-jobs.field-0.0 (c.in_err-jobs.ensures n) in
    search rules

pub returns-in_err-reservations : goal.returns-in_err-reservations
returns-in_err-reservations c d are =
    let below : None ≡ least_above 0 c.in_ok-need.need c.in_ok-reached.reached = sym c.in_default.is ∙ c.least_site_above.ensures in
    let f : Gives (body_in c.args.format (is_some c.args.members.now.retired) d) (Err c.in_err-reservations.field-0.0) = λ n. reservations_fault c.args.format d c.args.members.now are c.in_ok-sender.sender c.in_ok-sender.ensures c.in_ok-need.need c.in_ok-need.ensures c.in_ok-reached.reached c.in_ok-reached.ensures below
    c.in_ok-jobs.jobs c.in_ok-jobs.ensures c.in_err-reservations.field-0.0 (c.in_err-reservations.ensures n) in
    search rules

pub returns-in_err-retired : goal.returns-in_err-retired
returns-in_err-retired c d are =
    let below : None ≡ least_above 0 c.in_ok-need.need c.in_ok-reached.reached = sym c.in_default.is ∙ c.least_site_above.ensures in
    let f : Gives (body_in c.args.format (is_some c.args.members.now.retired) d) (Err c.in_err-retired.field-0.0) = λ n. retired_fault c.args.format d c.args.members.now are c.in_ok-sender.sender c.in_ok-sender.ensures c.in_ok-need.need c.in_ok-need.ensures c.in_ok-reached.reached c.in_ok-reached.ensures below
    c.in_ok-jobs.jobs c.in_ok-jobs.ensures c.in_ok-reservations.reservations c.in_ok-reservations.ensures c.in_err-retired.field-0.0 (c.in_err-retired.ensures n) in
    search rules

pub from_parts-delta-requires : goal.from_parts-delta-requires
from_parts-delta-requires c = board_read c.args.format (view c.args.members.now.jobs.now) (view c.args.members.now.reservations.now) (option_map (λ (v : Bor Value). view v.now) c.args.members.now.retired) c.in_ok-reached.reached c.in_ok-jobs.jobs c.in_ok-reservations.reservations c.in_ok-retired.retired
    c.in_ok-jobs.ensures c.in_ok-reservations.ensures c.in_ok-retired.ensures

same_delta : (d : DeltaValue) (need : List ℕ) (changes : BoardValue) → d.need ≡ need → d.changes ≡ changes → d ≡ record { need = need; changes = changes }
same_delta d need changes e f = λ i. record { need = e i; changes = f i }

same_packet : (p : PacketValue) (sender : ℕ) (delta : DeltaValue) → p.sender ≡ sender → p.delta ≡ delta → p ≡ record { sender = sender; delta = delta }
same_packet p sender delta e f = λ i. record { sender = e i; delta = f i }

pub returns : goal.returns
returns c d are =
    let below : None ≡ least_above 0 c.in_ok-need.need c.in_ok-reached.reached = sym c.in_default.is ∙ c.least_site_above.ensures in
    ap (λ (p : PacketValue). Ok p) (same_packet c.new.result _ _ c.new.ensures.sender (c.new.ensures.delta ∙ same_delta c.from_parts-delta.result _ _ c.from_parts-delta.ensures.need c.from_parts-delta.ensures.changes))
    ∙ packet_is c.args.format d c.args.members.now are c.in_ok-sender.sender c.in_ok-sender.ensures c.in_ok-need.need c.in_ok-need.ensures c.in_ok-reached.reached c.in_ok-reached.ensures below c.in_ok-jobs.jobs c.in_ok-jobs.ensures c.in_ok-reservations.reservations c.in_ok-reservations.ensures
    c.in_ok-retired.retired c.in_ok-retired.ensures
