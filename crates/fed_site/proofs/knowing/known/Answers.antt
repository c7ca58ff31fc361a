use Rattle.std.proofs.Common.{◌≡◌, ◌∙◌, sym, ap, true, Some, Ok}
use Rattle.std.proofs.lemmas.Bool.{cond-true}
use Rattle.fed_delta.specs.Delta.{DeltaValue}
use Rattle.fed_delta.specs.Packet.{PacketValue}
use Rattle.fed_wire.specs.Reading.{packet_in}
use Rattle.fed_site.specs.Known.{is_whole, known_by}
use Rattle.fed_site.proofs.Openings.{known_state}
use Rattle.fed_site.proofs.knowing.known.Goals as goal

pub returns-then-is_whole-clause-state : goal.returns-then-is_whole-clause-state
returns-then-is_whole-clause-state c =
    let p : PacketValue = c.in-Ok.packet in
    let found : packet_in c.args.text.now ≡ Ok p = sym c.in-Ok.ensures.exact in
    let whole : is_whole c.args.roster.now c.args.here p ≡ true = sym c.is_whole.ensures ∙ c.if-is_whole.true in
    let records = c.into_changes-records.ensures ∙ ap (λ (d : DeltaValue). d.changes) c.into_delta.ensures in
    let new = c.holding.ensures in
    ap Some (known_state c.holding.result c.args.here p new.site new.heard (new.board ∙ records))
    ∙ sym (ap (known_by c.args.roster.now c.args.here) found ∙ cond-true _ _ _ whole)
