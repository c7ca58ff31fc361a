-- That equality of packets tells all packets apart.
use Rattle.std.specs.Prelude.{◌&&◌, nat_eq, Bool}
use Rattle.std.specs.Cmp.{IsPartialEquivalence, both_ways}
use Rattle.std.proofs.Common.{ap, sym, ◌∙◌}
use Rattle.fed_lattice.specs.Exact.{TellsApart}
use Rattle.fed_lattice.specs.ExactLaws.{tells_numbers, tells_pairs}
use Rattle.fed_delta.specs.DeltaLaws.{same_delta, tells_deltas}
use Rattle.fed_delta.specs.Packet.{PacketValue}

-- the senders and the deltas are equal
abbrev pub same_packet : PacketValue → PacketValue → Bool
same_packet p q = nat_eq p.sender q.sender && same_delta p.delta q.delta

pub tells_packets : TellsApart same_packet
tells_packets p q =
    let t = tells_pairs nat_eq same_delta tells_numbers tells_deltas (p.sender, p.delta) (q.sender, q.delta) in (
      λ h. let r = t.0 h in λ i. record { sender = (r i).0; delta = (r i).1 },
      λ h. t.1 (ap (λ (x : PacketValue). (x.sender, x.delta)) h),
    )

pub packet_laws : IsPartialEquivalence same_packet
packet_laws = record {
  symm = λ a b. both_ways _ _ (λ e. (tells_packets b a).1 (sym ((tells_packets a b).0 e))) (λ e. (tells_packets a b).1 (sym ((tells_packets b a).0 e)));
  trans = λ a b c p q. (tells_packets a c).1 ((tells_packets a b).0 p ∙ (tells_packets b c).0 q);
}
