-- What a site knows is read of its text again.
use Rattle.std.specs.Prelude.{not, nat_lt, drop, Some, Ok}
use Rattle.std.specs.List.{list_any}
use Rattle.std.proofs.Common.{◌≡◌, ◌<◌, ℕ, List, [], true, false, length, replicate, sym, ap, ◌∙◌, arith}
use Rattle.std.proofs.lemmas.Bool.{and_from, cond-true, eq-eqb, lt-leb, or_from}
use Rattle.fed_stamp.specs.Version.{is_below, met}
use Rattle.fed_lattice.specs.History.{History}
use Rattle.fed_lattice.specs.VersionOf.{version_of}
use Rattle.fed_lattice.proofs.VersionOfLaws.{length-version_of}
use Rattle.fed_board.specs.Board.{board_reads}
use Rattle.fed_model.specs.Body.{Body}
use Rattle.fed_model.specs.Lawful.{AreKin, IsLawful}
use Rattle.fed_model.specs.Limits.{IsWithinLimits}
use Rattle.fed_model.specs.View.{View, view}
use Rattle.fed_theory.proofs.Cuts.{AreCounted, cut_lawful, cut_nothing}
use Rattle.fed_theory.proofs.HeardLaws.{met_below}
use Rattle.fed_theory.proofs.VersionGrowth.{zeros_below}
use Rattle.fed_theory.specs.Cut.{cut}
use Rattle.fed_delta.proofs.CutLaws.{cut_whole}
use Rattle.fed_job_json.specs.declared.formats.Format.TheVariants.{Two}
use Rattle.fed_wire.specs.Packet.{IsPacket}
use Rattle.fed_delta.specs.Packet.{PacketValue}
use Rattle.fed_wire.specs.Reading.{packet_in}
use Rattle.fed_wire.proofs.PacketLaws.{again}
use Rattle.fed_replica.specs.State.{State}
use Rattle.fed_site.specs.Known.{is_whole, known_by, known_in, knowing, unheard}
use Rattle.fed_site.specs.Packets.{IsPacketText, is_foreign}

abbrev zeros : List ℕ
zeros = replicate 16 0

module _ (roster : List (List ℕ × ℕ)) (s : State) (ops : History Body) (text : List ℕ) (lawful : IsLawful ops) (within : IsWithinLimits ops) (is : s.view ≡ view ops) (own : s.site < length roster)
    (few : list_any (λ counter. nat_lt 0 counter) (drop (length roster) s.view.version) ≡ false) (t : IsPacketText (unheard s) 0 text) where
  abbrev p : PacketValue
  p = t.packet

  need_is : p.delta.need ≡ met zeros (version_of ops)
  need_is = t.made.need ∙ ap (λ (v : View). met zeros v.version) is

  none_needed : p.delta.need ≡ zeros
  none_needed = need_is ∙ met_below zeros (version_of ops) (sym (length-version_of ops)) (zeros_below 16 (version_of ops))

  cut_is : board_reads p.delta.changes ≡ cut (view ops) p.delta.need
  cut_is = t.made.cut_is ∙ ap (λ v. cut v p.delta.need) is

  limits : IsPacket Two p
  limits = t.limits ops zeros lawful within need_is cut_is

  is_read : packet_in text ≡ Ok p
  is_read = again Two text p limits t.again

  counted : AreCounted ops
  counted e h = let at = (within.stamps e h).0 in (omega (arith, at.0), at.1)

  kin : AreKin [] ops
  kin =
      let nothing = cut_nothing ops counted in
      record {
        left = cut_lawful ops [] lawful nothing;
        right = lawful;
        both = lawful;
        left_shares = λ e h c. absurd h;
        right_shares = nothing.whole;
      }

  below : is_below p.delta.need zeros ≡ true
  below = ap (λ need. is_below need zeros) none_needed ∙ zeros_below 16 zeros

  tells_all : board_reads p.delta.changes ≡ view ops
  tells_all = cut_is ∙ ap (cut (view ops)) none_needed ∙ cut_whole ops kin

  known : is_foreign roster p ≡ false
  known =
      let from : p.sender ≡ s.site = t.made.sender in
      or_from _ _ (lt-leb (length roster) p.sender (omega (arith, from, own)))
      (ap (λ (v : List ℕ). list_any (λ counter. nat_lt 0 counter) (drop (length roster) v)) t.made.reached ∙ few)

  whole : is_whole roster s.site p ≡ true
  whole = and_from _ _ (eq-eqb p.sender s.site t.made.sender) (and_from _ _ below (ap not known))

  same : knowing s.site p ≡ unheard s
  same = λ i. record { site = s.site; view = (tells_all ∙ sym is) i; heard = λ from. zeros }

  pub read_again : known_in roster s.site text ≡ Some (unheard s)
  read_again = ap (known_by roster s.site) is_read ∙ cond-true _ _ _ whole ∙ ap Some same
