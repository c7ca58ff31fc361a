-- What a site of a run knows and has heard is read again of the texts that it writes of that.
use Rattle.std.specs.Prelude.{nat_lt, drop, Some, option_map}
use Rattle.std.specs.List.{list_any}
use Rattle.std.proofs.Common.{◌≡◌, ◌≤◌, ◌<◌, ℕ, false, List, length, refl, sym, subst, ap, ◌∙◌}
use Rattle.fed_stamp.specs.Roster.{IsRoster}
use Rattle.fed_lattice.specs.History.{History}
use Rattle.fed_lattice.specs.VersionOf.{version_of}
use Rattle.fed_model.specs.Body.{Body}
use Rattle.fed_model.specs.Lawful.{IsLawful}
use Rattle.fed_model.specs.Limits.{IsWithinLimits}
use Rattle.fed_model.specs.Run.{World, run_from, start}
use Rattle.fed_model.specs.View.{view}
use Rattle.fed_replica.specs.State.{State}
use Rattle.fed_theory.proofs.HeardLaws.{heard_counters}
use Rattle.fed_site.specs.Journal.{after_lines}
use Rattle.fed_site.specs.Known.{IsHeardOf, heard_lines, known_in, unheard}
use Rattle.fed_site.specs.Packets.{IsPacketText}
use Rattle.fed_site.proofs.HeardLines.{restored}
use Rattle.fed_site.proofs.KnownTexts.{read_again}
use Rattle.fed_site.proofs.RosterLines.{IsUnreserved}
use Rattle.fed_home.specs.Compaction.{AreEntriesOf}
use Rattle.fed_home.specs.Replay.{replay}
use Rattle.fed_turns.specs.Run.{events_from, state_at}
use Rattle.fed_turns.specs.Turn.{MayTurns, Turn, after_turns, beginning}
use Rattle.fed_turns.proofs.Alarms.{start_stands}
use Rattle.fed_turns.proofs.CompactedEntries.{entries_read}
use Rattle.fed_turns.proofs.Inside.{NoneFrom, start_inside, turns_inside}
use Rattle.fed_turns.proofs.Reached.{good, lawful, run_reached, start_reached, within}
use Rattle.fed_turns.proofs.Takes.{none_told}
use Rattle.fed_turns.proofs.Turns.{turns_played}

-- A site of a run is this one, knows lawful operations within limits, of sites of its roster alone, and has heard of each
-- site a part of them.
record IsOfRun (roster : List (List ℕ × ℕ)) (i : ℕ) (s : State) : Type 0 where
  at : s.site ≡ i
  ops : History Body
  lawful : IsLawful ops
  within : IsWithinLimits ops
  knows : s.view ≡ view ops
  inside : list_any (λ counter. nat_lt 0 counter) (drop (length roster) s.view.version) ≡ false
  heard : IsHeardOf roster s

module _ (whole : List (List ℕ × ℕ)) (few : length whole ≤ 16) (rosters : ℕ → List (List ℕ × ℕ)) (turns : List Turn) (i : ℕ) (may : MayTurns whole (beginning rosters) turns) where
  abbrev roster : List (List ℕ × ℕ)
  roster = (after_turns (beginning rosters) turns).roster i

  abbrev held : State
  held = (after_turns (beginning rosters) turns).site i

  of_run : IsOfRun roster i held
  of_run =
      let n = length whole in
      let played = turns_played whole few turns (beginning rosters) start (start_stands rosters) (start_reached n) may in
      let reached = run_reached n (events_from (beginning rosters) turns) start played.ranged (start_reached n) in
      let w : World = run_from n start (events_from (beginning rosters) turns) in
      let g = good n few w reached in
      let inside = turns_inside whole few turns (beginning rosters) start (start_stands rosters) (start_reached n) may (start_inside rosters) i in
      let none : NoneFrom (length roster) (state_at i (w.site i)) = subst (NoneFrom (length roster)) (played.stands.sites i) inside in
      subst (IsOfRun roster i) (sym (played.stands.sites i)) (record {
        at = refl;
        ops = (w.site i).set;
        lawful = lawful n few w reached i;
        within = within n few w reached i;
        knows = refl;
        inside = none_told (version_of (w.site i).set) (length roster) (λ j far. (none j far).0);
        heard = record {
          counters = heard_counters n (events_from (beginning rosters) turns) few i;
          known = g.1.known i;
          others = λ from far. (none from far).1;
        };
      })

  module _ (own : i < length roster) (text : List ℕ) (t : IsPacketText (unheard held) 0 text) where
    pub known_again : known_in roster i text ≡ Some (unheard held)
    known_again =
        let r = of_run in
        let at = r.at in
        ap (λ here. known_in roster here text) (sym at)
        ∙ read_again roster held r.ops text r.lawful r.within r.knows (subst (λ here. here < length roster) (sym at) own) r.inside t

    module _ (k : ℕ) (short : length roster ≤ 16) (all : length roster ≤ k) where
      -- and with the lines of what it has heard it holds what it held
      pub restored_again : option_map (λ s. after_lines roster s (heard_lines held 0 k)) (known_in roster i text) ≡ Some held
      restored_again =
          let r = of_run in
          ap (option_map (λ s. after_lines roster s (heard_lines held 0 k))) known_again
          ∙ ap Some (restored roster short held r.ops r.within r.knows r.inside r.heard k all)

  -- the entries of its journal, once that is compacted, are read as the site
  pub entries_again : IsRoster roster → i < length roster → IsUnreserved roster → (entries : List (List ℕ)) → AreEntriesOf (record { roster = roster; state = held }) entries
      → replay entries ≡ Some (record { roster = roster; state = held })
  entries_again named own free entries are =
      let r = of_run in
      let at = r.at in
      ap replay are.are
      ∙ entries_read roster named.at_most held r.ops r.within r.knows r.inside r.heard named (subst (λ here. here < length roster) (sym at) own) free are.known
      (ap (λ here. known_in roster here are.known) at ∙ known_again own are.known are.knows)
