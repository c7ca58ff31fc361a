-- What holds of each roster that words name holds of that of a header, and of that which a site knows by its entries.
use Rattle.std.specs.Prelude.{codes, zero, suc, Option, Some, None, option_map, Result, Ok, Err, length, if◌then◌else◌}
use Rattle.std.specs.Str.{bytes_eq}
use Rattle.std.proofs.Common.{◌≡◌, ℕ, ◌+◌, List, [], ◌∷◌, Bool, true, false, refl, subst}
use Rattle.std.proofs.lemmas.Option.{same_Some}
use Rattle.fed_replica.specs.State.{State, empty_at}
use Rattle.fed_words.specs.Site.{site_named}
use Rattle.fed_script.specs.Forms.{◌>>=◌}
use Rattle.fed_script.specs.Line.{words_in}
use Rattle.fed_script.specs.Rosters.{roster_of}
use Rattle.fed_site.specs.Known.{known_in}
use Rattle.fed_site.specs.Rosters.{roster_after}
use Rattle.fed_site.specs.Says.{site_says}
use Rattle.fed_site.proofs.RosterLines.{after_still}
use Rattle.fed_home.specs.declared.faults.HomeFault.{HomeFault}
use Rattle.fed_home.specs.declared.faults.HomeFault.TheVariants.{UnkeptEntry, UnreadHeard}
use Rattle.fed_home.specs.declared.headers.JournalFormat.{JournalFormat}
use Rattle.fed_home.specs.declared.headers.JournalFormat.TheVariants.{One, Two, Three, Four}
use Rattle.fed_home.specs.declared.headers.Header.{Header}
use Rattle.fed_home.specs.Header.{format_of, header_in, header_of, site_among}
use Rattle.fed_home.specs.Replay.{Replayed, after_heard, after_known, after_kept, begun, begun_by, heard_text, replay, replayed_by}
use Rattle.fed_home.proofs.Replays.{ok_given}

-- what comes behind a test that passed
passed : (b : Bool) (fault : HomeFault) (x : Result Replayed HomeFault) (r : Replayed) → (if b then x else Err fault) ≡ Ok r → x ≡ Ok r
passed true fault x r e = e
passed false fault x r e = cc

module _ (P : List (List ℕ × ℕ) → Type 0) (read : (words : List (List ℕ)) (roster : List (List ℕ × ℕ)) → roster_of words ≡ Some roster → P roster) where
  -- ---- headers
  module _ (name : List ℕ) (h : Header) where
    module _ (format : JournalFormat) where
      found_roster : (roster : List (List ℕ × ℕ)) → P roster → (found : Option ℕ) → option_map (λ site. record { roster = roster; site = site; format = format }) found ≡ Some h → P h.roster
      found_roster roster holds None e = cc
      found_roster roster holds (Some i) e =
          let made : Header = record { roster = roster; site = i; format = format } in
          subst (λ (x : Header). P x.roster) (same_Some made h e) holds

      among_roster : (words : List (List ℕ)) (o : Option (List (List ℕ × ℕ))) → roster_of words ≡ o
          → (o >>= λ roster. option_map (λ site. record { roster = roster; site = site; format = format }) (site_named roster name)) ≡ Some h → P h.roster
      among_roster words None is e = cc
      among_roster words (Some roster) is e = found_roster roster (read words roster is) (site_named roster name) e

    format_roster : (o : Option JournalFormat) (words : List (List ℕ)) → (o >>= λ format. site_among format name words) ≡ Some h → P h.roster
    format_roster None words e = cc
    format_roster (Some format) words e = among_roster format words (roster_of words) refl e

    tested_roster : (test : Bool) (version : List ℕ) (words : List (List ℕ)) → (if test then (format_of version >>= λ format. site_among format name words) else None) ≡ Some h → P h.roster
    tested_roster true version words e = format_roster (format_of version) words e
    tested_roster false version words e = cc

  words_roster : (words : List (List ℕ)) (h : Header) → header_of words ≡ Some h → P h.roster
  words_roster [] h e = cc
  words_roster (program ∷ []) h e = cc
  words_roster (program ∷ version ∷ []) h e = cc
  words_roster (program ∷ version ∷ name ∷ sites) h e = tested_roster name h (bytes_eq program (codes "nettlebeam")) version sites e

  read_roster : (words : Option (List (List ℕ))) (h : Header) → (words >>= header_of) ≡ Some h → P h.roster
  read_roster None h e = cc
  read_roster (Some words) h e = words_roster words h e

  pub header_roster : (line : List ℕ) (h : Header) → header_in line ≡ Some h → P h.roster
  header_roster line h e = read_roster (words_in line) h e

  -- ---- entries
  module _ (now : Replayed) where
    kept_roster : (number : ℕ) (roster : List (List ℕ × ℕ)) (s : State) (lines : List (List ℕ)) → P roster → after_kept number roster s lines ≡ Ok now → P now.roster
    kept_roster number roster s [] holds e =
        let made : Replayed = record { roster = roster; state = s } in
        let same : made ≡ now = cc in
        subst (λ (x : Replayed). P x.roster) same holds
    kept_roster number roster s (line ∷ lines) holds e =
        let says = site_says roster s line in
        let next = roster_after roster line in
        kept_roster (number + 1) next says.after lines (after_still P read roster line holds)
        (passed says.kept (UnkeptEntry number) (after_kept (number + 1) next says.after lines) now e)

    heard_roster : (count from : ℕ) (roster : List (List ℕ × ℕ)) (s : State) (lines : List (List ℕ)) → P roster → after_heard count from roster s lines ≡ Ok now → P now.roster
    heard_roster zero from roster s lines holds e = kept_roster (3 + from) roster s lines holds e
    heard_roster (suc count) from roster s [] holds e = cc
    heard_roster (suc count) from roster s (line ∷ lines) holds e =
        let after = (site_says roster s line).after in
        let next = roster_after roster line in
        heard_roster count (from + 1) next after lines (after_still P read roster line holds)
        (passed (bytes_eq (heard_text after from) line) (UnreadHeard (3 + from)) (after_heard count (from + 1) next after lines) now e)

    known_roster : (o : Option State) (next : State → Result Replayed HomeFault) → ((s : State) → next s ≡ Ok now → P now.roster) → after_known o next ≡ Ok now → P now.roster
    known_roster None next holds e = cc
    known_roster (Some s) next holds e = holds s e

    begun_roster : (format : JournalFormat) (roster : List (List ℕ × ℕ)) (here : ℕ) (lines : List (List ℕ)) → P roster → begun format roster here lines ≡ Ok now → P now.roster
    begun_roster One roster here lines holds e = kept_roster 2 roster (empty_at here) lines holds e
    begun_roster Two roster here [] holds e = cc
    begun_roster Two roster here (text ∷ lines) holds e = known_roster (known_in roster here text) (λ s. after_kept 3 roster s lines) (λ s. kept_roster 3 roster s lines holds) e
    begun_roster Three roster here lines holds e = kept_roster 2 roster (empty_at here) lines holds e
    begun_roster Four roster here [] holds e = cc
    begun_roster Four roster here (text ∷ lines) holds e =
        known_roster (known_in roster here text) (λ s. after_heard (length roster) 0 roster s lines) (λ s. heard_roster (length roster) 0 roster s lines holds) e

    first_roster : (line : List ℕ) (lines : List (List ℕ)) (o : Option Header) → header_in line ≡ o → begun_by lines o ≡ Ok now → P now.roster
    first_roster line lines None is e = cc
    first_roster line lines (Some h) is e = begun_roster h.format h.roster h.site lines (header_roster line h is) e

    entries_roster : (entries : List (List ℕ)) → replayed_by entries ≡ Ok now → P now.roster
    entries_roster [] e = cc
    entries_roster (line ∷ lines) e = first_roster line lines (header_in line) refl e

    pub replayed_roster : (entries : List (List ℕ)) → replay entries ≡ Some now → P now.roster
    replayed_roster entries e = entries_roster entries (ok_given (replayed_by entries) now e)
