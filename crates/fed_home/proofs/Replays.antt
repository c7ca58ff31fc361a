-- What entries and lines come to.
use Rattle.std.specs.Prelude.{Some, None, Option, Result, Ok, Err, zero, suc, length, if◌then◌else◌}
use Rattle.std.specs.Result.{result_ok}
use Rattle.std.specs.Str.{bytes_eq}
use Rattle.std.proofs.Common.{◌≡◌, ◌⊎◌, inl, inr, ℕ, ◌+◌, Bool, true, false, List, [], ◌∷◌, ◌++◌, refl, ap, append_assoc, sym, subst, ◌∙◌}
use Rattle.std.proofs.lemmas.Option.{same_Some}
use Rattle.fed_replica.specs.State.{State, empty_at, state_of}
use Rattle.fed_site.specs.Journal.{after_lines, kept_line, kept_lines}
use Rattle.fed_site.specs.Known.{known_in}
use Rattle.fed_site.specs.Rosters.{roster_after, roster_after_lines}
use Rattle.fed_site.specs.Says.{site_says}
use Rattle.fed_site.specs.Site.{SiteValue}
use Rattle.fed_site.proofs.Replays.{still_roster, unkept}
use Rattle.fed_journal.specs.Journal.{IsBeforeOrAfter, entries_in, entries_of}
use Rattle.fed_journal.specs.Lines.{recovered}
use Rattle.fed_home.specs.declared.faults.HomeFault.{HomeFault}
use Rattle.fed_home.specs.declared.faults.HomeFault.TheVariants.{UnreadHeard, UnkeptEntry}
use Rattle.fed_home.specs.declared.headers.JournalFormat.{JournalFormat}
use Rattle.fed_home.specs.declared.headers.JournalFormat.TheVariants.{One, Two, Three, Four}
use Rattle.fed_home.specs.declared.headers.Header.{Header}
use Rattle.fed_home.specs.Header.{header_in, is_compacted}
use Rattle.fed_home.specs.Replay.{Replayed, after_heard, after_known, after_kept, begun, begun_by, heard_text, replay, replayed_of, site_after}

-- lines after lines
pub after_both : (roster : List (List ℕ × ℕ)) (s : State) (first second : List (List ℕ)) → after_lines roster s (first ++ second) ≡ after_lines (roster_after_lines roster first) (after_lines roster s first) second
after_both roster s [] second = refl
after_both roster s (line ∷ first) second = after_both (roster_after roster line) (site_says roster s line).after first second

pub roster_after_both : (roster : List (List ℕ × ℕ)) (first second : List (List ℕ)) → roster_after_lines roster (first ++ second) ≡ roster_after_lines (roster_after_lines roster first) second
roster_after_both roster [] second = refl
roster_after_both roster (line ∷ first) second = roster_after_both (roster_after roster line) first second

pub kept_both : (roster : List (List ℕ × ℕ)) (s : State) (first second : List (List ℕ)) → kept_lines roster s (first ++ second) ≡ kept_lines roster s first ++ kept_lines (roster_after_lines roster first) (after_lines roster s first) second
kept_both roster s [] second = refl
kept_both roster s (line ∷ first) second =
    let says = site_says roster s line in
    let next = roster_after roster line in
    ap (λ ls. kept_line says.kept line ++ ls) (kept_both next says.after first second)
    ∙ sym (append_assoc (kept_line says.kept line) (kept_lines next says.after first) (kept_lines (roster_after_lines next first) (after_lines next says.after first) second))

-- a line that is kept
kept_first : (number : ℕ) (roster : List (List ℕ × ℕ)) (s : State) (line : List ℕ) (rest : List (List ℕ)) → (site_says roster s line).kept ≡ true
    → after_kept number roster s (line ∷ rest) ≡ after_kept (number + 1) (roster_after roster line) (site_says roster s line).after rest
kept_first number roster s line rest e = ap (λ b. if b then after_kept (number + 1) (roster_after roster line) (site_says roster s line).after rest else Err (UnkeptEntry number)) e

-- what a site keeps is read as the site that has answered it
pub kept_read : (number : ℕ) (roster : List (List ℕ × ℕ)) (s : State) (lines : List (List ℕ)) → after_kept number roster s (kept_lines roster s lines) ≡ Ok (site_after roster lines s)
kept_read number roster s [] = refl
kept_read number roster s (line ∷ lines) = go (site_says roster s line).kept refl (λ n. kept_read n (roster_after roster line) (site_says roster s line).after lines)
  where
    go : (b : Bool) → (site_says roster s line).kept ≡ b
        → ((n : ℕ) → after_kept n (roster_after roster line) (site_says roster s line).after (kept_lines (roster_after roster line) (site_says roster s line).after lines) ≡ Ok (site_after (roster_after roster line) lines (site_says roster s line).after))
        → after_kept number roster s (kept_lines roster s (line ∷ lines)) ≡ Ok (site_after roster (line ∷ lines) s)
    go true e ih =
        let rest = kept_lines (roster_after roster line) (site_says roster s line).after lines in
        ap (λ b. after_kept number roster s (kept_line b line ++ rest)) e
        ∙ kept_first number roster s line rest e
        ∙ ih (number + 1)
    go false e ih =
        let rest = kept_lines (roster_after roster line) (site_says roster s line).after lines in
        ap (λ b. after_kept number roster s (kept_line b line ++ rest)) e
        ∙ (λ k. after_kept number (sym (still_roster roster s line e) k) (sym (unkept roster s line e) k) rest)
        ∙ ih number

-- what is read on where a test passed
goes_on : (b : Bool) (fault : HomeFault) (old new : Result Replayed HomeFault) (r t : Replayed) → (old ≡ Ok r → new ≡ Ok t) → (if b then old else Err fault) ≡ Ok r → (if b then new else Err fault) ≡ Ok t
goes_on true fault old new r t next e = next e
goes_on false fault old new r t next e = cc

kept_more : (number : ℕ) (roster : List (List ℕ × ℕ)) (s : State) (first : List (List ℕ)) (r : Replayed) (lines : List (List ℕ)) → after_kept number roster s first ≡ Ok r
    → after_kept number roster s (first ++ kept_lines r.roster r.state lines) ≡ Ok (site_after r.roster lines r.state)
kept_more number roster s [] r lines e =
    let site : Replayed = record { roster = roster; state = s } in
    let is : site ≡ r = cc in
    subst (λ (x : Replayed). after_kept number roster s (kept_lines x.roster x.state lines) ≡ Ok (site_after x.roster lines x.state)) is (kept_read number roster s lines)
kept_more number roster s (line ∷ first) r lines e =
    let says = site_says roster s line in
    let next = roster_after roster line in
    goes_on says.kept (UnkeptEntry number) (after_kept (number + 1) next says.after first) (after_kept (number + 1) next says.after (first ++ kept_lines r.roster r.state lines)) r (site_after r.roster lines r.state)
    (kept_more (number + 1) next says.after first r lines) e

heard_more : (count from : ℕ) (roster : List (List ℕ × ℕ)) (s : State) (first : List (List ℕ)) (r : Replayed) (lines : List (List ℕ)) → after_heard count from roster s first ≡ Ok r
    → after_heard count from roster s (first ++ kept_lines r.roster r.state lines) ≡ Ok (site_after r.roster lines r.state)
heard_more zero from roster s first r lines e = kept_more (3 + from) roster s first r lines e
heard_more (suc count) from roster s [] r lines e = cc
heard_more (suc count) from roster s (line ∷ first) r lines e =
    let after = (site_says roster s line).after in
    let next = roster_after roster line in
    goes_on (bytes_eq (heard_text after from) line) (UnreadHeard (3 + from)) (after_heard count (from + 1) next after first) (after_heard count (from + 1) next after (first ++ kept_lines r.roster r.state lines)) r (site_after r.roster lines r.state)
    (heard_more count (from + 1) next after first r lines) e

known_more : (o : Option State) (old new : State → Result Replayed HomeFault) (r t : Replayed) → ((s : State) → old s ≡ Ok r → new s ≡ Ok t) → after_known o old ≡ Ok r → after_known o new ≡ Ok t
known_more None old new r t next e = cc
known_more (Some s) old new r t next e = next s e

begun_more : (format : JournalFormat) (roster : List (List ℕ × ℕ)) (here : ℕ) (first : List (List ℕ)) (r : Replayed) (lines : List (List ℕ)) → begun format roster here first ≡ Ok r
    → begun format roster here (first ++ kept_lines r.roster r.state lines) ≡ Ok (site_after r.roster lines r.state)
begun_more One roster here first r lines e = kept_more 2 roster (empty_at here) first r lines e
begun_more Three roster here first r lines e = kept_more 2 roster (empty_at here) first r lines e
begun_more Two roster here [] r lines e = cc
begun_more Two roster here (text ∷ first) r lines e = known_more (known_in roster here text) (λ s. after_kept 3 roster s first) (λ s. after_kept 3 roster s (first ++ kept_lines r.roster r.state lines)) r (site_after r.roster lines r.state) (λ s. kept_more 3 roster s first r lines) e
begun_more Four roster here [] r lines e = cc
begun_more Four roster here (text ∷ first) r lines e =
    known_more (known_in roster here text) (λ s. after_heard (length roster) 0 roster s first) (λ s. after_heard (length roster) 0 roster s (first ++ kept_lines r.roster r.state lines)) r (site_after r.roster lines r.state)
    (λ s. heard_more (length roster) 0 roster s first r lines) e

behind_more : (first : List (List ℕ)) (o : Option Header) (r : Replayed) (lines : List (List ℕ)) → begun_by first o ≡ Ok r → begun_by (first ++ kept_lines r.roster r.state lines) o ≡ Ok (site_after r.roster lines r.state)
behind_more first None r lines e = cc
behind_more first (Some h) r lines e = begun_more h.format h.roster h.site first r lines e

pub ok_given : (came : Result Replayed HomeFault) (r : Replayed) → result_ok came ≡ Some r → came ≡ Ok r
ok_given (Ok x) r e = ap Ok (same_Some x r e)
ok_given (Err fault) r e = cc

-- the entries with those behind them that a site keeps of more lines
pub replayed_more : (entries : List (List ℕ)) (r : Replayed) (lines : List (List ℕ)) → replay entries ≡ Some r
    → replay (entries ++ kept_lines r.roster r.state lines) ≡ Some (record { roster = roster_after_lines r.roster lines; state = after_lines r.roster r.state lines })
replayed_more [] r lines e = cc
replayed_more (first ∷ entries) r lines e = ap result_ok (behind_more entries (header_in first) r lines (ok_given (begun_by entries (header_in first)) r e))

-- lines that a site keeps are read as the site that has answered them
pub kept_are_read : (number : ℕ) (roster : List (List ℕ × ℕ)) (s : State) (lines : List (List ℕ)) → kept_lines roster s lines ≡ lines → after_kept number roster s lines ≡ Ok (site_after roster lines s)
kept_are_read number roster s lines e = ap (after_kept number roster s) (sym e) ∙ kept_read number roster s lines

-- and others aren't
pub unkept_are_not : (number line : ℕ) (roster : List (List ℕ × ℕ)) (s : State) (lines : List (List ℕ)) → after_kept number roster s lines ≡ Err (UnkeptEntry line) → kept_lines roster s lines ≡ lines → ⊥
unkept_are_not number line roster s lines e k =
    let read : after_kept number roster s lines ≡ Ok (site_after roster lines s) = kept_are_read number roster s lines k in
    cc

-- ---- a header alone
abbrev replay_of : Option Header → Option Replayed
replay_of o = result_ok (begun_by [] o)

begins : (o : Option Header) (h : Header) → o ≡ Some h → replay_of o ≡ result_ok (begun h.format h.roster h.site [])
begins o h e = ap replay_of e

pub header_alone : (header : List ℕ) (h : Header) → header_in header ≡ Some h → is_compacted h.format ≡ false → replay (header ∷ []) ≡ Some (record { roster = h.roster; state = empty_at h.site })
header_alone header h e k = begins (header_in header) h e ∙ go h.format k
  where
    go : (format : JournalFormat) → is_compacted format ≡ false → result_ok (begun format h.roster h.site []) ≡ Some (record { roster = h.roster; state = empty_at h.site })
    go One k = refl
    go Two k = cc
    go Three k = refl
    go Four k = cc

pub header_knows : (header : List ℕ) (h : Header) → header_in header ≡ Some h → is_compacted h.format ≡ true → replay (header ∷ []) ≡ None
header_knows header h e k = begins (header_in header) h e ∙ go h.format k
  where
    go : (format : JournalFormat) → is_compacted format ≡ true → result_ok (begun format h.roster h.site []) ≡ None
    go One k = cc
    go Two k = refl
    go Three k = cc
    go Four k = refl

pub header_unread : (header : List ℕ) → header_in header ≡ None → replay (header ∷ []) ≡ None
header_unread header e = ap replay_of e

-- what a crash leaves
pub left_replayed : (entries lines : List (List ℕ)) (roster : List (List ℕ × ℕ)) (s : State) (file : List ℕ)
    → replay entries ≡ Some (record { roster = roster; state = s }) → IsBeforeOrAfter entries (kept_lines roster s lines) file
    → (replay (entries_in file) ≡ Some (record { roster = roster; state = s })) ⊎ (replay (entries_in file) ≡ Some (record { roster = roster_after_lines roster lines; state = after_lines roster s lines }))
left_replayed entries lines roster s file e (inl before) = inl (ap (λ r. replay (entries_of r)) before ∙ e)
left_replayed entries lines roster s file e (inr after) = inr (ap (λ r. replay (entries_of r)) after ∙ replayed_more entries (record { roster = roster; state = s }) lines e)

-- a site that has answered lines, once the entries that it keeps of them are in the file
pub open_again : (entries group lines : List (List ℕ)) (file : List ℕ) (old new : SiteValue) → recovered file ≡ Ok (entries ++ group) → group ≡ kept_lines old.roster (state_of old.replica) lines → replay entries ≡ Some (replayed_of old)
    → new.roster ≡ roster_after_lines old.roster lines → state_of new.replica ≡ after_lines old.roster (state_of old.replica) lines → replay (entries_in file) ≡ Some (replayed_of new)
open_again entries group lines file old new has is before roster after =
    let site : site_after old.roster lines (state_of old.replica) ≡ replayed_of new = λ i. record { roster = sym roster i; state = sym after i } in
    ap (λ r. replay (entries_of r)) has ∙ ap (λ g. replay (entries ++ g)) is ∙ replayed_more entries (replayed_of old) lines before ∙ ap Some site
