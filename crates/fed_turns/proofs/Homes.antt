-- Homes go on as what happens does.
use Rattle.std.specs.Prelude.{Some, None, Option, Ok, map}
use Rattle.std.specs.Result.{result_ok}
use Rattle.std.proofs.Common.{◌≡◌, ◌≢◌, ◌<◌, ◌≤◌, ◌==◌, ℕ, List, [], ◌∷◌, ◌++◌, All, Bool, true, false, length, refl, sym, subst, ap, ◌∙◌, inl, inr, arith}
use Rattle.std.proofs.lemmas.Bool.{cases_Bool, eqb-true}
use Rattle.std.proofs.lemmas.List.Elements.{All-cons, All-head, All-nil, All-tail, All-weaker}
use Rattle.std.proofs.lemmas.Option.{same_Some}
use Rattle.fed_stamp.specs.Roster.{IsRoster}
use Rattle.fed_replica.specs.State.{State, empty_at}
use Rattle.fed_theory.proofs.Runs.{put_same}
use Rattle.fed_site.specs.SiteAnswer.{bytes_of}
use Rattle.fed_site.specs.declared.site.SiteAnswer.{SiteAnswer}
use Rattle.fed_site.specs.Journal.{after_lines, kept_lines}
use Rattle.fed_site.specs.Rosters.{roster_after, roster_after_lines}
use Rattle.fed_site.specs.Says.{Said, site_says}
use Rattle.fed_site.proofs.RosterLines.{IsUnreserved, begins_length, lines_begin, lines_still, read_lawful, read_unreserved}
use Rattle.fed_journal.specs.Journal.{IsBeforeOrAfter, entries_in, entries_of}
use Rattle.fed_journal.specs.Lines.{recovered}
use Rattle.fed_home.specs.declared.headers.JournalFormat.{JournalFormat}
use Rattle.fed_home.specs.declared.headers.JournalFormat.TheVariants.{One, Two, Three, Four}
use Rattle.fed_home.specs.declared.headers.Header.{Header}
use Rattle.fed_home.specs.Compaction.{AreEntriesOf}
use Rattle.fed_home.specs.Header.{header_in}
use Rattle.fed_home.specs.Replay.{AreReplies, Replayed, begun, begun_by, replay}
use Rattle.fed_home.proofs.HeaderLines.{header_site}
use Rattle.fed_home.proofs.Replays.{replayed_more}
use Rattle.fed_turns.specs.Crash.{Happening, answered, cut, MayAllHappen, lines_all, lines_at, lines_if, turns_from, turns_of}
use Rattle.fed_turns.specs.Home.{IsHomeOf, course_of, happens_at, turns_at}
use Rattle.fed_turns.specs.Turn.{AreBeginnings, AreCarried, Course, IsCarried, MayTurns, Turn, after_turn, after_turns, beginning, shipped_by}
use Rattle.fed_turns.proofs.Crashes.{after_append, all_may, course_more, lines_answered, lines_stand, parted, still, still_own}
use Rattle.fed_turns.proofs.Headers.{header_roster, replayed_roster}
use Rattle.fed_turns.proofs.Knowing.{entries_again}

-- ---- what may happen behind what may
module _ (whole : List (List ℕ × ℕ)) where
  turns_happen : (ts : List Turn) (c : Course) → MayTurns whole c ts → MayAllHappen whole c (map answered ts)
  turns_happen [] c may = tt
  turns_happen (t ∷ ts) c may = (may.0, turns_happen ts (after_turn c t) may.1)

  happen_append : (hs ks : List Happening) (c : Course) → MayAllHappen whole c hs → MayAllHappen whole (after_turns c (turns_from c hs)) ks → MayAllHappen whole c (hs ++ ks)
  happen_append [] ks c first later = later
  happen_append (h ∷ hs) ks c first later =
      let ts = turns_of c h in
      let d = after_turns c ts in
      (first.0, happen_append hs ks d first.1 (subst (λ (x : Course). MayAllHappen whole x ks) (after_append ts (turns_from d hs) c) later))

  -- answers to lines of a site are turns there
  replies_may : (i : ℕ) (lines : List (List ℕ)) (answers : List SiteAnswer) (c : Course) → i < length (c.roster i) → AreBeginnings whole (c.roster i) lines → AreReplies (c.roster i) (c.site i) lines answers
      → AreCarried (c.roster i) c.shipped (c.site i) lines → MayTurns whole c (turns_at i lines answers)
  replies_may i [] [] c small parts replies carried = tt
  replies_may i [] (answer ∷ answers) c small parts replies carried = tt
  replies_may i (line ∷ lines) [] c small parts replies carried = tt
  replies_may i (line ∷ lines) (answer ∷ answers) c small parts replies carried =
      let roster = c.roster i in
      let next = roster_after roster line in
      let said : Said = site_says roster (c.site i) line in
      let t : Turn = record { site = i; line = line; answer = bytes_of answer } in
      let more : List (List ℕ) = shipped_by said.reply (bytes_of answer) in
      let apart = parted c.shipped line said.kept (kept_lines next said.after lines) carried in
      let later : AreCarried next (c.shipped ++ more) said.after lines =
      All-weaker (IsCarried c.shipped) (IsCarried (c.shipped ++ more)) (still c.shipped more) (kept_lines next said.after lines) apart.1 in
      let here = sym (put_same c.site i said.after) in
      let knows = sym (put_same c.roster i next) in (
        record { site = small; part = parts.0; said = replies.0; carried = apart.0 },
        replies_may i lines answers (after_turn c t)
            (subst (λ (r : List (List ℕ × ℕ)). i < length r) knows (still_own roster line i small))
            (subst (λ (r : List (List ℕ × ℕ)). AreBeginnings whole r lines) knows parts.1)
            (subst (λ (r : List (List ℕ × ℕ)). AreReplies r ((after_turn c t).site i) lines answers) knows (subst (λ (s : State). AreReplies next s lines answers) here replies.4))
            (subst (λ (r : List (List ℕ × ℕ)). AreCarried r (c.shipped ++ more) ((after_turn c t).site i) lines) knows (subst (λ (s : State). AreCarried next (c.shipped ++ more) s lines) here later)),
      )

module _ (i : ℕ) where
  turn_sites : (lines : List (List ℕ)) (answers : List SiteAnswer) → All (λ t. t.site ≡ i) (turns_at i lines answers)
  turn_sites [] answers = All-nil (λ (t : Turn). t.site ≡ i)
  turn_sites (line ∷ lines) [] = All-nil (λ (t : Turn). t.site ≡ i)
  turn_sites (line ∷ lines) (answer ∷ answers) =
      All-cons (λ (t : Turn). t.site ≡ i) (record { site = i; line = line; answer = bytes_of answer }) (turns_at i lines answers) refl (turn_sites lines answers)

  turn_lines : (roster : List (List ℕ × ℕ)) (s : State) (lines : List (List ℕ)) (answers : List SiteAnswer) → AreReplies roster s lines answers → map (λ t. t.line) (turns_at i lines answers) ≡ lines
  turn_lines roster s [] [] replies = refl
  turn_lines roster s [] (answer ∷ answers) replies = refl
  turn_lines roster s (line ∷ lines) [] replies = absurd replies
  turn_lines roster s (line ∷ lines) (answer ∷ answers) replies = ap (λ l. line ∷ l) (turn_lines (roster_after roster line) (site_says roster s line).after lines answers replies.4)

  lines_of : (roster : List (List ℕ × ℕ)) (s : State) (lines : List (List ℕ)) (answers : List SiteAnswer) → AreReplies roster s lines answers → lines_all i (map answered (turns_at i lines answers)) ≡ lines
  lines_of roster s lines answers replies = lines_answered i (turns_at i lines answers) (turn_sites lines answers) ∙ turn_lines roster s lines answers replies

  -- ---- what a home stands for
  module _ (rosters : ℕ → List (List ℕ × ℕ)) (hs : List Happening) where
    abbrev c : Course
    c = course_of rosters hs

    abbrev now_at : Replayed
    now_at = record { roster = c.roster i; state = c.site i }

    now_is : (file : List ℕ) (now : Replayed) → IsHomeOf rosters i hs file → replay (entries_in file) ≡ Some now → now_at ≡ now
    now_is file now h e = same_Some now_at now (sym h.2 ∙ e)

    -- a file that stands for the site once more has happened
    more_home : (old file : List ℕ) (h : IsHomeOf rosters i hs old) (ks : List Happening) (lines : List (List ℕ)) → lines_all i ks ≡ lines
        → replay (entries_in file) ≡ Some (record { roster = roster_after_lines (c.roster i) lines; state = after_lines (c.roster i) (c.site i) lines }) → IsHomeOf rosters i (hs ++ ks) file
    more_home old file h ks lines is e =
        let went = course_more i rosters hs ks in
        let knows : (course_of rosters (hs ++ ks)).roster i ≡ roster_after_lines (c.roster i) lines = went.roster ∙ ap (roster_after_lines (c.roster i)) is in
        let holds : (course_of rosters (hs ++ ks)).site i ≡ after_lines (c.roster i) (c.site i) lines = went.site ∙ ap (after_lines (c.roster i) (c.site i)) is in
        let small = h.1 in
        let longer = begins_length (c.roster i) (roster_after_lines (c.roster i) lines) (lines_begin (c.roster i) lines) in (
          subst IsRoster (sym knows) (lines_still IsRoster read_lawful (c.roster i) lines h.0),
          subst (λ (r : List (List ℕ × ℕ)). i < length r) (sym knows) (omega (arith, small, longer)),
          e ∙ ap Some (λ k. record { roster = sym knows k; state = sym holds k }),
        )

    -- and one that has what the site keeps of lines behind the entries of another
    added_stands : (old file : List ℕ) (lines : List (List ℕ)) → IsHomeOf rosters i hs old → recovered file ≡ Ok (entries_in old ++ kept_lines (c.roster i) (c.site i) lines)
        → replay (entries_in file) ≡ Some (record { roster = roster_after_lines (c.roster i) lines; state = after_lines (c.roster i) (c.site i) lines })
    added_stands old file lines h added = ap (λ r. replay (entries_of r)) added ∙ replayed_more (entries_in old) now_at lines h.2

    module _ (whole : List (List ℕ × ℕ)) where
      -- ---- lines are answered
      pub home_answered : (old new : List ℕ) (now : Replayed) (lines : List (List ℕ)) (answers : List SiteAnswer) → MayAllHappen whole (beginning rosters) hs → IsHomeOf rosters i hs old → replay (entries_in old) ≡ Some now
          → AreReplies now.roster now.state lines answers → recovered new ≡ Ok (entries_in old ++ kept_lines now.roster now.state lines) → AreCarried now.roster c.shipped now.state lines → AreBeginnings whole now.roster lines
          → MayAllHappen whole (beginning rosters) (hs ++ map answered (turns_at i lines answers)) × IsHomeOf rosters i (hs ++ map answered (turns_at i lines answers)) new
      home_answered old new now lines answers may h e = subst
          (λ (x : Replayed). AreReplies x.roster x.state lines answers → recovered new ≡ Ok (entries_in old ++ kept_lines x.roster x.state lines) → AreCarried x.roster c.shipped x.state lines → AreBeginnings whole x.roster lines
          → MayAllHappen whole (beginning rosters) (hs ++ map answered (turns_at i lines answers)) × IsHomeOf rosters i (hs ++ map answered (turns_at i lines answers)) new)
          (now_is old now h e)
          (λ replies added carried parts.
          let ts : List Turn = turns_at i lines answers in (
            happen_append whole hs (map answered ts) (beginning rosters) may (turns_happen whole ts c (replies_may whole i lines answers c h.1 parts replies carried)),
            more_home old new h (map answered ts) lines (lines_of (c.roster i) (c.site i) lines answers replies) (added_stands old new lines h added),
          ))

      -- ---- a crash
      left_home : (old file : List ℕ) (h : IsHomeOf rosters i hs old) (lines : List (List ℕ)) → IsBeforeOrAfter (entries_in old) (kept_lines (c.roster i) (c.site i) lines) file → MayAllHappen whole (beginning rosters) hs
          → AreCarried (c.roster i) c.shipped (c.site i) lines → AreBeginnings whole (c.roster i) lines
          → (stand : Bool) × MayAllHappen whole (beginning rosters) (hs ++ cut i lines stand ∷ []) × IsHomeOf rosters i (hs ++ cut i lines stand ∷ []) file
      left_home old file h lines (inl e) may carried parts = (
        false,
        happen_append whole hs (cut i lines false ∷ []) (beginning rosters) may (tt, tt),
        more_home old file h (cut i lines false ∷ []) [] refl (ap (λ r. replay (entries_of r)) e ∙ h.2),
      )
      left_home old file h lines (inr e) may carried parts = (
        true,
        happen_append whole hs (cut i lines true ∷ []) (beginning rosters) may (record { site = h.1; parts = parts; carried = carried }, tt),
        more_home old file h (cut i lines true ∷ []) lines (lines_stand i lines) (added_stands old file lines h e),
      )

      pub home_crashed : (old file : List ℕ) (now : Replayed) (lines : List (List ℕ)) → MayAllHappen whole (beginning rosters) hs → IsHomeOf rosters i hs old → replay (entries_in old) ≡ Some now
          → IsBeforeOrAfter (entries_in old) (kept_lines now.roster now.state lines) file → AreCarried now.roster c.shipped now.state lines → AreBeginnings whole now.roster lines
          → (stand : Bool) × MayAllHappen whole (beginning rosters) (hs ++ cut i lines stand ∷ []) × IsHomeOf rosters i (hs ++ cut i lines stand ∷ []) file
      home_crashed old file now lines may h e = subst
          (λ (x : Replayed). IsBeforeOrAfter (entries_in old) (kept_lines x.roster x.state lines) file → AreCarried x.roster c.shipped x.state lines → AreBeginnings whole x.roster lines
          → (stand : Bool) × MayAllHappen whole (beginning rosters) (hs ++ cut i lines stand ∷ []) × IsHomeOf rosters i (hs ++ cut i lines stand ∷ []) file)
          (now_is old now h e) (λ left carried parts. left_home old file h lines left may carried parts)

      -- ---- a journal is compacted
      pub home_entries : length whole ≤ 16 → (file : List ℕ) (now : Replayed) (entries : List (List ℕ)) → MayAllHappen whole (beginning rosters) hs → IsHomeOf rosters i hs file → replay (entries_in file) ≡ Some now
          → AreEntriesOf now entries → replay entries ≡ Some now
      home_entries few file now entries may h e =
          let free : IsUnreserved (c.roster i) = replayed_roster IsUnreserved read_unreserved now_at (entries_in file) h.2 in
          subst (λ (x : Replayed). AreEntriesOf x entries → replay entries ≡ Some x) (now_is file now h e)
          (entries_again whole few rosters (turns_from (beginning rosters) hs) i (all_may whole hs (beginning rosters) may) h.0 h.1 free entries)

    -- ---- what happens elsewhere
    pub home_of_other : (later : List Happening) (file : List ℕ) → All (λ h. happens_at h ≢ i) later → IsHomeOf rosters i hs file → IsHomeOf rosters i (hs ++ later) file
    home_of_other later file away h = more_home file file h later [] (none_there later away) h.2
      where
        none_if : (site : ℕ) (lines : List (List ℕ)) → site ≢ i → lines_if (site == i) lines ≡ []
        none_if site lines apart = elim (cases_Bool (site == i)) [
          | inl e ↦ absurd (apart (eqb-true site i e))
          | inr e ↦ ap (λ b. lines_if b lines) e
        ]

        none_at : (k : Happening) → happens_at k ≢ i → lines_at i k ≡ []
        none_at (answered turn) apart = none_if turn.site (turn.line ∷ []) apart
        none_at (cut site lines true) apart = none_if site lines apart
        none_at (cut site lines false) apart = refl

        none_there : (ks : List Happening) → All (λ k. happens_at k ≢ i) ks → lines_all i ks ≡ []
        none_there [] all = refl
        none_there (k ∷ ks) all =
            let here = none_at k (All-head (λ (x : Happening). happens_at x ≢ i) k ks all) in
            ap (λ l. l ++ lines_all i ks) here ∙ none_there ks (All-tail (λ (x : Happening). happens_at x ≢ i) k ks all)

-- ---- a new home
abbrev IsNewHome : List ℕ → Replayed → Type 0
IsNewHome file now = (i : ℕ) × ((rosters : ℕ → List (List ℕ × ℕ)) → rosters i ≡ now.roster → IsHomeOf rosters i [] file)

-- the site of a header alone
abbrev made_by : Header → Replayed
made_by h = record { roster = h.roster; state = empty_at h.site }

new_home : (header : List ℕ) (file : List ℕ) (h : Header) (now : Replayed) → header_in header ≡ Some h → result_ok (begun h.format h.roster h.site []) ≡ Some now → replay (entries_in file) ≡ Some now → IsNewHome file now
new_home header file h now is begins e = go h.format begins
  where
    from_nothing : made_by h ≡ now → IsNewHome file now
    from_nothing same = subst (IsNewHome file) same (
      h.site,
      λ rosters at. (
        subst IsRoster (sym at) (header_roster IsRoster read_lawful header h is),
        subst (λ (r : List (List ℕ × ℕ)). h.site < length r) (sym at) (header_site header h is),
        e ∙ ap Some (sym same) ∙ ap Some (λ k. record { roster = sym at k; state = empty_at h.site }),
      ),
    )

    go : (format : JournalFormat) → result_ok (begun format h.roster h.site []) ≡ Some now → IsNewHome file now
    go One b = from_nothing (same_Some (made_by h) now b)
    go Two b = cc
    go Three b = from_nothing (same_Some (made_by h) now b)
    go Four b = cc

pub home_made : (header file : List ℕ) (now : Replayed) → replay (entries_in file) ≡ Some now → recovered file ≡ Ok (header ∷ []) → IsNewHome file now
home_made header file now e r = go (header_in header) refl (sym (ap (λ x. replay (entries_of x)) r) ∙ e)
  where
    go : (o : Option Header) → header_in header ≡ o → result_ok (begun_by [] o) ≡ Some now → IsNewHome file now
    go None is f = cc
    go (Some h) is f = new_home header file h now is f e
