-- An input that is served behind compactions and openings.
use Rattle.std.specs.Prelude.{IfErr, IfOk, Some, Option, Result, Ok, Err, true, false, Bool, ⊤}
use Rattle.std.specs.Io.KnownBytes.{Consumes, IsAtEnd}
use Rattle.std.specs.declared.io.Error.{Error}
use Rattle.std.proofs.Common.{◌≡◌, ℕ, List, [], ◌∷◌, ◌++◌, refl, sym, ap, subst, ◌∙◌, append_assoc, append-nil}
use Rattle.std.proofs.lemmas.Grind.{flat_map-append}
use Rattle.std.proofs.lemmas.Option.{same_Some}
use Rattle.fed_replica.specs.State.{State, state_of}
use Rattle.fed_site.specs.Journal.{after_lines}
use Rattle.fed_site.specs.Rosters.{roster_after_lines}
use Rattle.fed_journal.specs.Device.{Leaves}
use Rattle.fed_journal.specs.Journal.{entries_in, entries_of}
use Rattle.fed_journal.specs.Lines.{Reading}
use Rattle.fed_home.specs.Home.{IsOpen, state_in, home_device, site_of}
use Rattle.fed_home.specs.Replay.{Replayed, replay, replayed_of}
use Rattle.fed_home.specs.declared.faults.HomeFault.{HomeFault}
use Rattle.fed_home.specs.declared.homes.Home.{Home}
use Rattle.fed_home.proofs.Replays.{after_both, replayed_more, roster_after_both}
use Rattle.fed_serve.specs.Inputs.{lines_in}
use Rattle.fed_serve.specs.Openings.{AreBegun, AreWritten, Done, EndsAs, IsLeft, NotKept, Part, done_of, lines_in_all, lines_of, text_of}
use Rattle.fed_serve.specs.Served.{AreNotKept, HasAnswered, HasKept, Serves}
use Rattle.fed_serve.specs.declared.faults.ServeFault.{ServeFault}
use Rattle.fed_serve.specs.declared.faults.ServeFault.TheVariants as serve
use Rattle.fed_serve.specs.declared.openings.Stop.{Stop}
use Rattle.fed_serve.specs.declared.openings.Stop.TheVariants as stop
use Rattle.fed_serve.specs.declared.serving.Served.{Served}
use Rattle.fed_serve.specs.declared.serving.Served.TheVariants.{Ended, Long}
use Rattle.fed_serve.proofs.Groups.{consumes_more, consumes_start, never_ended}

abbrev Lines : Type 0
Lines = List (List ℕ)

abbrev Roster : Type 0
Roster = List (List ℕ × ℕ)

-- ---- a part more
done_lines : (parts : List Part) (given : Lines) → lines_of (parts ++ Done given ∷ []) ≡ lines_of parts ++ given
done_lines [] given = append-nil given
done_lines (Done first ∷ parts) given = ap (λ (ls : Lines). first ++ ls) (done_lines parts given) ∙ sym (append_assoc first (lines_of parts) given)
done_lines (NotKept first ∷ parts) given = ap (λ (ls : Lines). first ++ ls) (done_lines parts given) ∙ sym (append_assoc first (lines_of parts) given)

done_done : (parts : List Part) (given : Lines) → done_of (parts ++ Done given ∷ []) ≡ done_of parts ++ given
done_done [] given = append-nil given
done_done (Done first ∷ parts) given = ap (λ (ls : Lines). first ++ ls) (done_done parts given) ∙ sym (append_assoc first (done_of parts) given)
done_done (NotKept first ∷ parts) given = done_done parts given

lost_lines : (parts : List Part) (given : Lines) → lines_of (parts ++ NotKept given ∷ []) ≡ lines_of parts ++ given
lost_lines [] given = append-nil given
lost_lines (Done first ∷ parts) given = ap (λ (ls : Lines). first ++ ls) (lost_lines parts given) ∙ sym (append_assoc first (lines_of parts) given)
lost_lines (NotKept first ∷ parts) given = ap (λ (ls : Lines). first ++ ls) (lost_lines parts given) ∙ sym (append_assoc first (lines_of parts) given)

lost_done : (parts : List Part) (given : Lines) → done_of (parts ++ NotKept given ∷ []) ≡ done_of parts
lost_done [] given = refl
lost_done (Done first ∷ parts) given = ap (λ (ls : Lines). first ++ ls) (lost_done parts given)
lost_done (NotKept first ∷ parts) given = lost_done parts given

-- lines before a rest that are taken from it
from_rest : (parts given more rest : Lines) → rest ≡ given ++ more → parts ++ rest ≡ (parts ++ given) ++ more
from_rest parts given more rest is = ap (λ (ls : Lines). parts ++ ls) is ∙ sym (append_assoc parts given more)

module _ (frames : Bool) where
  done_written : (roster : Roster) (s : State) (parts : List Part) (given : Lines) (a b c : Option (List ℕ)) → AreWritten frames roster s parts a b
      → HasAnswered frames (roster_after_lines roster (done_of parts)) (after_lines roster s (done_of parts)) given b c → AreWritten frames roster s (parts ++ Done given ∷ []) a c
  done_written roster s [] given a b c before more = (c, subst (λ (o : Option (List ℕ)). HasAnswered frames roster s given o c) (sym before) more, refl)
  done_written roster s (Done first ∷ parts) given a b c before more = (
    before.0,
    before.1,
    done_written (roster_after_lines roster first) (after_lines roster s first) parts given before.0 b c before.2
        (subst (λ (t : State). HasAnswered frames (roster_after_lines (roster_after_lines roster first) (done_of parts)) t given b c) (after_both roster s first (done_of parts))
        (subst (λ (q : Roster). HasAnswered frames q (after_lines roster s (first ++ done_of parts)) given b c) (roster_after_both roster first (done_of parts)) more)),
  )
  done_written roster s (NotKept first ∷ parts) given a b c before more = (before.0, before.1, done_written roster s parts given before.0 b c before.2 more)

  lost_written : (roster : Roster) (s : State) (parts : List Part) (given : Lines) (a b c : Option (List ℕ)) → AreWritten frames roster s parts a b → AreNotKept frames given b c
      → AreWritten frames roster s (parts ++ NotKept given ∷ []) a c
  lost_written roster s [] given a b c before more = (c, subst (λ (o : Option (List ℕ)). AreNotKept frames given o c) (sym before) more, refl)
  lost_written roster s (Done first ∷ parts) given a b c before more = (before.0, before.1, lost_written (roster_after_lines roster first) (after_lines roster s first) parts given before.0 b c before.2 more)
  lost_written roster s (NotKept first ∷ parts) given a b c before more = (before.0, before.1, lost_written roster s parts given before.0 b c before.2 more)

  module _ (start_roster : Roster) (start : State) where
    -- Of all these lines all but the rest are written to, and so the site that began so knows this roster and holds this.
    pub record GoesBy (all rest : Lines) (roster : Roster) (s : State) (before after : Option (List ℕ)) : Type 0 where
      pub parts : List Part
      pub lines : all ≡ lines_of parts ++ rest
      pub written : AreWritten frames start_roster start parts before after
      pub knows : roster ≡ roster_after_lines start_roster (done_of parts)
      pub holds : s ≡ after_lines start_roster start (done_of parts)

    goes_done : (all old given rest : Lines) (roster : Roster) (s : State) (a b c : Option (List ℕ)) → GoesBy all old roster s a b → old ≡ given ++ rest → HasAnswered frames roster s given b c
        → GoesBy all rest (roster_after_lines roster given) (after_lines roster s given) a c
    goes_done all old given rest roster s a b c go is more = record {
      parts = go.parts ++ Done given ∷ [];
      lines = go.lines ∙ from_rest (lines_of go.parts) given rest old is ∙ ap (λ (ls : Lines). ls ++ rest) (sym (done_lines go.parts given));
      written = done_written start_roster start go.parts given a b c go.written
          (subst (λ (t : State). HasAnswered frames (roster_after_lines start_roster (done_of go.parts)) t given b c) go.holds
          (subst (λ (q : Roster). HasAnswered frames q s given b c) go.knows more));
      knows = (λ i. roster_after_lines (go.knows i) given) ∙ sym (roster_after_both start_roster (done_of go.parts) given) ∙ ap (roster_after_lines start_roster) (sym (done_done go.parts given));
      holds = (λ i. after_lines (go.knows i) (go.holds i) given) ∙ sym (after_both start_roster start (done_of go.parts) given) ∙ ap (after_lines start_roster start) (sym (done_done go.parts given));
    }

    goes_lost : (all old given rest : Lines) (roster : Roster) (s : State) (a b c : Option (List ℕ)) → GoesBy all old roster s a b → old ≡ given ++ rest → AreNotKept frames given b c → GoesBy all rest roster s a c
    goes_lost all old given rest roster s a b c go is more = record {
      parts = go.parts ++ NotKept given ∷ [];
      lines = go.lines ∙ from_rest (lines_of go.parts) given rest old is ∙ ap (λ (ls : Lines). ls ++ rest) (sym (lost_lines go.parts given));
      written = lost_written start_roster start go.parts given a b c go.written more;
      knows = go.knows ∙ ap (roster_after_lines start_roster) (sym (lost_done go.parts given));
      holds = go.holds ∙ ap (after_lines start_roster start) (sym (lost_done go.parts given));
    }

    -- the same site by other names
    pub goes_same : (all rest : Lines) (roster other_roster : Roster) (s other : State) (a b : Option (List ℕ)) → roster ≡ other_roster → s ≡ other → GoesBy all rest other_roster other a b → GoesBy all rest roster s a b
    goes_same all rest roster other_roster s other a b knows holds go = record { parts = go.parts; lines = go.lines; written = go.written; knows = knows ∙ go.knows; holds = holds ∙ go.holds }

    -- all lines of texts that were read to their ends, and those of the present one, of which this has begun
    pub record IsGoing (had has : Option (List ℕ)) (begun : List ℕ) (roster : Roster) (s : State) (before after : Option (List ℕ)) : Type 0 where
      pub inputs : List (List ℕ)
      pub read : List ℕ
      pub came : Consumes had has (text_of inputs ++ read)
      pub by : (more : List ℕ) → GoesBy (lines_in_all inputs ++ lines_in (read ++ more)) (lines_in (begun ++ more)) roster s before after

    pub going_none : (had a : Option (List ℕ)) → IsGoing had had [] start_roster start a a
    going_none had a = record {
      inputs = [];
      read = [];
      came = consumes_start had;
      by = λ more. record { parts = []; lines = refl; written = refl; knows = refl; holds = refl };
    }

    pub going_same : (had has : Option (List ℕ)) (begun : List ℕ) (roster other_roster : Roster) (s other : State) (a b : Option (List ℕ)) → roster ≡ other_roster → s ≡ other
        → IsGoing had has begun other_roster other a b → IsGoing had has begun roster s a b
    going_same had has begun roster other_roster s other a b knows holds going = record {
      inputs = going.inputs;
      read = going.read;
      came = going.came;
      by = λ more. goes_same (lines_in_all going.inputs ++ lines_in (going.read ++ more)) (lines_in (begun ++ more)) roster other_roster s other a b knows holds (going.by more);
    }

    -- ---- what is read more
    text_more : (inputs : List (List ℕ)) (last : List ℕ) → text_of (inputs ++ last ∷ []) ≡ text_of inputs ++ last
    text_more inputs last = flat_map-append (λ (input : List ℕ). input) inputs (last ∷ []) ∙ ap (λ (bs : List ℕ). text_of inputs ++ bs) (append-nil last)

    lines_more : (inputs : List (List ℕ)) (last : List ℕ) → lines_in_all (inputs ++ last ∷ []) ≡ lines_in_all inputs ++ lines_in last
    lines_more inputs last = flat_map-append lines_in inputs (last ∷ []) ∙ ap (λ (ls : Lines). lines_in_all inputs ++ ls) (append-nil (lines_in last))

    more_came : (had has now : Option (List ℕ)) (inputs : List (List ℕ)) (read chunk : List ℕ) → Consumes had has (text_of inputs ++ read) → Consumes has now chunk → Consumes had now (text_of inputs ++ (read ++ chunk))
    more_came had has now inputs read chunk first more = subst (Consumes had now) (append_assoc (text_of inputs) read chunk) (consumes_more had has now (text_of inputs ++ read) chunk first more)

    all_came : (had has now : Option (List ℕ)) (inputs : List (List ℕ)) (read chunk : List ℕ) → Consumes had has (text_of inputs ++ read) → Consumes has now chunk → Consumes had now (text_of (inputs ++ (read ++ chunk) ∷ []))
    all_came had has now inputs read chunk first more = subst (Consumes had now) (sym (text_more inputs (read ++ chunk))) (more_came had has now inputs read chunk first more)

    -- the lines of what was read, with what comes behind it
    lines_read : (inputs : List (List ℕ)) (read chunk more : List ℕ) → lines_in_all inputs ++ lines_in (read ++ (chunk ++ more)) ≡ lines_in_all inputs ++ lines_in ((read ++ chunk) ++ more)
    lines_read inputs read chunk more = ap (λ (bs : List ℕ). lines_in_all inputs ++ lines_in bs) (sym (append_assoc read chunk more))

    all_read : (inputs : List (List ℕ)) (read chunk : List ℕ) → lines_in_all inputs ++ lines_in (read ++ (chunk ++ [])) ≡ lines_in_all (inputs ++ (read ++ chunk) ∷ [])
    all_read inputs read chunk = lines_read inputs read chunk [] ∙ ap (λ (bs : List ℕ). lines_in_all inputs ++ lines_in bs) (append-nil (read ++ chunk)) ∙ sym (lines_more inputs (read ++ chunk))

    -- a step that holds whatever comes behind it, or at an input's end if nothing does
    pub going_further : (had has now : Option (List ℕ)) (begun left chunk : List ℕ) (ended : Bool) (roster new_roster : Roster) (s new : State) (a b c : Option (List ℕ)) → IsGoing had has begun roster s a b
        → Consumes has now chunk → (ended ≡ true → IsAtEnd now × (left ≡ []))
        → ((all : Lines) (more : List ℕ) → (ended ≡ true → more ≡ []) → GoesBy all (lines_in (begun ++ (chunk ++ more))) roster s a b → GoesBy all (lines_in (left ++ more)) new_roster new a c)
        → IsGoing had now left new_roster new a c
    going_further had has now begun left chunk false roster new_roster s new a b c going consumed at_end step = record {
      inputs = going.inputs;
      read = going.read ++ chunk;
      came = more_came had has now going.inputs going.read chunk going.came consumed;
      by = λ more. subst (λ (ls : Lines). GoesBy ls (lines_in (left ++ more)) new_roster new a c) (lines_read going.inputs going.read chunk more)
          (step (lines_in_all going.inputs ++ lines_in (going.read ++ (chunk ++ more))) more never_ended (going.by (chunk ++ more)));
    }
    going_further had has now begun left chunk true roster new_roster s new a b c going consumed at_end step = record {
      inputs = going.inputs ++ (going.read ++ chunk) ∷ [];
      read = [];
      came = subst (Consumes had now) (sym (append-nil (text_of (going.inputs ++ (going.read ++ chunk) ∷ [])))) (all_came had has now going.inputs going.read chunk going.came consumed);
      by = λ more. record {
        parts = last.parts;
        lines = ap (λ (ls : Lines). ls ++ lines_in more) whole ∙ ap (λ (bs : List ℕ). lines_of last.parts ++ lines_in (bs ++ more)) (sym empty);
        written = last.written;
        knows = last.knows;
        holds = last.holds;
      };
    }
      where
        last : GoesBy (lines_in_all going.inputs ++ lines_in (going.read ++ (chunk ++ []))) (lines_in (left ++ [])) new_roster new a c
        last = step (lines_in_all going.inputs ++ lines_in (going.read ++ (chunk ++ []))) [] (λ e. refl) (going.by (chunk ++ []))

        empty : left ≡ []
        empty = (at_end refl).1

        whole : lines_in_all (going.inputs ++ (going.read ++ chunk) ∷ []) ≡ lines_of last.parts
        whole = sym (all_read going.inputs going.read chunk) ∙ last.lines ∙ ap (λ (bs : List ℕ). lines_of last.parts ++ lines_in (bs ++ [])) empty ∙ append-nil (lines_of last.parts)

-- ---- the site behind an opening
same_reading : (one other : Reading) → one ≡ other → entries_of one ≡ entries_of other
same_reading one other is = ap entries_of is

module _ {D : Type 0} (frames : Bool) (seen : D → List ℕ) (may_leave : D → List ℕ → Type 0) where
  open_replayed : (home : Home D) → IsOpen seen may_leave home → replay (entries_in (seen (home_device home))) ≡ Some (replayed_of (site_of home))
  open_replayed home opened = opened.replayed

  -- a home that is opened again, by what a crash may leave of the one before
  again_is : (mid again : Home D) (r : Replayed) → Leaves (λ c. replay (entries_in c) ≡ Some r) (may_leave (home_device mid)) → IsLeft seen may_leave mid again → IsOpen seen may_leave again → replayed_of (site_of again) ≡ r
  again_is mid again r leaves left opened =
      same_Some (replayed_of (site_of again)) r (sym opened.replayed ∙ ap (λ (reading : Reading). replay (entries_of reading)) left.2 ∙ leaves left.0 left.1)

  -- what kept lines stand for behind the entries of an open home
  kept_stands : (old : Home D) (given : List (List ℕ)) (file : List ℕ) → IsOpen seen may_leave old → HasKept (site_of old).roster (state_in old) (entries_in (seen (home_device old))) given file
      → replay (entries_in file) ≡ Some (record { roster = roster_after_lines (site_of old).roster given; state = after_lines (site_of old).roster (state_in old) given })
  kept_stands old given file opened kept =
      ap (λ (reading : Reading). replay (entries_of reading)) kept ∙ replayed_more (entries_in (seen (home_device old))) (replayed_of (site_of old)) given opened.replayed

  module _ (errors : D → List Error) (start_roster : Roster) (start : State) where
    abbrev Goes : Option (List ℕ) → Option (List ℕ) → List ℕ → Home D → Option (List ℕ) → Option (List ℕ) → Type 0
    Goes had has begun home a b = IsGoing frames start_roster start had has begun (site_of home).roster (state_in home) a b

    -- a journal that is long
    pub goes_long : (old new : Home D) (had has now : Option (List ℕ)) (begun left : List ℕ) (a b c : Option (List ℕ)) → Goes had has begun old a b
        → Serves frames seen may_leave errors old new has now begun left b c (Ok Long) → Goes had now left new a c
    goes_long old new had has now begun left a b c going run =
        going_further frames start_roster start had has now begun left run.0 run.1 (site_of old).roster (site_of new).roster (state_in old) (state_in new) a b c going run.2 run.3
        (λ all more behind go.
        let served = run.4 more behind in
        goes_same frames start_roster start all (lines_in (left ++ more)) (site_of new).roster (roster_after_lines (site_of old).roster served.0) (state_in new) (after_lines (site_of old).roster (state_in old) served.0) a c
        served.2.done.roster served.2.done.left
        (goes_done frames start_roster start all (lines_in (begun ++ (run.0 ++ more))) served.0 (lines_in (left ++ more)) (site_of old).roster (state_in old) a b c go served.1 served.2.answered))

    -- lines that were answered, and a group that wasn't kept
    lost_behind : (old : Home D) (all rest first others group unread : List (List ℕ)) (a b between c : Option (List ℕ)) → GoesBy frames start_roster start all rest (site_of old).roster (state_in old) a b
        → rest ≡ first ++ others → others ≡ group ++ unread → HasAnswered frames (site_of old).roster (state_in old) first b between → AreNotKept frames group between c
        → GoesBy frames start_roster start all unread (roster_after_lines (site_of old).roster first) (after_lines (site_of old).roster (state_in old) first) a c
    lost_behind old all rest first others group unread a b between c go is more answered lost =
        goes_lost frames start_roster start all others group unread (roster_after_lines (site_of old).roster first) (after_lines (site_of old).roster (state_in old) first) a between c
        (goes_done frames start_roster start all rest first others (site_of old).roster (state_in old) a b between go is answered) more lost

    -- a group that isn't kept, and the home is opened again
    pub goes_lost_again : (old mid again : Home D) (had has now : Option (List ℕ)) (begun left : List ℕ) (a b c : Option (List ℕ)) (fault : HomeFault) → Goes had has begun old a b → IsOpen seen may_leave old
        → Serves frames seen may_leave errors old mid has now begun left b c (Err (serve.NotKept fault)) → IsLeft seen may_leave mid again → IsOpen seen may_leave again → Goes had now left again a c
    goes_lost_again old mid again had has now begun left a b c fault going opened run is_left again_open =
        going_further frames start_roster start had has now begun left run.0 run.1 (site_of old).roster (site_of again).roster (state_in old) (state_in again) a b c going run.2 run.3
        (λ all more behind go.
        let came = run.4 more behind in
        let same : replayed_of (site_of again) ≡ record { roster = roster_after_lines (site_of old).roster came.0; state = after_lines (site_of old).roster (state_in old) came.0 } =
        again_is mid again (record { roster = roster_after_lines (site_of old).roster came.0; state = after_lines (site_of old).roster (state_in old) came.0 })
        (λ file may. kept_stands old came.0 file opened (came.3.5 file may)) is_left again_open in
        goes_same frames start_roster start all (lines_in (left ++ more)) (site_of again).roster (roster_after_lines (site_of old).roster came.0) (state_in again) (after_lines (site_of old).roster (state_in old) came.0) a c
        (ap (λ (r : Replayed). r.roster) same) (ap (λ (r : Replayed). r.state) same)
        (lost_behind old all (lines_in (begun ++ (run.0 ++ more))) came.0 came.1 came.3.0 (lines_in (left ++ more)) a b came.3.1 c go came.2 came.3.2 came.3.3 came.3.4))

    -- a journal that was to be compacted, and the home is opened again
    pub goes_failed_again : (old mid again : Home D) (had has : Option (List ℕ)) (begun : List ℕ) (a b : Option (List ℕ)) → Goes had has begun old a b
        → Leaves (λ c. replay (entries_in c) ≡ Some (replayed_of (site_of old))) (may_leave (home_device mid)) → IsLeft seen may_leave mid again → IsOpen seen may_leave again → Goes had has begun again a b
    goes_failed_again old mid again had has begun a b going leaves is_left again_open =
        let same = again_is mid again (replayed_of (site_of old)) leaves is_left again_open in
        going_same frames start_roster start had has begun (site_of again).roster (site_of old).roster (state_in again) (state_in old) a b (ap (λ (r : Replayed). r.roster) same) (ap (λ (r : Replayed). r.state) same) going

    -- ---- how it ends
    -- the last step, behind which nothing is read
    last_by : (had has now : Option (List ℕ)) (begun chunk : List ℕ) (rest : List (List ℕ)) (roster new_roster : Roster) (s new : State) (a b c : Option (List ℕ)) → IsGoing frames start_roster start had has begun roster s a b → Consumes has now chunk
        → ((all : List (List ℕ)) → GoesBy frames start_roster start all (lines_in (begun ++ (chunk ++ []))) roster s a b → GoesBy frames start_roster start all rest new_roster new a c)
        → (inputs : List (List ℕ)) × Consumes had now (text_of inputs) × GoesBy frames start_roster start (lines_in_all inputs) rest new_roster new a c
    last_by had has now begun chunk rest roster new_roster s new a b c going consumed step = (
      going.inputs ++ (going.read ++ chunk) ∷ [],
      all_came frames start_roster start had has now going.inputs going.read chunk going.came consumed,
      subst (λ (ls : Lines). GoesBy frames start_roster start ls rest new_roster new a c) (all_read frames start_roster start going.inputs going.read chunk)
          (step (lines_in_all going.inputs ++ lines_in (going.read ++ (chunk ++ []))) (going.by (chunk ++ []))),
    )

    abbrev Begun : Option (List ℕ) → Option (List ℕ) → Option (List ℕ) → Option (List ℕ) → Type 0
    Begun had now a c = (inputs : List (List ℕ)) × Consumes had now (text_of inputs) × AreBegun frames start_roster start inputs a c

    some_begun : (had now a c : Option (List ℕ)) (rest : List (List ℕ)) (roster : Roster) (s : State) → ((inputs : List (List ℕ)) × Consumes had now (text_of inputs) × GoesBy frames start_roster start (lines_in_all inputs) rest roster s a c) → Begun had now a c
    some_begun had now a c rest roster s last = (last.0, last.1, (last.2.parts, rest, last.2.lines, last.2.written))

    -- nothing more is read
    pub begun_as : (had has : Option (List ℕ)) (begun : List ℕ) (roster : Roster) (s : State) (a b : Option (List ℕ)) → IsGoing frames start_roster start had has begun roster s a b → Begun had has a b
    begun_as had has begun roster s a b going =
        some_begun had has a b (lines_in (begun ++ [])) roster s
        (last_by had has has begun [] (lines_in (begun ++ [])) roster roster s s a b b going (consumes_start has) (λ all go. go))

    -- serving stops
    stops : (old new : Home D) (had has now : Option (List ℕ)) (begun left : List ℕ) (a b c : Option (List ℕ)) (fault : ServeFault) → Goes had has begun old a b → ((error : Error) → fault ≡ serve.Write error → ⊥)
        → Serves frames seen may_leave errors old new has now begun left b c (Err fault) → Begun had now a c
    stops old new had has now begun left a b c (serve.Write error) going other run = absurd (other error refl)
    stops old new had has now begun left a b c (serve.Home fault) going other run =
        let came = run.4 [] (λ e. refl) in
        some_begun had now a c came.1 (roster_after_lines (site_of old).roster came.0) (after_lines (site_of old).roster (state_in old) came.0)
        (last_by had has now begun run.0 came.1 (site_of old).roster (roster_after_lines (site_of old).roster came.0) (state_in old) (after_lines (site_of old).roster (state_in old) came.0) a b c going run.2
        (λ all go. goes_done frames start_roster start all (lines_in (begun ++ (run.0 ++ []))) came.0 came.1 (site_of old).roster (state_in old) a b c go came.2 came.3.0))
    stops old new had has now begun left a b c (serve.Read error) going other run =
        let came = run.4 [] (λ e. refl) in
        some_begun had now a c came.1 (roster_after_lines (site_of old).roster came.0) (after_lines (site_of old).roster (state_in old) came.0)
        (last_by had has now begun run.0 came.1 (site_of old).roster (roster_after_lines (site_of old).roster came.0) (state_in old) (after_lines (site_of old).roster (state_in old) came.0) a b c going run.2
        (λ all go. goes_done frames start_roster start all (lines_in (begun ++ (run.0 ++ []))) came.0 came.1 (site_of old).roster (state_in old) a b c go came.2 came.3.0.answered))
    stops old new had has now begun left a b c (serve.NotKept fault) going other run =
        let came = run.4 [] (λ e. refl) in
        some_begun had now a c (lines_in (left ++ [])) (roster_after_lines (site_of old).roster came.0) (after_lines (site_of old).roster (state_in old) came.0)
        (last_by had has now begun run.0 (lines_in (left ++ [])) (site_of old).roster (roster_after_lines (site_of old).roster came.0) (state_in old) (after_lines (site_of old).roster (state_in old) came.0) a b c going run.2
        (λ all go. lost_behind old all (lines_in (begun ++ (run.0 ++ []))) came.0 came.1 came.3.0 (lines_in (left ++ [])) a b came.3.1 c go came.2 came.3.2 came.3.3 came.3.4))

    -- what was read where answers can't be written
    read_so_far : (had has now : Option (List ℕ)) (begun chunk : List ℕ) (roster : Roster) (s : State) (a b : Option (List ℕ)) → IsGoing frames start_roster start had has begun roster s a b → Consumes has now chunk
        → (inputs : List (List ℕ)) × Consumes had now (text_of inputs) × ⊤
    read_so_far had has now begun chunk roster s a b going consumed = (going.inputs ++ (going.read ++ chunk) ∷ [], all_came frames start_roster start had has now going.inputs going.read chunk going.came consumed, tt)

-- ---- by the home that it began with
module _ {D : Type 0} (frames : Bool) (seen : D → List ℕ) (may_leave : D → List ℕ → Type 0) (errors : D → List Error) (first : Home D) where
  abbrev pub GoesOn : Option (List ℕ) → Option (List ℕ) → List ℕ → Home D → Option (List ℕ) → Option (List ℕ) → Type 0
  GoesOn had has begun home a b = IsGoing frames (site_of first).roster (state_in first) had has begun (site_of home).roster (state_in home) a b

  abbrev Serving : Home D → Home D → Option (List ℕ) → Option (List ℕ) → (begun left : List ℕ) → Option (List ℕ) → Option (List ℕ) → Result Served ServeFault → Type 0
  Serving old new has now begun left b c r = Serves frames seen may_leave errors old new has now begun left b c r

  -- a journal that is compacted
  pub compacted_as : (old new compacted : Home D) (had has now : Option (List ℕ)) (begun left : List ℕ) (a b c : Option (List ℕ)) (r : Result Served ServeFault) → GoesOn had has begun old a b
      → Serving old new has now begun left b c r → r ≡ Ok Long → site_of compacted ≡ site_of new → GoesOn had now left compacted a c
  compacted_as old new compacted had has now begun left a b c r going run is same =
      going_same frames (site_of first).roster (state_in first) had now left (site_of compacted).roster (site_of new).roster (state_in compacted) (state_in new) a c
      (λ i. (same i).roster) (λ i. state_of (same i).replica)
      (goes_long frames seen may_leave errors (site_of first).roster (state_in first) old new had has now begun left a b c going (subst (Serving old new has now begun left b c) is run))

  -- a journal that was to be compacted, and the home is opened again
  pub failed_again_as : (old new mid joined again : Home D) (had has now : Option (List ℕ)) (begun left : List ℕ) (a b c : Option (List ℕ)) (r : Result Served ServeFault) → GoesOn had has begun old a b
      → Serving old new has now begun left b c r → r ≡ Ok Long → Leaves (λ c. replay (entries_in c) ≡ Some (replayed_of (site_of new))) (may_leave (home_device mid)) → joined ≡ mid → IsLeft seen may_leave joined again → IsOpen seen may_leave again
      → GoesOn had now left again a c
  failed_again_as old new mid joined again had has now begun left a b c r going run is leaves join is_left opened =
      goes_failed_again frames seen may_leave errors (site_of first).roster (state_in first) new mid again had now left a c
      (goes_long frames seen may_leave errors (site_of first).roster (state_in first) old new had has now begun left a b c going (subst (Serving old new has now begun left b c) is run))
      leaves (subst (λ (home : Home D). IsLeft seen may_leave home again) join is_left) opened

  -- lines that aren't kept, and the home is opened again
  pub lost_again_as : (old mid joined again : Home D) (had has now : Option (List ℕ)) (begun left : List ℕ) (a b c : Option (List ℕ)) (fault : HomeFault) (r : Result Served ServeFault) → GoesOn had has begun old a b → IsOpen seen may_leave old
      → Serving old mid has now begun left b c r → r ≡ Err (serve.NotKept fault) → joined ≡ mid → IsLeft seen may_leave joined again → IsOpen seen may_leave again → GoesOn had now left again a c
  lost_again_as old mid joined again had has now begun left a b c fault r going old_open run is join is_left opened =
      goes_lost_again frames seen may_leave errors (site_of first).roster (state_in first) old mid again had has now begun left a b c fault going old_open (subst (Serving old mid has now begun left b c) is run)
      (subst (λ (home : Home D). IsLeft seen may_leave home again) join is_left) opened

  module _ (F : Type 0) where
    abbrev pub Came : Option (List ℕ) → Option (List ℕ) → Option (List ℕ) → Option (List ℕ) → Result (Home D) (Stop F) → Type 0
    Came had now a c result = (inputs : List (List ℕ)) × Consumes had now (text_of inputs) × EndsAs frames first inputs now a c result

    ended_by : (old new : Home D) (had has now : Option (List ℕ)) (begun left : List ℕ) (a b c : Option (List ℕ)) → GoesOn had has begun old a b → Serving old new has now begun left b c (Ok Ended) → IsAtEnd now → Came had now a c (Ok new)
    ended_by old new had has now begun left a b c going run at_end =
        let served = run.4 [] (λ e. refl) in
        let all_lines = lines_in (begun ++ (run.0 ++ [])) in
        let last = last_by frames seen may_leave errors (site_of first).roster (state_in first) had has now begun run.0 [] (site_of old).roster (site_of new).roster (state_in old) (state_in new) a b c going run.2
        (λ all go. goes_same frames (site_of first).roster (state_in first) all [] (site_of new).roster (roster_after_lines (site_of old).roster all_lines) (state_in new) (after_lines (site_of old).roster (state_in old) all_lines) a c
        served.done.roster served.done.left
        (goes_done frames (site_of first).roster (state_in first) all all_lines all_lines [] (site_of old).roster (state_in old) a b c go (sym (append-nil all_lines)) served.answered)) in
        (last.0, last.1, (at_end, (last.2.parts, last.2.lines ∙ append-nil (lines_of last.2.parts), last.2.written, last.2.knows, last.2.holds)))

    pub ended_as : (old new : Home D) (had has now : Option (List ℕ)) (begun left : List ℕ) (a b c : Option (List ℕ)) (r : Result Served ServeFault) → GoesOn had has begun old a b → Serving old new has now begun left b c r
        → IfOk r (λ served. served ≡ Ended → IsAtEnd now) → r ≡ Ok Ended → Came had now a c (Ok new)
    ended_as old new had has now begun left a b c r going run at_end is =
        ended_by old new had has now begun left a b c going (subst (Serving old new has now begun left b c) is run)
        (subst (λ (r : Result Served ServeFault). IfOk r (λ served. served ≡ Ended → IsAtEnd now)) is at_end refl)

    stopped_by : (old new : Home D) (had has now : Option (List ℕ)) (begun left : List ℕ) (a b c : Option (List ℕ)) (fault : ServeFault) → GoesOn had has begun old a b → Serving old new has now begun left b c (Err fault)
        → Came had now a c (Err (stop.Served fault))
    stopped_by old new had has now begun left a b c (serve.Write error) going run = read_so_far frames seen may_leave errors (site_of first).roster (state_in first) had has now begun run.0 (site_of old).roster (state_in old) a b going run.2
    stopped_by old new had has now begun left a b c (serve.Home fault) going run = stops frames seen may_leave errors (site_of first).roster (state_in first) old new had has now begun left a b c (serve.Home fault) going (λ error is. cc) run
    stopped_by old new had has now begun left a b c (serve.Read error) going run = stops frames seen may_leave errors (site_of first).roster (state_in first) old new had has now begun left a b c (serve.Read error) going (λ error is. cc) run
    stopped_by old new had has now begun left a b c (serve.NotKept fault) going run = stops frames seen may_leave errors (site_of first).roster (state_in first) old new had has now begun left a b c (serve.NotKept fault) going (λ error is. cc) run

    pub stopped_as : (old new : Home D) (had has now : Option (List ℕ)) (begun left : List ℕ) (a b c : Option (List ℕ)) (fault : ServeFault) (r : Result Served ServeFault) → GoesOn had has begun old a b
        → Serving old new has now begun left b c r → r ≡ Err fault → Came had now a c (Err (stop.Served fault))
    stopped_as old new had has now begun left a b c fault r going run is = stopped_by old new had has now begun left a b c fault going (subst (Serving old new has now begun left b c) is run)

    -- a home that isn't opened again behind lines that weren't kept, or behind a journal that was to be compacted
    pub unopened_lost_as : (old mid : Home D) (had has now : Option (List ℕ)) (begun left : List ℕ) (a b c : Option (List ℕ)) (fault : HomeFault) (cause : F) (r : Result Served ServeFault) → GoesOn had has begun old a b
        → Serving old mid has now begun left b c r → r ≡ Err (serve.NotKept fault) → Came had now a c (Err (stop.Unopened cause))
    unopened_lost_as old mid had has now begun left a b c fault cause r going run is = stopped_by old mid had has now begun left a b c (serve.NotKept fault) going (subst (Serving old mid has now begun left b c) is run)

    pub unopened_failed_as : (old new : Home D) (had has now : Option (List ℕ)) (begun left : List ℕ) (a b c : Option (List ℕ)) (cause : F) (r : Result Served ServeFault) → GoesOn had has begun old a b
        → Serving old new has now begun left b c r → r ≡ Ok Long → Came had now a c (Err (stop.Unopened cause))
    unopened_failed_as old new had has now begun left a b c cause r going run is =
        begun_as frames seen may_leave errors (site_of first).roster (state_in first) had now left (site_of new).roster (state_in new) a c
        (goes_long frames seen may_leave errors (site_of first).roster (state_in first) old new had has now begun left a b c going (subst (Serving old new has now begun left b c) is run))

    -- calls beyond counting
    pub counted_as : (home : Home D) (had has : Option (List ℕ)) (begun : List ℕ) (a b : Option (List ℕ)) (error : Error) → GoesOn had has begun home a b → Came had has a b (Err (stop.Served (serve.Read error)))
    counted_as home had has begun a b error going = begun_as frames seen may_leave errors (site_of first).roster (state_in first) had has begun (site_of home).roster (state_in home) a b going

-- ---- what has begun of a line
pub none_long : (r : Result Served ServeFault) (P : Type 0) → IfOk r (λ served. served ≡ Long → P) → r ≡ Ok Long → P
none_long r P paused is = subst (λ (r : Result Served ServeFault). IfOk r (λ served. served ≡ Long → P)) is paused refl

pub none_lost : (r : Result Served ServeFault) (P : Type 0) (fault : HomeFault) → IfErr r (λ f. (cause : HomeFault) → f ≡ serve.NotKept cause → P) → r ≡ Err (serve.NotKept fault) → P
none_lost r P fault begun is = subst (λ (r : Result Served ServeFault). IfErr r (λ f. (cause : HomeFault) → f ≡ serve.NotKept cause → P)) is begun fault refl
