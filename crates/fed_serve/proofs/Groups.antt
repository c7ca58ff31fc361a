-- An input that is served group by group.
use Rattle.std.specs.Prelude.{IfErr, IfOk, IsErrAnd, OnOk, Some, None, Option, Result, Ok, Err, length}
use Rattle.std.specs.declared.io.Error.{Error}
use Rattle.std.specs.Io.KnownBytes.{Appends, Consumes, IsAtEnd, Keeps}
use Rattle.std.proofs.Common.{◌≡◌, ◌⊎◌, ◌≤◌, inl, inr, ℕ, List, [], ◌∷◌, ◌++◌, take, refl, sym, ap, subst, ◌∙◌, append_assoc, append-nil}
use Rattle.std.proofs.lemmas.Grind.{flat_map-append}
use Rattle.std.proofs.lemmas.List.{map-append}
use Rattle.std.proofs.lemmas.List.Elements.{All-append, All-nil}
use Rattle.std.specs.Prelude.{Bool, true, false}
use Rattle.fed_replica.specs.State.{State}
use Rattle.fed_site.specs.Journal.{after_lines, kept_lines}
use Rattle.fed_site.specs.Rosters.{roster_after, roster_after_lines}
use Rattle.fed_site.specs.Says.{site_says}
use Rattle.fed_site.specs.declared.site.SiteAnswer.{SiteAnswer}
use Rattle.fed_site.specs.Told.{IsTold, answers_in}
use Rattle.fed_site.specs.declared.tellings.Told.{Told}
use Rattle.fed_journal.specs.Device.{LeavesOnly}
use Rattle.fed_journal.specs.Journal.{IsBeforeOrAfter, entries_in, entries_of}
use Rattle.fed_journal.specs.Lines.{Reading, at_rest, recovered}
use Rattle.fed_journal.proofs.Moments.{both, still, weaker}
use Rattle.fed_home.specs.Home.{IsOpen, state_in, home_device, site_of}
use Rattle.fed_home.specs.Replay.{AreReplies, Replayed, replay, replayed_of}
use Rattle.fed_home.specs.Fault.{StopsAnswers}
use Rattle.fed_home.specs.declared.faults.HomeFault.TheVariants as home
use Rattle.fed_home.specs.declared.homes.Home.{Home}
use Rattle.fed_home.proofs.Replays.{after_both, kept_both, roster_after_both}
use Rattle.fed_serve.specs.Inputs.{HasNoLineFeed, IsKnownAs, cut_line, lines_in}
use Rattle.fed_serve.proofs.Writing.{appends_kept, appends_more, appends_none}
use Rattle.fed_serve.proofs.InputLines.{Takes, lines_in-begun}
use Rattle.fed_serve.proofs.Stops.{apart}
use Rattle.fed_serve.specs.Served.{HasAnswered, HasKept, HasServed, IsDone, KeepsFrom, KeepsSome, Serves, ServesAs, StopsAt, StopsBehind}
use Rattle.fed_serve.specs.Written.{told_bytes, told_text}
use Rattle.fed_serve.specs.declared.faults.ServeFault.{ServeFault}
use Rattle.fed_serve.specs.declared.faults.ServeFault.TheVariants as serve
use Rattle.fed_serve.specs.declared.serving.Served.{Served}
use Rattle.fed_serve.specs.declared.serving.Served.TheVariants.{Ended, Long}

-- ---- what was read
pub keeps_same : (known : Option (List ℕ)) → Keeps known known
keeps_same None = tt
keeps_same (Some xs) = refl

-- nothing is read yet, what was read with what a chunk has more, and nothing where a read failed
pub consumes_start : (had : Option (List ℕ)) → Consumes had had []
consumes_start None = tt
consumes_start (Some xs) = refl

pub consumes_more : (had has now : Option (List ℕ)) (read chunk : List ℕ) → Consumes had has read → Consumes has now chunk → Consumes had now (read ++ chunk)
consumes_more None has now read chunk first more = tt
consumes_more (Some xs) None now read chunk first more = absurd first
consumes_more (Some xs) (Some ys) None read chunk first more = absurd more
consumes_more (Some xs) (Some ys) (Some zs) read chunk first more = first ∙ ap (λ (rest : List ℕ). read ++ rest) more ∙ sym (append_assoc read chunk zs)

pub consumes_kept : (had has now : Option (List ℕ)) (read : List ℕ) → Consumes had has read → Keeps has now → Consumes had now read
consumes_kept None has now read first same = tt
consumes_kept (Some xs) None now read first same = absurd first
consumes_kept (Some xs) (Some ys) None read first same = absurd same
consumes_kept (Some xs) (Some ys) (Some zs) read first same = first ∙ ap (λ (rest : List ℕ). read ++ rest) (sym same)

take_none : (bytes : List ℕ) → take 0 bytes ≡ []
take_none [] = refl
take_none (byte ∷ bytes) = refl

pub consumes_none : (had now : Option (List ℕ)) (bytes : List ℕ) (n : ℕ) → n ≡ 0 → Consumes had now (take n bytes) → Consumes had now []
consumes_none had now bytes n zero h = subst (λ (bs : List ℕ). Consumes had now bs) (ap (λ m. take m bytes) zero ∙ take_none bytes) h

-- what is left to be read, as far as it is known
abbrev pub rest_of : Option (List ℕ) → List ℕ
rest_of None = []
rest_of (Some xs) = xs

known_input : (had now : Option (List ℕ)) (read : List ℕ) → Consumes had now read → IsKnownAs had (read ++ rest_of now)
known_input None now read came = tt
known_input (Some xs) None read came = absurd came
known_input (Some xs) (Some ys) read came = came

pub rest_at_end : (now : Option (List ℕ)) → IsAtEnd now → rest_of now ≡ []
rest_at_end None ended = refl
rest_at_end (Some xs) ended = ended

-- an input that goes on
pub never_ended : {P : Type 0} → false ≡ true → P
never_ended e = cc

-- ---- lines after lines
replies_both : (roster : List (List ℕ × ℕ)) (s : State) (first second : List (List ℕ)) (xs ys : List SiteAnswer) → AreReplies roster s first xs → AreReplies (roster_after_lines roster first) (after_lines roster s first) second ys
    → AreReplies roster s (first ++ second) (xs ++ ys)
replies_both roster s [] second [] ys a b = b
replies_both roster s [] second (x ∷ xs) ys a b = absurd a
replies_both roster s (line ∷ first) second [] ys a b = absurd a
replies_both roster s (line ∷ first) second (x ∷ xs) ys a b = (a.0, a.1, a.2, a.3, replies_both (roster_after roster line) (site_says roster s line).after first second xs ys a.4 b)

-- ---- answers after answers, in lines or in frames
module _ (frames : Bool) (roster : List (List ℕ × ℕ)) where
  pub answered_none : (s : State) (known : Option (List ℕ)) → HasAnswered frames roster s [] known known
  answered_none s known = ([], tt, All-nil (IsTold frames), appends_none known)

  pub answered_both : (s : State) (first second : List (List ℕ)) (a b c : Option (List ℕ)) → HasAnswered frames roster s first a b → HasAnswered frames (roster_after_lines roster first) (after_lines roster s first) second b c
      → HasAnswered frames roster s (first ++ second) a c
  answered_both s first second a b c one two = (
    one.0 ++ two.0,
    subst (AreReplies roster s (first ++ second)) (sym (map-append (λ (told : Told). told.answer) one.0 two.0)) (replies_both roster s first second (answers_in one.0) (answers_in two.0) one.1 two.1),
    All-append (IsTold frames) one.0 two.0 one.2 two.2,
    subst (Appends a c) (sym (flat_map-append (told_bytes frames) one.0 two.0)) (appends_more a b c (told_text frames one.0) (told_text frames two.0) one.3 two.3),
  )

  pub answered_kept : (s : State) (given : List (List ℕ)) (a b c : Option (List ℕ)) → HasAnswered frames roster s given a b → Keeps b c → HasAnswered frames roster s given a c
  answered_kept s given a b c one same = (one.0, one.1, one.2, appends_kept a b c (told_text frames one.0) one.3 same)

-- ---- the entries of an open site
some_entries : (r : Reading) (x : Replayed) → replay (entries_of r) ≡ Some x → r ≡ Ok (entries_of r)
some_entries (Ok entries) x e = refl
some_entries (Err line) x e = cc

module _ {D : Type 0} (frames : Bool) (seen : D → List ℕ) (may_leave : D → List ℕ → Type 0) where
  -- the entries of an open site
  open_entries : (home : Home D) → IsOpen seen may_leave home → recovered (seen (home_device home)) ≡ Ok (entries_in (seen (home_device home)))
  open_entries home opened = some_entries (recovered (seen (home_device home))) (replayed_of (site_of home)) opened.replayed

  done_none : (home : Home D) → IsOpen seen may_leave home → IsDone frames seen may_leave home home []
  done_none home opened = record {
    is_open = opened;
    roster = refl;
    left = refl;
    kept = open_entries home opened ∙ ap Ok (sym (append-nil (entries_in (seen (home_device home)))));
  }

  pub served_none : (home : Home D) (known : Option (List ℕ)) → IsOpen seen may_leave home → HasServed frames seen may_leave home home [] known known
  served_none home known opened = record { done = done_none home opened; answered = answered_none frames (site_of home).roster (state_in home) known }

  pub served_open : (old new : Home D) (given : List (List ℕ)) (a b : Option (List ℕ)) (r : Result Served ServeFault) → OnOk r (HasServed frames seen may_leave old new given a b) → OnOk r (IsOpen seen may_leave new)
  served_open old new given a b (Ok end) served = served.done.is_open
  served_open old new given a b (Err fault) served = tt

  -- the entries that a group leaves behind those of the lines before it
  kept_behind : (old mid : Home D) (first group : List (List ℕ)) → IsDone frames seen may_leave old mid first
      → entries_in (seen (home_device mid)) ++ kept_lines (site_of mid).roster (state_in mid) group ≡ entries_in (seen (home_device old)) ++ kept_lines (site_of old).roster (state_in old) (first ++ group)
  kept_behind old mid first group one =
      let r = (site_of old).roster in
      let s = state_in old in
      let e = entries_in (seen (home_device old)) in
      (λ i. entries_of (one.kept i) ++ kept_lines (one.roster i) (one.left i) group)
      ∙ append_assoc e (kept_lines r s first) (kept_lines (roster_after_lines r first) (after_lines r s first) group) ∙ ap (λ ls. e ++ ls) (sym (kept_both r s first group))

  served_both : (old mid new : Home D) (first second : List (List ℕ)) (a b c : Option (List ℕ)) → HasServed frames seen may_leave old mid first a b → HasServed frames seen may_leave mid new second b c
      → HasServed frames seen may_leave old new (first ++ second) a c
  served_both old mid new first second a b c one two =
      let r = (site_of old).roster in
      let s = state_in old in
      record {
        done = record {
          is_open = two.done.is_open;
          roster = two.done.roster ∙ (λ i. roster_after_lines (one.done.roster i) second) ∙ sym (roster_after_both r first second);
          left = two.done.left ∙ (λ i. after_lines (one.done.roster i) (one.done.left i) second) ∙ sym (after_both r s first second);
          kept = two.done.kept ∙ ap Ok (kept_behind old mid first second one.done);
        };
        answered = answered_both frames r s first second a b c one.answered
            (subst (λ (t : State). HasAnswered frames (roster_after_lines r first) t second b c) one.done.left (subst (λ (q : List (List ℕ × ℕ)). HasAnswered frames q (state_in mid) second b c) one.done.roster two.answered));
      }

  -- ---- crashes
  module _ (moment : D → ℕ) (left_since : D → ℕ → List ℕ → Type 0) where
    -- what a crash leaves from one site to another, by the lines that are served
    abbrev pub LeavesSome : Home D → Home D → List (List ℕ) → Type 0
    LeavesSome old new all = LeavesOnly moment left_since (home_device old) (home_device new) (KeepsSome (site_of old).roster (state_in old) (entries_in (seen (home_device old))) all)

    abbrev pub LeavesGroup : Home D → Home D → List (List ℕ) → Type 0
    LeavesGroup old new group = LeavesOnly moment left_since (home_device old) (home_device new)
        (IsBeforeOrAfter (entries_in (seen (home_device old))) (kept_lines (site_of old).roster (state_in old) group))

    -- each moment counts, and the present one is the only one since itself
    abbrev pub CountsNow : Type 0
    CountsNow = (device : D) (t : ℕ) (c : List ℕ) → t ≤ moment device → may_leave device c → left_since device t c

    abbrev pub OnlyNow : Home D → Type 0
    OnlyNow home = (c : List ℕ) → left_since (home_device home) (moment (home_device home)) c → may_leave (home_device home) c

    left_open : (home : Home D) (c : List ℕ) → IsOpen seen may_leave home → may_leave (home_device home) c → recovered c ≡ Ok (entries_in (seen (home_device home)))
    left_open home c opened left = ap recovered (opened.settled.read.durable c left) ∙ open_entries home opened

    leaves_none : (home : Home D) → IsOpen seen may_leave home → OnlyNow home → LeavesSome home home []
    leaves_none home opened only = still moment left_since (home_device home) _
        (λ c left. ([], [], refl, left_open home c opened (only c left) ∙ ap Ok (sym (append-nil (entries_in (seen (home_device home)))))))

    -- before a group, or behind it
    group_left : (old mid : Home D) (first group : List (List ℕ)) (file : List ℕ) → IsDone frames seen may_leave old mid first
        → IsBeforeOrAfter (entries_in (seen (home_device mid))) (kept_lines (site_of mid).roster (state_in mid) group) file
        → HasKept (site_of old).roster (state_in old) (entries_in (seen (home_device old))) first file
        ⊎ HasKept (site_of old).roster (state_in old) (entries_in (seen (home_device old))) (first ++ group) file
    group_left old mid first group file one (inl before) = inl (before ∙ (λ i. Ok (entries_of (one.kept i))))
    group_left old mid first group file one (inr after) = inr (after ∙ ap Ok (kept_behind old mid first group one))

    some_of : (old : Home D) (first group : List (List ℕ)) (file : List ℕ)
        → HasKept (site_of old).roster (state_in old) (entries_in (seen (home_device old))) first file ⊎ HasKept (site_of old).roster (state_in old) (entries_in (seen (home_device old))) (first ++ group) file
        → KeepsSome (site_of old).roster (state_in old) (entries_in (seen (home_device old))) (first ++ group) file
    some_of old first group file (inl before) = (first, group, refl, before)
    some_of old first group file (inr after) = (first ++ group, [], sym (append-nil (first ++ group)), after)

    some_more : (old : Home D) (all first more : List (List ℕ)) (file : List ℕ) → all ≡ first ++ more
        → KeepsSome (site_of old).roster (state_in old) (entries_in (seen (home_device old))) first file → KeepsSome (site_of old).roster (state_in old) (entries_in (seen (home_device old))) all file
    some_more old all first more file is some = (some.0, some.1 ++ more, is ∙ ap (λ ls. ls ++ more) some.2 ∙ append_assoc some.0 some.1 more, some.3)

    leaves_more : (old mid new : Home D) (first group : List (List ℕ)) → IsDone frames seen may_leave old mid first → LeavesSome old mid first → LeavesGroup mid new group → LeavesSome old new (first ++ group)
    leaves_more old mid new first group one run more =
        both moment left_since (home_device old) (home_device mid) (home_device new) _
        (weaker moment left_since (home_device old) (home_device mid) _ _ (λ c some. some_more old (first ++ group) first group c refl some) run)
        (weaker moment left_since (home_device mid) (home_device new) _ _ (λ c left. some_of old first group c (group_left old mid first group c one left)) more)

    -- ---- the input
    -- of what the reader had this was read and these lines are served, and this has begun of the next one
    pub record IsServing (old now : Home D) (had has : Option (List ℕ)) (start begun : List ℕ) (before after : Option (List ℕ)) : Type 0 where
      pub given : List (List ℕ)
      pub read : List ℕ
      pub served : HasServed frames seen may_leave old now given before after
      pub came : Consumes had has read
      pub lines : (more : List ℕ) → lines_in (start ++ (read ++ more)) ≡ given ++ lines_in (begun ++ more)
      pub leaves : LeavesSome old now given
      pub none : HasNoLineFeed begun

    pub serving_none : (home : Home D) (had known : Option (List ℕ)) (start : List ℕ) → IsOpen seen may_leave home → OnlyNow home → HasNoLineFeed start → IsServing home home had had start start known known
    serving_none home had known start opened only none = record {
      given = [];
      read = [];
      served = served_none home known opened;
      came = consumes_start had;
      lines = λ more. refl;
      leaves = leaves_none home opened only;
      none = none;
    }

    -- ---- a chunk more
    pub taken_lines : (start read begun chunk taken left more : List ℕ) (given : List (List ℕ)) → ((m : List ℕ) → lines_in (start ++ (read ++ m)) ≡ given ++ lines_in (begun ++ m)) → Takes begun chunk taken left
        → lines_in (start ++ ((read ++ chunk) ++ more)) ≡ given ++ (lines_in taken ++ lines_in (left ++ more))
    taken_lines start read begun chunk taken left more given lines takes =
        ap (λ (bs : List ℕ). lines_in (start ++ bs)) (append_assoc read chunk more) ∙ lines (chunk ++ more) ∙ ap (λ ls. given ++ ls) (takes.lines more)

    pub serving_more : (old mid new : Home D) (had has now : Option (List ℕ)) (start begun chunk taken left : List ℕ) (a b c : Option (List ℕ)) → IsServing old mid had has start begun a b → Takes begun chunk taken left
        → Consumes has now chunk → HasServed frames seen may_leave mid new (lines_in taken) b c → LeavesGroup mid new (lines_in taken) → IsServing old new had now start left a c
    serving_more old mid new had has now start begun chunk taken left a b c run takes consumed two more = record {
      given = run.given ++ lines_in taken;
      read = run.read ++ chunk;
      served = served_both old mid new run.given (lines_in taken) a b c run.served two;
      came = consumes_more had has now run.read chunk run.came consumed;
      lines = λ m. taken_lines start run.read begun chunk taken left m run.given run.lines takes ∙ sym (append_assoc run.given (lines_in taken) (lines_in (left ++ m)));
      leaves = leaves_more old mid new run.given (lines_in taken) run.served.done run.leaves more;
      none = takes.none;
    }

    -- ---- how it ends
    -- the clause of `serve` on what a crash leaves
    abbrev pub AnyMoment : Home D → Home D → Option (List ℕ) → List ℕ → Type 0
    AnyMoment old new had start = (input : List ℕ) × IsKnownAs had input × LeavesSome old new (lines_in (start ++ input))

    -- by what was read, and by the lines that a crash may leave
    any_moment : (old new : Home D) (had now : Option (List ℕ)) (start read : List ℕ) (given others : List (List ℕ)) → Consumes had now read
        → lines_in (start ++ (read ++ rest_of now)) ≡ given ++ others → LeavesSome old new given → AnyMoment old new had start
    any_moment old new had now start read given others came is leaves =
        (read ++ rest_of now, known_input had now read came, weaker moment left_since (home_device old) (home_device new) _ _ (λ c some. some_more old (lines_in (start ++ (read ++ rest_of now))) given others c is some) leaves)

    pub moments_kept : (old mid : Home D) (had has now : Option (List ℕ)) (start begun : List ℕ) (a b : Option (List ℕ)) → IsServing old mid had has start begun a b → Keeps has now → AnyMoment old mid had start
    moments_kept old mid had has now start begun a b run same =
        any_moment old mid had now start run.read run.given (lines_in (begun ++ rest_of now)) (consumes_kept had has now run.read run.came same) (run.lines (rest_of now)) run.leaves

    pub moments_so_far : (old mid : Home D) (had has now : Option (List ℕ)) (start begun chunk : List ℕ) (a b : Option (List ℕ)) → IsServing old mid had has start begun a b → Consumes has now chunk → AnyMoment old mid had start
    moments_so_far old mid had has now start begun chunk a b run consumed =
        any_moment old mid had now start (run.read ++ chunk) run.given (lines_in (begun ++ (chunk ++ rest_of now))) (consumes_more had has now run.read chunk run.came consumed)
        (ap (λ (bs : List ℕ). lines_in (start ++ bs)) (append_assoc run.read chunk (rest_of now)) ∙ run.lines (chunk ++ rest_of now)) run.leaves

    pub moments_of_a_chunk : (old mid new : Home D) (had has now : Option (List ℕ)) (start begun chunk taken left : List ℕ) (a b : Option (List ℕ)) → IsServing old mid had has start begun a b → Takes begun chunk taken left
        → Consumes has now chunk → LeavesGroup mid new (lines_in taken) → AnyMoment old new had start
    moments_of_a_chunk old mid new had has now start begun chunk taken left a b run takes consumed more =
        any_moment old new had now start (run.read ++ chunk) (run.given ++ lines_in taken) (lines_in (left ++ rest_of now)) (consumes_more had has now run.read chunk run.came consumed)
        (taken_lines start run.read begun chunk taken left (rest_of now) run.given run.lines takes ∙ sym (append_assoc run.given (lines_in taken) (lines_in (left ++ rest_of now))))
        (leaves_more old mid new run.given (lines_in taken) run.served.done run.leaves more)

    -- the lines of an input that has ended
    ended_lines : (now : Option (List ℕ)) (start read begun : List ℕ) (given : List (List ℕ)) → ((m : List ℕ) → lines_in (start ++ (read ++ m)) ≡ given ++ lines_in (begun ++ m)) → HasNoLineFeed begun → IsAtEnd now
        → lines_in (start ++ (read ++ rest_of now)) ≡ given ++ cut_line begun
    ended_lines now start read begun given lines none ended =
        lines (rest_of now) ∙ ap (λ (bs : List ℕ). given ++ lines_in (begun ++ bs)) (rest_at_end now ended) ∙ ap (λ (bs : List ℕ). given ++ lines_in bs) (append-nil begun) ∙ ap (λ ls. given ++ ls) (lines_in-begun begun none)

    read_all : (had has now : Option (List ℕ)) (read : List ℕ) → Consumes had has read → Consumes has now [] → Consumes had now read
    read_all had has now read came consumed = subst (Consumes had now) (append-nil read) (consumes_more had has now read [] came consumed)

    pub moments_at_the_end : (old mid new : Home D) (had has now : Option (List ℕ)) (start begun : List ℕ) (a b : Option (List ℕ)) → IsServing old mid had has start begun a b → Consumes has now [] → IsAtEnd now
        → LeavesGroup mid new (cut_line begun) → AnyMoment old new had start
    moments_at_the_end old mid new had has now start begun a b run consumed ended more =
        any_moment old new had now start run.read (run.given ++ cut_line begun) [] (read_all had has now run.read run.came consumed)
        (ended_lines now start run.read begun run.given run.lines run.none ended ∙ sym (append-nil (run.given ++ cut_line begun)))
        (leaves_more old mid new run.given (cut_line begun) run.served.done run.leaves more)

    -- ---- faults
    module _ (errors : D → List Error) where
      kept_nil : (old : Home D) (given : List (List ℕ)) (file : List ℕ) → HasKept (site_of old).roster (state_in old) (entries_in (seen (home_device old))) given file
          → HasKept (site_of old).roster (state_in old) (entries_in (seen (home_device old))) (given ++ []) file
      kept_nil old given file kept = subst (λ (ls : List (List ℕ)). HasKept (site_of old).roster (state_in old) (entries_in (seen (home_device old))) ls file) (sym (append-nil given)) kept

      from_group : (old : Home D) (given group unread : List (List ℕ)) (file : List ℕ)
          → HasKept (site_of old).roster (state_in old) (entries_in (seen (home_device old))) given file ⊎ HasKept (site_of old).roster (state_in old) (entries_in (seen (home_device old))) (given ++ group) file
          → KeepsFrom (site_of old).roster (state_in old) (entries_in (seen (home_device old))) given (group ++ unread) file
      from_group old given group unread file (inl before) = ([], group ++ unread, refl, kept_nil old given file before)
      from_group old given group unread file (inr after) = (group, unread, refl, after)

      -- no memory for the input, behind lines that are served
      pub served_memory : (old mid : Home D) (had has now : Option (List ℕ)) (start begun chunk left : List ℕ) (a b : Option (List ℕ)) (r : Result Served ServeFault) → IsServing old mid had has start begun a b → Consumes has now chunk
          → IsErrAnd r (λ fault. fault ≡ serve.Home home.NoMemory) → Serves frames seen may_leave errors old mid had now start left a b r
      served_memory old mid had has now start begun chunk left a b (Ok done) run consumed e = absurd e
      served_memory old mid had has now start begun chunk left a b (Err fault) run consumed e = (
        run.read ++ chunk,
        false,
        consumes_more had has now run.read chunk run.came consumed,
        never_ended,
        λ more behind.
            let others = lines_in (begun ++ (chunk ++ more)) in
            let stopped : StopsBehind frames seen may_leave errors old mid run.given others (lines_in (left ++ more)) a b (serve.Home home.NoMemory) = (
              run.served.answered,
              λ c now_left. ([], others, refl, kept_nil old run.given c (left_open mid c run.served.done.is_open now_left ∙ (λ i. Ok (entries_of (run.served.done.kept i))))),
            ) in (
              run.given,
              others,
              ap (λ (bs : List ℕ). lines_in (start ++ bs)) (append_assoc run.read chunk more) ∙ run.lines (chunk ++ more),
              subst (StopsBehind frames seen may_leave errors old mid run.given others (lines_in (left ++ more)) a b) (sym e) stopped,
            ),
      )

      -- a journal that is long
      pub served_long : (old mid : Home D) (had now : Option (List ℕ)) (start begun : List ℕ) (a b : Option (List ℕ)) → IsServing old mid had now start begun a b → Serves frames seen may_leave errors old mid had now start begun a b (Ok Long)
      served_long old mid had now start begun a b run = (run.read, false, run.came, never_ended, λ more behind. (run.given, run.lines more, run.served))

      -- an input that can't be read further
      pub served_read : (old mid : Home D) (had has now : Option (List ℕ)) (start begun : List ℕ) (a b : Option (List ℕ)) (fault : ServeFault) → IsServing old mid had has start begun a b → Keeps has now
          → ((error : Error) × (fault ≡ serve.Read error)) → Serves frames seen may_leave errors old mid had now start begun a b (Err fault)
      served_read old mid had has now start begun a b fault run same is = (
        run.read,
        false,
        consumes_kept had has now run.read run.came same,
        never_ended,
        λ more behind.
            let others = lines_in (begun ++ more) in
            let stopped : StopsBehind frames seen may_leave errors old mid run.given others others a b (serve.Read is.0) = (run.served, refl) in
            (run.given, others, run.lines more, subst (StopsBehind frames seen may_leave errors old mid run.given others others a b) (sym is.1) stopped),
      )

      module _ (counts : CountsNow) where
        -- a group that isn't served, behind lines that are
        stops_behind : (old mid new : Home D) (given group unread : List (List ℕ)) (a b c : Option (List ℕ)) (fault : ServeFault) → HasServed frames seen may_leave old mid given a b
            → StopsAt frames seen errors moment left_since mid new group b c fault → LeavesGroup mid new group → StopsBehind frames seen may_leave errors old new given (group ++ unread) unread a c fault
        stops_behind old mid new given group unread a b c (serve.Home fault) one stopped more = (
          answered_kept frames (site_of old).roster (state_in old) given a b c one.answered stopped.1,
          λ file left. from_group old given group unread file (group_left old mid given group file one.done (more.each file (counts (home_device new) (moment (home_device mid)) file more.later left))),
        )
        stops_behind old mid new given group unread a b c (serve.NotKept fault) one stopped more = (
          group,
          b,
          refl,
          one.answered,
          stopped.0,
          λ file left. stopped.1.each file (counts (home_device new) (moment (home_device mid)) file stopped.1.later left) ∙ (λ i. Ok (entries_of (one.done.kept i))),
          (stopped.2.0, (stopped.2.1.0, subst (λ (bytes : ℕ). StopsAnswers stopped.2.1.0 (errors (home_device new)) bytes fault) (ap (λ es. length (at_rest es)) (kept_behind old mid given group one.done)) stopped.2.1.1)),
        )
        stops_behind old mid new given group unread a b c (serve.Write error) one stopped more =
            λ file left. from_group old given group unread file (group_left old mid given group file one.done (more.each file (counts (home_device new) (moment (home_device mid)) file more.later left)))
        stops_behind old mid new given group unread a b c (serve.Read error) one stopped more = absurd stopped

        pub served_stop : (old mid new : Home D) (had has now : Option (List ℕ)) (start begun chunk taken left : List ℕ) (a b c : Option (List ℕ)) (fault : ServeFault) → IsServing old mid had has start begun a b → Takes begun chunk taken left
            → Consumes has now chunk → StopsAt frames seen errors moment left_since mid new (lines_in taken) b c fault → LeavesGroup mid new (lines_in taken) → Serves frames seen may_leave errors old new had now start left a c (Err fault)
        served_stop old mid new had has now start begun chunk taken left a b c fault run takes consumed stopped more = (
          run.read ++ chunk,
          false,
          consumes_more had has now run.read chunk run.came consumed,
          never_ended,
          λ rest behind. (
            run.given,
            lines_in taken ++ lines_in (left ++ rest),
            taken_lines start run.read begun chunk taken left rest run.given run.lines takes,
            stops_behind old mid new run.given (lines_in taken) (lines_in (left ++ rest)) a b c fault run.served stopped more,
          ),
        )

        pub served_at_the_end : (old mid new : Home D) (had has now : Option (List ℕ)) (start begun left : List ℕ) (a b c : Option (List ℕ)) (r : Result Served ServeFault) → IsServing old mid had has start begun a b
            → Consumes has now [] → IsAtEnd now → left ≡ [] → IfOk r (λ served. served ≡ Ended) → OnOk r (HasServed frames seen may_leave mid new (cut_line begun) b c) → IfErr r (StopsAt frames seen errors moment left_since mid new (cut_line begun) b c)
            → LeavesGroup mid new (cut_line begun) → Serves frames seen may_leave errors old new had now start left a c r
        served_at_the_end old mid new had has now start begun left a b c r run consumed ended empty whole two stopped more = (
          run.read,
          true,
          read_all had has now run.read run.came consumed,
          λ e. (ended, empty),
          λ rest behind. subst
              (λ (bs : List ℕ). ServesAs frames seen may_leave errors old new (lines_in (start ++ (run.read ++ bs))) (lines_in (left ++ bs)) a c r)
              (sym (behind refl)) (ends r whole two stopped),
        )
          where
            is : lines_in (start ++ (run.read ++ [])) ≡ run.given ++ cut_line begun
            is = run.lines [] ∙ ap (λ (bs : List ℕ). run.given ++ lines_in bs) (append-nil begun) ∙ ap (λ ls. run.given ++ ls) (lines_in-begun begun run.none)

            unread : lines_in (left ++ []) ≡ []
            unread = ap (λ (bs : List ℕ). lines_in (bs ++ [])) empty

            ends : (r : Result Served ServeFault) → IfOk r (λ served. served ≡ Ended) → OnOk r (HasServed frames seen may_leave mid new (cut_line begun) b c) → IfErr r (StopsAt frames seen errors moment left_since mid new (cut_line begun) b c)
                → ServesAs frames seen may_leave errors old new (lines_in (start ++ (run.read ++ []))) (lines_in (left ++ [])) a c r
            ends (Ok Long) whole two stopped = absurd (apart whole)
            ends (Ok Ended) whole two stopped = subst (λ (ls : List (List ℕ)). HasServed frames seen may_leave old new ls a c) (sym is) (served_both old mid new run.given (cut_line begun) a b c run.served two)
            ends (Err fault) whole two stopped = (
              run.given,
              cut_line begun ++ lines_in (left ++ []),
              is ∙ ap (λ ls. run.given ++ ls) (sym (append-nil (cut_line begun))) ∙ ap (λ ls. run.given ++ (cut_line begun ++ ls)) (sym unread),
              subst (λ (ls : List (List ℕ)). StopsBehind frames seen may_leave errors old new run.given (cut_line begun ++ ls) ls a c fault) (sym unread)
                  (stops_behind old mid new run.given (cut_line begun) [] a b c fault run.served stopped more),
            )
