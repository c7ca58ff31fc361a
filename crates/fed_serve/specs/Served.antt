-- What is written to the lines of an input, and what the journal then has.
use Rattle.std.specs.Prelude.{◌≡◌, ℕ, Bool, true, false, List, [], ◌∷◌, ◌++◌, length, Option, None, Result, Ok, Err, ⊤}
use Rattle.std.specs.List.{All}
use Rattle.std.specs.Io.KnownBytes.{Appends, Consumes, IsAtEnd, Keeps}
use Rattle.std.specs.declared.io.Error.{Error}
use Rattle.fed_replica.specs.State.{State}
use Rattle.fed_site.specs.Journal.{after_lines, kept_lines}
use Rattle.fed_site.specs.Rosters.{roster_after_lines}
use Rattle.fed_site.specs.Told.{IsTold, answers_in}
use Rattle.fed_site.specs.declared.tellings.Told.{Told}
use Rattle.fed_journal.specs.Device.{Leaves, LeavesOnly}
use Rattle.fed_journal.specs.Journal.{entries_in}
use Rattle.fed_journal.specs.Lines.{at_rest, recovered}
use Rattle.fed_home.specs.Fault.{StopsAnswers, is_in_doubt}
use Rattle.fed_home.specs.Home.{IsOpen, state_in, home_device, site_of}
use Rattle.fed_home.specs.Replay.{AreReplies}
use Rattle.fed_home.specs.declared.faults.HomeFault.{HomeFault}
use Rattle.fed_home.specs.declared.faults.HomeFault.TheVariants as home
use Rattle.fed_home.specs.declared.homes.Home.{Home}
use Rattle.fed_serve.specs.Inputs.{lines_in}
use Rattle.fed_serve.specs.Written.{not_kept_text, told_text}
use Rattle.fed_serve.specs.declared.faults.ServeFault.{ServeFault}
use Rattle.fed_serve.specs.declared.faults.ServeFault.TheVariants as serve
use Rattle.fed_serve.specs.declared.serving.Served.{Served}
use Rattle.fed_serve.specs.declared.serving.Served.TheVariants.{Ended, Long}

-- The answers to these lines, one after another, were written, in lines or in frames.
abbrev pub HasAnswered : (frames : Bool) → List (List ℕ × ℕ) → State → List (List ℕ) → Option (List ℕ) → Option (List ℕ) → Type 0
HasAnswered frames roster s given before after =
    (answers : List Told) × AreReplies roster s given (answers_in answers) × All (IsTold frames) answers × Appends before after (told_text frames answers)

-- Each of these lines was answered `not kept`, with words at most in frames.
abbrev pub AreNotKept : (frames : Bool) → List (List ℕ) → Option (List ℕ) → Option (List ℕ) → Type 0
AreNotKept frames given before after =
    (words : Option (List ℕ)) × (frames ≡ false → words ≡ None) × Appends before after (not_kept_text frames words given)

-- a file that has, behind these entries, what lines keep
abbrev pub HasKept : List (List ℕ × ℕ) → State → List (List ℕ) → List (List ℕ) → List ℕ → Type 0
HasKept roster s entries given file = recovered file ≡ Ok (entries ++ kept_lines roster s given)

-- what some first lines keep
abbrev pub KeepsSome : List (List ℕ × ℕ) → State → List (List ℕ) → List (List ℕ) → List ℕ → Type 0
KeepsSome roster s entries given file =
    (first : List (List ℕ)) × (rest : List (List ℕ)) × (given ≡ first ++ rest) × HasKept roster s entries first file

-- what these lines keep, or these and some first of those behind them
abbrev pub KeepsFrom : List (List ℕ × ℕ) → State → List (List ℕ) → (first behind : List (List ℕ)) → List ℕ → Type 0
KeepsFrom roster s entries first behind file =
    (group : List (List ℕ)) × (rest : List (List ℕ)) × (behind ≡ group ++ rest) × HasKept roster s entries (first ++ group) file

-- how many bytes the journal would have with what these lines keep
abbrev pub bytes_with : {D : Type 0} (seen : D → List ℕ) → Home D → List (List ℕ) → ℕ
bytes_with seen old given =
    length (at_rest (entries_in (seen (home_device old)) ++ kept_lines (site_of old).roster (state_in old) given))

-- The fault is one of those for which no group is kept, and it comes as `StopsAnswers` says.
abbrev pub StopsGroup : {D : Type 0} (seen : D → List ℕ) (errors : D → List Error) → Home D → Home D → List (List ℕ) → HomeFault → Type 0
StopsGroup seen errors old new given fault =
    (is_in_doubt fault ≡ false) × ((earlier : List Error) × StopsAnswers earlier (errors (home_device new)) (bytes_with seen old given) fault)

-- what is told of lines that can't be kept for this cause, and what is written to them
abbrev pub IsStop : (frames : Bool) → List (List ℕ) → Option (List ℕ) → Option (List ℕ) → HomeFault → ServeFault → Type 0
IsStop frames given before after cause (serve.Home fault) = (fault ≡ cause) × (is_in_doubt cause ≡ true) × Keeps before after
IsStop frames given before after cause (serve.NotKept fault) = (fault ≡ cause) × (is_in_doubt cause ≡ false) × AreNotKept frames given before after
IsStop frames given before after cause (serve.Write error) = is_in_doubt cause ≡ false
IsStop frames given before after cause (serve.Read error) = ⊥

module _ {D : Type 0} (frames : Bool) (seen : D → List ℕ) (may_leave : D → List ℕ → Type 0) where
  -- the site has done these lines, and what they keep is on the disk
  pub record IsDone (old new : Home D) (given : List (List ℕ)) : Type 0 where
    pub is_open : IsOpen seen may_leave new
    pub roster : (site_of new).roster ≡ roster_after_lines (site_of old).roster given
    pub left : state_in new ≡ after_lines (site_of old).roster (state_in old) given
    pub kept : HasKept (site_of old).roster (state_in old) (entries_in (seen (home_device old))) given (seen (home_device new))

  -- and the answers are written
  pub record HasServed (old new : Home D) (given : List (List ℕ)) (before after : Option (List ℕ)) : Type 0 where
    pub done : IsDone old new given
    pub answered : HasAnswered frames (site_of old).roster (state_in old) given before after

  module _ (errors : D → List Error) where
    -- What is left by a fault behind these first lines, with the others of the input and those that aren't read yet.
    abbrev pub StopsBehind : Home D → Home D → (first others unread : List (List ℕ)) → Option (List ℕ) → Option (List ℕ) → ServeFault → Type 0
    -- the first are served, and no other is read
    StopsBehind old new first others unread before after (serve.Read error) = HasServed old new first before after × (others ≡ unread)
    -- a group behind the first can't be kept and is answered so; nothing of it is kept, and the rest is not read
    StopsBehind old new first others unread before after (serve.NotKept fault) =
        (group : List (List ℕ)) × (between : Option (List ℕ)) × (others ≡ group ++ unread)
        × HasAnswered frames (site_of old).roster (state_in old) first before between × AreNotKept frames group between after
        × Leaves (HasKept (site_of old).roster (state_in old) (entries_in (seen (home_device old))) first) (may_leave (home_device new))
        × StopsGroup seen errors old new (first ++ group) fault
    -- the first are answered, and of the others nobody is
    StopsBehind old new first others unread before after (serve.Home fault) =
        HasAnswered frames (site_of old).roster (state_in old) first before after
        × Leaves (KeepsFrom (site_of old).roster (state_in old) (entries_in (seen (home_device old))) first others) (may_leave (home_device new))
    -- the first are answered, and of a group behind them, which is kept too, some may be
    StopsBehind old new first others unread before after (serve.Write error) =
        Leaves (KeepsFrom (site_of old).roster (state_in old) (entries_in (seen (home_device old))) first others) (may_leave (home_device new))

    -- How it ends, by the lines of the input and by those that are left to be read: all are served, or all but those, or it
    -- stops behind some first ones.
    abbrev pub ServesAs : Home D → Home D → (given unread : List (List ℕ)) → Option (List ℕ) → Option (List ℕ) → Result Served ServeFault → Type 0
    ServesAs old new given unread before after (Ok Ended) = HasServed old new given before after
    ServesAs old new given unread before after (Ok Long) =
        (first : List (List ℕ)) × (given ≡ first ++ unread) × HasServed old new first before after
    ServesAs old new given unread before after (Err fault) =
        (first : List (List ℕ)) × (others : List (List ℕ)) × (given ≡ first ++ others) × StopsBehind old new first others unread before after fault

    -- By what was read, behind what had begun of a line before it, and by what is left of a line that has begun: so it ends,
    -- whatever comes behind it. Behind an input that is at its end nothing comes, and nothing is left.
    abbrev pub Serves : Home D → Home D → Option (List ℕ) → Option (List ℕ) → (begun left : List ℕ) → Option (List ℕ) → Option (List ℕ) → Result Served ServeFault → Type 0
    Serves old new had has begun left before after result =
        (read : List ℕ) × (ended : Bool) × Consumes had has read × (ended ≡ true → IsAtEnd has × (left ≡ []))
        × ((more : List ℕ) → (ended ≡ true → more ≡ []) → ServesAs old new (lines_in (begun ++ (read ++ more))) (lines_in (left ++ more)) before after result)

module _ {D : Type 0} (frames : Bool) (seen : D → List ℕ) (errors : D → List Error) (moment : D → ℕ) (left_since : D → ℕ → List ℕ → Type 0) where
  -- what is left where a group isn't served
  abbrev pub StopsAt : Home D → Home D → List (List ℕ) → Option (List ℕ) → Option (List ℕ) → ServeFault → Type 0
  StopsAt old new given before after (serve.Home fault) = (is_in_doubt fault ≡ true) × Keeps before after
  StopsAt old new given before after (serve.NotKept fault) =
      AreNotKept frames given before after
      × LeavesOnly moment left_since (home_device old) (home_device new) (λ c. recovered c ≡ Ok (entries_in (seen (home_device old))))
      × StopsGroup seen errors old new given fault
  StopsAt old new given before after (serve.Write error) = ⊤
  StopsAt old new given before after (serve.Read error) = ⊥

-- A fault of the site, where nobody is told of the lines, is want of memory for the input, or the newest of the disk's errors, which leaves a group in doubt.
abbrev pub StopsServing : List Error → ServeFault → Type 0
StopsServing now (serve.Home home.NoMemory) = ⊤
StopsServing now (serve.Home (home.InDoubt error)) = (earlier : List Error) × (now ≡ error ∷ earlier)
StopsServing now (serve.Home fault) = ⊥
StopsServing now fault = ⊤
