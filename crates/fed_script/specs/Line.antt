-- What a line of a script says.
use Rattle.std.specs.Prelude.{ℕ, ◌==◌, Bool, false, List, [], ◌∷◌, codes, slice_index, Option, Some, None, Ok, Err, option_map, if◌then◌else◌}
use Rattle.std.specs.Option.{option_map_or}
use Rattle.std.specs.Str.{byte, bytes_eq}
use Rattle.fed_stamp.specs.Stamp.{StampValue}
use Rattle.fed_model.specs.declared.askers.Who.{Who}
use Rattle.fed_model.specs.declared.commands.Command.{Command}
use Rattle.fed_words.specs.declared.faults.UsageFault.{UsageFault}
use Rattle.fed_words.specs.Fault.{OrFault}
use Rattle.fed_words.specs.Request.{Asked, acts as acts_of, list as list_of, request_in}
use Rattle.fed_script.specs.declared.verbs.Verb.{Verb}
use Rattle.fed_script.specs.declared.verbs.Verb.TheVariants.{Grant, Begin, Finish, HandBack, Decline, Retire, Ship, Take, Plan}
use Rattle.fed_script.specs.Asker.{scheduler, who_in}
use Rattle.fed_script.specs.Forms.{Form, ◌>>=◌, one, two, three, four}
use Rattle.fed_script.specs.Lines.{is_readable, words_of}
use Rattle.fed_script.specs.Rosters.{roster_of}
use Rattle.fed_script.specs.Values.{identifier, moment, number, packet, site, status}
use Rattle.fed_script.specs.Verb.{verb_named}

pub data Line : Type 0 where
  -- nothing: it is empty or a comment
  skips : Line
  -- it names the sites
  begins : List (List ℕ × ℕ) → Line
  -- somebody asks a site to do this, one command after another
  acts : (site : ℕ) (who : Who) (commands : List Command) → Line
  -- a site lists these jobs, or all where none is named, in full or not
  lists : (site : ℕ) (full : Bool) (jobs : List StampValue) → Line
  -- the words of a utility ask nothing of a site
  misuses : (site : ℕ) (fault : UsageFault) → Line
  -- a site makes a packet for a site
  ships : (site : ℕ) (to : ℕ) → Line
  -- a site takes a packet, by its number
  takes : (site : ℕ) (packet : ℕ) → Line
  -- a site plans its machine at a moment
  plans : (site : ℕ) (moment : ℕ) → Line
  -- do the boards of two sites read the same?
  compares : (site : ℕ) (other : ℕ) → Line

-- what the words of a utility ask of a site
abbrev pub asked_at : ℕ → Who → OrFault Asked → Line
asked_at here who (Ok (acts_of commands)) = acts here who commands
asked_at here who (Ok (list_of full jobs)) = lists here full jobs
asked_at here who (Err fault) = misuses here fault

-- one command, where there is one
abbrev pub act : ℕ → Who → Option Command → Option Line
act here who command = option_map (λ c. acts here who (c ∷ [])) command

-- by the roster, at a site
module _ (roster : List (List ℕ × ℕ)) (here : ℕ) where
  -- what a site's own scheduler asks
  abbrev pub scheduled : Verb → Form Command
  scheduled Grant = two (identifier roster here) (site roster) Command.Grant
  scheduled Begin = two (identifier roster here) moment Command.Begin
  scheduled Finish = three (identifier roster here) moment status Command.Finish
  scheduled HandBack = one (identifier roster here) Command.HandBack
  scheduled Decline = one (identifier roster here) Command.Decline
  scheduled Retire = two number number Command.Retire
  scheduled verb = λ words. None

  abbrev pub reserves : Form Command
  reserves = four (site roster) number number number
      (λ place start end nodes. Command.Reserve (record { site = place; start = start; end = end; nodes = nodes }))

  abbrev pub cancels : Form Command
  cancels = one (identifier roster here) Command.Cancel

  -- what stands behind a verb, once so many packets were made
  abbrev pub verb_line : ℕ → Verb → Form Line
  verb_line made Ship = one (site roster) (ships here)
  verb_line made Take = one (packet made) (takes here)
  verb_line made Plan = one moment (plans here)
  verb_line made verb = λ words. act here scheduler (scheduled verb words)

  -- what stands behind a user: a reservation, or the words of a utility
  abbrev pub user_line : Who → Form Line
  user_line who [] = Some (asked_at here who (request_in roster here []))
  user_line who (word ∷ words) = if bytes_eq word (codes "reserve") then act here who (reserves words)
      else (if bytes_eq word (codes "cancel") then act here who (cancels words)
      else Some (asked_at here who (request_in roster here (word ∷ words))))

  -- what stands behind the name of a site
  abbrev pub site_line : ℕ → Form Line
  site_line made [] = None
  site_line made (word ∷ words) = option_map_or
      (λ verb. verb_line made verb words) (verb_named word)
      (who_in word >>= λ who. user_line who words)

-- what the words of a line say behind the line of the roster
abbrev pub later_line : List (List ℕ × ℕ) → ℕ → Form Line
later_line roster made [] = Some skips
later_line roster made (first ∷ words) = if bytes_eq first (codes "equal")
    then two (site roster) (site roster) compares words
    else site roster first >>= λ here. site_line roster here made words

-- what the words of a line say at a site by itself: they stand behind its name, and no packet has a number
abbrev pub own_line : List (List ℕ × ℕ) → ℕ → Form Line
own_line roster here [] = Some skips
own_line roster here (word ∷ words) = site_line roster here 0 (word ∷ words)

-- what they say where nothing stands before: the sites
abbrev pub first_line : Form Line
first_line [] = Some skips
first_line (first ∷ words) = if bytes_eq first (codes "roster") then option_map begins (roster_of words) else None

-- the words of a comment
abbrev pub is_comment : List (List ℕ) → Bool
is_comment [] = false
is_comment (first ∷ words) = slice_index first 0 == byte "#"

-- the words of a line, without those of a comment
abbrev pub told : List (List ℕ) → List (List ℕ)
told words = if is_comment words then [] else words

-- the words of a line that can be read
abbrev pub words_in : List ℕ → Option (List (List ℕ))
words_in line = if is_readable line then Some (told (words_of line)) else None

-- what the bytes of a line say before the line of the roster
abbrev pub first_line_in : List ℕ → Option Line
first_line_in line = words_in line >>= first_line

-- what they say behind it, once so many packets were made
abbrev pub later_line_in : List (List ℕ × ℕ) → ℕ → List ℕ → Option Line
later_line_in roster made line = words_in line >>= later_line roster made
