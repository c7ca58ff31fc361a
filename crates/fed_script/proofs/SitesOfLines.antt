-- The sites that a line asks, ships to and compares are of the roster.
use Rattle.std.proofs.Common.{◌≡◌, ℕ, ◌<◌, Bool, true, false, List, [], ◌∷◌, length, Option, Some, None, Ok, Err, refl, subst, arith}
use Rattle.std.specs.Prelude.{codes, option_map, if◌then◌else◌}
use Rattle.std.specs.Option.{option_map_or}
use Rattle.std.specs.Str.{bytes_eq}
use Rattle.fed_stamp.specs.Roster.{is_named}
use Rattle.fed_model.specs.declared.askers.Who.{Who}
use Rattle.fed_model.specs.declared.commands.Command.{Command}
use Rattle.fed_words.specs.Fault.{OrFault}
use Rattle.fed_words.specs.Request.{Asked, acts as acts_of, list as list_of, request_in}
use Rattle.fed_words.proofs.SiteNames.{found_in_range}
use Rattle.fed_script.specs.declared.verbs.Verb.{Verb}
use Rattle.fed_script.specs.declared.verbs.Verb.TheVariants.{Grant, Begin, Finish, HandBack, Decline, Retire, Ship, Take, Plan}
use Rattle.fed_script.specs.Asker.{scheduler, who_in}
use Rattle.fed_script.specs.Forms.{◌>>=◌, one_word, two_words}
use Rattle.fed_script.specs.Line.{Line, skips, acts, ships, takes, plans, compares, act, asked_at, cancels, later_line, later_line_in, reserves, scheduled, site_line, user_line, verb_line, words_in}
use Rattle.fed_script.specs.LineSites.{HasSites}
use Rattle.fed_script.specs.Values.{moment, packet, site}
use Rattle.fed_script.specs.Verb.{verb_named}

site_below : (roster : List (List ℕ × ℕ)) (word : List ℕ) (i : ℕ) → site roster word ≡ Some i → i < length roster
site_below roster word i e =
    let below = (found_in_range (is_named roster word) 0 (length roster) i e).1 in omega arith

act_sites : (n here : ℕ) (who : Who) (command : Option Command) (line : Line) → here < n → act here who command ≡ Some line → HasSites n line
act_sites n here who None line h e = cc
act_sites n here who (Some command) line h e = let same : acts here who (command ∷ []) ≡ line = cc in subst (HasSites n) same h

asked_sites : (n here : ℕ) (who : Who) (asked : OrFault Asked) → here < n → HasSites n (asked_at here who asked)
asked_sites n here who (Ok (acts_of commands)) h = h
asked_sites n here who (Ok (list_of full jobs)) h = h
asked_sites n here who (Err fault) h = h

-- one thing more that a word says
named_one : (roster : List (List ℕ × ℕ)) (word : List ℕ) (o : Option ℕ) (make : ℕ → Line) (line : Line) → site roster word ≡ o → ((i : ℕ) → i < length roster → HasSites (length roster) (make i))
    → option_map make o ≡ Some line → HasSites (length roster) line
named_one roster word None make line e h s = cc
named_one roster word (Some i) make line e h s = let same : make i ≡ line = cc in subst (HasSites (length roster)) same (h i (site_below roster word i e))

module _ (roster : List (List ℕ × ℕ)) (here : ℕ) (h : here < length roster) where
  ships_sites : (o : Option (List ℕ)) (line : Line) → (o >>= λ w. option_map (ships here) (site roster w)) ≡ Some line → HasSites (length roster) line
  ships_sites None line e = cc
  ships_sites (Some word) line e = named_one roster word (site roster word) (ships here) line refl (λ i below. (h, below)) e

  takes_of : (o : Option ℕ) (line : Line) → option_map (takes here) o ≡ Some line → HasSites (length roster) line
  takes_of None line e = cc
  takes_of (Some k) line e = let same : takes here k ≡ line = cc in subst (HasSites (length roster)) same h

  takes_sites : (made : ℕ) (o : Option (List ℕ)) (line : Line) → (o >>= λ w. option_map (takes here) (packet made w)) ≡ Some line → HasSites (length roster) line
  takes_sites made None line e = cc
  takes_sites made (Some word) line e = takes_of (packet made word) line e

  plans_of : (o : Option ℕ) (line : Line) → option_map (plans here) o ≡ Some line → HasSites (length roster) line
  plans_of None line e = cc
  plans_of (Some m) line e = let same : plans here m ≡ line = cc in subst (HasSites (length roster)) same h

  plans_sites : (o : Option (List ℕ)) (line : Line) → (o >>= λ w. option_map (plans here) (moment w)) ≡ Some line → HasSites (length roster) line
  plans_sites None line e = cc
  plans_sites (Some word) line e = plans_of (moment word) line e

  verb_sites : (made : ℕ) (verb : Verb) (words : List (List ℕ)) (line : Line) → verb_line roster here made verb words ≡ Some line → HasSites (length roster) line
  verb_sites made Ship words line e = ships_sites (one_word words) line e
  verb_sites made Take words line e = takes_sites made (one_word words) line e
  verb_sites made Plan words line e = plans_sites (one_word words) line e
  verb_sites made Grant words line e = act_sites (length roster) here scheduler (scheduled roster here Grant words) line h e
  verb_sites made Begin words line e = act_sites (length roster) here scheduler (scheduled roster here Begin words) line h e
  verb_sites made Finish words line e = act_sites (length roster) here scheduler (scheduled roster here Finish words) line h e
  verb_sites made HandBack words line e = act_sites (length roster) here scheduler (scheduled roster here HandBack words) line h e
  verb_sites made Decline words line e = act_sites (length roster) here scheduler (scheduled roster here Decline words) line h e
  verb_sites made Retire words line e = act_sites (length roster) here scheduler (scheduled roster here Retire words) line h e

  asked_line : (who : Who) (words : List (List ℕ)) (line : Line) → Some (asked_at here who (request_in roster here words)) ≡ Some line → HasSites (length roster) line
  asked_line who words line e =
      let same : asked_at here who (request_in roster here words) ≡ line = cc in
      subst (HasSites (length roster)) same (asked_sites (length roster) here who (request_in roster here words) h)

  -- the words of a reservation, those of its end, or others
  either : (who : Who) (reserve cancel : Bool) (words all : List (List ℕ)) (line : Line)
      → (if reserve then act here who (reserves roster here words) else (if cancel then act here who (cancels roster here words) else Some (asked_at here who (request_in roster here all)))) ≡ Some line
      → HasSites (length roster) line
  either who true cancel words all line e = act_sites (length roster) here who (reserves roster here words) line h e
  either who false true words all line e = act_sites (length roster) here who (cancels roster here words) line h e
  either who false false words all line e = asked_line who all line e

  user_sites : (who : Who) (words : List (List ℕ)) (line : Line) → user_line roster here who words ≡ Some line → HasSites (length roster) line
  user_sites who [] line e = asked_line who [] line e
  user_sites who (word ∷ words) line e = either who (bytes_eq word (codes "reserve")) (bytes_eq word (codes "cancel")) words (word ∷ words) line e

  who_sites : (o : Option Who) (words : List (List ℕ)) (line : Line) → (o >>= λ who. user_line roster here who words) ≡ Some line → HasSites (length roster) line
  who_sites None words line e = cc
  who_sites (Some who) words line e = user_sites who words line e

  behind_site : (made : ℕ) (verb : Option Verb) (o : Option Who) (words : List (List ℕ)) (line : Line)
      → option_map_or (λ v. verb_line roster here made v words) verb (o >>= λ who. user_line roster here who words) ≡ Some line → HasSites (length roster) line
  behind_site made None o words line e = who_sites o words line e
  behind_site made (Some verb) o words line e = verb_sites made verb words line e

  at_site : (made : ℕ) (words : List (List ℕ)) (line : Line) → site_line roster here made words ≡ Some line → HasSites (length roster) line
  at_site made [] line e = cc
  at_site made (word ∷ words) line e = behind_site made (verb_named word) (who_in word) words line e

module _ (roster : List (List ℕ × ℕ)) where
  compared : (first second : Option ℕ) (line : Line) → ((i : ℕ) → first ≡ Some i → i < length roster) → ((i : ℕ) → second ≡ Some i → i < length roster)
      → (first >>= λ a. option_map (compares a) second) ≡ Some line → HasSites (length roster) line
  compared None second line f g e = cc
  compared (Some a) None line f g e = cc
  compared (Some a) (Some b) line f g e = let same : compares a b ≡ line = cc in subst (HasSites (length roster)) same (f a refl, g b refl)

  compares_sites : (o : Option (List ℕ × List ℕ)) (line : Line) → (o >>= λ w. site roster w.0 >>= λ a. option_map (compares a) (site roster w.1)) ≡ Some line → HasSites (length roster) line
  compares_sites None line e = cc
  compares_sites (Some w) line e = compared (site roster w.0) (site roster w.1) line (site_below roster w.0) (site_below roster w.1) e

  from_site : (made : ℕ) (word : List ℕ) (o : Option ℕ) (words : List (List ℕ)) (line : Line) → site roster word ≡ o → (o >>= λ here. site_line roster here made words) ≡ Some line → HasSites (length roster) line
  from_site made word None words line s e = cc
  from_site made word (Some here) words line s e = at_site roster here (site_below roster word here s) made words line e

  first_word : (made : ℕ) (is_equal : Bool) (word : List ℕ) (words : List (List ℕ)) (line : Line)
      → (if is_equal then (two_words words >>= λ w. site roster w.0 >>= λ a. option_map (compares a) (site roster w.1)) else (site roster word >>= λ here. site_line roster here made words)) ≡ Some line
      → HasSites (length roster) line
  first_word made true word words line e = compares_sites (two_words words) line e
  first_word made false word words line e = from_site made word (site roster word) words line refl e

  later_sites : (made : ℕ) (words : List (List ℕ)) (line : Line) → later_line roster made words ≡ Some line → HasSites (length roster) line
  later_sites made [] line e = let same : skips ≡ line = cc in subst (HasSites (length roster)) same tt
  later_sites made (word ∷ words) line e = first_word made (bytes_eq word (codes "equal")) word words line e

  told_sites : (made : ℕ) (o : Option (List (List ℕ))) (line : Line) → (o >>= later_line roster made) ≡ Some line → HasSites (length roster) line
  told_sites made None line e = cc
  told_sites made (Some words) line e = later_sites made words line e

pub line_sites : (roster : List (List ℕ × ℕ)) (made : ℕ) (bytes : List ℕ) (line : Line) → later_line_in roster made bytes ≡ Some line → HasSites (length roster) line
line_sites roster made bytes line e = told_sites roster made (words_in bytes) line e
