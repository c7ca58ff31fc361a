-- What a line says at a site: it asks that site, for what is in range, or ships to a site of the roster.
use Rattle.std.specs.Prelude.{codes, is_some, option_map, position, if◌then◌else◌}
use Rattle.std.specs.List.{after_first, before_first}
use Rattle.std.specs.Option.{option_map_or}
use Rattle.std.specs.Str.{bytes_eq}
use Rattle.std.proofs.Common.{◌≡◌, ◌≤◌, ◌<◌, ℕ, List, [], ◌∷◌, Bool, true, false, All, length, Option, Some, None, Ok, Err, refl, subst, arith}
use Rattle.std.proofs.lemmas.Bool.{and_parts}
use Rattle.std.proofs.lemmas.List.Elements.{All-cons, All-nil}
use Rattle.fed_stamp.specs.Roster.{is_named}
use Rattle.fed_model.specs.declared.askers.Role.{Role}
use Rattle.fed_model.specs.declared.askers.Who.{Who}
use Rattle.fed_model.specs.declared.commands.Command.{Command}
use Rattle.fed_model.specs.declared.moments.TheConstants.{MAX_MOMENT}
use Rattle.fed_model.specs.declared.beginnings.TheConstants.{MAX_STATUS}
use Rattle.fed_model.specs.Ranges.{IsName, IsSite, IsRanged}
use Rattle.fed_stamp.specs.Stamp.{StampValue}
use Rattle.fed_words.specs.declared.faults.UsageFault.{UsageFault}
use Rattle.fed_words.specs.Fault.{OrFault}
use Rattle.fed_words.specs.Request.{Asked, acts as acts_of, list as list_of, request_in}
use Rattle.fed_words.proofs.Given.{when_some}
use Rattle.fed_words.proofs.SiteNames.{found_in_range}
use Rattle.fed_script.specs.declared.verbs.Verb.{Verb}
use Rattle.fed_script.specs.declared.verbs.Verb.TheVariants.{Grant, Begin, Finish, HandBack, Decline, Retire, Ship, Take, Plan}
use Rattle.fed_script.specs.Asker.{is_slash, role_in, scheduler, user_in, who_in}
use Rattle.fed_script.specs.Forms.{Reads, ◌>>=◌, one, one_word, two, two_words, three, three_words, four_words}
use Rattle.fed_script.specs.Line.{Line, skips, acts, lists, misuses, ships, takes, plans, act, asked_at, cancels, own_line, reserves, scheduled, user_line, verb_line}
use Rattle.fed_script.specs.Values.{identifier, moment, number, packet, site, status}
use Rattle.fed_script.specs.Verb.{verb_named}
use Rattle.fed_turns.proofs.Requests.{IsRangedAsked, in_range, request_ranged}

-- ---- words that are in range
site_below : (roster : List (List ℕ × ℕ)) (word : List ℕ) (i : ℕ) → site roster word ≡ Some i → i < length roster
site_below roster word i e =
    let below = (found_in_range (is_named roster word) 0 (length roster) i e).1 in omega arith

-- no packet has a number before one is made
no_number : (word : List ℕ) (k : ℕ) → packet 0 word ≡ Some k → ⊥
no_number word k e = let range = in_range 1 0 word k e in omega (arith, range.0, range.1)

user_named : (role : Role) (word : List ℕ) (who : Who) → user_in role word ≡ Some who → IsName who.user
user_named role word who e =
    let told = when_some _ _ who e in
    subst (λ (w : Who). IsName w.user) told.1 (and_parts _ _ told.0).0

-- who asks has a user's name
who_named : (word : List ℕ) (who : Who) → who_in word ≡ Some who → IsName who.user
who_named word who e = go (is_some (position is_slash word)) (role_in (after_first is_slash word)) (before_first is_slash word) e
  where
    behind : (role : Option Role) (user : List ℕ) → (role >>= λ r. user_in r user) ≡ Some who → IsName who.user
    behind None user f = cc
    behind (Some r) user f = user_named r user who f

    go : (slash : Bool) (role : Option Role) (user : List ℕ) → (if slash then (role >>= λ r. user_in r user) else user_in Role.User word) ≡ Some who → IsName who.user
    go true role user f = behind role user f
    go false role user f = user_named Role.User word who f

-- ---- words in a fixed number
-- Q holds of what is made of what the words say
module _ {Z : Type 0} (Q : Z → Type 0) (z : Z) where
  made : {A : Type 0} (o : Option A) (make : A → Z) → ((a : A) → o ≡ Some a → Q (make a)) → option_map make o ≡ Some z → Q z
  made None make h e = cc
  made (Some a) make h e = let same : make a ≡ z = cc in subst Q same (h a refl)

  of_one : {A : Type 0} (f : Reads A) (make : A → Z) → ((w : List ℕ) (a : A) → f w ≡ Some a → Q (make a)) → (words : List (List ℕ)) → one f make words ≡ Some z → Q z
  of_one f make h words e = go (one_word words) e
    where
      go : (o : Option (List ℕ)) → (o >>= λ w. option_map make (f w)) ≡ Some z → Q z
      go None e = cc
      go (Some w) e = made (f w) make (h w) e

  of_two : {A B : Type 0} (f : Reads A) (g : Reads B) (make : A → B → Z) → ((v w : List ℕ) (a : A) (b : B) → f v ≡ Some a → g w ≡ Some b → Q (make a b)) → (words : List (List ℕ)) → two f g make words ≡ Some z → Q z
  of_two {A} {B} f g make h words e = go (two_words words) e
    where
      first : (v w : List ℕ) (o : Option A) → f v ≡ o → (o >>= λ a. option_map (make a) (g w)) ≡ Some z → Q z
      first v w None is e = cc
      first v w (Some a) is e = made (g w) (make a) (λ b k. h v w a b is k) e

      go : (o : Option (List ℕ × List ℕ)) → (o >>= λ w. f w.0 >>= λ a. option_map (make a) (g w.1)) ≡ Some z → Q z
      go None e = cc
      go (Some w) e = first w.0 w.1 (f w.0) refl e

  of_three : {A B C : Type 0} (f : Reads A) (g : Reads B) (k : Reads C) (make : A → B → C → Z) → ((u v w : List ℕ) (a : A) (b : B) (c : C) → f u ≡ Some a → g v ≡ Some b → k w ≡ Some c → Q (make a b c))
      → (words : List (List ℕ)) → three f g k make words ≡ Some z → Q z
  of_three {A} {B} f g k make h words e = go (three_words words) e
    where
      second : (u v w : List ℕ) (a : A) → f u ≡ Some a → (o : Option B) → g v ≡ o → (o >>= λ b. option_map (make a b) (k w)) ≡ Some z → Q z
      second u v w a at None is e = cc
      second u v w a at (Some b) is e = made (k w) (make a b) (λ c l. h u v w a b c at is l) e

      first : (u v w : List ℕ) (o : Option A) → f u ≡ o → (o >>= λ a. g v >>= λ b. option_map (make a b) (k w)) ≡ Some z → Q z
      first u v w None is e = cc
      first u v w (Some a) is e = second u v w a is (g v) refl e

      go : (o : Option (List ℕ × List ℕ × List ℕ)) → (o >>= λ w. f w.0 >>= λ a. g w.1 >>= λ b. option_map (make a b) (k w.2)) ≡ Some z → Q z
      go None e = cc
      go (Some w) e = first w.0 w.1 w.2 (f w.0) refl e

-- ---- what a line says
module _ (roster : List (List ℕ × ℕ)) (few : length roster ≤ 16) (here : ℕ) where
  sited : (word : List ℕ) (i : ℕ) → site roster word ≡ Some i → IsSite i
  sited word i e = let below = site_below roster word i e in (omega arith, omega arith)

  scheduled_ranged : (verb : Verb) (words : List (List ℕ)) (command : Command) → scheduled roster here verb words ≡ Some command → IsRanged scheduler command
  scheduled_ranged Grant words command e = of_two (IsRanged scheduler) command (identifier roster here) (site roster) Command.Grant (λ v w a b f g. sited w b g) words e
  scheduled_ranged Begin words command e = of_two (IsRanged scheduler) command (identifier roster here) moment Command.Begin (λ v w a b f g. in_range 0 MAX_MOMENT w b g) words e
  scheduled_ranged Finish words command e = of_three (IsRanged scheduler) command (identifier roster here) moment status Command.Finish (λ u v w a b c f g k. (in_range 0 MAX_MOMENT v b g, in_range 0 MAX_STATUS w c k)) words e
  scheduled_ranged HandBack words command e = of_one (IsRanged scheduler) command (identifier roster here) Command.HandBack (λ w a f. tt) words e
  scheduled_ranged Decline words command e = of_one (IsRanged scheduler) command (identifier roster here) Command.Decline (λ w a f. tt) words e
  scheduled_ranged Retire words command e = of_two (IsRanged scheduler) command number number Command.Retire (λ v w a b f g. tt) words e
  scheduled_ranged Ship words command e = cc
  scheduled_ranged Take words command e = cc
  scheduled_ranged Plan words command e = cc

  cancels_ranged : (who : Who) (words : List (List ℕ)) (command : Command) → cancels roster here words ≡ Some command → IsRanged who command
  cancels_ranged who words command e = of_one (IsRanged who) command (identifier roster here) Command.Cancel (λ w a f. tt) words e

  abbrev reserved : ℕ → ℕ → ℕ → ℕ → Command
  reserved place start end nodes = Command.Reserve (record { site = place; start = start; end = end; nodes = nodes })

  reserves_ranged : (who : Who) (words : List (List ℕ)) (command : Command) → reserves roster here words ≡ Some command → IsRanged who command
  reserves_ranged who words command e = go (four_words words) e
    where
      third : (place start : ℕ) → IsSite place → (o p : Option ℕ) → (o >>= λ end. option_map (reserved place start end) p) ≡ Some command → IsRanged who command
      third place start at None p e = cc
      third place start at (Some end) p e = made (IsRanged who) command p (reserved place start end) (λ nodes is. at) e

      second : (place : ℕ) → IsSite place → (o p q : Option ℕ) → (o >>= λ start. p >>= λ end. option_map (reserved place start end) q) ≡ Some command → IsRanged who command
      second place at None p q e = cc
      second place at (Some start) p q e = third place start at p q e

      first : (word : List ℕ) (o p q s : Option ℕ) → site roster word ≡ o → (o >>= λ place. p >>= λ start. q >>= λ end. option_map (reserved place start end) s) ≡ Some command → IsRanged who command
      first word None p q s is e = cc
      first word (Some place) p q s is e = second place (sited word place is) p q s e

      go : (o : Option (List ℕ × List ℕ × List ℕ × List ℕ))
          → (o >>= λ w. site roster w.0 >>= λ place. number w.1 >>= λ start. number w.2 >>= λ end. option_map (reserved place start end) (number w.3)) ≡ Some command → IsRanged who command
      go None e = cc
      go (Some w) e = first w.0 (site roster w.0) (number w.1) (number w.2) (number w.3) refl e

  -- P holds of what a line says, where it holds of all that it may say
  module _ (P : Line → Type 0) (skip : P skips) (asks : (who : Who) (commands : List Command) → All (IsRanged who) commands → P (acts here who commands))
      (list : (full : Bool) (jobs : List StampValue) → P (lists here full jobs)) (misuse : (fault : UsageFault) → P (misuses here fault))
      (ship : (to : ℕ) → to < length roster → P (ships here to)) (plan : (at : ℕ) → P (plans here at)) (line : Line) where
    act_is : (who : Who) (o : Option Command) → ((command : Command) → o ≡ Some command → IsRanged who command) → act here who o ≡ Some line → P line
    act_is who o ranged e = made P line o (λ c. acts here who (c ∷ [])) (λ c is. asks who (c ∷ []) (All-cons (IsRanged who) c [] (ranged c is) (All-nil (IsRanged who)))) e

    verb_is : (verb : Verb) (words : List (List ℕ)) → verb_line roster here 0 verb words ≡ Some line → P line
    verb_is Ship words e = of_one P line (site roster) (ships here) (λ w i f. ship i (site_below roster w i f)) words e
    verb_is Take words e = of_one P line (packet 0) (takes here) (λ w k f. absurd (no_number w k f)) words e
    verb_is Plan words e = of_one P line moment (plans here) (λ w k f. plan k) words e
    verb_is Grant words e = act_is scheduler (scheduled roster here Grant words) (scheduled_ranged Grant words) e
    verb_is Begin words e = act_is scheduler (scheduled roster here Begin words) (scheduled_ranged Begin words) e
    verb_is Finish words e = act_is scheduler (scheduled roster here Finish words) (scheduled_ranged Finish words) e
    verb_is HandBack words e = act_is scheduler (scheduled roster here HandBack words) (scheduled_ranged HandBack words) e
    verb_is Decline words e = act_is scheduler (scheduled roster here Decline words) (scheduled_ranged Decline words) e
    verb_is Retire words e = act_is scheduler (scheduled roster here Retire words) (scheduled_ranged Retire words) e

    asked_is : (who : Who) (asked : OrFault Asked) → IsRangedAsked who asked → Some (asked_at here who asked) ≡ Some line → P line
    asked_is who (Ok (acts_of commands)) ranged e = let same : acts here who commands ≡ line = cc in subst P same (asks who commands ranged)
    asked_is who (Ok (list_of full jobs)) ranged e = let same : lists here full jobs ≡ line = cc in subst P same (list full jobs)
    asked_is who (Err fault) ranged e = let same : misuses here fault ≡ line = cc in subst P same (misuse fault)

    either : (who : Who) → IsName who.user → (reserve cancel : Bool) (words all : List (List ℕ))
        → (if reserve then act here who (reserves roster here words) else (if cancel then act here who (cancels roster here words) else Some (asked_at here who (request_in roster here all)))) ≡ Some line → P line
    either who named true cancel words all e = act_is who (reserves roster here words) (reserves_ranged who words) e
    either who named false true words all e = act_is who (cancels roster here words) (cancels_ranged who words) e
    either who named false false words all e = asked_is who (request_in roster here all) (request_ranged roster who named here all) e

    user_is : (who : Who) → IsName who.user → (words : List (List ℕ)) → user_line roster here who words ≡ Some line → P line
    user_is who named [] e = asked_is who (request_in roster here []) (request_ranged roster who named here []) e
    user_is who named (word ∷ words) e = either who named (bytes_eq word (codes "reserve")) (bytes_eq word (codes "cancel")) words (word ∷ words) e

    who_is : (word : List ℕ) (o : Option Who) → who_in word ≡ o → (words : List (List ℕ)) → (o >>= λ who. user_line roster here who words) ≡ Some line → P line
    who_is word None is words e = cc
    who_is word (Some who) is words e = user_is who (who_named word who is) words e

    first_is : (verb : Option Verb) (word : List ℕ) (words : List (List ℕ))
        → option_map_or (λ v. verb_line roster here 0 v words) verb (who_in word >>= λ who. user_line roster here who words) ≡ Some line → P line
    first_is None word words e = who_is word (who_in word) refl words e
    first_is (Some verb) word words e = verb_is verb words e

    pub own_line_is : (words : List (List ℕ)) → own_line roster here words ≡ Some line → P line
    own_line_is [] e = let same : skips ≡ line = cc in subst P same skip
    own_line_is (word ∷ words) e = first_is (verb_named word) word words e
