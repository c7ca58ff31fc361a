-- Of all lines that ask to begin a job one at most is answered that it is done, and none behind one that retires the job.
use Rattle.std.specs.Prelude.{codes, Some, slice_index}
use Rattle.std.proofs.Common.{◌≡◌, ◌≤◌, ℕ, List, [], ◌∷◌, ◌++◌, Bool, true, false, length, append-nil, append_assoc, refl, sym, subst, ap, ◌∙◌, arith}
use Rattle.std.proofs.lemmas.List.{append_cancel_right}
use Rattle.fed_stamp.specs.Stamp.{StampValue}
use Rattle.fed_model.specs.declared.askers.Who.{Who}
use Rattle.fed_model.specs.declared.commands.Command.{Command}
use Rattle.fed_model.specs.declared.events.Event.{Event}
use Rattle.fed_model.specs.declared.events.Event.TheVariants.{Do}
use Rattle.fed_model.specs.declared.outcomes.Outcome.{Outcome}
use Rattle.fed_model.specs.declared.replies.Reply.{Reply}
use Rattle.fed_model.specs.Run.{World, run, outcomes_from, start, step}
use Rattle.fed_theory.proofs.Begins.{done_once}
use Rattle.fed_theory.proofs.RetiredRuns.{never_begins}
use Rattle.fed_script.specs.Line.{acts}
use Rattle.fed_qstat.specs.Outcome.{answer_line, text_of_outcome}
use Rattle.fed_turns.specs.Crash.{Happening, answered, turns_from}
use Rattle.fed_turns.specs.Home.{course_of}
use Rattle.fed_site.specs.OwnLine.{says, own_line_of}
use Rattle.fed_turns.specs.Own.{AsksToBegin, AsksToRetire}
use Rattle.fed_turns.specs.Run.{Deed, IsDeedAnswer, StandsFor, deed_by, deed_of, does, events_at, events_done, events_from}
use Rattle.fed_turns.specs.Turn.{Course, MayTurn, MayTurns, Turn, after_turn, after_turns, beginning, roster_at}
use Rattle.fed_turns.proofs.Alarms.{start_stands}
use Rattle.fed_turns.proofs.Crashes.{turns_more}
use Rattle.fed_turns.proofs.Reached.{Reached, run_reached, start_reached}
use Rattle.fed_turns.proofs.Turns.{turn_played, turns_played}

-- ---- what is answered by `done`
-- no other outcome's text begins with a d
first_byte : (x y : ℕ) (xs ys : List ℕ) → x ∷ xs ≡ y ∷ ys → x ≡ y
first_byte x y xs ys e = ap (λ l. slice_index l 0) e

done_replies : (roster : List (List ℕ × ℕ)) (o : Outcome) → text_of_outcome roster o ≡ codes "done" → (reply : Reply) × (o ≡ Outcome.Replied reply)
done_replies roster (Outcome.Replied reply) e = (reply, refl)
done_replies roster (Outcome.Refused refusal) e = let b : 114 ≡ 100 = first_byte _ _ _ _ e in absurd (omega (arith, b))
done_replies roster (Outcome.Packet k) e = let b : 112 ≡ 100 = first_byte _ _ _ _ e in absurd (omega (arith, b))
done_replies roster (Outcome.Taken taken) e = grew taken.grew e
  where
    grew : (b : Bool) → text_of_outcome roster (Outcome.Taken (record { grew = b })) ≡ codes "done" → (reply : Reply) × (Outcome.Taken taken ≡ Outcome.Replied reply)
    grew true f = let b : 116 ≡ 100 = first_byte _ _ _ _ f in absurd (omega (arith, b))
    grew false f = let b : 107 ≡ 100 = first_byte _ _ _ _ f in absurd (omega (arith, b))
done_replies roster (Outcome.Gap site) e = let b : 103 ≡ 100 = first_byte _ _ _ _ e in absurd (omega (arith, b))
done_replies roster Outcome.NoPacket e = let b : 110 ≡ 100 = first_byte _ _ _ _ e in absurd (omega (arith, b))
done_replies roster Outcome.NoSite e = let b : 110 ≡ 100 = first_byte _ _ _ _ e in absurd (omega (arith, b))

-- ---- turns before a turn, and behind it
first_turns : (whole : List (List ℕ × ℕ)) (c : Course) (ts : List Turn) (t : Turn) (later : List Turn) → MayTurns whole c (ts ++ t ∷ later) → MayTurns whole c ts
first_turns whole c [] t later may = tt
first_turns whole c (s ∷ ts) t later may = (may.0, first_turns whole (after_turn c s) ts t later may.1)

next_turn : (whole : List (List ℕ × ℕ)) (c : Course) (ts : List Turn) (t : Turn) (later : List Turn) → MayTurns whole c (ts ++ t ∷ later) → MayTurn whole (after_turns c ts) t
next_turn whole c [] t later may = may.0
next_turn whole c (s ∷ ts) t later may = next_turn whole (after_turn c s) ts t later may.1

events_append : (ts us : List Turn) (c : Course) → events_from c (ts ++ us) ≡ events_from c ts ++ events_from (after_turns c ts) us
events_append [] us c = refl
events_append (t ∷ ts) us c =
    ap (λ l. events_at c t ++ l) (events_append ts us (after_turn c t))
    ∙ sym (append_assoc (events_at c t) (events_from (after_turn c t) ts) (events_from (after_turns (after_turn c t) ts) us))

-- ---- what a line that asks for one command does
abbrev pub Asks : List (List ℕ × ℕ) → Turn → Who → Command → Type 0
Asks roster t who command = own_line_of roster t.site t.line ≡ says (Some (acts t.site who (command ∷ [])))

deed_is : (c : Course) (t : Turn) (who : Who) (command : Command) → Asks (c.roster t.site) t who command → deed_of c t ≡ does (Some (acts t.site who (command ∷ [])))
deed_is c t who command asks = ap (deed_by (c.roster t.site) c.shipped t.site) asks

events_are : (c : Course) (t : Turn) (who : Who) (command : Command) → Asks (c.roster t.site) t who command → events_at c t ≡ Do t.site who command ∷ []
events_are c t who command asks = ap events_done (deed_is c t who command asks)

module _ (whole : List (List ℕ × ℕ)) (few : length whole ≤ 16) where
  abbrev n : ℕ
  n = length whole

  done_at : (c : Course) (w : World) (t : Turn) (who : Who) (command : Command) → Asks (c.roster t.site) t who command → StandsFor c w → Reached n w → MayTurn whole c t → t.answer ≡ answer_line (codes "done")
      → (reply : Reply) × ((step n w (Do t.site who command)).outcome ≡ Outcome.Replied reply)
  done_at c w t who command asks stands r may e =
      let roster = c.roster t.site in
      let o : Outcome = (step n w (Do t.site who command)).outcome in
      let told : t.answer ≡ answer_line (text_of_outcome roster o) ++ [] =
      subst (λ (d : Deed). IsDeedAnswer roster w t.site d (outcomes_from n w (events_done d)) t.answer) (deed_is c t who command asks) (turn_played whole few c w t stands r may).answered in
      done_replies roster o (append_cancel_right (text_of_outcome roster o) (codes "done") (10 ∷ []) (sym (append-nil (answer_line (text_of_outcome roster o))) ∙ sym told ∙ e))

  module _ (rosters : ℕ → List (List ℕ × ℕ)) where
    -- after turns that may be, where the next may be too
    done_after : (early : List Turn) (t : Turn) (later : List Turn) (who : Who) (command : Command) → Asks (roster_at rosters early t) t who command → MayTurns whole (beginning rosters) (early ++ t ∷ later) → t.answer ≡ answer_line (codes "done")
        → (reply : Reply) × ((step n (run n (events_from (beginning rosters) early)) (Do t.site who command)).outcome ≡ Outcome.Replied reply)
    done_after early t later who command asks may e =
        let played = turns_played whole few early (beginning rosters) start (start_stands rosters) (start_reached n) (first_turns whole (beginning rosters) early t later may) in
        done_at (after_turns (beginning rosters) early) (run n (events_from (beginning rosters) early)) t who command asks played.stands (run_reached n (events_from (beginning rosters) early) start played.ranged (start_reached n))
        (next_turn whole (beginning rosters) early t later may) e

    -- two turns that ask for a command each and are answered that they are done
    module _ (early between later : List Turn) (t u : Turn) (may : MayTurns whole (beginning rosters) (early ++ t ∷ between ++ u ∷ later)) (who asker : Who) (one other : Command)
        (asks : Asks (roster_at rosters early t) t who one) (again : Asks (roster_at rosters (early ++ t ∷ between) u) u asker other) (first : t.answer ≡ answer_line (codes "done")) (second : u.answer ≡ answer_line (codes "done")) where
      abbrev before : List Event
      before = events_from (beginning rosters) early

      abbrev behind : List Event
      behind = events_from (after_turn (after_turns (beginning rosters) early) t) between

      events : events_from (beginning rosters) (early ++ t ∷ between) ≡ before ++ Do t.site who one ∷ behind
      events =
          events_append early (t ∷ between) (beginning rosters)
          ∙ ap (λ l. before ++ (l ++ behind)) (events_are (after_turns (beginning rosters) early) t who one asks)

      first_done : (reply : Reply) × ((step n (run n before) (Do t.site who one)).outcome ≡ Outcome.Replied reply)
      first_done = done_after early t (between ++ u ∷ later) who one asks (subst (MayTurns whole (beginning rosters)) (append_assoc early (t ∷ between) (u ∷ later)) may) first

      second_done : (reply : Reply) × ((step n (run n (before ++ Do t.site who one ∷ behind)) (Do u.site asker other)).outcome ≡ Outcome.Replied reply)
      second_done =
          let two = done_after (early ++ t ∷ between) u later asker other again may second in
          (two.0, ap (λ l. (step n (run n l) (Do u.site asker other)).outcome) (sym events) ∙ two.1)

    pub answered_once : (early between later : List Turn) (t u : Turn) (job : StampValue) → MayTurns whole (beginning rosters) (early ++ t ∷ between ++ u ∷ later) → AsksToBegin (roster_at rosters early t) t.site t.line job
        → AsksToBegin (roster_at rosters (early ++ t ∷ between) u) u.site u.line job → t.answer ≡ answer_line (codes "done") → u.answer ≡ answer_line (codes "done") → ⊥
    answered_once early between later t u job may asks again first second =
        let one = Command.Begin job asks.moment in
        let other = Command.Begin job again.moment in
        let a = first_done early between later t u may asks.who again.who one other asks.said again.said first second in
        let b = second_done early between later t u may asks.who again.who one other asks.said again.said first second in
        done_once n (before early between later t u may asks.who again.who one other asks.said again.said first second)
        (behind early between later t u may asks.who again.who one other asks.said again.said first second) t.site u.site asks.who again.who job asks.moment again.moment a.0 b.0 few a.1 b.1

    pub begun_no_more : (early between later : List Turn) (t u : Turn) (job : StampValue) → MayTurns whole (beginning rosters) (early ++ t ∷ between ++ u ∷ later) → AsksToRetire (roster_at rosters early t) t.site t.line job
        → AsksToBegin (roster_at rosters (early ++ t ∷ between) u) u.site u.line job → t.answer ≡ answer_line (codes "done") → u.answer ≡ answer_line (codes "done") → ⊥
    begun_no_more early between later t u job may asks again first second =
        let one = Command.Retire asks.first asks.last in
        let other = Command.Begin job again.moment in
        let a = first_done early between later t u may asks.who again.who one other asks.said again.said first second in
        let b = second_done early between later t u may asks.who again.who one other asks.said again.said first second in
        never_begins n (before early between later t u may asks.who again.who one other asks.said again.said first second)
        (behind early between later t u may asks.who again.who one other asks.said again.said first second) t.site asks.who asks.first asks.last job a.0 asks.own asks.within a.1 u.site again.who again.moment b.0 few b.1

-- ---- happenings
-- two answered turns among happenings are two among the turns, and their sites know then what they know there
pub record AreBetween (rosters : ℕ → List (List ℕ × ℕ)) (early between later : List Happening) (t u : Turn) : Type 0 where
  pub first : List Turn
  pub middle : List Turn
  pub last : List Turn
  pub turns : turns_from (beginning rosters) (early ++ answered t ∷ between ++ answered u ∷ later) ≡ first ++ t ∷ middle ++ u ∷ last
  pub one : (course_of rosters early).roster t.site ≡ roster_at rosters first t
  pub two : (course_of rosters (early ++ answered t ∷ between)).roster u.site ≡ roster_at rosters (first ++ t ∷ middle) u

pub between_turns : (rosters : ℕ → List (List ℕ × ℕ)) (early between later : List Happening) (t u : Turn) → AreBetween rosters early between later t u
between_turns rosters early between later t u =
    let c : Course = after_turns (beginning rosters) (turns_from (beginning rosters) early) in
    let middle : List Turn = turns_from (after_turn c t) between in
    let e : Course = after_turns (beginning rosters) (turns_from (beginning rosters) (early ++ answered t ∷ between)) in
    let last : List Turn = turns_from (after_turn e u) later in
    let begun : turns_from (beginning rosters) (early ++ answered t ∷ between) ≡ turns_from (beginning rosters) early ++ t ∷ middle = turns_more early (answered t ∷ between) (beginning rosters) in
    record {
      first = turns_from (beginning rosters) early;
      middle = middle;
      last = last;
      turns = turns_more (early ++ answered t ∷ between) (answered u ∷ later) (beginning rosters) ∙ ap (λ l. l ++ u ∷ last) begun;
      one = refl;
      two = ap (λ (ts : List Turn). roster_at rosters ts u) begun;
    }
