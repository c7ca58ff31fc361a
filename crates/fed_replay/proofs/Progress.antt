-- How far the lines of a script have been run.
use Rattle.std.proofs.Common.{◌≡◌, ℕ, ◌+◌, List, [], ◌∷◌, ◌++◌, length, take, Option, Some, None, refl, sym, ap, subst, true, ◌==◌, ◌∙◌, arith, append_assoc, append-nil}
use Rattle.std.specs.Prelude.{option_map}
use Rattle.std.specs.Io.KnownBytes.{Appends}
use Rattle.std.specs.Option.{option_map_or}
use Rattle.std.specs.Str.Lines.{lines}
use Rattle.std.proofs.lemmas.Bool.{eqb-true}
use Rattle.std.proofs.lemmas.List.{length-append, take-append-le, take_all}
use Rattle.std.proofs.KnownBytes.{Appends-nil, Appends-trans}
use Rattle.fed_replay.specs.Ends.{HasSaid}
use Rattle.fed_replay.specs.Said.{Said, answers, ends_before, said_first, said_from}
use Rattle.fed_replay.specs.Script.{Answered, State, answered, says}

-- these lines could be read, were answered by this text and led to this state: whatever follows them is said on from
-- there
pub record HaveRun (front : List (List ℕ)) (written : List ℕ) (state : State) : Type 0 where
  pub goes_on : (n : ℕ) (more : List (List ℕ)) →
      said_from n None (front ++ more) ≡ answers written (said_from (n + length front) state more)

answers_twice : (first second : List ℕ) (s : Said) → answers first (answers second s) ≡ answers (first ++ second) s
answers_twice first second s = ap (λ t. let r : Said = record { text = t; unread = s.unread } in r) (sym (append_assoc first second s.text))

said_read : (n : ℕ) (state : State) (bytes : List ℕ) (rest : List (List ℕ)) (first : Answered State) → answered state bytes ≡ Some first
    → said_from n state (bytes ∷ rest) ≡ answers first.text (said_from (n + 1) first.after rest)
said_read n state bytes rest first e =
    ap (λ o. option_map_or (λ (a : Answered State). answers a.text (said_from (n + 1) a.after rest)) o (ends_before n)) e

none_run : HaveRun [] [] None
none_run = record { goes_on = λ n more. ap (λ k. said_from k None more) (let e : n ≡ n + 0 = omega arith in e) }

one_more : (front : List (List ℕ)) (written : List ℕ) (state : State) (bytes : List ℕ) (first : Answered State) → HaveRun front written state → answered state bytes ≡ Some first
    → HaveRun (front ++ bytes ∷ []) (written ++ first.text) first.after
one_more front written state bytes first before e = record {
  goes_on = λ n more.
      let number : (n + length front) + 1 ≡ n + length (front ++ bytes ∷ []) = omega (arith, length-append front (bytes ∷ [])) in
      ap (said_from n None) (append_assoc front (bytes ∷ []) more)
      ∙ before.goes_on n (bytes ∷ more)
      ∙ ap (answers written) (said_read (n + length front) state bytes more first e)
      ∙ answers_twice written first.text (said_from ((n + length front) + 1) first.after more)
      ∙ ap (λ k. answers (written ++ first.text) (said_from k first.after more)) number;
}

-- the first lines of a script were run, and their answers are what was written; the other lines are left
pub record Progress (before after : Option (List ℕ)) (script rest : List (List ℕ)) (state : State)
    (number : ℕ) : Type 0 where
  pub front : List (List ℕ)
  pub written : List ℕ
  pub ran : HaveRun front written state
  pub cut : script ≡ front ++ rest
  pub count : length front ≡ number
  pub appended : Appends before after written

pub Progress-none : (known : Option (List ℕ)) (script : List (List ℕ)) → Progress known known script script None 0
Progress-none known script = record { front = []; written = []; ran = none_run; cut = refl; count = refl; appended = Appends-nil known }

pub Progress-more : (before middle after : Option (List ℕ)) (script rest later : List (List ℕ)) (old new : State) (bytes text : List ℕ) (number : ℕ) → Progress before middle script rest old number → rest ≡ bytes ∷ later
    → Some (says new text) ≡ answered old bytes → Appends middle after text → Progress before after script later new (number + 1)
Progress-more before middle after script rest later old new bytes text number progress cut ran appended = record {
  front = progress.front ++ bytes ∷ [];
  written = progress.written ++ text;
  ran = one_more progress.front progress.written old bytes (says new text) progress.ran (sym ran);
  cut = progress.cut ∙ rw cut (sym (append_assoc progress.front (bytes ∷ []) later));
  count = omega (arith, length-append progress.front (bytes ∷ []), progress.count);
  appended = Appends-trans before middle after progress.written text progress.appended appended;
}

-- an empty line does nothing
empty_line : (bytes : List ℕ) → true ≡ (length bytes == 0) → bytes ≡ []
empty_line [] e = refl
empty_line (b ∷ bytes) e = absurd (omega (arith, eqb-true (length (b ∷ bytes)) 0 (sym e)))

answered_empty : (state : State) → Some (says state []) ≡ answered state []
answered_empty None = refl
answered_empty (Some s) = refl

pub Progress-empty : (before after : Option (List ℕ)) (script rest later : List (List ℕ)) (state : State) (bytes : List ℕ) (number : ℕ) → Progress before after script rest state number → rest ≡ bytes ∷ later
    → true ≡ (length bytes == 0) → Progress before after script later state (number + 1)
Progress-empty before after script rest later state bytes number progress cut empty =
    Progress-more before after after script rest later state state bytes [] number progress cut (rw (empty_line bytes empty) (answered_empty state)) (Appends-nil after)

-- the text of an answer that was given
pub ran_line : {T : Type 0} (o : Option T) (t : T) (bytes : T → List ℕ) (text : List ℕ) (new : State) (a : Option (Answered State)) → option_map (λ x. says new (bytes x)) o ≡ a → o ≡ Some t → text ≡ bytes t → Some (says new text) ≡ a
ran_line o t bytes text new a e f g = ap (λ x. Some (says new x)) g ∙ sym (ap (option_map (λ x. says new (bytes x))) f) ∙ e

-- what was said, and what is written of it
has_said : (before after : Option (List ℕ)) (written : List ℕ) (unread : Option ℕ) (s : Said) → s ≡ record { text = written ++ []; unread = unread } → Appends before after written → HasSaid before after s unread
has_said before after written unread s e h = record {
  ended = ap (λ (t : Said). t.unread) e;
  written = subst (Appends before after) (sym (ap (λ (t : Said). t.text) e ∙ append-nil written)) h;
}

-- so many lines were run
pub said_some : (before after : Option (List ℕ)) (script : List ℕ) (rest : List (List ℕ)) (state : State) (number : ℕ) → Progress before after (lines script) rest state number → (k : ℕ) × HasSaid before after (said_first k script) None
said_some before after script rest state number p =
    let first : take (length p.front) (lines script) ≡ p.front ++ [] =
    ap (take (length p.front)) p.cut ∙ take-append-le (length p.front) p.front rest (omega arith) ∙ take_all (length p.front) p.front (omega arith) ∙ sym (append-nil p.front) in
    (length p.front, has_said before after p.written None (said_first (length p.front) script) (ap (said_from 1 None) first ∙ p.ran.goes_on 1 []) p.appended)
