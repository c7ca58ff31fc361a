-- A line of the word `begin`, the identifier of a job and a moment, and one of the word `retire` and two numbers.
use Rattle.std.specs.Prelude.{codes, drop, nat_eq, not, slice_index, ◌&&◌, Option, Some, None, option_map, if◌then◌else◌}
use Rattle.std.specs.List.{list_any, starts_with}
use Rattle.std.specs.Option.{option_map_or}
use Rattle.std.proofs.Common.{◌≡◌, ℕ, List, [], ◌∷◌, ◌++◌, Bool, true, false, refl, sym, ap, ◌∙◌, arith}
use Rattle.std.proofs.lemmas.Bool.Decides.{Decides-eqb}
use Rattle.std.proofs.lemmas.Slice.Eq.{starts_is}
use Rattle.fed_stamp.specs.Stamp.{StampValue}
use Rattle.fed_model.specs.declared.commands.Command.{Command}
use Rattle.fed_model.specs.Retired.{is_within}
use Rattle.fed_script.specs.Asker.{scheduler}
use Rattle.fed_script.specs.Forms.{◌>>=◌}
use Rattle.fed_script.specs.Line.{acts, told, words_in}
use Rattle.fed_script.specs.Lines.{is_readable, words_of}
use Rattle.fed_script.specs.Values.{identifier, moment, number}
use Rattle.fed_site.specs.OwnLine.{carries, says, own_line_of, own_words}
use Rattle.fed_turns.specs.Own.{AsksToBegin, AsksToRetire}

-- the first byte of the first word
abbrev head : Option (List (List ℕ)) → ℕ
head None = 0
head (Some []) = 0
head (Some (word ∷ words)) = slice_index word 0

-- a line of a word that is not `take`
module _ (line word : List ℕ) (rest : List (List ℕ)) (e : words_in line ≡ Some (word ∷ rest)) (some : 0 ≡ slice_index word 0 → ⊥) (other : 116 ≡ slice_index word 0 → ⊥) where
  -- a line that begins with `take` has that word first
  takes_first : (more : List ℕ) → line ≡ codes "take " ++ more → (readable : Bool) → is_readable line ≡ readable → ⊥
  takes_first more is true r =
      other (ap (λ l. head (Some (told (words_of l)))) (sym is) ∙ ap (λ b. head (if b then Some (told (words_of line)) else None)) (sym r) ∙ ap head e)
  takes_first more is false r = some (ap (λ b. head (if b then Some (told (words_of line)) else None)) (sym r) ∙ ap head e)

  no_packet : (starts : Bool) → starts_with nat_eq line (codes "take ") ≡ starts → (if starts && not (list_any (nat_eq 10) line) then Some (drop 5 line) else None) ≡ None
  no_packet true s = absurd (takes_first (drop 5 line) ((starts_is Decides-eqb line (codes "take ") (starts_with nat_eq line (codes "take ")) refl).0 s) (is_readable line) refl)
  no_packet false s = refl

  own_words_said : (roster : List (List ℕ × ℕ)) (here : ℕ) → own_line_of roster here line ≡ own_words roster here (word ∷ rest)
  own_words_said roster here =
      ap (λ o. option_map_or carries o (option_map_or (own_words roster here) (words_in line) (says None))) (no_packet (starts_with nat_eq line (codes "take ")) refl)
      ∙ ap (λ o. option_map_or (own_words roster here) o (says None)) e

pub begin_asks : (line id when : List ℕ) → words_in line ≡ Some (codes "begin" ∷ id ∷ when ∷ []) → (roster : List (List ℕ × ℕ)) (here : ℕ) (job : StampValue) (at : ℕ) → identifier roster here id ≡ Some job → moment when ≡ Some at → AsksToBegin roster here line job
begin_asks line id when e roster here job at i m = record {
  who = scheduler;
  moment = at;
  said = own_words_said line (codes "begin") (id ∷ when ∷ []) e (λ p. let q : 0 ≡ 98 = p in omega (arith, q)) (λ p. let q : 116 ≡ 98 = p in omega (arith, q)) roster here
      ∙ ap (λ o. says (option_map (λ (c : Command). acts here scheduler (c ∷ [])) (o >>= λ a. option_map (Command.Begin a) (moment when)))) i
      ∙ ap (λ o. says (option_map (λ (c : Command). acts here scheduler (c ∷ [])) (option_map (Command.Begin job) o))) m;
}

pub retire_asks : (line from to : List ℕ) → words_in line ≡ Some (codes "retire" ∷ from ∷ to ∷ []) → (roster : List (List ℕ × ℕ)) (here : ℕ) (job : StampValue) (first last : ℕ) → number from ≡ Some first → number to ≡ Some last → job.site ≡ here → is_within first last job.counter ≡ true
    → AsksToRetire roster here line job
retire_asks line from to e roster here job first last f l at within = record {
  who = scheduler;
  first = first;
  last = last;
  own = at;
  within = within;
  said = own_words_said line (codes "retire") (from ∷ to ∷ []) e (λ p. let q : 0 ≡ 114 = p in omega (arith, q)) (λ p. let q : 116 ≡ 114 = p in omega (arith, q)) roster here
      ∙ ap (λ o. says (option_map (λ (c : Command). acts here scheduler (c ∷ [])) (o >>= λ a. option_map (Command.Retire a) (number to)))) f
      ∙ ap (λ o. says (option_map (λ (c : Command). acts here scheduler (c ∷ [])) (option_map (Command.Retire first) o))) l;
}
