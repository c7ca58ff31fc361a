-- What a line of a site is read as.
use Rattle.std.specs.Prelude.{Option, Some, None, option_map}
use Rattle.std.specs.Option.{option_map_or}
use Rattle.std.proofs.Common.{◌≡◌, ℕ, List, refl, ap}
use Rattle.fed_script.specs.Forms.{◌>>=◌}
use Rattle.fed_script.specs.Line.{own_line, words_in}
use Rattle.fed_script.specs.Rosters.{roster_of}
use Rattle.fed_looks.specs.Look.{Look, look_in}
use Rattle.fed_site.specs.Line.{packet_text}
use Rattle.fed_site.specs.OwnLine.{OwnLine, tells, carries, asks, says, own_words, own_line_of, told_by}
use Rattle.fed_site.specs.Rosters.{told_in, words_behind}
use Rattle.fed_site.proofs.RosterLines.{packet_tells_none}

module _ (roster : List (List ℕ × ℕ)) (here : ℕ) (line : List ℕ) where
  -- what holds of each thing that the line may be read as holds of what it is read as
  module _ (P : OwnLine → Type 0) (text : (text : List ℕ) → packet_text line ≡ Some text → P (carries text))
      (named : (words : List (List ℕ)) → words_in line ≡ Some words → (told : Option (List (List ℕ × ℕ))) → told_in line ≡ Some told → P (tells told))
      (looked : (words : List (List ℕ)) → words_in line ≡ Some words → told_in line ≡ None → (look : Look) → P (asks look))
      (said : (words : List (List ℕ)) → words_in line ≡ Some words → told_in line ≡ None → P (says (own_line roster here words)))
      (unread : words_in line ≡ None → P (says None)) where
    of_look : (words : List (List ℕ)) → words_in line ≡ Some words → told_in line ≡ None → (look : Option Look) → P (option_map_or asks look (says (own_line roster here words)))
    of_look words is none None = said words is none
    of_look words is none (Some look) = looked words is none look

    of_behind : (words : List (List ℕ)) → words_in line ≡ Some words → (behind : Option (List (List ℕ))) → told_in line ≡ option_map roster_of behind
        → P (option_map_or (λ sites. tells (roster_of sites)) behind (option_map_or asks (look_in roster here words) (says (own_line roster here words))))
    of_behind words is None told = of_look words is told (look_in roster here words)
    of_behind words is (Some sites) told = named words is (roster_of sites) told

    of_words : (words : Option (List (List ℕ))) → words_in line ≡ words → P (option_map_or (own_words roster here) words (says None))
    of_words None is = unread is
    of_words (Some words) is = of_behind words is (words_behind words) (ap (λ o. option_map roster_of (o >>= words_behind)) is)

    of_text : (carried : Option (List ℕ)) → packet_text line ≡ carried → P (option_map_or carries carried (option_map_or (own_words roster here) (words_in line) (says None)))
    of_text None is = of_words (words_in line) refl
    of_text (Some carried) is = text carried is

    pub read_is : P (own_line_of roster here line)
    read_is = of_text (packet_text line) refl

  -- what it tells of the roster
  pub told_is : told_in line ≡ told_by (own_line_of roster here line)
  told_is = read_is (λ o. told_in line ≡ told_by o) (λ text is. packet_tells_none line text is) (λ words is told e. e) (λ words is none look. none) (λ words is none. none)
      (λ is. ap (λ o. option_map roster_of (o >>= words_behind)) is)
