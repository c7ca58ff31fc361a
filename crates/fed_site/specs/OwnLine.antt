-- What a line says at a site.
use Rattle.std.specs.Prelude.{ℕ, List, Option, Some, None}
use Rattle.std.specs.Option.{option_map_or}
use Rattle.fed_script.specs.Line.{Line, own_line, words_in}
use Rattle.fed_script.specs.Rosters.{roster_of}
use Rattle.fed_looks.specs.Look.{Look, look_in}
use Rattle.fed_site.specs.Line.{packet_text}
use Rattle.fed_site.specs.Rosters.{words_behind}

pub data OwnLine : Type 0 where
  -- the roster, or words that name none
  tells : (told : Option (List (List ℕ × ℕ))) → OwnLine
  -- the text of a packet, and by whom it is handed in, where that is told
  carries : (text : List ℕ) → OwnLine
  -- it asks for a look
  asks : (look : Look) → OwnLine
  -- what a script's line says behind the site's name, if it can be read
  says : (line : Option Line) → OwnLine

-- by the roster that the site knows, at the site
module _ (roster : List (List ℕ × ℕ)) (here : ℕ) where
  abbrev pub own_words : List (List ℕ) → OwnLine
  own_words words = option_map_or (λ sites. tells (roster_of sites)) (words_behind words)
      (option_map_or asks (look_in roster here words) (says (own_line roster here words)))

  -- a packet's text is not cut into words
  abbrev pub own_line_of : List ℕ → OwnLine
  own_line_of line = option_map_or carries (packet_text line) (option_map_or own_words (words_in line) (says None))

-- what it tells of the roster, if it does
abbrev pub told_by : OwnLine → Option (Option (List (List ℕ × ℕ)))
told_by (tells told) = Some told
told_by _ = None
