-- What headers name.
use Rattle.std.specs.Prelude.{Some, None, Option, option_map, codes, if◌then◌else◌}
use Rattle.std.proofs.Common.{◌≡◌, ℕ, ◌<◌, Bool, true, false, List, [], ◌∷◌, length, refl, subst, arith}
use Rattle.std.proofs.lemmas.Option.{same_Some}
use Rattle.std.specs.Str.{bytes_eq}
use Rattle.fed_stamp.specs.Roster.{is_named}
use Rattle.fed_words.proofs.SiteNames.{found_in_range}
use Rattle.fed_words.specs.Site.{site_named}
use Rattle.fed_script.specs.Forms.{◌>>=◌}
use Rattle.fed_script.specs.Line.{told, words_in}
use Rattle.fed_script.specs.Lines.{is_readable, words_of}
use Rattle.fed_script.specs.Rosters.{roster_of}
use Rattle.fed_journal.specs.Lines.{IsLine}
use Rattle.fed_home.specs.declared.headers.JournalFormat.{JournalFormat}
use Rattle.fed_home.specs.declared.headers.Header.{Header}
use Rattle.fed_home.specs.Header.{format_of, header_in, header_of, site_among}
use Rattle.fed_home.proofs.Lines.{readable_line}

module _ (name : List ℕ) (h : Header) where
  found_below : (format : JournalFormat) (roster : List (List ℕ × ℕ)) (found : Option ℕ) → site_named roster name ≡ found
      → option_map (λ site. record { roster = roster; site = site; format = format }) found ≡ Some h → h.site < length h.roster
  found_below format roster None s e = cc
  found_below format roster (Some i) s e =
      let made : Header = record { roster = roster; site = i; format = format } in
      let is : made ≡ h = same_Some made h e in
      let below : i < length roster = let within = (found_in_range (is_named roster name) 0 (length roster) i s).1 in omega arith in
      subst (λ (x : Header). x.site < length x.roster) is below

  among_below : (format : JournalFormat) (o : Option (List (List ℕ × ℕ))) → (o >>= λ roster. option_map (λ site. record { roster = roster; site = site; format = format }) (site_named roster name)) ≡ Some h
      → h.site < length h.roster
  among_below format None e = cc
  among_below format (Some roster) e = found_below format roster (site_named roster name) refl e

  format_below : (o : Option JournalFormat) (sites : List (List ℕ)) → (o >>= λ format. site_among format name sites) ≡ Some h → h.site < length h.roster
  format_below None sites e = cc
  format_below (Some format) sites e = among_below format (roster_of sites) e

  tested_below : (test : Bool) (version : List ℕ) (sites : List (List ℕ)) → (if test then (format_of version >>= λ format. site_among format name sites) else None) ≡ Some h → h.site < length h.roster
  tested_below true version sites e = format_below (format_of version) sites e
  tested_below false version sites e = cc

words_below : (words : List (List ℕ)) (h : Header) → header_of words ≡ Some h → h.site < length h.roster
words_below [] h e = cc
words_below (format ∷ []) h e = cc
words_below (format ∷ version ∷ []) h e = cc
words_below (program ∷ version ∷ name ∷ sites) h e = tested_below name h (bytes_eq program (codes "nettlebeam")) version sites e

read_below : (words : Option (List (List ℕ))) (h : Header) → (words >>= header_of) ≡ Some h → h.site < length h.roster
read_below None h e = cc
read_below (Some words) h e = words_below words h e

read_line : (line : List ℕ) (readable : Bool) (h : Header) → is_readable line ≡ readable → ((if readable then Some (told (words_of line)) else None) >>= header_of) ≡ Some h → IsLine line
read_line line true h r e = readable_line line r
read_line line false h r e = cc

-- a line that is read can be kept, and names a site of its roster
pub header_line : (line : List ℕ) (h : Header) → header_in line ≡ Some h → IsLine line
header_line line h e = read_line line (is_readable line) h refl e

pub header_site : (line : List ℕ) (h : Header) → header_in line ≡ Some h → h.site < length h.roster
header_site line h e = read_below (words_in line) h e
