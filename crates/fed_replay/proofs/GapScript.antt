-- A packet that was made for another site.
use Rattle.std.proofs.Common.{◌≡◌, ℕ, List, [], ◌∷◌, refl}
use Rattle.std.specs.Prelude.{codes}
use Rattle.std.specs.Fmt.{char_count, digits}
use Rattle.fed_stamp.specs.Roster.{first_fault, is_site_name}
use Rattle.fed_stamp.specs.SiteSet.{set_of}
use Rattle.fed_stamp.specs.Version.{is_below, joined}
use Rattle.fed_stamp.specs.Word.{is_name}
use Rattle.fed_model.specs.Letter.{any_below}
use Rattle.fed_model.specs.Answer.{answer_to}
use Rattle.fed_qstat.specs.Full.{attribute, head_line}
use Rattle.fed_replay.proofs.Texts.{all_said, said_to}

abbrev gaps : List (List ℕ)
gaps =
    codes "roster argonne:8 lemont:4 batavia:2"
    ∷ codes "argonne ann qsub"
    ∷ codes "argonne ship lemont"
    ∷ codes "lemont take 1"
    ∷ codes "lemont ship argonne"
    ∷ codes "argonne take 2"
    ∷ codes "argonne ann qsub"
    ∷ codes "argonne ship lemont"
    ∷ codes "batavia take 3"
    ∷ codes "batavia ann qstat"
    ∷ codes "argonne ship batavia"
    ∷ codes "batavia take 4"
    ∷ codes "batavia take 3"
    ∷ codes "equal argonne batavia"
    ∷ []

abbrev gaps_answers : List (List ℕ)
gaps_answers =
    codes "1.argonne"
    ∷ codes "packet 1"
    ∷ codes "taken"
    ∷ codes "packet 2"
    ∷ codes "known"
    ∷ codes "2.argonne"
    ∷ codes "packet 3"
    ∷ codes "gap argonne"
    ∷ codes "packet 4"
    ∷ codes "taken"
    ∷ codes "known"
    ∷ codes "equal"
    ∷ []

gaps_said : said_to gaps ≡ all_said gaps_answers
unfolding answer_to any_below attribute char_count digits first_fault head_line is_below is_name is_site_name joined set_of
gaps_said = refl
