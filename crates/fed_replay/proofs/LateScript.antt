-- A late packet that still has a hold.
use Rattle.std.proofs.Common.{◌≡◌, ℕ, List, [], ◌∷◌, refl}
use Rattle.std.specs.Prelude.{codes}
use Rattle.std.specs.Fmt.{char_count, digits}
use Rattle.fed_stamp.specs.Roster.{first_fault, is_site_name}
use Rattle.fed_stamp.specs.SiteSet.{set_of}
use Rattle.fed_stamp.specs.Version.{is_below, joined}
use Rattle.fed_stamp.specs.Word.{is_name}
use Rattle.fed_model.specs.Letter.{any_below}
use Rattle.fed_model.specs.Answer.{answer_to}
use Rattle.fed_qstat.specs.Full.{attribute, head_line}
use Rattle.fed_replay.proofs.Texts.{all_said, said_to}

abbrev lates : List (List ℕ)
lates =
    codes "roster argonne:8 lemont:4 batavia:2"
    ∷ codes "argonne ann qsub"
    ∷ codes "argonne ann qhold 1"
    ∷ codes "argonne ship batavia"
    ∷ codes "argonne ship lemont"
    ∷ codes "lemont take 2"
    ∷ codes "lemont ann qrls 1.argonne"
    ∷ codes "lemont ship batavia"
    ∷ codes "batavia take 3"
    ∷ codes "batavia take 1"
    ∷ codes "batavia ann qstat"
    ∷ []

abbrev lates_answers : List (List ℕ)
lates_answers =
    codes "1.argonne"
    ∷ codes "done"
    ∷ codes "packet 1"
    ∷ codes "packet 2"
    ∷ codes "taken"
    ∷ codes "done"
    ∷ codes "packet 3"
    ∷ codes "taken"
    ∷ codes "known"
    ∷ codes "1.argonne          STDIN            ann              Q      0        1      3600 -"
    ∷ []

lates_said : said_to lates ≡ all_said lates_answers
unfolding answer_to any_below attribute char_count digits first_fault head_line is_below is_name is_site_name joined set_of
lates_said = refl
