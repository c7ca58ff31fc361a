-- Packets that are taken again change nothing.
use Rattle.std.proofs.Common.{◌≡◌, ℕ, List, [], ◌∷◌, refl}
use Rattle.std.specs.Prelude.{codes}
use Rattle.std.specs.Fmt.{char_count, digits}
use Rattle.fed_stamp.specs.Roster.{first_fault, is_site_name}
use Rattle.fed_stamp.specs.SiteSet.{set_of}
use Rattle.fed_stamp.specs.Version.{is_below, joined}
use Rattle.fed_stamp.specs.Word.{is_name}
use Rattle.fed_model.specs.Letter.{any_below}
use Rattle.fed_model.specs.Answer.{answer_to}
use Rattle.fed_qstat.specs.Full.{attribute, head_line}
use Rattle.fed_replay.proofs.Texts.{all_said, said_to}

abbrev repeats : List (List ℕ)
repeats =
    codes "roster argonne:8 lemont:4"
    ∷ codes "argonne ann qsub -h"
    ∷ codes "argonne ship lemont"
    ∷ codes "lemont take 1"
    ∷ codes "argonne ann qhold 1"
    ∷ codes "lemont ann qrls 1.argonne"
    ∷ codes "argonne ship lemont"
    ∷ codes "lemont ship argonne"
    ∷ codes "lemont take 2"
    ∷ codes "argonne take 3"
    ∷ codes "lemont ann qstat"
    ∷ codes "equal argonne lemont"
    ∷ codes "argonne ann qrls 1"
    ∷ codes "argonne ship lemont"
    ∷ codes "lemont take 4"
    ∷ codes "lemont take 4"
    ∷ codes "lemont take 2"
    ∷ codes "lemont ann qstat"
    ∷ []

abbrev repeats_answers : List (List ℕ)
repeats_answers =
    codes "1.argonne"
    ∷ codes "packet 1"
    ∷ codes "taken"
    ∷ codes "done"
    ∷ codes "done"
    ∷ codes "packet 2"
    ∷ codes "packet 3"
    ∷ codes "taken"
    ∷ codes "taken"
    ∷ codes "1.argonne          STDIN            ann              H      0        1      3600 -"
    ∷ codes "equal"
    ∷ codes "done"
    ∷ codes "packet 4"
    ∷ codes "taken"
    ∷ codes "known"
    ∷ codes "known"
    ∷ codes "1.argonne          STDIN            ann              Q      0        1      3600 -"
    ∷ []

repeats_said : said_to repeats ≡ all_said repeats_answers
unfolding answer_to any_below attribute char_count digits first_fault head_line is_below is_name is_site_name joined set_of
repeats_said = refl
