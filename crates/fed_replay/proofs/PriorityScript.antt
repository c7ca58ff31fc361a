-- Of two priorities set at one counter that of the greater site stays.
use Rattle.std.proofs.Common.{◌≡◌, ℕ, List, [], ◌∷◌, refl}
use Rattle.std.specs.Prelude.{codes}
use Rattle.std.specs.Fmt.{char_count, digits}
use Rattle.fed_stamp.specs.Roster.{first_fault, is_site_name}
use Rattle.fed_stamp.specs.SiteSet.{set_of}
use Rattle.fed_stamp.specs.Version.{is_below, joined}
use Rattle.fed_stamp.specs.Word.{is_name}
use Rattle.fed_model.specs.Letter.{any_below}
use Rattle.fed_model.specs.Answer.{answer_to}
use Rattle.fed_qstat.specs.Full.{attribute, head_line}
use Rattle.fed_replay.proofs.Texts.{all_said, said_to}

abbrev priorities : List (List ℕ)
priorities =
    codes "roster argonne:8 lemont:4"
    ∷ codes "argonne ann qsub"
    ∷ codes "lemont bob qsub"
    ∷ codes "argonne ship lemont"
    ∷ codes "lemont ship argonne"
    ∷ codes "lemont take 1"
    ∷ codes "argonne take 2"
    ∷ codes "equal argonne lemont"
    ∷ codes "argonne ann qstat"
    ∷ codes "argonne ann qalter -p 5 1.argonne"
    ∷ codes "lemont ann qalter -p 7 1.argonne"
    ∷ codes "argonne ship lemont"
    ∷ codes "lemont ship argonne"
    ∷ codes "lemont take 3"
    ∷ codes "argonne take 4"
    ∷ codes "argonne ann qstat 1"
    ∷ codes "lemont ann qstat 1.argonne"
    ∷ []

abbrev priorities_answers : List (List ℕ)
priorities_answers =
    codes "1.argonne"
    ∷ codes "1.lemont"
    ∷ codes "packet 1"
    ∷ codes "packet 2"
    ∷ codes "taken"
    ∷ codes "taken"
    ∷ codes "equal"
    ∷ codes "1.argonne          STDIN            ann              Q      0        1      3600 -"
    ∷ codes "1.lemont           STDIN            bob              Q      0        1      3600 -"
    ∷ codes "done"
    ∷ codes "done"
    ∷ codes "packet 3"
    ∷ codes "packet 4"
    ∷ codes "taken"
    ∷ codes "taken"
    ∷ codes "1.argonne          STDIN            ann              Q      7        1      3600 -"
    ∷ codes "1.argonne          STDIN            ann              Q      7        1      3600 -"
    ∷ []

priorities_said : said_to priorities ≡ all_said priorities_answers
unfolding answer_to any_below attribute char_count digits first_fault head_line is_below is_name is_site_name joined set_of
priorities_said = refl
