-- Lines that can't be read end what is said; comments and empty lines are counted.
use Rattle.std.proofs.Common.{◌≡◌, ℕ, List, [], ◌∷◌, refl}
use Rattle.std.specs.Prelude.{codes, Some, None}
use Rattle.std.specs.Fmt.{char_count, digits}
use Rattle.fed_stamp.specs.Roster.{first_fault, is_site_name}
use Rattle.fed_stamp.specs.SiteSet.{set_of}
use Rattle.fed_stamp.specs.Version.{is_below, joined}
use Rattle.fed_stamp.specs.Word.{is_name}
use Rattle.fed_model.specs.Letter.{any_below}
use Rattle.fed_model.specs.Answer.{answer_to}
use Rattle.fed_replay.specs.Said.{Said}
use Rattle.fed_replay.proofs.Texts.{said_to, text_of}

-- one job, and then a line behind a comment and an empty line
abbrev behind_a_job : List ℕ → Said
behind_a_job line = said_to (codes "roster argonne:8" ∷ codes "argonne ann qsub" ∷ codes "  # a comment" ∷ [] ∷ line ∷ [])

abbrev ends_at_5 : Said
ends_at_5 = record { text = text_of (codes "1.argonne" ∷ []); unread = Some 5 }

abbrev goes_on : List ℕ → Said
goes_on answer = record { text = text_of (codes "1.argonne" ∷ answer ∷ []); unread = None }

no_such_site : behind_a_job (codes "fermi ann qsub") ≡ ends_at_5
unfolding answer_to any_below char_count digits first_fault is_below is_name is_site_name joined set_of
no_such_site = refl

second_roster : behind_a_job (codes "roster argonne:8") ≡ ends_at_5
unfolding answer_to any_below char_count digits first_fault is_below is_name is_site_name joined set_of
second_roster = refl

no_such_packet : behind_a_job (codes "argonne take 1") ≡ ends_at_5
unfolding answer_to any_below char_count digits first_fault is_below is_name is_site_name joined set_of
no_such_packet = refl

packet_0 : behind_a_job (codes "argonne take 0") ≡ ends_at_5
unfolding answer_to any_below char_count digits first_fault is_below is_name is_site_name joined set_of
packet_0 = refl

verb_with_role : behind_a_job (codes "argonne take/admin qsub") ≡ ends_at_5
unfolding answer_to any_below char_count digits first_fault is_below is_name is_site_name joined set_of
verb_with_role = refl

bad_role : behind_a_job (codes "argonne ann/root qsub") ≡ ends_at_5
unfolding answer_to any_below char_count digits first_fault is_below is_name is_site_name joined set_of
bad_role = refl

word_too_many : behind_a_job (codes "argonne ship argonne argonne") ≡ ends_at_5
unfolding answer_to any_below char_count digits first_fault is_below is_name is_site_name joined set_of
word_too_many = refl

late_moment : behind_a_job (codes "argonne begin 1 1000000000001") ≡ ends_at_5
unfolding answer_to any_below char_count digits first_fault is_below is_name is_site_name joined set_of
late_moment = refl

great_status : behind_a_job (codes "argonne finish 1 0 256") ≡ ends_at_5
unfolding answer_to any_below char_count digits first_fault is_below is_name is_site_name joined set_of
great_status = refl

no_utility : behind_a_job (codes "argonne ann") ≡ goes_on (codes "usage 1")
unfolding answer_to any_below char_count digits first_fault is_below is_name is_site_name joined set_of
no_utility = refl

zeros_before : behind_a_job (codes "argonne grant 0001.argonne argonne") ≡ goes_on (codes "granted")
unfolding answer_to any_below char_count digits first_fault is_below is_name is_site_name joined set_of
zeros_before = refl

cancels_no_job : behind_a_job (codes "argonne oz/operator cancel 1") ≡ goes_on (codes "refused 13")
unfolding answer_to any_below char_count digits first_fault is_below is_name is_site_name joined set_of
cancels_no_job = refl

bad_window : behind_a_job (codes "argonne oz/operator reserve argonne 60 60 8") ≡ goes_on (codes "refused 12")
unfolding answer_to any_below char_count digits first_fault is_below is_name is_site_name joined set_of
bad_window = refl

site_named_equal : said_to (codes "roster argonne:8 equal:4" ∷ []) ≡ record { text = []; unread = Some 1 }
unfolding first_fault is_name is_site_name
site_named_equal = refl
