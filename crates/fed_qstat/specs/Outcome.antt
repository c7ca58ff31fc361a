-- The texts that answer events and misused words.
use Rattle.std.specs.Prelude.{ℕ, List, [], ◌∷◌, ◌++◌, codes, if◌then◌else◌}
use Rattle.std.specs.Fmt.{decimal}
use Rattle.fed_model.specs.declared.replies.Reply.{Reply}
use Rattle.fed_model.specs.declared.replies.Reply.TheVariants.{Submitted, Done, Granted, Yours, Reserved}
use Rattle.fed_model.specs.Refusal.{number_of}
use Rattle.fed_model.specs.declared.outcomes.Outcome.{Outcome}
use Rattle.fed_words.specs.declared.faults.UsageFault.{UsageFault}
use Rattle.fed_words.specs.Fault.{fault_number}
use Rattle.fed_qstat.specs.Identifier.{text_of_identifier, text_of_site}

-- a text and a line feed
abbrev pub answer_line : List ℕ → List ℕ
answer_line text = text ++ 10 ∷ []

abbrev pub text_of_reply : List (List ℕ × ℕ) → Reply → List ℕ
text_of_reply roster (Submitted job) = text_of_identifier roster job
text_of_reply roster Done = codes "done"
text_of_reply roster Granted = codes "granted"
text_of_reply roster Yours = codes "yours"
text_of_reply roster (Reserved id) = text_of_identifier roster id

-- a script that can be read names sites of its roster and packets that were made, so it never meets the last two
abbrev pub text_of_outcome : List (List ℕ × ℕ) → Outcome → List ℕ
text_of_outcome roster (Outcome.Replied reply) = text_of_reply roster reply
text_of_outcome roster (Outcome.Refused refusal) = codes "refused " ++ decimal (number_of refusal)
text_of_outcome roster (Outcome.Packet k) = codes "packet " ++ decimal k
text_of_outcome roster (Outcome.Taken taken) = if taken.grew then codes "taken" else codes "known"
text_of_outcome roster (Outcome.Gap site) = codes "gap " ++ text_of_site roster site
text_of_outcome roster Outcome.NoPacket = codes "no packet"
text_of_outcome roster Outcome.NoSite = codes "no site"

-- the line that answers words of a utility that ask nothing
abbrev pub line_of_usage : UsageFault → List ℕ
line_of_usage fault = answer_line (codes "usage " ++ decimal (fault_number fault))
