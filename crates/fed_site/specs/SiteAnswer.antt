-- What an answer has for its caller.
use Rattle.std.specs.Prelude.{ℕ, Bool, false, List, Option, None}
use Rattle.std.specs.Cow.{cow_str_bytes}
use Rattle.fed_site.specs.declared.answers.Begun.{Begun}
use Rattle.fed_site.specs.declared.answers.LineText.{LineText}
use Rattle.fed_site.specs.declared.answers.LineText.TheVariants.{Identifier, Other}
use Rattle.fed_site.specs.declared.complaints.Complaint.{Complaint}
use Rattle.fed_site.specs.declared.site.SiteAnswer.{SiteAnswer}
use Rattle.fed_site.specs.declared.site.SiteAnswer.TheVariants.{Text, Packet}

abbrev pub text_of : LineText → List ℕ
text_of (Identifier line) = line.bytes
text_of (Other text) = cow_str_bytes text

abbrev pub bytes_of : SiteAnswer → List ℕ
bytes_of (Text answer) = text_of answer.text
bytes_of (Packet text) = text.items

abbrev pub kept_of : SiteAnswer → Bool
kept_of (Text answer) = answer.kept
kept_of (Packet text) = false

abbrev pub complaint_of : SiteAnswer → Option Complaint
complaint_of (Text answer) = answer.complaint
complaint_of (Packet text) = None

abbrev pub begun_of : SiteAnswer → Option Begun
begun_of (Text answer) = answer.begun
begun_of (Packet text) = None
