-- What is written to a line: in lines its answer and an empty line, in frames one frame.
use Rattle.std.specs.Prelude.{ℕ, Bool, List, [], ◌∷◌, ◌++◌, Option, Some, None, codes, if◌then◌else◌, option_map, string_bytes, unwrap_or}
use Rattle.std.specs.List.{flat_map}
use Rattle.fed_site.specs.SiteAnswer.{bytes_of, complaint_of}
use Rattle.fed_site.specs.declared.complaints.Complaint.{Complaint}
use Rattle.fed_site.specs.declared.tellings.Told.{Told}
use Rattle.fed_serve.specs.Frame.{Frame, frame_bytes}

-- the status where a line is answered: 1 where it isn't done as it asks
abbrev pub answered_status : Option Complaint → ℕ
answered_status None = 0
answered_status (Some complaint) = 1

abbrev pub words_of : Told → List ℕ
words_of told = unwrap_or (option_map string_bytes told.words) []

-- the frame of an answer and of the words that are told beside it
abbrev pub frame_of : Told → Frame
frame_of told = record { status = answered_status (complaint_of told.answer); answer = bytes_of told.answer; words = words_of told }

abbrev pub told_bytes : (frames : Bool) → Told → List ℕ
told_bytes frames told = if frames then frame_bytes (frame_of told) else (bytes_of told.answer ++ 10 ∷ [])

abbrev pub told_text : (frames : Bool) → List Told → List ℕ
told_text frames answers = flat_map (told_bytes frames) answers

-- the answer to a line that can't be kept
abbrev pub not_kept : List ℕ
not_kept = codes "not kept" ++ 10 ∷ []

-- its frame, with these words, if any
abbrev pub not_kept_frame : Option (List ℕ) → Frame
not_kept_frame words = record { status = 3; answer = not_kept; words = unwrap_or words [] }

abbrev pub not_kept_bytes : (frames : Bool) → Option (List ℕ) → List ℕ
not_kept_bytes frames words = if frames then frame_bytes (not_kept_frame words) else (not_kept ++ 10 ∷ [])

-- to each of these lines
abbrev pub not_kept_text : (frames : Bool) → Option (List ℕ) → List (List ℕ) → List ℕ
not_kept_text frames words given = flat_map (λ line. not_kept_bytes frames words) given
