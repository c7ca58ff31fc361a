-- Replicas: what a site keeps, and what is left where it answers a command.
use Rattle.std.specs.Prelude.{◌≡◌, ℕ, replicate, List, Some, None, Result, Ok, Err, MatchResult, slice_index_or}
use Rattle.fed_stamp.specs.declared.sites.TheConstants.{SITES}
use Rattle.fed_model.specs.declared.refusals.Refusal.{Refusal}
use Rattle.fed_model.specs.declared.replies.Reply.{Reply}
use Rattle.fed_board.specs.Board.{BoardValue}
use Rattle.fed_model.specs.View.{View}
use Rattle.fed_theory.specs.ViewSteps.{add_to_view}
use Rattle.fed_model.specs.Answer.{Answer, Answer.Refuses, Answer.Replies}

-- the site, its board, and for each site the version that was heard from it
pub record ReplicaValue : Type 0 where
  pub site : ℕ
  pub board : BoardValue
  pub heard : List (List ℕ)

-- the version that was heard from a site
abbrev pub heard_from : ReplicaValue → ℕ → List ℕ
heard_from r from = slice_index_or r.heard from (replicate SITES 0)

-- What comes of an answer, where the board read as `before`: what is said, and what the board reads as then. Memory may
-- be refused only where an operation is added.
abbrev pub IsDone : Answer → View → Result Reply Refusal → View → Type 0
IsDone (Refuses refusal) before said after = (said ≡ Err refusal) × (after ≡ before)
IsDone (Replies reply None) before said after = (said ≡ Ok reply) × (after ≡ before)
IsDone (Replies reply (Some new)) before said after = MatchResult said
    (λ r. (r ≡ reply) × (after ≡ add_to_view before new))
    (λ e. (e ≡ Refusal.NoMemory) × (after ≡ before))
