-- What is told of a board and a site is the text of the look.
use Rattle.std.specs.Prelude.{Result, IfOk}
use Rattle.std.proofs.Common.{◌≡◌, ℕ, List, sym, subst, ◌∙◌}
use Rattle.fed_board.specs.Board.{BoardValue, board_reads}
use Rattle.fed_model.specs.View.{View}
use Rattle.fed_replica.specs.Replica.{ReplicaValue}
use Rattle.fed_replica.specs.State.{state_of}
use Rattle.fed_looks.specs.declared.looks.Look.{Look}
use Rattle.fed_site.specs.LookText.{text_of_look}
use Rattle.fed_looks.specs.LookView.{asked_by}

module _ {S F : Type 0} (bytes : S → List ℕ) (result : Result S F) (roster : List (List ℕ × ℕ)) (r : ReplicaValue) (look : Look) (board : BoardValue) (at : board ≡ r.board) where
  -- these bytes are told
  abbrev Tells : List ℕ → Type 0
  Tells text = IfOk result (λ s. bytes s ≡ text)

  -- the look, as the code has matched it, is of this text by what a board reads as and by a site
  pub told_of : (text : View → ℕ → List ℕ) (asked : Look) (here : ℕ) → here ≡ r.site → look ≡ asked → text_of_look roster (state_of r) (asked_by asked) ≡ text (board_reads r.board) r.site
      → Tells (text (board_reads board) here) → Tells (text_of_look roster (state_of r) (asked_by look))
  told_of text asked here site is says told =
      let same : text (board_reads board) here ≡ text_of_look roster (state_of r) (asked_by look) =
      (λ i. text (board_reads (at i)) (site i)) ∙ sym says ∙ (λ i. text_of_look roster (state_of r) (asked_by (sym is i))) in
      subst Tells same told
