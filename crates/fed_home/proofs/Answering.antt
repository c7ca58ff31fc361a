-- Lines that are answered one after another.
use Rattle.std.specs.Prelude.{map}
use Rattle.std.proofs.lemmas.List.{map-append, drop_all}
use Rattle.std.specs.Borrow.{Bor}
use Rattle.std.proofs.Common.{◌≡◌, ℕ, ◌+◌, ◌<◌, ◌≤◌, Bool, true, false, List, [], ◌∷◌, ◌++◌, drop, drop-cons, add-one, get_or, length, refl, ap, sym, subst, ◌∙◌, append_assoc, append-nil}
use Rattle.fed_replica.specs.State.{State, state_of}
use Rattle.fed_site.specs.SiteAnswer.{kept_of}
use Rattle.fed_site.specs.Journal.{SaidAs, after_lines, kept_line, kept_lines}
use Rattle.fed_site.specs.Rosters.{roster_after, roster_after_lines}
use Rattle.fed_site.specs.Says.{site_says}
use Rattle.fed_site.specs.Site.{SiteValue}
use Rattle.fed_site.specs.declared.site.SiteAnswer.{SiteAnswer}
use Rattle.std.specs.List.{All}
use Rattle.std.proofs.lemmas.List.Elements.{All-nil, All-push, All-same}
use Rattle.fed_site.specs.Told.{IsTold, answers_in}
use Rattle.fed_site.specs.declared.tellings.Told.{Told}
use Rattle.fed_home.specs.Replay.{AreReplies}

-- of all these lines a site has answered those before the rest, so, and has these to keep
pub record IsRun (old now : SiteValue) (all rest : List (List ℕ)) (answers : List SiteAnswer) (kept : List (List ℕ)) : Type 0 where
  pub roster : roster_after_lines now.roster rest ≡ roster_after_lines old.roster all
  pub after : after_lines now.roster (state_of now.replica) rest ≡ after_lines old.roster (state_of old.replica) all
  pub replies : (more : List SiteAnswer) → AreReplies now.roster (state_of now.replica) rest more → AreReplies old.roster (state_of old.replica) all (answers ++ more)
  pub keeps : kept ++ kept_lines now.roster (state_of now.replica) rest ≡ kept_lines old.roster (state_of old.replica) all

pub starts : (old : SiteValue) (all : List (List ℕ)) (answers : List SiteAnswer) (kept : List (Bor (List ℕ))) → answers ≡ [] → kept ≡ [] → IsRun old old all all answers (map (λ (line : Bor (List ℕ)). line.now) kept)
starts old all answers kept a k = record {
  roster = refl;
  after = refl;
  replies = λ more h. subst (λ (xs : List SiteAnswer). AreReplies old.roster (state_of old.replica) all (xs ++ more)) (sym a) h;
  keeps = ap (λ (xs : List (Bor (List ℕ))). map (λ (line : Bor (List ℕ)). line.now) xs ++ kept_lines old.roster (state_of old.replica) all) k;
}

goes_on : (old mid new : SiteValue) (all rest : List (List ℕ)) (line : List ℕ) (answers : List SiteAnswer) (answer : SiteAnswer) (kept more_kept : List (List ℕ)) → IsRun old mid all (line ∷ rest) answers kept
    → SaidAs mid new answer (roster_after mid.roster line) (site_says mid.roster (state_of mid.replica) line) → more_kept ≡ kept ++ kept_line (kept_of answer) line → IsRun old new all rest (answers ++ answer ∷ []) more_kept
goes_on old mid new all rest line answers answer kept more_kept run said more =
    record {
      roster = ap (λ (q : List (List ℕ × ℕ)). roster_after_lines q rest) said.roster ∙ run.roster;
      after = (λ k. after_lines (said.roster k) (said.after k) rest) ∙ run.after;
      replies = λ others h. subst (λ (xs : List SiteAnswer). AreReplies old.roster (state_of old.replica) all xs) (sym (append_assoc answers (answer ∷ []) others))
          (run.replies (answer ∷ others) (
            said.reply,
            said.keeps,
            said.complains,
            said.begins,
            subst (λ (q : List (List ℕ × ℕ)). AreReplies q (site_says mid.roster (state_of mid.replica) line).after rest others) said.roster
                (subst (λ (t : State). AreReplies new.roster t rest others) said.after h),
          ));
      keeps = ap (λ (ks : List (List ℕ)). ks ++ kept_lines new.roster (state_of new.replica) rest) more
          ∙ append_assoc kept (kept_line (kept_of answer) line) (kept_lines new.roster (state_of new.replica) rest)
          ∙ ap (λ (ks : List (List ℕ)). kept ++ ks) (λ k. kept_line (said.keeps k) line ++ kept_lines (said.roster k) (said.after k) rest)
          ∙ run.keeps;
    }

-- one line more was answered
pub answered_more : (old mid new : SiteValue) (lines : List (Bor (List ℕ))) (i : ℕ) (d : Bor (List ℕ)) (answers new_answers : List SiteAnswer) (answer : SiteAnswer) (kept more_kept : List (Bor (List ℕ))) → i < length lines
    → IsRun old mid (map (λ (line : Bor (List ℕ)). line.now) lines) (map (λ (line : Bor (List ℕ)). line.now) (drop i lines)) answers (map (λ (line : Bor (List ℕ)). line.now) kept)
    → SaidAs mid new answer (roster_after mid.roster (get_or lines i d).now) (site_says mid.roster (state_of mid.replica) (get_or lines i d).now) → new_answers ≡ answers ++ answer ∷ []
    → map (λ (line : Bor (List ℕ)). line.now) more_kept ≡ map (λ (line : Bor (List ℕ)). line.now) kept ++ kept_line (kept_of answer) (get_or lines i d).now
    → IsRun old new (map (λ (line : Bor (List ℕ)). line.now) lines) (map (λ (line : Bor (List ℕ)). line.now) (drop (i + 1) lines)) new_answers (map (λ (line : Bor (List ℕ)). line.now) more_kept)
answered_more old mid new lines i d answers new_answers answer kept more_kept within run said answers_are more =
    let now : Bor (List ℕ) → List ℕ = λ line. line.now in
    let rest : drop i lines ≡ get_or lines i d ∷ drop (i + 1) lines = drop-cons lines i d within ∙ (λ j. get_or lines i d ∷ drop (sym (add-one i) j) lines) in
    let first : IsRun old mid (map now lines) ((get_or lines i d).now ∷ map now (drop (i + 1) lines)) answers (map now kept) =
    subst (λ (ls : List (Bor (List ℕ))). IsRun old mid (map now lines) (map now ls) answers (map now kept)) rest run in
    subst (λ (xs : List SiteAnswer). IsRun old new (map now lines) (map now (drop (i + 1) lines)) xs (map now more_kept)) (sym answers_are)
    (goes_on old mid new (map now lines) (map now (drop (i + 1) lines)) (get_or lines i d).now answers answer (map now kept) (map now more_kept) first said more)

-- the lines that are kept, with one more or without
pub keeps_more : (kept more : List (Bor (List ℕ))) (line : Bor (List ℕ)) (is_kept : Bool) → is_kept ≡ true → more ≡ kept ++ line ∷ []
    → map (λ (line : Bor (List ℕ)). line.now) more ≡ map (λ (line : Bor (List ℕ)). line.now) kept ++ kept_line is_kept line.now
keeps_more kept more line is_kept e m =
    ap (map (λ (line : Bor (List ℕ)). line.now)) m ∙ map-append (λ (line : Bor (List ℕ)). line.now) kept (line ∷ [])
    ∙ ap (λ b. map (λ (line : Bor (List ℕ)). line.now) kept ++ kept_line b line.now) (sym e)

pub keeps_same : (kept more : List (Bor (List ℕ))) (text : List ℕ) (is_kept : Bool) → is_kept ≡ false → more ≡ kept
    → map (λ (line : Bor (List ℕ)). line.now) more ≡ map (λ (line : Bor (List ℕ)). line.now) kept ++ kept_line is_kept text
keeps_same kept more text is_kept e m =
    ap (map (λ (line : Bor (List ℕ)). line.now)) m ∙ sym (append-nil (map (λ (line : Bor (List ℕ)). line.now) kept))
    ∙ ap (λ b. map (λ (line : Bor (List ℕ)). line.now) kept ++ kept_line b text) (sym e)

-- all lines were answered
pub all_answered : (old now : SiteValue) (lines : List (Bor (List ℕ))) (i : ℕ) (answers : List SiteAnswer) (kept : List (List ℕ)) → length lines ≤ i
    → IsRun old now (map (λ (line : Bor (List ℕ)). line.now) lines) (map (λ (line : Bor (List ℕ)). line.now) (drop i lines)) answers kept
    → IsRun old now (map (λ (line : Bor (List ℕ)). line.now) lines) [] answers kept
all_answered old now lines i answers kept past run =
    subst (λ (ls : List (Bor (List ℕ))). IsRun old now (map (λ (line : Bor (List ℕ)). line.now) lines) (map (λ (line : Bor (List ℕ)). line.now) ls) answers kept) (drop_all i lines past) run

pub all_replies : (old now : SiteValue) (all : List (List ℕ)) (answers : List SiteAnswer) (kept : List (List ℕ)) → IsRun old now all [] answers kept → AreReplies old.roster (state_of old.replica) all answers
all_replies old now all answers kept run = subst (λ (xs : List SiteAnswer). AreReplies old.roster (state_of old.replica) all xs) (append-nil answers) (run.replies [] tt)

pub all_kept : (old now : SiteValue) (all : List (List ℕ)) (answers : List SiteAnswer) (kept : List (List ℕ)) → IsRun old now all [] answers kept → kept ≡ kept_lines old.roster (state_of old.replica) all
all_kept old now all answers kept run = sym (append-nil kept) ∙ run.keeps

-- ---- words
pub answer_more : (answers new : List Told) (told : Told) (answer : SiteAnswer) → new ≡ answers ++ told ∷ [] → told.answer ≡ answer → answers_in new ≡ answers_in answers ++ answer ∷ []
answer_more answers new told answer e same = ap answers_in e ∙ map-append (λ (t : Told). t.answer) answers (told ∷ []) ∙ ap (λ (a : SiteAnswer). answers_in answers ++ a ∷ []) same

pub told_none : (asked : Bool) (answers : List Told) → answers ≡ [] → All (IsTold asked) answers
told_none asked answers e = All-same (IsTold asked) answers [] e (All-nil (IsTold asked))

pub told_more : (asked : Bool) (answers new : List Told) (told : Told) → All (IsTold asked) answers → IsTold asked told → new ≡ answers ++ told ∷ [] → All (IsTold asked) new
told_more asked answers new told all one e = All-same (IsTold asked) new (answers ++ told ∷ []) e (All-push (IsTold asked) answers told all one)
