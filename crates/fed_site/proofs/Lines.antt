-- What lines come to.
use Rattle.std.specs.Prelude.{map, Option, Some, None, is_none, option_map, if◌then◌else◌}
use Rattle.std.specs.Borrow.{Bor}
use Rattle.std.proofs.Common.{◌≡◌, ℕ, ◌+◌, ◌<◌, Bool, false, List, ◌∷◌, drop, drop-cons, add-one, get_or, length, refl, sym, ap, subst, ◌∙◌}
use Rattle.fed_stamp.specs.Stamp.{StampValue}
use Rattle.fed_board.specs.Board.{board_reads}
use Rattle.fed_replica.specs.State.{State, state_of}
use Rattle.fed_script.specs.Line.{Line, lists, plans}
use Rattle.fed_qstat.specs.Listed.{listed}
use Rattle.fed_site.specs.Journal.{SaidAs, after_lines}
use Rattle.fed_site.specs.OwnLine.{OwnLine, told_by}
use Rattle.fed_site.specs.Rosters.{roster_after, roster_after_lines, roster_told}
use Rattle.fed_site.specs.Site.{SiteValue}
use Rattle.fed_machine.specs.Planned.{plan_if_any, plan_or_none}
use Rattle.fed_site.specs.declared.complaints.Complaint.{Complaint}
use Rattle.fed_site.specs.declared.site.SiteAnswer.{SiteAnswer}
use Rattle.fed_site.specs.SiteAnswer.{begun_of, bytes_of, complaint_of, kept_of}
use Rattle.fed_site.specs.Says.{after_line, after_own, after_plan, said_of, site_says}

pub lists_said : (v : SiteValue) (said : Line) (site : ℕ) (full : Bool) (jobs : List StampValue) (a : SiteAnswer) → kept_of a ≡ false → complaint_of a ≡ None → begun_of a ≡ None → said ≡ lists site full jobs → bytes_of a ≡ listed full v.roster (board_reads v.replica.board) jobs
    → SaidAs v v a v.roster (after_line v.roster (state_of v.replica) said)
lists_said v said site full jobs a k n b e f = subst (λ (l : Line). SaidAs v v a v.roster (after_line v.roster (state_of v.replica) l)) (sym e) (record { roster = refl; after = refl; reply = f; keeps = k; complains = n; begins = b })

-- ---- a plan, or none
is_none-map : {A B : Type 0} (f : A → B) (o : Option A) → is_none (option_map f o) ≡ is_none o
is_none-map f None = refl
is_none-map f (Some x) = refl

abbrev unplanned : Bool → Option Complaint
unplanned none = if none then Some Complaint.NoPlan else None

plan_said : (v : SiteValue) (plan : Option (List ℕ)) (a : SiteAnswer) → kept_of a ≡ false → complaint_of a ≡ unplanned (is_none plan) → begun_of a ≡ None → bytes_of a ≡ plan_or_none plan
    → SaidAs v v a v.roster (said_of (after_plan (state_of v.replica) plan))
plan_said v (Some text) a k n b f = record { roster = refl; after = refl; reply = f; keeps = k; complains = n; begins = b }
plan_said v None a k n b f = record { roster = refl; after = refl; reply = f; keeps = k; complains = n; begins = b }

pub plans_said : {A : Type 0} (bytes : A → List ℕ) (plan : Option A) (v : SiteValue) (said : Line) (site moment : ℕ) (a : SiteAnswer) → kept_of a ≡ false → complaint_of a ≡ unplanned (is_none plan) → begun_of a ≡ None → said ≡ plans site moment
    → bytes_of a ≡ plan_or_none (option_map bytes plan) → option_map bytes plan ≡ plan_if_any v.roster (board_reads v.replica.board) v.replica.site moment → SaidAs v v a v.roster (after_line v.roster (state_of v.replica) said)
plans_said bytes plan v said site moment a k n b e f is =
    subst (λ (l : Line). SaidAs v v a v.roster (after_line v.roster (state_of v.replica) l)) (sym e)
    (subst (λ (o : Option (List ℕ)). SaidAs v v a v.roster (said_of (after_plan (state_of v.replica) o))) is
    (plan_said v (option_map bytes plan) a k (n ∙ sym (ap unplanned (is_none-map bytes plan))) b f))

-- what a line is read as is answered so
pub own_said : (v new : SiteValue) (a : SiteAnswer) {own is_read : OwnLine} → own ≡ is_read → SaidAs v new a (roster_told v.roster (told_by is_read)) (after_own v.roster (state_of v.replica) is_read)
    → SaidAs v new a (roster_told v.roster (told_by own)) (after_own v.roster (state_of v.replica) own)
own_said v new a is said = subst (λ (o : OwnLine). SaidAs v new a (roster_told v.roster (told_by o)) (after_own v.roster (state_of v.replica) o)) (sym is) said

-- one line more was answered
pub opened : (roster now : List (List ℕ × ℕ)) (all : List (Bor (List ℕ))) (i : ℕ) (x : Bor (List ℕ)) (mid new end : State) (left : List (List ℕ × ℕ)) → i < length all → x ≡ get_or all i x
    → new ≡ (site_says roster mid x.now).after → now ≡ roster_after roster x.now
    → after_lines roster mid (map (λ (line : Bor (List ℕ)). line.now) (drop i all)) ≡ end → roster_after_lines roster (map (λ (line : Bor (List ℕ)). line.now) (drop i all)) ≡ left
    → (after_lines now new (map (λ (line : Bor (List ℕ)). line.now) (drop (i + 1) all)) ≡ end) × (roster_after_lines now (map (λ (line : Bor (List ℕ)). line.now) (drop (i + 1) all)) ≡ left)
opened roster now all i x mid new end left within at is goes before knew =
    let rest : drop i all ≡ x ∷ drop (i + 1) all = drop-cons all i x within ∙ (λ j. sym at j ∷ drop (sym (add-one i) j) all) in
    let texts : List (List ℕ) = map (λ (line : Bor (List ℕ)). line.now) (drop (i + 1) all) in (
      (λ k. after_lines (goes k) (is k) texts)
          ∙ sym (ap (λ (ls : List (Bor (List ℕ))). after_lines roster mid (map (λ (line : Bor (List ℕ)). line.now) ls)) rest) ∙ before,
      (λ k. roster_after_lines (goes k) texts)
          ∙ sym (ap (λ (ls : List (Bor (List ℕ))). roster_after_lines roster (map (λ (line : Bor (List ℕ)). line.now) ls)) rest) ∙ knew,
    )
