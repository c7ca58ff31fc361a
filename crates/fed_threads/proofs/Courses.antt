-- The run of an order, one entry at a time, and what it comes to.
use Rattle.std.proofs.Common.{◌≡◌, ◌<◌, ◌≤◌, ◌+◌, ℕ, zero, suc, List, [], ◌∷◌, ◌++◌, length, get_or, take, slice_get, Option, Some, refl, sym, ap, subst, ◌∙◌, arith}
use Rattle.std.specs.Global.{Vec}
use Rattle.std.proofs.lemmas.List.{take_more}
use Rattle.std.proofs.lemmas.Option.{slice_get_read}
use Rattle.fed_world.specs.Kept.{WorldValue}
use Rattle.fed_threads.specs.declared.fault.CloseFault.TheVariants.{NoOrder}
use Rattle.fed_threads.specs.declared.journal.Claim.{Claim}
use Rattle.fed_threads.specs.declared.journal.Entry.{Entry}
use Rattle.fed_threads.specs.Course.{CourseValue}
use Rattle.fed_threads.specs.Placing.{entry_at, entries_of, is_ready, none_placed, placed_after, IsPlacing}
use Rattle.fed_threads.specs.Settle.{AreClaimed, IsWhole, IsSettled, RunsAll, IsCloseFault}
use Rattle.fed_threads.specs.Settled.{Point, starts, Agrees, AgreesIf, AllAgree, NextAgrees, after_next, point_after, with_entry, with_entry_if}

point_push : (journals : List (List Entry)) (p : Point) (sites : List ℕ) (s : ℕ) → point_after journals p (sites ++ s ∷ []) ≡ after_next journals (point_after journals p sites) s
point_push journals p [] s = refl
point_push journals p (t ∷ sites) s = point_push journals (after_next journals p t) sites s

agree_push : (journals : List (List Entry)) (p : Point) (sites : List ℕ) (s : ℕ) → AllAgree journals p sites → NextAgrees journals (point_after journals p sites) s → AllAgree journals p (sites ++ s ∷ [])
agree_push journals p [] s all next = (next, tt)
agree_push journals p (t ∷ sites) s all next = (all.0, agree_push journals (after_next journals p t) sites s all.1 next)

-- the run so far: each entry of the list agreed
pub record HasRun (journals : List (List Entry)) (sites : List ℕ) (c : CourseValue) : Type 0 where
  pub agree : AllAgree journals (starts journals) sites
  pub point : c.point ≡ point_after journals (starts journals) sites
  pub count : c.sites ≡ length journals

run_push : (journals : List (List Entry)) (sites : List ℕ) (c d : CourseValue) (s : ℕ) (e : Entry) → HasRun journals sites c → entry_at journals s (get_or c.point.placed s 0) ≡ Some e → Agrees c.sites c.point s e
    → d.sites ≡ c.sites → d.point ≡ with_entry c.point s e → HasRun journals (sites ++ s ∷ []) d
run_push journals sites c d s e run at agrees same next =
    let mine : Agrees (length journals) c.point s e = subst (λ n. Agrees n c.point s e) run.count agrees in
    let here : NextAgrees journals c.point s = subst (λ (o : Option Entry). AgreesIf (length journals) c.point s o) (sym at) mine in
    let forward : d.point ≡ after_next journals c.point s = next ∙ ap (λ (o : Option Entry). with_entry_if c.point s o) (sym at) in
    record {
      agree = agree_push journals (starts journals) sites s run.agree (subst (λ (x : Point). NextAgrees journals x s) run.point here);
      point = forward ∙ ap (λ (x : Point). after_next journals x s) run.point ∙ sym (point_push journals (starts journals) sites s);
      count = same ∙ run.count;
    }

-- ---- journals as the program holds them
pub journal_is : (journals : List (Vec Entry)) (s : ℕ) (v : Vec Entry) → s < length journals → v ≡ get_or journals s v → get_or (entries_of journals) s [] ≡ v.items
journal_is [] s v h is = absurd (omega arith)
journal_is (w ∷ journals) zero v h is = ap (λ (x : Vec Entry). x.items) (sym is)
journal_is (w ∷ journals) (suc s) v h is = journal_is journals s v (omega arith) is

module _ (journals : List (Vec Entry)) (site index : ℕ) (v : Vec Entry) (inside : site < length journals) (is : v ≡ get_or journals site v) where
  pub entry_found : (e : Entry) → index < length v.items → e ≡ get_or v.items index e → entry_at (entries_of journals) site index ≡ Some e
  entry_found e left item = ap (λ (es : List Entry). slice_get es index) (journal_is journals site v inside is) ∙ slice_get_read v.items (length v.items) index e refl left item

-- ---- a turn of the run: the k-th site of the order is s
module _ (journals : List (Vec Entry)) (sites : List ℕ) (k : ℕ) (c : CourseValue) (s : ℕ) (run : HasRun (entries_of journals) (take k sites) c) (left : k < length sites) (turn : s ≡ get_or sites k 0) where
  module _ (v : Vec Entry) (inside : s < length journals) (is : v ≡ get_or journals s v) where
    module _ (e : Entry) (more : get_or c.point.placed s 0 < length v.items) (item : e ≡ get_or v.items (get_or c.point.placed s 0) e) where
      found : entry_at (entries_of journals) s (get_or c.point.placed s 0) ≡ Some e
      found = entry_found journals s (get_or c.point.placed s 0) v inside is e more item

      -- it does
      pub run_more : (d : CourseValue) → Agrees c.sites c.point s e → d.sites ≡ c.sites → d.point ≡ with_entry c.point s e → HasRun (entries_of journals) (take (k + 1) sites) d
      run_more d agrees same next =
          let list : take (k + 1) sites ≡ take k sites ++ s ∷ [] = take_more sites k 0 left ∙ ap (λ (n : ℕ). take k sites ++ n ∷ []) (sym turn) in
          subst (λ (xs : List ℕ). HasRun (entries_of journals) xs d) (sym list) (run_push (entries_of journals) (take k sites) c d s e run found agrees same next)

-- ---- what it comes to
module _ (journals : List (List Entry)) (seats : List (List Claim)) (claimed : AreClaimed journals seats) (sites placed : List ℕ)
    (placing : IsPlacing (is_ready journals seats) (none_placed journals) sites) (after : placed ≡ placed_after (none_placed journals) sites) where
  pub whole_order : IsWhole journals placed → IsWhole journals (placed_after (none_placed journals) sites)
  whole_order whole = subst (IsWhole journals) after whole

  pub settled : (w : WorldValue) → IsWhole journals placed → RunsAll journals sites w → IsSettled journals seats w.events
  settled w whole ran = record {
    claimed = claimed;
    sites = sites;
    placing = placing;
    whole = whole_order whole;
    agree = ran.agree;
    events_are = ap (λ (v : WorldValue). v.events) ran.world;
  }

  pub no_order : (next : List ℕ) → length placed ≡ length journals → (IsWhole journals placed → ⊥) → ((s : ℕ) → s < length placed → get_or next s 0 ≡ get_or placed s 0) → ((s : ℕ) → length placed ≤ s → get_or next s 0 ≡ 0)
      → IsCloseFault journals seats (NoOrder next)
  no_order next count part numbers others = (
    claimed,
    record {
      sites = sites;
      placing = placing;
      part = subst (λ (p : List ℕ). IsWhole journals p → ⊥) after part;
      numbers = λ s l. numbers s (omega (arith, count)) ∙ ap (λ (p : List ℕ). get_or p s 0) after;
      others = λ s l. others s (omega (arith, count));
    },
  )
