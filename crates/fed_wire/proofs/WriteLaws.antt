-- How the values of a packet's jobs and reservations are written one after another.
use Rattle.std.specs.BTreeMap.{is_at}
use Rattle.std.specs.List.Sorted.{IsStrictlySortedBy}
use Rattle.std.specs.Map.{keys_of, values_of, lookup}
use Rattle.std.proofs.Common.{◌≡◌, ℕ, length, map, All, Bool, true, List, [], ◌∷◌, ◌++◌, sym, ap, subst, ◌∙◌, append_assoc}
use Rattle.std.proofs.lemmas.List.{map-append}
use Rattle.std.proofs.lemmas.List.Elements.{All-head, All-tail}
use Rattle.std.proofs.lemmas.Option.{IfSome_then}
use Rattle.serde_json.specs.Data.{Data}
use Rattle.serde_json.specs.View.{view, items_of}
use Rattle.serde_json.specs.Written.{comma_if, compact_text, items_text}
use Rattle.serde_json.specs.declared.value.Value.{Value}
use Rattle.fed_lattice.specs.ExactLaws.{exact_stamp}
use Rattle.fed_lattice.specs.Latest.{stamp_cmp}
use Rattle.fed_lattice.specs.LatestLaws.{stamp_total}
use Rattle.fed_lattice.proofs.TableValues.{values_each}
use Rattle.fed_record.specs.JobRecord.{JobRecordValue}
use Rattle.fed_board.specs.Board.{BoardValue, IsBoard}
use Rattle.fed_wire.specs.Printed.{IsPrinted, ArePrinted}
use Rattle.fed_wire.proofs.PrintedLaws.{more_printed}

-- ---- the loops

module _ {K X : Type 0} (it rest : List (K × X)) (k : K) (v : X) (first : it ≡ (k, v) ∷ rest) where
  pub first_holds : (P : X → Type 0) → All P (values_of it) → P v
  first_holds P h = All-head P v (values_of rest) (subst (λ (l : List (K × X)). All P (values_of l)) first h)

  pub rest_holds : (P : X → Type 0) → All P (values_of it) → All P (values_of rest)
  rest_holds P h = All-tail P v (values_of rest) (subst (λ (l : List (K × X)). All P (values_of l)) first h)

  pub pushed_value : (f : K × X → Data) (values new : List Value) (value : Value) (all : List Data) → map view values ++ map f it ≡ all → view value ≡ f (k, v) → new ≡ values ++ value ∷ [] → map view new ++ map f rest ≡ all
  pushed_value f values new value all left e n =
      ap (λ l. map view l ++ map f rest) n
      ∙ ap (λ l. l ++ map f rest) (map-append view values (value ∷ []))
      ∙ append_assoc (map view values) (view value ∷ []) (map f rest)
      ∙ ap (λ d. map view values ++ d ∷ map f rest) e
      ∙ ap (λ l. map view values ++ map f l) (sym first)
      ∙ left

  pub pushed_text : (f : K × X → Data) (later : Bool) (text new whole : List ℕ) → text ++ items_text later (items_of (map f it)) ≡ whole → new ≡ text ++ (comma_if later ++ compact_text (f (k, v)))
      → new ++ items_text true (items_of (map f rest)) ≡ whole
  pushed_text f later text new whole left n =
      let more = items_text true (items_of (map f rest)) in
      ap (λ t. t ++ more) n
      ∙ append_assoc text (comma_if later ++ compact_text (f (k, v))) more
      ∙ ap (λ t. text ++ t) (append_assoc (comma_if later) (compact_text (f (k, v))) more)
      ∙ ap (λ es. text ++ items_text later (items_of (map f es))) (sym first)
      ∙ left

  pub rest_printed : (f : K × X → Data) → IsPrinted (f (k, v)) → ArePrinted (items_of (map f rest)) → ArePrinted (items_of (map f it))
  rest_printed f here more = subst (λ (l : List (K × X)). ArePrinted (items_of (map f l))) (sym first) (more_printed (f (k, v)) (items_of (map f rest)) here more)

-- each job on a board has a counter for each site
pub have_counters : (b : BoardValue) → IsBoard b → IsStrictlySortedBy stamp_cmp (keys_of b.jobs) → All (λ (r : JobRecordValue). length r.touched ≡ 16) (values_of b.jobs)
have_counters b i s = values_each stamp_cmp stamp_total exact_stamp (λ (r : JobRecordValue). length r.touched ≡ 16) b.jobs s
    (λ k. IfSome_then (lookup (is_at (stamp_cmp k)) b.jobs) (i.jobs k) (λ r h. h.stamps.counters))
