-- A value that was written, and values that are written one after another, are read of their text again.
use Rattle.std.specs.Str.{IsUtf8}
use Rattle.std.proofs.Common.{◌≡◌, ℕ, ◌≤◌, suc, max, List, [], ◌∷◌, Bool, true, false, Option, Some, option_and_then, refl, sym, ap, ap₂, ◌∙◌, subst, arith, append-nil}
use Rattle.std.proofs.lemmas.Str.{IsUtf8-append, IsUtf8-nil}
use Rattle.json.specs.Token.{Token}
use Rattle.json.specs.Json as json
use Rattle.json.specs.Lex.{tokens}
use Rattle.json.specs.Tree.{json_tokens}
use Rattle.json.specs.Tree as tree
use Rattle.json.proofs.Numbered.{ArePrintableOrBad-tokens, value-HasNumbers}
use Rattle.json.proofs.Printed.Tokens.{tokens-print}
use Rattle.json.proofs.Printed.Trees.{value-json_tokens, ArePrintable-json_tokens}
use Rattle.json.proofs.Printed.Utf8.{IsUtf8-are_ascii}
use Rattle.serde_json.specs.Data.{Data, null, boolean, number, string, array, object, Items, no_items, item, Members, no_members, member, depth, items_depth, members_depth}
use Rattle.serde_json.specs.Read.{read, of_json, max_depth}
use Rattle.serde_json.specs.Written.{outline, items_outline, members_outline, IsInOrder, has_float, compact_text, comma_if}
use Rattle.serde_json.proofs.Texts.{tokens_from_order, print-outline}
use Rattle.fed_wire.specs.Printed.{IsPrinted, ArePrinted}

mutual
  depth-outline : (d : Data) → tree.depth (outline d) ≡ depth d
  depth-outline null = refl
  depth-outline (boolean b) = refl
  depth-outline (number n) = refl
  depth-outline (string s) = refl
  depth-outline (array ds) = ap suc (depth-items ds)
  depth-outline (object ms) = ap suc (depth-members ms)

  depth-items : (ds : Items) → tree.items_depth (items_outline ds) ≡ items_depth ds
  depth-items no_items = refl
  depth-items (item d ds) = ap₂ max (depth-outline d) (depth-items ds)

  depth-members : (ms : Members) → tree.members_depth (members_outline ms) ≡ members_depth ms
  depth-members no_members = refl
  depth-members (member k d ms) = ap₂ max (depth-outline d) (depth-members ms)

abbrev of_document : Option (json.Json × List Token) → Option Data
of_document o = option_and_then of_json (option_and_then (λ p. json.if_last p.0 p.1) o)

parsed : (d : Data) (text : List ℕ) → tokens text ≡ json_tokens (outline d) → depth d ≤ max_depth → json.value max_depth (tokens text) ≡ Some (outline d, [])
parsed d text e shallow =
    ap (json.value max_depth) (e ∙ sym (append-nil _)) ∙ value-json_tokens (outline d) max_depth [] (omega (arith, depth-outline d))

-- what was written whole
pub printed : (d : Data) (text : List ℕ) → has_float d ≡ false → depth d ≤ max_depth → text ≡ compact_text d → IsUtf8 text → IsInOrder text d → read text ≡ Some d → IsPrinted d
printed d text plain shallow same utf8 order back =
    let p = parsed d text (tokens_from_order text d order plain) shallow in
    record {
      utf8 = subst IsUtf8 same utf8;
      numbers = value-HasNumbers max_depth (tokens text) [] (outline d) (ArePrintableOrBad-tokens text) p;
      back = sym (ap of_document p) ∙ back;
    }

pub read_printed : (d : Data) → IsPrinted d → depth d ≤ max_depth → read (compact_text d) ≡ Some d
read_printed d h shallow =
    let e : tokens (compact_text d) ≡ json_tokens (outline d) = ap tokens (sym (print-outline d)) ∙ tokens-print (json_tokens (outline d)) (ArePrintable-json_tokens (outline d) h.numbers) in
    ap of_document (parsed d (compact_text d) e shallow) ∙ h.back

-- ---- one after another

pub none_printed : ArePrinted no_items
none_printed = record { utf8 = λ later. IsUtf8-are_ascii (93 ∷ []) refl; numbers = tt; back = refl }

comma : (later : Bool) → IsUtf8 (comma_if later)
comma true = IsUtf8-are_ascii (44 ∷ []) refl
comma false = IsUtf8-nil

pub more_printed : (d : Data) (ds : Items) → IsPrinted d → ArePrinted ds → ArePrinted (item d ds)
more_printed d ds h rest = record {
  utf8 = λ later. IsUtf8-append (comma_if later) _ (comma later) (IsUtf8-append (compact_text d) _ h.utf8 (rest.utf8 true));
  numbers = (h.numbers, rest.numbers);
  back = rw (h.back, rest.back) refl;
}
