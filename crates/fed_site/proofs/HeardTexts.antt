-- The text of a packet that tells nothing but what was heard has no line feed, and is read again.
use Rattle.std.specs.Prelude.{◌^◌, nat_eq, codes, map, Some, option_map}
use Rattle.std.specs.List.{AllByRecursion, list_any}
use Rattle.std.proofs.Common.{◌≡◌, ◌<◌, ◌≤◌, ℕ, false, List, [], ◌∷◌, ◌++◌, refl, ap, arith}
use Rattle.std.proofs.lemmas.Fmt.{IsAscii-decimal}
use Rattle.std.proofs.lemmas.Str.{IsUtf8-append, IsUtf8-from_ascii}
use Rattle.std.specs.Fmt.{decimal}
use Rattle.json.proofs.Printed.Decimals.{IsNumber-decimal}
use Rattle.json.proofs.Printed.Utf8.{IsUtf8-are_ascii}
use Rattle.json.specs.Print.{escape_byte}
use Rattle.serde_json.specs.Data.{Data, number, array, Items}
use Rattle.serde_json.specs.View.{items_of}
use Rattle.serde_json.specs.Written.{compact_text, items_text}
use Rattle.serde_json.proofs.Numbers.{number_of-decimal}
use Rattle.fed_model.specs.Ranges.{IsFrom}
use Rattle.fed_json.specs.Numbers.{natural_value}
use Rattle.fed_json.specs.Values.{list_value}
use Rattle.fed_json.specs.Objects.{object_value}
use Rattle.fed_job_json.specs.declared.formats.Format.TheVariants.{Two}
use Rattle.fed_job_json.specs.Stamps.{IsVersion, version_value}
use Rattle.fed_wire.specs.Packet.{packet_value}
use Rattle.fed_wire.specs.Printed.{IsPrinted, ArePrinted}
use Rattle.fed_wire.specs.Reading.{text_value}
use Rattle.fed_wire.proofs.PlainLaws.{text_back}
use Rattle.fed_wire.proofs.PrintedLaws.{none_printed, more_printed}
use Rattle.fed_replica.specs.State.{State, hearing}
use Rattle.fed_site.proofs.JsonLines.{feedless_found, value_feedless}

-- ---- values
number_printed : (n : ℕ) → n < 2 ^ 64 → IsPrinted (natural_value n)
number_printed n low = record {
  utf8 = IsUtf8-from_ascii (decimal n) (IsAscii-decimal n low);
  numbers = IsNumber-decimal n low;
  back = ap (option_map number) (number_of-decimal n low);
}

numbers_printed : (v : List ℕ) → AllByRecursion (IsFrom 0 1_000_000_000) v → ArePrinted (items_of (map natural_value v))
numbers_printed [] h = none_printed
numbers_printed (c ∷ v) h =
    let low : c ≤ 1_000_000_000 = h.0.1 in
    more_printed (natural_value c) (items_of (map natural_value v)) (number_printed c (omega arith)) (numbers_printed v h.1)

array_printed : (ds : Items) → ArePrinted ds → IsPrinted (array ds)
array_printed ds h = record {
  utf8 = IsUtf8-append (91 ∷ []) (items_text false ds) (IsUtf8-are_ascii (91 ∷ []) refl) (h.utf8 false);
  numbers = h.numbers;
  back = ap (option_map array) h.back;
}

version_printed : (v : List ℕ) → IsVersion v → IsPrinted (version_value v)
version_printed v h = array_printed (items_of (map natural_value v)) (numbers_printed v h.1)

-- ---- a value of six members
module _ (format jobs need reached reservations sender : Data) where
  abbrev whole : Data
  whole = object_value ((codes "format", format) ∷ (codes "jobs", jobs) ∷ (codes "need", need) ∷ (codes "reached", reached) ∷ (codes "reservations", reservations) ∷ (codes "sender", sender) ∷ [])

  -- the text behind each member's name and value
  abbrev after_sender : List ℕ
  after_sender = 125 ∷ []

  abbrev after_reservations : List ℕ
  after_reservations = codes ",\"sender\":" ++ (compact_text sender ++ after_sender)

  abbrev after_reached : List ℕ
  after_reached = codes ",\"reservations\":" ++ (compact_text reservations ++ after_reservations)

  abbrev after_need : List ℕ
  after_need = codes ",\"reached\":" ++ (compact_text reached ++ after_reached)

  abbrev after_jobs : List ℕ
  after_jobs = codes ",\"need\":" ++ (compact_text need ++ after_need)

  abbrev after_format : List ℕ
  after_format = codes ",\"jobs\":" ++ (compact_text jobs ++ after_jobs)

  whole_printed : IsPrinted format → IsPrinted jobs → IsPrinted need → IsPrinted reached → IsPrinted reservations → IsPrinted sender → IsPrinted whole
  unfolding escape_byte
  whole_printed f j n r s d = record {
    utf8 = IsUtf8-append (codes "{\"format\":") (compact_text format ++ after_format) (IsUtf8-are_ascii (codes "{\"format\":") refl) (IsUtf8-append (compact_text format) after_format f.utf8
        (IsUtf8-append (codes ",\"jobs\":") (compact_text jobs ++ after_jobs) (IsUtf8-are_ascii (codes ",\"jobs\":") refl) (IsUtf8-append (compact_text jobs) after_jobs j.utf8
        (IsUtf8-append (codes ",\"need\":") (compact_text need ++ after_need) (IsUtf8-are_ascii (codes ",\"need\":") refl) (IsUtf8-append (compact_text need) after_need n.utf8
        (IsUtf8-append (codes ",\"reached\":") (compact_text reached ++ after_reached) (IsUtf8-are_ascii (codes ",\"reached\":") refl) (IsUtf8-append (compact_text reached) after_reached r.utf8
        (IsUtf8-append (codes ",\"reservations\":") (compact_text reservations ++ after_reservations) (IsUtf8-are_ascii (codes ",\"reservations\":") refl) (IsUtf8-append (compact_text reservations) after_reservations s.utf8
        (IsUtf8-append (codes ",\"sender\":") (compact_text sender ++ after_sender) (IsUtf8-are_ascii (codes ",\"sender\":") refl) (IsUtf8-append (compact_text sender) after_sender d.utf8 (IsUtf8-are_ascii after_sender refl))))))))))));
    numbers = (f.numbers, (j.numbers, (n.numbers, (r.numbers, (s.numbers, (d.numbers, tt))))));
    back = rw (f.back, j.back, n.back, r.back, s.back, d.back) refl;
  }

-- ---- what was heard
module _ (s : State) (from : ℕ) (low : from < 16) (h : IsVersion (s.heard from)) where
  nothing_printed : IsPrinted (list_value [])
  nothing_printed = array_printed (items_of []) none_printed

  heard_printed : IsPrinted (packet_value Two (hearing s from))
  heard_printed = whole_printed (natural_value 2) (list_value []) (version_value (s.heard from)) (version_value (s.heard from)) (list_value []) (natural_value from)
      (number_printed 2 (omega arith)) nothing_printed (version_printed (s.heard from) h) (version_printed (s.heard from) h) nothing_printed (number_printed from (omega arith))

  pub heard_read : text_value (compact_text (packet_value Two (hearing s from))) ≡ Some (packet_value Two (hearing s from))
  heard_read = text_back (hearing s from) (compact_text (packet_value Two (hearing s from))) refl heard_printed

  pub heard_feedless : list_any (nat_eq 10) (compact_text (packet_value Two (hearing s from))) ≡ false
  heard_feedless = feedless_found (compact_text (packet_value Two (hearing s from))) (value_feedless (packet_value Two (hearing s from)))
