-- On names.
use Rattle.std.proofs.Common.{◌≡◌, ℕ, ◌<◌, ◌-◌, true, List, ◌++◌, length, replicate, drop, slice_index, take, refl, sym, ap, inl, inr, arith}
use Rattle.std.proofs.lemmas.Bool.{and_parts, cases_lt}
use Rattle.std.proofs.lemmas.Bool.Decides.{nat_tests}
use Rattle.std.proofs.lemmas.List.{drop-replicate, get_or_past}
use Rattle.std.proofs.lemmas.List.Sums.{AllPass-from_list_all}
use Rattle.std.proofs.lemmas.Str.{IsUtf8-from_ascii}
use Rattle.std.specs.Str.{IsAscii, IsUtf8}
use Rattle.std.proofs.Math.Seq.{take-append_seam}
use Rattle.fed_stamp.specs.Word.{is_name, is_name_byte, padded}

name_byte_ascii : (b : ℕ) → is_name_byte b ≡ true → b < 128
name_byte_ascii b h = grind (arith, nat_tests)

-- and they are ASCII
pub name_ascii : (text : List ℕ) → is_name text ≡ true → IsAscii text
unfolding is_name
name_ascii text h i = elim (cases_lt i (length text)) [
  | inl k ↦ name_byte_ascii _ (AllPass-from_list_all is_name_byte text (and_parts _ _ h).1 i 0 k)
  | inr k ↦ let e : slice_index text i ≡ 0 = get_or_past text i 0 k in omega arith
]

-- so a name is a text
pub name_utf8 : (text : List ℕ) → is_name text ≡ true → IsUtf8 text
name_utf8 text h = IsUtf8-from_ascii text (name_ascii text h)

-- the fields that a name is made of: its bytes copied over the front of 15 zeros
pub written_name : (text copied : List ℕ) → copied ≡ text → is_name text ≡ true → let fields = copied ++ drop (length text) (replicate 15 0) in (padded (take (length text) fields) ≡ fields) × (length (take (length text) fields) ≡ length text) × (is_name (take (length text) fields) ≡ true)
written_name text copied e h =
    let front : take (length text) (text ++ drop (length text) (replicate 15 0)) ≡ text = take-append_seam text _ in
    let rest : drop (length text) (replicate 15 0) ≡ replicate (15 - length text) 0 = drop-replicate (length text) 15 0 in
    rw (e, front) (ap (λ r. text ++ r) (sym rest), refl, h)
