-- What a crash leaves while a group is added, or the end of a file is repaired.
use Rattle.std.proofs.Common.{◌≡◌, inl, inr, ⊎_elim, ℕ, suc, ◌+◌, ◌-◌, ◌==◌, false, List, [], ◌∷◌, ◌++◌, length, take, drop, Ok, refl, sym, ◌∙◌, ap, subst, arith, append_assoc}
use Rattle.std.specs.List.{All}
use Rattle.std.proofs.lemmas.Bool.{true≢false}
use Rattle.std.proofs.lemmas.List.{append-nil, take_at, take_all, take-take, drop_at, drop_all, take-append-drop, length-append}
use Rattle.fed_journal.specs.Device.{Holds, Shortened, Torn}
use Rattle.fed_journal.specs.Lines.{IsLine, Stands, at_rest, closed_lines, first_digest, last_digest, open_lines, recovered}
use Rattle.fed_journal.specs.Journal.{entries_of, entries_in, IsBeforeOrAfter}
use Rattle.fed_journal.proofs.Reading.{open_lines-append, recovered_closed}

pub length-at_rest : (entries : List (List ℕ)) → length (at_rest entries) ≡ length (open_lines first_digest entries) + 1
length-at_rest entries = length-append (open_lines first_digest entries) (45 ∷ [])

pub entries-at_rest : (entries : List (List ℕ)) (file : List ℕ) → All IsLine entries → file ≡ at_rest entries → entries_in file ≡ entries
entries-at_rest entries file lines is = ap entries_in is ∙ ap entries_of (recovered_closed entries [] lines)

pub length-at_rest-append : (entries group : List (List ℕ)) → length (at_rest (entries ++ group)) ≡ length (open_lines first_digest entries) + length (closed_lines (last_digest first_digest entries) group)
length-at_rest-append entries group =
    let last = last_digest first_digest entries in
    omega (arith, length-at_rest (entries ++ group), ap length (open_lines-append first_digest entries group), length-append (open_lines first_digest entries) (open_lines last group), length-append (open_lines last group) (45 ∷ []))

-- ---- files with a closed gate

pub recovered_gated : (entries : List (List ℕ)) (tail : List ℕ) → All IsLine entries → recovered (at_rest entries ++ tail) ≡ Ok entries
recovered_gated entries tail lines = ap recovered (append_assoc (open_lines first_digest entries) (45 ∷ []) tail) ∙ recovered_closed entries tail lines

pub recovered_stands : (file : List ℕ) (entries : List (List ℕ)) (tail : List ℕ) → All IsLine entries → Stands file entries tail → recovered file ≡ Ok entries
recovered_stands file entries tail lines (inl gated) = ap recovered gated ∙ recovered_gated entries tail lines
recovered_stands file entries tail lines (inr bare) = ap recovered bare.0 ∙ ap Ok (sym bare.1)

-- a file that begins with a file at rest
begins_at_rest : (entries : List (List ℕ)) (c : List ℕ) → All IsLine entries → take (length (at_rest entries)) c ≡ at_rest entries → recovered c ≡ Ok entries
begins_at_rest entries c lines begins =
    let n = length (at_rest entries) in
    ap recovered (sym (take-append-drop n c) ∙ ap (λ (l : List ℕ). l ++ drop n c) begins) ∙ recovered_gated entries (drop n c) lines

-- ---- a file that is cut

module _ (entries : List (List ℕ)) (tail file : List ℕ) (lines : All IsLine entries) (is : file ≡ at_rest entries ++ tail) (len : ℕ) (at : len ≡ length (at_rest entries)) where
  pub cut_behind : take len file ≡ at_rest entries
  cut_behind = ap (λ (l : List ℕ). take len l) is ∙ take_at (at_rest entries) tail len (sym at)

  pub shortened : (c : List ℕ) → Shortened len file c → recovered c ≡ recovered file
  shortened c cut =
      let begins : take len c ≡ at_rest entries = ap (λ (l : List ℕ). take len l) (sym cut.front) ∙ take-take len (length c) file cut.at_least ∙ cut_behind in
      begins_at_rest entries c lines (subst (λ (n : ℕ). take n c ≡ at_rest entries) at begins) ∙ sym (ap recovered is ∙ recovered_gated entries tail lines)

-- ---- a group behind the gate of a file at rest

module _ (entries : List (List ℕ)) (lines : All IsLine entries) (gate : ℕ) (at : gate ≡ length (open_lines first_digest entries)) where
  -- the file with something behind the closed gate
  abbrev pub staged : List ℕ → List ℕ
  staged more = open_lines first_digest entries ++ 45 ∷ more

  rests : length (at_rest entries) ≡ gate + 1
  rests = omega (arith, length-at_rest entries)

  -- whatever is torn behind the gate doesn't count
  pub torn_behind : (more c : List ℕ) → Torn (gate + 1) more (at_rest entries) c → recovered c ≡ Ok entries
  torn_behind more c torn =
      begins_at_rest entries c lines (subst (λ (n : ℕ). take n c ≡ at_rest entries) (sym rests) (torn.front ∙ take_all (gate + 1) (at_rest entries) (omega (arith, rests))))

  pub written_behind : (more c : List ℕ) → Holds (gate + 1) more (at_rest entries) c → c ≡ staged more
  written_behind more c holds =
      holds
      ∙ ap (λ (l : List ℕ). l ++ (more ++ drop (gate + 1 + length more) (at_rest entries))) (take_all (gate + 1) (at_rest entries) (omega (arith, rests)))
      ∙ ap (λ (l : List ℕ). at_rest entries ++ (more ++ l)) (drop_all (gate + 1 + length more) (at_rest entries) (omega (arith, rests)))
      ∙ ap (λ (l : List ℕ). at_rest entries ++ l) (append-nil more)
      ∙ append_assoc (open_lines first_digest entries) (45 ∷ []) more

  -- the file with the gate open
  pub written_gate : (more c : List ℕ) → Holds gate (43 ∷ []) (staged more) c → c ≡ open_lines first_digest entries ++ 43 ∷ more
  written_gate more c holds =
      let split : staged more ≡ at_rest entries ++ more = sym (append_assoc (open_lines first_digest entries) (45 ∷ []) more) in
      holds
      ∙ ap (λ (l : List ℕ). l ++ 43 ∷ drop (gate + 1) (staged more)) (take_at (open_lines first_digest entries) (45 ∷ more) gate (sym at))
      ∙ ap (λ (l : List ℕ). open_lines first_digest entries ++ 43 ∷ l) (ap (λ (l : List ℕ). drop (gate + 1) l) split ∙ drop_at (at_rest entries) more (gate + 1) rests)

  module _ (group : List (List ℕ)) (more : List ℕ) (is : 43 ∷ more ≡ closed_lines (last_digest first_digest entries) group) where
    pub opened : (c : List ℕ) → Holds gate (43 ∷ []) (staged more) c → c ≡ at_rest (entries ++ group)
    opened c holds =
        written_gate more c holds ∙ ap (λ (l : List ℕ). open_lines first_digest entries ++ l) is
        ∙ sym (append_assoc (open_lines first_digest entries) (open_lines (last_digest first_digest entries) group) (45 ∷ []))
        ∙ ap (λ (l : List ℕ). l ++ 45 ∷ []) (sym (open_lines-append first_digest entries group))

    pub torn_gate : All IsLine (entries ++ group) → (c : List ℕ) → Torn gate (43 ∷ []) (staged more) c → IsBeforeOrAfter entries group c
    torn_gate all c torn =
        ⊎_elim (λ same. inl (ap recovered same ∙ recovered_closed entries more lines)) (λ holds. inr (ap recovered (opened c holds) ∙ recovered_closed (entries ++ group) [] all)) (torn.single refl)

-- the bytes behind the first gate of a group
pub behind_first : (before : List ℕ) (group : List (List ℕ)) (written : List ℕ) (n : ℕ) → length group ≡ n → (n == 0) ≡ false → written ≡ closed_lines before group → 43 ∷ take (length written - 1) (drop 1 written) ≡ closed_lines before group
behind_first before [] written n none some is = absurd (true≢false (subst (λ (k : ℕ). (k == 0) ≡ false) (sym none) some))
behind_first before (text ∷ group) [] n count some is = absurd (nil_is is)
  where
    nil_is : {x : ℕ} {xs : List ℕ} → [] ≡ x ∷ xs → ⊥
    nil_is is = cc
behind_first before (text ∷ group) (gate ∷ more) n count some is =
    ap (λ (l : List ℕ). 43 ∷ l) (take_all (suc (length more) - 1) more (omega arith)) ∙ ap (λ (l : List ℕ). 43 ∷ drop 1 l) is
