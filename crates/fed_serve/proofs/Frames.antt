-- Frames, told apart.
use Rattle.std.specs.List.{All}
use Rattle.std.specs.Prelude.{decimal}
use Rattle.std.proofs.Common.{◌≡◌, ◌<◌, ◌≤◌, ◌^◌, ◌∙◌, ◌++◌, ◌∷◌, ◌+◌, ◌%◌, [], List, ℕ, ap, append_assoc, drop, length, refl, rules, subst, sym, take, ap₂}
use Rattle.std.proofs.Math.Seq.{drop-append_seam, take-append_seam}
use Rattle.std.proofs.lemmas.Fmt.{decimal_by_steps, decimal_injective}
use Rattle.std.proofs.lemmas.List.Elements.{All-append, All-cons, All-head, All-nil, All-tail}
use Rattle.fed_serve.specs.Frame.{Frame, IsHeld, frame_bytes}

abbrev IsDigit : ℕ → Type 0
IsDigit byte = 48 ≤ byte

digit : (n : ℕ) → All IsDigit ((48 + n) ∷ [])
digit n = All-cons IsDigit (48 + n) [] (search rules) (All-nil IsDigit)

digits : (n : ℕ) → n < 2 ^ 64 → All IsDigit (decimal n)
digits n small = decimal_by_steps (λ m ds. All IsDigit ds) (λ m below. digit m) (λ m ds least so_far. All-append IsDigit ds ((48 + m % 10) ∷ []) so_far (digit (m % 10))) n small

no_digit : (byte : ℕ) → byte < 48 → IsDigit byte → ⊥
no_digit byte low high = search rules

head_of : (x y : ℕ) (xs ys : List ℕ) → x ∷ xs ≡ y ∷ ys → x ≡ y
head_of x y xs ys e = cc

tail_of : (x y : ℕ) (xs ys : List ℕ) → x ∷ xs ≡ y ∷ ys → xs ≡ ys
tail_of x y xs ys e = cc

-- digits end at the first byte that is none
parted : (sign : ℕ) → sign < 48 → (xs ys rest more : List ℕ) → All IsDigit xs → All IsDigit ys → xs ++ sign ∷ rest ≡ ys ++ sign ∷ more → (xs ≡ ys) × (rest ≡ more)
parted sign low [] [] rest more a b e = (refl, tail_of sign sign rest more e)
parted sign low [] (y ∷ ys) rest more a b e = absurd (no_digit y (subst (λ (byte : ℕ). byte < 48) (head_of sign y rest (ys ++ sign ∷ more) e) low) (All-head IsDigit y ys b))
parted sign low (x ∷ xs) [] rest more a b e = absurd (no_digit x (subst (λ (byte : ℕ). byte < 48) (sym (head_of x sign (xs ++ sign ∷ rest) more e)) low) (All-head IsDigit x xs a))
parted sign low (x ∷ xs) (y ∷ ys) rest more a b e =
    let behind = parted sign low xs ys rest more (All-tail IsDigit x xs a) (All-tail IsDigit y ys b) (tail_of x y (xs ++ sign ∷ rest) (ys ++ sign ∷ more) e) in
    (ap₂ (λ (z : ℕ) (zs : List ℕ). z ∷ zs) (head_of x y (xs ++ sign ∷ rest) (ys ++ sign ∷ more) e) behind.0, behind.1)

-- numbers end there too
numbers : (sign m n : ℕ) → sign < 48 → m < 2 ^ 64 → n < 2 ^ 64 → (rest more : List ℕ) → decimal m ++ sign ∷ rest ≡ decimal n ++ sign ∷ more → (m ≡ n) × (rest ≡ more)
numbers sign m n low one other rest more e =
    let both = parted sign low (decimal m) (decimal n) rest more (digits m one) (digits n other) e in
    (decimal_injective m n one other both.0, both.1)

-- as many bytes, and what stands behind them
as_many : (xs ys rest more : List ℕ) → length xs ≡ length ys → xs ++ rest ≡ ys ++ more → (xs ≡ ys) × (rest ≡ more)
as_many xs ys rest more same e = (
  sym (take-append_seam xs rest) ∙ ap (take (length xs)) e ∙ ap (λ n. take n (ys ++ more)) same ∙ take-append_seam ys more,
  sym (drop-append_seam xs rest) ∙ ap (drop (length xs)) e ∙ ap (λ n. drop n (ys ++ more)) same ∙ drop-append_seam ys more,
)

-- a frame with what stands behind it, its parts in a row
in_a_row : (frame : Frame) (rest : List ℕ) → frame_bytes frame ++ rest ≡ decimal frame.status ++ 32 ∷ (decimal (length frame.answer) ++ 32 ∷ (decimal (length frame.words) ++ 10 ∷ (frame.answer ++ (frame.words ++ rest))))
in_a_row frame rest = search (rules, append_assoc)

abbrev framed : ℕ → List ℕ → List ℕ → Frame
framed status answer words = record { status = status; answer = answer; words = words }

same_frame : (one other : Frame) → one.status ≡ other.status → one.answer ≡ other.answer → one.words ≡ other.words → one ≡ other
same_frame one other a b c = ap (λ s. framed s one.answer one.words) a ∙ ap (λ (t : List ℕ). framed other.status t one.words) b ∙ ap (λ (t : List ℕ). framed other.status other.answer t) c

pub told_apart : (one other : Frame) (rest more : List ℕ) → IsHeld one → IsHeld other → frame_bytes one ++ rest ≡ frame_bytes other ++ more → (one ≡ other) × (rest ≡ more)
told_apart one other rest more held kept e =
    let row = sym (in_a_row one rest) ∙ e ∙ in_a_row other more in
    let status = numbers 32 one.status other.status (search rules) held.0 kept.0 _ _ row in
    let answer = numbers 32 (length one.answer) (length other.answer) (search rules) held.1 kept.1 _ _ status.1 in
    let words = numbers 10 (length one.words) (length other.words) (search rules) held.2 kept.2 _ _ answer.1 in
    let answers = as_many one.answer other.answer (one.words ++ rest) (other.words ++ more) answer.0 words.1 in
    let ends = as_many one.words other.words rest more words.0 answers.1 in
    (same_frame one other status.0 answers.0 ends.0, ends.1)
