-- Words that stand in a fixed number, each read in its own way.
use Rattle.std.specs.Prelude.{ℕ, List, [], ◌∷◌, Option, Some, None, option_map}
use Rattle.std.specs.Option.{option_and_then}

-- what one word says, if it can be read
abbrev pub Reads : Type 0 → Type 0
Reads A = List ℕ → Option A

-- what words say, if they can be read
abbrev pub Form : Type 0 → Type 0
Form C = List (List ℕ) → Option C

-- what is said of what is there, if anything is
infixl 10 ◌>>=◌
abbrev pub ◌>>=◌ : {A B : Type 0} → Option A → (A → Option B) → Option B
o >>= f = option_and_then f o

-- the words, where they are one, two, three or four
abbrev pub one_word : Form (List ℕ)
one_word (a ∷ []) = Some a
one_word _ = None

abbrev pub two_words : Form (List ℕ × List ℕ)
two_words (a ∷ b ∷ []) = Some (a, b)
two_words _ = None

abbrev pub three_words : Form (List ℕ × List ℕ × List ℕ)
three_words (a ∷ b ∷ c ∷ []) = Some (a, b, c)
three_words _ = None

abbrev pub four_words : Form (List ℕ × List ℕ × List ℕ × List ℕ)
four_words (a ∷ b ∷ c ∷ d ∷ []) = Some (a, b, c, d)
four_words _ = None

-- what is made of what exactly so many words say
abbrev pub one : {A Z : Type 0} → Reads A → (A → Z) → Form Z
one f make words = one_word words >>= λ w. option_map make (f w)

abbrev pub two : {A B Z : Type 0} → Reads A → Reads B → (A → B → Z) → Form Z
two f g make words = two_words words >>= λ w. f w.0 >>= λ a. option_map (make a) (g w.1)

abbrev pub three : {A B C Z : Type 0} → Reads A → Reads B → Reads C → (A → B → C → Z) → Form Z
three f g h make words =
    three_words words >>= λ w. f w.0 >>= λ a. g w.1 >>= λ b. option_map (make a b) (h w.2)

abbrev pub four : {A B C D Z : Type 0} → Reads A → Reads B → Reads C → Reads D → (A → B → C → D → Z) → Form Z
four f g h k make words =
    four_words words >>= λ w. f w.0 >>= λ a. g w.1 >>= λ b. h w.2 >>= λ c. option_map (make a b c) (k w.3)
