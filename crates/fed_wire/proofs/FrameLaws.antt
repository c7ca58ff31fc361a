-- Packets without their jobs, between whose first bytes and last the jobs are printed.
use Rattle.std.specs.Str.{IsUtf8, IsCharBoundary}
use Rattle.std.specs.Cmp.Lexicographic.{slice_cmp}
use Rattle.std.specs.Ordering.{nat_cmp}
use Rattle.std.specs.declared.cmp.Ordering.TheVariants.{Greater}
use Rattle.std.specs.Prelude.{codes, decimal, slice_index}
use Rattle.std.proofs.Common.{◌≡◌, ℕ, ◌≤◌, ◌<◌, length, drop, take, List, [], ◌∷◌, ◌++◌, Bool, true, false, Option, Some, None, option_map, option_and_then, map, refl, sym, ap, ◌∙◌, arith, append_assoc, subst}
use Rattle.std.proofs.lemmas.Str.{IsUtf8-append, IsUtf8-drop}
use Rattle.std.specs.Fmt.{digits}
use Rattle.json.specs.Json as json
use Rattle.json.specs.Print.{escape_byte}
use Rattle.json.proofs.Printed.Utf8.{IsUtf8-are_ascii}
use Rattle.serde_json.specs.Data.{Data, number, unsigned, array, null, object, Items, no_items, Members, no_members, member, put}
use Rattle.serde_json.specs.Read.{of_json, of_members}
use Rattle.serde_json.specs.Written.{outline, members_outline, compact_text, items_text, members_text}
use Rattle.serde_json.specs.View.{items_of}
use Rattle.fed_json.specs.Objects.{members_from}
use Rattle.fed_json.specs.Values.{list_value}
use Rattle.fed_job_json.specs.declared.formats.Format.TheVariants.{Two}
use Rattle.fed_job_json.specs.Job.{job_value}
use Rattle.fed_job_json.specs.Stamps.{version_value}
use Rattle.fed_wire.specs.Packet.{tells_retired, number_from, with_retired, sender_member, packet_value}
use Rattle.fed_delta.specs.Packet.{PacketValue}
use Rattle.fed_wire.specs.Reservations.{reservation_value}
use Rattle.fed_wire.specs.Printed.{IsPrinted, ArePrinted, without_jobs}

-- ---- members behind the first two

abbrev format_name : List ℕ
format_name = codes "format"

abbrev jobs_name : List ℕ
jobs_name = codes "jobs"

-- the first two members, before others
abbrev before : Data → Data → Members → Members
before f j ms = member format_name f (member jobs_name j ms)

-- the names come behind those of the first two
abbrev AreBehind : json.Members → Type 0
AreBehind json.no_members = Unit {0}
AreBehind (json.member k j ms) = (slice_cmp nat_cmp k format_name ≡ Greater) × (slice_cmp nat_cmp k jobs_name ≡ Greater) × AreBehind ms

put_behind : (k : List ℕ) (d f j : Data) (ms : Members) → slice_cmp nat_cmp k format_name ≡ Greater → slice_cmp nat_cmp k jobs_name ≡ Greater → put k d (before f j ms) ≡ before f j (put k d ms)
put_behind k d f j ms p q = rw (p, q) refl

read_behind : (js : json.Members) (f j : Data) (ms : Members) → AreBehind js → of_members js (before f j ms) ≡ option_map (before f j) (of_members js ms)
read_behind json.no_members f j ms h = refl
read_behind (json.member k v js) f j ms h = go (of_json v) (λ d. read_behind js f j (put k d ms) h.2)
  where
    go : (o : Option Data) → ((d : Data) → of_members js (before f j (put k d ms)) ≡ option_map (before f j) (of_members js (put k d ms)))
        → option_and_then (λ d. of_members js (put k d (before f j ms))) o ≡ option_map (before f j) (option_and_then (λ d. of_members js (put k d ms)) o)
    go None rest = refl
    go (Some d) rest = ap (of_members js) (put_behind k d f j ms h.0 h.1) ∙ rest d

-- the members of a packet, each where it is read
abbrev chain : Option Data → Option Data → Option Members → Option Data
chain f j ms = option_map object (option_and_then (λ f. option_and_then (λ j. option_map (before f j) ms) j) f)

-- with other jobs
abbrev with_jobs : Data → Data → Data
with_jobs jobs (object (member k f (member l j ms))) = object (member k f (member l jobs ms))
with_jobs jobs _ = null

swap : (f : Option Data) (ms : Option Members) (j jobs all : Data) → chain f (Some j) ms ≡ Some all → chain f (Some jobs) ms ≡ Some (with_jobs jobs all)
swap (Some f) (Some ms) j jobs all e = ap (option_map (with_jobs jobs)) e
swap None ms j jobs all e = absurd cc
swap (Some f) None j jobs all e = absurd cc

-- an ASCII byte begins a character
ascii_at : (bs : List ℕ) (i x : ℕ) → i ≤ length bs → slice_index bs i ≡ x → x < 128 → IsCharBoundary bs i
ascii_at bs i x within e small = (within, λ below high. absurd (omega arith))

-- what is before the jobs, where the format's number is one digit
abbrev head : ℕ → List ℕ
head digit = codes "{\"format\":" ++ digit ∷ codes ",\"jobs\":["

module _ (n digit : ℕ) (said : decimal n ≡ digit ∷ []) (ascii : IsUtf8 (head digit)) (k : List ℕ) (d : Data) (others : Members) (behind : AreBehind (members_outline (member k d others))) where
  abbrev after_jobs : Members
  after_jobs = member k d others

  abbrev frame : Items → Data
  frame jobs = object (before (number (unsigned n)) (array jobs) after_jobs)

  abbrev last : List ℕ
  last = members_text true after_jobs

  frame_text : (jobs : Items) → compact_text (frame jobs) ≡ head digit ++ (items_text false jobs ++ last)
  unfolding escape_byte
  frame_text jobs = ap (λ t. codes "{\"format\":" ++ (t ++ (codes ",\"jobs\":[" ++ (items_text false jobs ++ last)))) said

  frame_utf8 : (jobs : Items) → IsUtf8 (compact_text (frame no_items)) → IsUtf8 (items_text false jobs) → IsUtf8 (compact_text (frame jobs))
  frame_utf8 jobs h k =
      let bs : List ℕ = head digit ++ (93 ∷ last) in
      let whole : IsUtf8 bs = subst IsUtf8 (frame_text no_items) h in
      let rest : IsUtf8 last = IsUtf8-drop bs 21 whole (ascii_at bs 21 44 (omega arith) refl (omega arith)) in
      subst IsUtf8 (sym (frame_text jobs)) (IsUtf8-append (head digit) _ ascii (IsUtf8-append (items_text false jobs) last k rest))

  abbrev behind_read : Option Members
  behind_read = of_members (members_outline after_jobs) no_members

  frame_read : (jobs : Items) → of_json (outline (frame jobs)) ≡ chain (of_json (outline (number (unsigned n)))) (of_json (outline (array jobs))) behind_read
  frame_read jobs = go (of_json (outline (number (unsigned n)))) (of_json (outline (array jobs)))
    where
      go : (f j : Option Data) → option_map object (option_and_then (λ f. option_and_then (λ j. of_members (members_outline after_jobs) (before f j no_members)) j) f) ≡ chain f j behind_read
      go None j = refl
      go (Some f) None = refl
      go (Some f) (Some j) = ap (option_map object) (read_behind (members_outline after_jobs) f j no_members behind)

  frame_back : (jobs : Items) → of_json (outline (frame no_items)) ≡ Some (frame no_items) → of_json (outline (array jobs)) ≡ Some (array jobs) → of_json (outline (frame jobs)) ≡ Some (frame jobs)
  frame_back jobs h k =
      let f = of_json (outline (number (unsigned n))) in
      frame_read jobs ∙ ap (λ j. chain f j behind_read) k ∙ swap f behind_read (array no_items) (array jobs) (frame no_items) (sym (frame_read no_items) ∙ h)

  framed : (jobs : Items) → IsPrinted (frame no_items) → ArePrinted jobs → IsPrinted (frame jobs)
  framed jobs h all = record {
    utf8 = frame_utf8 jobs h.utf8 (all.utf8 false);
    numbers = (h.numbers.0, (all.numbers, h.numbers.1.1));
    back = frame_back jobs h.back (rw all.back refl);
  }

  -- the jobs between the first bytes and the last
  between : (jobs : Items) (all first more text : List ℕ) → all ≡ compact_text (frame no_items) → first ≡ take 20 all → more ++ 93 ∷ [] ≡ first ++ items_text false jobs → text ≡ more ++ drop 20 all → text ≡ compact_text (frame jobs)
  between jobs all first more text e f m t =
      let whole : all ≡ head digit ++ (93 ∷ last) = e ∙ frame_text no_items in
      let opens : first ≡ head digit = f ∙ ap (take 20) whole in
      t ∙ ap (λ bs. more ++ drop 20 bs) whole
      ∙ sym (append_assoc more (93 ∷ []) last)
      ∙ ap (λ bs. bs ++ last) (m ∙ ap (λ bs. bs ++ items_text false jobs) opens)
      ∙ append_assoc (head digit) (items_text false jobs) last
      ∙ sym (frame_text jobs)

  fits : (all : List ℕ) → all ≡ compact_text (frame no_items) → 20 ≤ length all
  fits all e = let same : length all ≡ length (head digit ++ (93 ∷ last)) = ap length (e ∙ frame_text no_items) in omega (arith, same)

-- ---- of a packet

abbrev digit_of : Bool → ℕ
digit_of false = 50
digit_of true = 51

digit_said : (told : Bool) → decimal (number_from Two told) ≡ digit_of told ∷ []
unfolding digits
digit_said false = refl
digit_said true = refl

head_ascii : (told : Bool) → IsUtf8 (head (digit_of told))
head_ascii false = IsUtf8-are_ascii (head 50) refl
head_ascii true = IsUtf8-are_ascii (head 51) refl

module _ (p : PacketValue) where
  abbrev told : Bool
  told = tells_retired p.delta.changes.retired

  -- the members behind what is needed
  abbrev others : Bool → Members
  others told = members_from ((codes "reached", version_value p.delta.changes.version) ∷ (codes "reservations", list_value (map reservation_value p.delta.changes.reservations)) ∷ with_retired told p.delta.changes.retired (sender_member p))

  behind : (told : Bool) → AreBehind (members_outline (member (codes "need") (version_value p.delta.need) (others told)))
  behind false = (refl, refl, (refl, refl, (refl, refl, (refl, refl, tt))))
  behind true = (refl, refl, (refl, refl, (refl, refl, (refl, refl, (refl, refl, tt)))))

  pub packet_fits : (all : List ℕ) → all ≡ compact_text (packet_value Two (without_jobs p)) → 20 ≤ length all
  packet_fits = fits (number_from Two told) (digit_of told) (digit_said told) (head_ascii told) (codes "need") (version_value p.delta.need) (others told) (behind told)

  pub packet_between : (all first more text : List ℕ) → all ≡ compact_text (packet_value Two (without_jobs p)) → first ≡ take 20 all
      → more ++ 93 ∷ [] ≡ first ++ items_text false (items_of (map (job_value Two) p.delta.changes.jobs)) → text ≡ more ++ drop 20 all → text ≡ compact_text (packet_value Two p)
  packet_between = between (number_from Two told) (digit_of told) (digit_said told) (head_ascii told) (codes "need") (version_value p.delta.need) (others told) (behind told) (items_of (map (job_value Two) p.delta.changes.jobs))

  pub packet_framed : IsPrinted (packet_value Two (without_jobs p)) → ArePrinted (items_of (map (job_value Two) p.delta.changes.jobs)) → IsPrinted (packet_value Two p)
  packet_framed = framed (number_from Two told) (digit_of told) (digit_said told) (head_ascii told) (codes "need") (version_value p.delta.need) (others told) (behind told) (items_of (map (job_value Two) p.delta.changes.jobs))
