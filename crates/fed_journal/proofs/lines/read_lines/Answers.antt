use Rattle.std.proofs.Common.{◌≡◌, ◌∙◌, sym, ap, subst, refl, false, List, ℕ, ◌+◌, [], ◌∷◌, ◌++◌, length, arith, rules, Err}
use Rattle.std.specs.List.{All}
use Rattle.std.proofs.lemmas.List.{length_push, length-map, length-append}
use Rattle.std.proofs.lemmas.List.Elements.{All-push}
use Rattle.fed_journal.specs.Lines.{IsLine, first_digest, is_closed, last_digest, digest_of, line_of, open_lines, texts_of}
use Rattle.fed_journal.proofs.Reading.{IsBroken, broken_end, broken_line, last_digest-append, line_text, read_more, recovered_broken, some_file, texts-push}
use Rattle.fed_journal.proofs.lines.read_lines.Goals as goal

pub returns-in_default-clause-fault : goal.returns-in_default-clause-fault
returns-in_default-clause-fault c =
    let inv = c.loop-alloc.invariant in
    let texts = texts_of c.loop-alloc.entries.items in
    let count : length texts + 1 ≡ c.len.result + 1 = ap (λ (n : ℕ). n + 1) (length-map c.loop-alloc.entries.items (λ e. e.items) ∙ search rules) in
    let shut : is_closed c.loop-alloc.rest.now ≡ false = search rules in
    let broken : IsBroken (last_digest first_digest texts) c.loop-alloc.rest.now = broken_end (last_digest first_digest texts) c.loop-alloc.rest.now shut c.in_default.ensures in
    recovered_broken texts c.args.file.now c.loop-alloc.rest.now inv.lines (some_file c.args.file.now _ refl (sym c.if-is_empty.ensures)) inv.split broken ∙ ap Err count

pub returns-in_default-read_line-clause-fault : goal.returns-in_default-read_line-clause-fault
returns-in_default-read_line-clause-fault c =
    let inv = c.loop-alloc.invariant in
    let texts = texts_of c.loop-alloc.entries.items in
    let front = c.in-Some.front.now in
    let more = c.in-Some.more.now in
    let count : length texts + 1 ≡ c.len.result + 1 = ap (λ (n : ℕ). n + 1) (length-map c.loop-alloc.entries.items (λ e. e.items) ∙ search rules) in
    let shut : is_closed c.loop-alloc.rest.now ≡ false = search rules in
    let broken : IsBroken c.loop-alloc.digest (front ++ 10 ∷ more) = broken_line c.loop-alloc.digest front more (ap is_closed (sym c.in-Some.ensures.0) ∙ shut) c.in-Some.ensures.1 c.in_default-read_line.ensures in
    recovered_broken texts c.args.file.now (front ++ 10 ∷ more) inv.lines (some_file c.args.file.now _ refl (sym c.if-is_empty.ensures)) (inv.split ∙ ap (λ (l : List ℕ). open_lines first_digest texts ++ l) c.in-Some.ensures.0)
    (subst (λ (d : List ℕ). IsBroken d (front ++ 10 ∷ more)) inv.last broken) ∙ ap Err count

pub loop-alloc-preserved : goal.loop-alloc-preserved
loop-alloc-preserved c =
    let inv = c.loop-alloc.invariant in
    let entries = c.loop-alloc.entries.items in
    let texts = texts_of entries in
    let entry = c.in_ok-to_vec.field-0 in
    let read = c.in-Some-read_line.entry in
    let front = c.in-Some.front.now in
    let more = c.in-Some.more.now in
    let text : entry.items ≡ read.text.now = search rules in
    let pushed : c.push.new.self.items ≡ entries ++ entry ∷ [] = search rules in
    let now : texts_of c.push.new.self.items ≡ texts ++ read.text.now ∷ [] = ap texts_of pushed ∙ texts-push entries entry ∙ ap (λ (t : List ℕ). texts ++ t ∷ []) text in
    let line : front ≡ line_of (last_digest first_digest texts) read.text.now = c.in-Some-read_line.ensures.0 ∙ ap (λ (d : List ℕ). line_of d read.text.now) inv.last in
    let next : read.digest ≡ last_digest first_digest (texts ++ read.text.now ∷ []) =
    c.in-Some-read_line.ensures.1 ∙ ap (λ (d : List ℕ). digest_of d read.text.now) inv.last ∙ sym (last_digest-append first_digest texts (read.text.now ∷ [])) in
    record {
      split =
          inv.split ∙ read_more first_digest texts read.text.now c.loop-alloc.rest.now more (c.in-Some.ensures.0 ∙ ap (λ (l : List ℕ). l ++ 10 ∷ more) line)
          ∙ ap (λ (ts : List (List ℕ)). open_lines first_digest ts ++ more) (sym now);
      lines =
          subst (All IsLine) (sym now)
          (All-push IsLine texts read.text.now inv.lines (line_text (last_digest first_digest texts) read.text.now (subst IsLine line c.in-Some.ensures.1)));
      last = next ∙ ap (λ (ts : List (List ℕ)). last_digest first_digest ts) (sym now);
      count = omega (arith, inv.count, ap length pushed, length_push entries entry, ap length c.in-Some.ensures.0, length-append front (10 ∷ more));
    }
