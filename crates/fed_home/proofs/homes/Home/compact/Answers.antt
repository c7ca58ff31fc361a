use Rattle.std.specs.Borrow.{Bor}
use Rattle.std.specs.List.{All}
use Rattle.std.proofs.Common.{◌≡◌, ◌∙◌, ℕ, List, Ok, true, false, map, length, min, ap, sym, subst, inl, inr, arith}
use Rattle.std.below.core.specs.declared.int.usize.TheConstants.{MAX}
use Rattle.fed_journal.specs.Journal.{entries_of}
use Rattle.fed_journal.specs.Lines.{IsLine, at_rest, texts_of}
use Rattle.fed_home.specs.Compaction.{AreOfAnother}
use Rattle.fed_home.specs.Replay.{replayed_of}
use Rattle.fed_home.proofs.Compacting.{done_short, still_stands}
use Rattle.fed_home.proofs.Entries.{length-texts_of}
use Rattle.fed_home.proofs.homes.Home.compact.Goals as goal
use Rattle.fed_home.proofs.homes.Home.compact.Goals.{then-not-are_lines-via-then-not-are_lines, then-not-are_lines-via-else-not-are_lines+in_ok-stand_for+then-not-branch}

pub returns-then-bytes-most_bytes-clause-any_moment : goal.returns-then-bytes-most_bytes-clause-any_moment
returns-then-bytes-most_bytes-clause-any_moment g c = still_stands g.D.Device.moment g.D.Device.left_since g.D.Device.seen g.D.Device.may_leave c.args.self.now c.requires (λ file left_file left. g.met.D.Device.only_now file left_file left)

pub returns-in_err-lines-clause-any_moment : goal.returns-in_err-lines-clause-any_moment
returns-in_err-lines-clause-any_moment g c = still_stands g.D.Device.moment g.D.Device.left_since g.D.Device.seen g.D.Device.may_leave c.args.self.now c.requires (λ file left_file left. g.met.D.Device.only_now file left_file left)

pub returns-in_err-stand_for-clause-any_moment : goal.returns-in_err-stand_for-clause-any_moment
returns-in_err-stand_for-clause-any_moment g c = still_stands g.D.Device.moment g.D.Device.left_since g.D.Device.seen g.D.Device.may_leave c.args.self.now c.requires (λ file left_file left. g.met.D.Device.only_now file left_file left)

pub returns-then-not-are_lines-clause-any_moment : goal.returns-then-not-are_lines-clause-any_moment
returns-then-not-are_lines-clause-any_moment g c = still_stands g.D.Device.moment g.D.Device.left_since g.D.Device.seen g.D.Device.may_leave c.args.self.now c.requires (λ file left_file left. g.met.D.Device.only_now file left_file left)

pub returns-then-not-are_lines-clause-unread : goal.returns-then-not-are_lines-clause-unread
returns-then-not-are_lines-clause-unread g c = λ unread.
    let now : Bor (List ℕ) → List ℕ = λ line. line.now in
    let told : map now c.deref-3.result.now ≡ texts_of c.in_ok-entries.entries.items =
    ap (map now) c.deref-3.ensures.value ∙ c.in_ok-lines.ensures ∙ ap texts_of c.deref-2.ensures.value in (
      texts_of c.in_ok-entries.entries.items,
      c.in_ok-entries.ensures.are,
      elim c.then-not-are_lines.branch [
        | then-not-are_lines-via-then-not-are_lines w ↦ inl (λ all.
            let yes : c.are_lines.result ≡ true = c.are_lines.ensures.1 (subst (All IsLine) (sym told) all) in
            let no : true ≡ false = sym yes ∙ w.if-not-are_lines.true in
            cc)
        | then-not-are_lines-via-else-not-are_lines+in_ok-stand_for+then-not-branch w ↦ inr (
            subst (λ es. AreOfAnother (replayed_of c.args.self.now.site) (texts_of es)) w.deref-else-not-are_lines.ensures.value (w.in_ok-stand_for.ensures.apart w.if-not-branch.true))
      ],
    )

pub returns-in-Done-clause-short : goal.returns-in-Done-clause-short
returns-in-Done-clause-short g c = λ done.
    let now : Bor (List ℕ) → List ℕ = λ line. line.now in
    let told : map now c.deref-4.result.now ≡ texts_of c.in_ok-entries.entries.items =
    ap (map now) c.deref-4.ensures.value ∙ c.in_ok-lines.ensures ∙ ap texts_of c.deref-2.ensures.value in
    let found = c.in_ok-replace.ensures.replaced c.in-Done.is ∙ ap Ok told in
    let few = c.in_ok-entries.ensures.short in
    omega (arith, ap (λ r. length (entries_of r)) found, length-texts_of c.in_ok-entries.entries.items, few)

pub returns-in-Done-clause-done : goal.returns-in-Done-clause-done
returns-in-Done-clause-done g c = λ done.
    let now : Bor (List ℕ) → List ℕ = λ line. line.now in
    let told : map now c.deref-4.result.now ≡ texts_of c.in_ok-entries.entries.items =
    ap (map now) c.deref-4.ensures.value ∙ c.in_ok-lines.ensures ∙ ap texts_of c.deref-2.ensures.value in
    done_short (g.D.Device.seen c.replace.new.self.device) (texts_of c.in_ok-entries.entries.items) c.bytes_of-bytes.result c.args.most_bytes c.file_len-bytes.result MAX
    c.in_ok-replace.ensures.settled.file (c.in_ok-replace.ensures.replaced c.in-Done.is ∙ ap Ok told)
    (c.bytes_of-bytes.ensures ∙ ap (λ es. min (length (at_rest (texts_of es))) MAX) c.deref.ensures.value) (omega arith) c.file_len-bytes.ensures (omega arith)
