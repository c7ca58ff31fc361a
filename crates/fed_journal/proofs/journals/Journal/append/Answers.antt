use Rattle.std.proofs.Common.{◌≡◌, ◌∙◌, refl, sym, List, ℕ, ◌+◌, ◌++◌, length, map, arith, rules, Bor, vec_len}
use Rattle.std.proofs.lemmas.List.{length-map}
use Rattle.std.proofs.lemmas.Result.{err_from_is_err_and}
use Rattle.fed_journal.specs.Lines.{at_rest}
use Rattle.fed_journal.specs.Journal.{entries_in}
use Rattle.fed_journal.proofs.Appending.{first_step, second_step, kept_out, gate_closed, group_bytes, is_recovered, is_settled}
use Rattle.fed_journal.proofs.Failing.{stops_put, not_full, stops_gate, gate_not_full}
use Rattle.fed_journal.proofs.journals.Journal.append.Goals as goal
use Rattle.fed_journal.proofs.journals.Journal.append.Goals.{then-self-gt-MAX_BYTES-via-then-self-gt-MAX_BYTES, then-self-gt-MAX_BYTES-via-else-self-gt-MAX_BYTES+then-len-self}

pub returns-in_err-put-clause-any_moment : goal.returns-in_err-put-clause-any_moment
returns-in_err-put-clause-any_moment g c =
    let group = map (λ (text : Bor (List ℕ)). text.now) c.args.texts.now in
    first_step g.D.Device.moment g.D.Device.left_since g.D.Device.seen g.D.Device.may_leave c.args.self.now c.requires.settled group c.requires.lines _ (length-map c.args.texts.now (λ (text : Bor (List ℕ)). text.now)) (sym c.if-is_empty.ensures) c.deref.result.now (c.deref.ensures.value ∙ c.in_ok-group.ensures.bytes) c.put.new.device c.put.ensures.any_moment

pub returns-in_err-open_gate-clause-any_moment : goal.returns-in_err-open_gate-clause-any_moment
returns-in_err-open_gate-clause-any_moment g c =
    let group = map (λ (text : Bor (List ℕ)). text.now) c.args.texts.now in
    second_step g.D.Device.moment g.D.Device.left_since g.D.Device.seen g.D.Device.may_leave c.args.self.now c.requires.settled group c.requires.lines _ (length-map c.args.texts.now (λ (text : Bor (List ℕ)). text.now)) (sym c.if-is_empty.ensures) c.deref.result.now (c.deref.ensures.value ∙ c.in_ok-group.ensures.bytes) c.put.new.device c.open_gate.new.device c.in_ok-put.ensures.written c.put.ensures.any_moment c.open_gate.ensures.any_moment

pub returns-clause-any_moment : goal.returns-clause-any_moment
returns-clause-any_moment g c =
    let group = map (λ (text : Bor (List ℕ)). text.now) c.args.texts.now in
    second_step g.D.Device.moment g.D.Device.left_since g.D.Device.seen g.D.Device.may_leave c.args.self.now c.requires.settled group c.requires.lines _ (length-map c.args.texts.now (λ (text : Bor (List ℕ)). text.now)) (sym c.if-is_empty.ensures) c.deref.result.now (c.deref.ensures.value ∙ c.in_ok-group.ensures.bytes) c.put.new.device c.open_gate.new.device c.in_ok-put.ensures.written c.put.ensures.any_moment c.open_gate.ensures.any_moment

pub returns-clause-appended : goal.returns-clause-appended
returns-clause-appended g c =
    let group = map (λ (text : Bor (List ℕ)). text.now) c.args.texts.now in
    is_recovered g.D.Device.moment g.D.Device.left_since g.D.Device.seen g.D.Device.may_leave c.args.self.now c.requires.settled group c.requires.lines _ (length-map c.args.texts.now (λ (text : Bor (List ℕ)). text.now)) (sym c.if-is_empty.ensures) c.deref.result.now (c.deref.ensures.value ∙ c.in_ok-group.ensures.bytes) c.put.new.device c.open_gate.new.device c.in_ok-put.ensures.written c.in_ok-open_gate.ensures.written

pub returns-clause-acknowledged : goal.returns-clause-acknowledged
returns-clause-acknowledged g c =
    let group = map (λ (text : Bor (List ℕ)). text.now) c.args.texts.now in
    is_settled g.D.Device.moment g.D.Device.left_since g.D.Device.seen g.D.Device.may_leave c.args.self.now c.requires.settled group c.requires.lines _ (length-map c.args.texts.now (λ (text : Bor (List ℕ)). text.now)) (sym c.if-is_empty.ensures) c.deref.result.now (c.deref.ensures.value ∙ c.in_ok-group.ensures.bytes) c.put.new.device c.open_gate.new.device c.in_ok-put.ensures.written _ _ _ (omega (arith, c.len-2.ensures, c.deref.ensures.len)) refl c.in_ok-group.ensures.digest c.in_ok-open_gate.ensures.written c.in_ok-open_gate.ensures.durable

pub returns-then-self-gt-MAX_BYTES-clause-fault : goal.returns-then-self-gt-MAX_BYTES-clause-fault
returns-then-self-gt-MAX_BYTES-clause-fault g c =
    let group : List (List ℕ) = map (λ (text : Bor (List ℕ)). text.now) c.args.texts.now in
    let bytes : length (at_rest (entries_in (g.D.Device.seen c.args.self.now.device) ++ group)) ≡ c.args.self.now.gate + length c.in_ok-group.group.bytes.items =
    group_bytes g.D.Device.moment g.D.Device.left_since g.D.Device.seen g.D.Device.may_leave c.args.self.now c.requires.settled group c.requires.lines _ (length-map c.args.texts.now (λ (text : Bor (List ℕ)). text.now)) (sym c.if-is_empty.ensures) c.in_ok-group.group.bytes.items c.in_ok-group.ensures.bytes in
    let count : vec_len c.in_ok-group.group.bytes ≡ length c.in_ok-group.group.bytes.items = search rules in
    elim c.then-self-gt-MAX_BYTES.branch [
      | then-self-gt-MAX_BYTES-via-then-self-gt-MAX_BYTES w ↦ omega (arith, bytes, w.if-self-gt-MAX_BYTES.true)
      | then-self-gt-MAX_BYTES-via-else-self-gt-MAX_BYTES+then-len-self w ↦ omega (arith, bytes, count, w.len.ensures, w.if-len-self.true)
    ]

pub returns-in_err-put-clause-nothing : goal.returns-in_err-put-clause-nothing
returns-in_err-put-clause-nothing g c =
    let group = map (λ (text : Bor (List ℕ)). text.now) c.args.texts.now in
    let p = err_from_is_err_and c.from_residual-in_err-put.result c.from_residual-in_err-put.ensures.1 in
    rw p.1 (λ sure. kept_out g.D.Device.moment g.D.Device.left_since g.D.Device.seen g.D.Device.may_leave c.args.self.now c.requires.settled group c.requires.lines _ (length-map c.args.texts.now (λ (text : Bor (List ℕ)). text.now)) (sym c.if-is_empty.ensures) c.deref.result.now (c.deref.ensures.value ∙ c.in_ok-group.ensures.bytes) c.put.new.device c.put.ensures.any_moment)

pub returns-in_err-open_gate-clause-nothing : goal.returns-in_err-open_gate-clause-nothing
returns-in_err-open_gate-clause-nothing g c =
    let group = map (λ (text : Bor (List ℕ)). text.now) c.args.texts.now in
    let p = err_from_is_err_and c.from_residual-in_err-open_gate.result c.from_residual-in_err-open_gate.ensures.1 in
    rw (p.1, p.2) (λ sure. gate_closed g.D.Device.moment g.D.Device.left_since g.D.Device.seen g.D.Device.may_leave c.args.self.now c.requires.settled group c.requires.lines _ (length-map c.args.texts.now (λ (text : Bor (List ℕ)). text.now)) (sym c.if-is_empty.ensures) c.deref.result.now (c.deref.ensures.value ∙ c.in_ok-group.ensures.bytes) c.put.new.device c.open_gate.new.device _ _ _ c.put.ensures.any_moment c.in_err-open_gate.ensures.fault c.in_err-open_gate.ensures.untouched sure)

pub returns-in_err-put-clause-fault : goal.returns-in_err-put-clause-fault
returns-in_err-put-clause-fault g c =
    let p = err_from_is_err_and c.from_residual-in_err-put.result c.from_residual-in_err-put.ensures.1 in
    rw (p.1, p.2) (stops_put _ _ _ c.in_err-put.field-0.0 c.in_err-put.ensures.cause)

pub returns-in_err-put-clause-full : goal.returns-in_err-put-clause-full
returns-in_err-put-clause-full g c =
    let p = err_from_is_err_and c.from_residual-in_err-put.result c.from_residual-in_err-put.ensures.1 in
    rw (p.1, p.2) (λ full. absurd (not_full c.in_err-put.field-0.0 full))

pub returns-in_err-open_gate-clause-fault : goal.returns-in_err-open_gate-clause-fault
returns-in_err-open_gate-clause-fault g c =
    let p = err_from_is_err_and c.from_residual-in_err-open_gate.result c.from_residual-in_err-open_gate.ensures.1 in
    rw (p.1, p.2) (stops_gate _ _ _ _ c.in_err-open_gate.field-0.0 c.in_ok-put.ensures.cause c.in_err-open_gate.ensures.fault)

pub returns-in_err-open_gate-clause-full : goal.returns-in_err-open_gate-clause-full
returns-in_err-open_gate-clause-full g c =
    let p = err_from_is_err_and c.from_residual-in_err-open_gate.result c.from_residual-in_err-open_gate.ensures.1 in
    rw (p.1, p.2) (λ full. absurd (gate_not_full _ _ c.in_err-open_gate.field-0.0 c.in_err-open_gate.ensures.fault full))
