use Rattle.std.specs.Io.KnownBytes.{Consumes, IsAtEnd}
use Rattle.std.proofs.Common.{◌≡◌, ◌∙◌, ◌<◌, sym, subst, ℕ, List, [], ◌==◌, false, take, length, refl, rules}
use Rattle.std.proofs.lemmas.List.{take_at}
use Rattle.std.proofs.lemmas.List.Elements.{All-nil}
use Rattle.fed_journal.specs.Device.{LeavesOnly}
use Rattle.fed_journal.specs.Journal.{IsBeforeOrAfter, entries_in}
use Rattle.fed_site.specs.Journal.{kept_lines}
use Rattle.fed_home.specs.Home.{state_in, home_device, site_of}
use Rattle.fed_serve.specs.Inputs.{EndsLines, HasNoLineFeed, cut_line, lines_in}
use Rattle.fed_serve.specs.Served.{HasServed, StopsAt}
use Rattle.fed_serve.specs.declared.faults.ServeFault.TheVariants.{Read}
use Rattle.fed_serve.proofs.Groups.{consumes_none, consumes_start, keeps_same, moments_at_the_end, moments_kept, moments_of_a_chunk, moments_so_far, served_at_the_end, served_long, served_memory, served_open, served_read, served_stop, serving_more, serving_none}
use Rattle.fed_serve.proofs.InputLines.{Takes}
use Rattle.fed_serve.proofs.Stops.{at_the_end, never_long, whatever_fault}
use Rattle.fed_serve.proofs.serving.serve.Goals as goal

pub loop-init : goal.loop-init
loop-init g c = record {
  serving = serving_none c.args.frames g.D.Device.seen g.D.Device.may_leave g.D.Device.moment g.D.Device.left_since c.args.home.now (g.R.Read.remaining c.args.reader.now) (g.W.Write.contents c.args.writer.now) c.args.begun.now.items c.requires.open (λ file left. g.met.D.Device.only_now (home_device c.args.home.now) file left) c.requires.begun;
  room = search rules;
}

-- ---- no memory for a chunk
pub returns-in_err-chunk-clause-served : goal.returns-in_err-chunk-clause-served
returns-in_err-chunk-clause-served g c =
    served_memory c.args.frames g.D.Device.seen g.D.Device.may_leave g.D.Device.moment g.D.Device.left_since g.D.Device.errors c.args.home.now c.args.home.now (g.R.Read.remaining c.args.reader.now) (g.R.Read.remaining c.args.reader.now) (g.R.Read.remaining c.args.reader.now) c.args.begun.now.items c.args.begun.now.items [] c.args.begun.now.items (g.W.Write.contents c.args.writer.now) (g.W.Write.contents c.args.writer.now) c.from_residual.result
    (serving_none c.args.frames g.D.Device.seen g.D.Device.may_leave g.D.Device.moment g.D.Device.left_since c.args.home.now (g.R.Read.remaining c.args.reader.now) (g.W.Write.contents c.args.writer.now) c.args.begun.now.items c.requires.open (λ file left. g.met.D.Device.only_now (home_device c.args.home.now) file left) c.requires.begun)
    (consumes_start (g.R.Read.remaining c.args.reader.now)) c.from_residual.ensures.1

pub returns-in_err-chunk-clause-any_moment : goal.returns-in_err-chunk-clause-any_moment
returns-in_err-chunk-clause-any_moment g c =
    moments_kept c.args.frames g.D.Device.seen g.D.Device.may_leave g.D.Device.moment g.D.Device.left_since c.args.home.now c.args.home.now (g.R.Read.remaining c.args.reader.now) (g.R.Read.remaining c.args.reader.now) (g.R.Read.remaining c.args.reader.now) c.args.begun.now.items c.args.begun.now.items (g.W.Write.contents c.args.writer.now) (g.W.Write.contents c.args.writer.now)
    (serving_none c.args.frames g.D.Device.seen g.D.Device.may_leave g.D.Device.moment g.D.Device.left_since c.args.home.now (g.R.Read.remaining c.args.reader.now) (g.W.Write.contents c.args.writer.now) c.args.begun.now.items c.requires.open (λ file left. g.met.D.Device.only_now (home_device c.args.home.now) file left) c.requires.begun)
    (keeps_same (g.R.Read.remaining c.args.reader.now))

-- ---- a journal that is long
pub returns-then-journal_len-most_bytes-clause-served : goal.returns-then-journal_len-most_bytes-clause-served
returns-then-journal_len-most_bytes-clause-served g c =
    served_long c.args.frames g.D.Device.seen g.D.Device.may_leave g.D.Device.moment g.D.Device.left_since g.D.Device.errors c.args.home.now c.loop.home (g.R.Read.remaining c.args.reader.now) (g.R.Read.remaining c.loop.reader) c.args.begun.now.items c.loop.begun.items (g.W.Write.contents c.args.writer.now) (g.W.Write.contents c.loop.writer) c.loop.invariant.serving

pub returns-then-journal_len-most_bytes-clause-any_moment : goal.returns-then-journal_len-most_bytes-clause-any_moment
returns-then-journal_len-most_bytes-clause-any_moment g c = moments_kept c.args.frames g.D.Device.seen g.D.Device.may_leave g.D.Device.moment g.D.Device.left_since c.args.home.now c.loop.home (g.R.Read.remaining c.args.reader.now) (g.R.Read.remaining c.loop.reader) (g.R.Read.remaining c.loop.reader) c.args.begun.now.items c.loop.begun.items (g.W.Write.contents c.args.writer.now) (g.W.Write.contents c.loop.writer) c.loop.invariant.serving (keeps_same (g.R.Read.remaining c.loop.reader))

-- ---- the end of the input
pub returns-in-Ok-eq0-clause-paused : goal.returns-in-Ok-eq0-clause-paused
returns-in-Ok-eq0-clause-paused g c = never_long c.answer_cut.result (HasNoLineFeed c.answer_cut.new.begun.items) c.answer_cut.ensures.ended

pub returns-in-Ok-eq0-clause-long : goal.returns-in-Ok-eq0-clause-long
returns-in-Ok-eq0-clause-long g c = never_long c.answer_cut.result (c.args.most_bytes < length (g.D.Device.seen (home_device c.answer_cut.new.home))) c.answer_cut.ensures.ended

pub returns-in-Ok-eq0-clause-ended : goal.returns-in-Ok-eq0-clause-ended
returns-in-Ok-eq0-clause-ended g c = at_the_end c.answer_cut.result (IsAtEnd (g.R.Read.remaining c.read_chunk.new.reader)) (c.in-Ok-eq0.ensures.read.2 (search rules))

pub returns-in-Ok-eq0-clause-open : goal.returns-in-Ok-eq0-clause-open
returns-in-Ok-eq0-clause-open g c =
    served_open c.args.frames g.D.Device.seen g.D.Device.may_leave c.loop.home c.answer_cut.new.home (cut_line c.loop.begun.items) (g.W.Write.contents c.loop.writer) (g.W.Write.contents c.answer_cut.new.writer) c.answer_cut.result c.answer_cut.ensures.served

pub returns-in-Ok-eq0-clause-served : goal.returns-in-Ok-eq0-clause-served
returns-in-Ok-eq0-clause-served g c =
    let zero : c.in-Ok-eq0.field-0 ≡ 0 = search rules in
    let end : Consumes (g.R.Read.remaining c.loop.reader) (g.R.Read.remaining c.read_chunk.new.reader) [] = consumes_none (g.R.Read.remaining c.loop.reader) (g.R.Read.remaining c.read_chunk.new.reader) c.read_chunk.new.chunk c.in-Ok-eq0.field-0 zero c.in-Ok-eq0.ensures.read.1 in
    served_at_the_end c.args.frames g.D.Device.seen g.D.Device.may_leave g.D.Device.moment g.D.Device.left_since g.D.Device.errors g.met.D.Device.counts_now c.args.home.now c.loop.home c.answer_cut.new.home (g.R.Read.remaining c.args.reader.now) (g.R.Read.remaining c.loop.reader) (g.R.Read.remaining c.read_chunk.new.reader) c.args.begun.now.items c.loop.begun.items c.answer_cut.new.begun.items
    (g.W.Write.contents c.args.writer.now) (g.W.Write.contents c.loop.writer) (g.W.Write.contents c.answer_cut.new.writer) c.answer_cut.result c.loop.invariant.serving end (c.in-Ok-eq0.ensures.read.2 zero) c.answer_cut.ensures.taken
    c.answer_cut.ensures.ended c.answer_cut.ensures.served c.answer_cut.ensures.stopped c.answer_cut.ensures.any_moment

pub returns-in-Ok-eq0-clause-any_moment : goal.returns-in-Ok-eq0-clause-any_moment
returns-in-Ok-eq0-clause-any_moment g c =
    let zero : c.in-Ok-eq0.field-0 ≡ 0 = search rules in
    let end : Consumes (g.R.Read.remaining c.loop.reader) (g.R.Read.remaining c.read_chunk.new.reader) [] = consumes_none (g.R.Read.remaining c.loop.reader) (g.R.Read.remaining c.read_chunk.new.reader) c.read_chunk.new.chunk c.in-Ok-eq0.field-0 zero c.in-Ok-eq0.ensures.read.1 in
    moments_at_the_end c.args.frames g.D.Device.seen g.D.Device.may_leave g.D.Device.moment g.D.Device.left_since c.args.home.now c.loop.home c.answer_cut.new.home (g.R.Read.remaining c.args.reader.now) (g.R.Read.remaining c.loop.reader) (g.R.Read.remaining c.read_chunk.new.reader) c.args.begun.now.items c.loop.begun.items
    (g.W.Write.contents c.args.writer.now) (g.W.Write.contents c.loop.writer) c.loop.invariant.serving end (c.in-Ok-eq0.ensures.read.2 zero) c.answer_cut.ensures.any_moment

pub returns-in-Ok-eq0-clause-begun : goal.returns-in-Ok-eq0-clause-begun
returns-in-Ok-eq0-clause-begun g c = whatever_fault c.answer_cut.result (HasNoLineFeed c.answer_cut.new.begun.items) (subst HasNoLineFeed (sym c.answer_cut.ensures.taken) (All-nil (λ byte. (byte == 10) ≡ false)))

-- ---- faults
pub returns-in-Err-clause-served : goal.returns-in-Err-clause-served
returns-in-Err-clause-served g c =
    served_read c.args.frames g.D.Device.seen g.D.Device.may_leave g.D.Device.moment g.D.Device.left_since g.D.Device.errors c.args.home.now c.loop.home (g.R.Read.remaining c.args.reader.now) (g.R.Read.remaining c.loop.reader) (g.R.Read.remaining c.read_chunk.new.reader) c.args.begun.now.items c.loop.begun.items (g.W.Write.contents c.args.writer.now) (g.W.Write.contents c.loop.writer) c.in-Err.fault c.loop.invariant.serving c.in-Err.ensures.fault.2
    (c.in-Err.ensures.fault.0, c.in-Err.ensures.fault.1)

pub returns-in-Err-clause-any_moment : goal.returns-in-Err-clause-any_moment
returns-in-Err-clause-any_moment g c = moments_kept c.args.frames g.D.Device.seen g.D.Device.may_leave g.D.Device.moment g.D.Device.left_since c.args.home.now c.loop.home (g.R.Read.remaining c.args.reader.now) (g.R.Read.remaining c.loop.reader) (g.R.Read.remaining c.read_chunk.new.reader) c.args.begun.now.items c.loop.begun.items (g.W.Write.contents c.args.writer.now) (g.W.Write.contents c.loop.writer) c.loop.invariant.serving c.in-Err.ensures.fault.2

pub returns-in_err-lines-clause-served : goal.returns-in_err-lines-clause-served
returns-in_err-lines-clause-served g c =
    let came = take c.in-Ok.count c.deref.result.now in
    let room : length c.read_chunk.new.chunk ≡ c.loop.chunk.len = search rules in
    let same : c.read_chunk.new.chunk ≡ c.deref.result.now = sym (c.deref.ensures.value ∙ take_at c.read_chunk.new.chunk _ c.loop.chunk.len room) in
    let consumed : Consumes (g.R.Read.remaining c.loop.reader) (g.R.Read.remaining c.read_chunk.new.reader) came =
    subst (λ (bs : List ℕ). Consumes (g.R.Read.remaining c.loop.reader) (g.R.Read.remaining c.read_chunk.new.reader) (take c.in-Ok.count bs)) same c.in-Ok.ensures.read.1 in
    served_memory c.args.frames g.D.Device.seen g.D.Device.may_leave g.D.Device.moment g.D.Device.left_since g.D.Device.errors c.args.home.now c.loop.home (g.R.Read.remaining c.args.reader.now) (g.R.Read.remaining c.loop.reader) (g.R.Read.remaining c.read_chunk.new.reader) c.args.begun.now.items c.loop.begun.items came c.take_lines.new.begun.items (g.W.Write.contents c.args.writer.now) (g.W.Write.contents c.loop.writer) c.from_residual-in_err-lines.result c.loop.invariant.serving consumed
    c.from_residual-in_err-lines.ensures.1

pub returns-in_err-lines-clause-any_moment : goal.returns-in_err-lines-clause-any_moment
returns-in_err-lines-clause-any_moment g c =
    let came = take c.in-Ok.count c.deref.result.now in
    let room : length c.read_chunk.new.chunk ≡ c.loop.chunk.len = search rules in
    let same : c.read_chunk.new.chunk ≡ c.deref.result.now = sym (c.deref.ensures.value ∙ take_at c.read_chunk.new.chunk _ c.loop.chunk.len room) in
    let consumed : Consumes (g.R.Read.remaining c.loop.reader) (g.R.Read.remaining c.read_chunk.new.reader) came =
    subst (λ (bs : List ℕ). Consumes (g.R.Read.remaining c.loop.reader) (g.R.Read.remaining c.read_chunk.new.reader) (take c.in-Ok.count bs)) same c.in-Ok.ensures.read.1 in
    moments_so_far c.args.frames g.D.Device.seen g.D.Device.may_leave g.D.Device.moment g.D.Device.left_since c.args.home.now c.loop.home (g.R.Read.remaining c.args.reader.now) (g.R.Read.remaining c.loop.reader) (g.R.Read.remaining c.read_chunk.new.reader) c.args.begun.now.items c.loop.begun.items came (g.W.Write.contents c.args.writer.now) (g.W.Write.contents c.loop.writer) c.loop.invariant.serving consumed

pub returns-in-Err-answer_text-clause-served : goal.returns-in-Err-answer_text-clause-served
returns-in-Err-answer_text-clause-served g c =
    let came = take c.in-Ok.count c.deref.result.now in
    let room : length c.read_chunk.new.chunk ≡ c.loop.chunk.len = search rules in
    let same : c.read_chunk.new.chunk ≡ c.deref.result.now = sym (c.deref.ensures.value ∙ take_at c.read_chunk.new.chunk _ c.loop.chunk.len room) in
    let consumed : Consumes (g.R.Read.remaining c.loop.reader) (g.R.Read.remaining c.read_chunk.new.reader) came =
    subst (λ (bs : List ℕ). Consumes (g.R.Read.remaining c.loop.reader) (g.R.Read.remaining c.read_chunk.new.reader) (take c.in-Ok.count bs)) same c.in-Ok.ensures.read.1 in
    let takes : Takes c.loop.begun.items came c.in_ok-lines.lines.items c.take_lines.new.begun.items = record { lines = c.in_ok-lines.ensures.lines; whole = c.in_ok-lines.ensures.whole; none = c.in_ok-lines.ensures.begun } in
    let leaves = subst (λ (t : List ℕ). LeavesOnly g.D.Device.moment g.D.Device.left_since (home_device c.loop.home) (home_device c.answer_text.new.home)
    (IsBeforeOrAfter (entries_in (g.D.Device.seen (home_device c.loop.home))) (kept_lines (site_of c.loop.home).roster (state_in c.loop.home) (lines_in t)))) c.deref-in-loop.ensures.value c.answer_text.ensures.any_moment in
    let stopped = subst (λ (t : List ℕ). StopsAt c.args.frames g.D.Device.seen g.D.Device.errors g.D.Device.moment g.D.Device.left_since c.loop.home c.answer_text.new.home (lines_in t) (g.W.Write.contents c.loop.writer) (g.W.Write.contents c.answer_text.new.writer) c.in-Err-answer_text.fault)
    c.deref-in-loop.ensures.value c.in-Err-answer_text.ensures.stopped in
    served_stop c.args.frames g.D.Device.seen g.D.Device.may_leave g.D.Device.moment g.D.Device.left_since g.D.Device.errors g.met.D.Device.counts_now c.args.home.now c.loop.home c.answer_text.new.home (g.R.Read.remaining c.args.reader.now) (g.R.Read.remaining c.loop.reader) (g.R.Read.remaining c.read_chunk.new.reader) c.args.begun.now.items c.loop.begun.items came c.in_ok-lines.lines.items c.take_lines.new.begun.items
    (g.W.Write.contents c.args.writer.now) (g.W.Write.contents c.loop.writer) (g.W.Write.contents c.answer_text.new.writer) c.in-Err-answer_text.fault c.loop.invariant.serving takes consumed stopped leaves

pub returns-in-Err-answer_text-clause-any_moment : goal.returns-in-Err-answer_text-clause-any_moment
returns-in-Err-answer_text-clause-any_moment g c =
    let came = take c.in-Ok.count c.deref.result.now in
    let room : length c.read_chunk.new.chunk ≡ c.loop.chunk.len = search rules in
    let same : c.read_chunk.new.chunk ≡ c.deref.result.now = sym (c.deref.ensures.value ∙ take_at c.read_chunk.new.chunk _ c.loop.chunk.len room) in
    let consumed : Consumes (g.R.Read.remaining c.loop.reader) (g.R.Read.remaining c.read_chunk.new.reader) came =
    subst (λ (bs : List ℕ). Consumes (g.R.Read.remaining c.loop.reader) (g.R.Read.remaining c.read_chunk.new.reader) (take c.in-Ok.count bs)) same c.in-Ok.ensures.read.1 in
    let takes : Takes c.loop.begun.items came c.in_ok-lines.lines.items c.take_lines.new.begun.items = record { lines = c.in_ok-lines.ensures.lines; whole = c.in_ok-lines.ensures.whole; none = c.in_ok-lines.ensures.begun } in
    let leaves = subst (λ (t : List ℕ). LeavesOnly g.D.Device.moment g.D.Device.left_since (home_device c.loop.home) (home_device c.answer_text.new.home)
    (IsBeforeOrAfter (entries_in (g.D.Device.seen (home_device c.loop.home))) (kept_lines (site_of c.loop.home).roster (state_in c.loop.home) (lines_in t)))) c.deref-in-loop.ensures.value c.answer_text.ensures.any_moment in
    moments_of_a_chunk c.args.frames g.D.Device.seen g.D.Device.may_leave g.D.Device.moment g.D.Device.left_since c.args.home.now c.loop.home c.answer_text.new.home (g.R.Read.remaining c.args.reader.now) (g.R.Read.remaining c.loop.reader) (g.R.Read.remaining c.read_chunk.new.reader) c.args.begun.now.items c.loop.begun.items came c.in_ok-lines.lines.items c.take_lines.new.begun.items
    (g.W.Write.contents c.args.writer.now) (g.W.Write.contents c.loop.writer) c.loop.invariant.serving takes consumed leaves

pub returns-in-Err-answer_text-clause-begun : goal.returns-in-Err-answer_text-clause-begun
returns-in-Err-answer_text-clause-begun g c = λ cause is. c.in_ok-lines.ensures.begun

-- ---- a chunk more
pub answer_text-requires-clause-whole : goal.answer_text-requires-clause-whole
answer_text-requires-clause-whole g c = subst EndsLines (sym c.deref-in-loop.ensures.value) c.in_ok-lines.ensures.whole

pub loop-preserved : goal.loop-preserved
loop-preserved g c =
    let came = take c.in-Ok.count c.deref.result.now in
    let room : length c.read_chunk.new.chunk ≡ c.loop.chunk.len = search rules in
    let same : c.read_chunk.new.chunk ≡ c.deref.result.now = sym (c.deref.ensures.value ∙ take_at c.read_chunk.new.chunk _ c.loop.chunk.len room) in
    let consumed : Consumes (g.R.Read.remaining c.loop.reader) (g.R.Read.remaining c.read_chunk.new.reader) came =
    subst (λ (bs : List ℕ). Consumes (g.R.Read.remaining c.loop.reader) (g.R.Read.remaining c.read_chunk.new.reader) (take c.in-Ok.count bs)) same c.in-Ok.ensures.read.1 in
    let takes : Takes c.loop.begun.items came c.in_ok-lines.lines.items c.take_lines.new.begun.items = record { lines = c.in_ok-lines.ensures.lines; whole = c.in_ok-lines.ensures.whole; none = c.in_ok-lines.ensures.begun } in
    let leaves = subst (λ (t : List ℕ). LeavesOnly g.D.Device.moment g.D.Device.left_since (home_device c.loop.home) (home_device c.answer_text.new.home)
    (IsBeforeOrAfter (entries_in (g.D.Device.seen (home_device c.loop.home))) (kept_lines (site_of c.loop.home).roster (state_in c.loop.home) (lines_in t)))) c.deref-in-loop.ensures.value c.answer_text.ensures.any_moment in
    record {
      serving = serving_more c.args.frames g.D.Device.seen g.D.Device.may_leave g.D.Device.moment g.D.Device.left_since c.args.home.now c.loop.home c.answer_text.new.home (g.R.Read.remaining c.args.reader.now) (g.R.Read.remaining c.loop.reader) (g.R.Read.remaining c.read_chunk.new.reader) c.args.begun.now.items c.loop.begun.items came c.in_ok-lines.lines.items c.take_lines.new.begun.items
          (g.W.Write.contents c.args.writer.now) (g.W.Write.contents c.loop.writer) (g.W.Write.contents c.answer_text.new.writer) c.loop.invariant.serving takes consumed
          (subst (λ (t : List ℕ). HasServed c.args.frames g.D.Device.seen g.D.Device.may_leave c.loop.home c.answer_text.new.home (lines_in t) (g.W.Write.contents c.loop.writer) (g.W.Write.contents c.answer_text.new.writer)) c.deref-in-loop.ensures.value c.in_default.ensures.served)
          leaves;
      room = search rules;
    }

pub returns-clause-served : goal.returns-clause-served
returns-clause-served g c =
    served_read c.args.frames g.D.Device.seen g.D.Device.may_leave g.D.Device.moment g.D.Device.left_since g.D.Device.errors c.args.home.now c.loop.home (g.R.Read.remaining c.args.reader.now) (g.R.Read.remaining c.loop.reader) (g.R.Read.remaining c.loop.reader) c.args.begun.now.items c.loop.begun.items (g.W.Write.contents c.args.writer.now) (g.W.Write.contents c.loop.writer) (Read c.into.result) c.loop.invariant.serving (keeps_same (g.R.Read.remaining c.loop.reader)) (c.into.result, refl)

pub returns-clause-any_moment : goal.returns-clause-any_moment
returns-clause-any_moment g c = moments_kept c.args.frames g.D.Device.seen g.D.Device.may_leave g.D.Device.moment g.D.Device.left_since c.args.home.now c.loop.home (g.R.Read.remaining c.args.reader.now) (g.R.Read.remaining c.loop.reader) (g.R.Read.remaining c.loop.reader) c.args.begun.now.items c.loop.begun.items (g.W.Write.contents c.args.writer.now) (g.W.Write.contents c.loop.writer) c.loop.invariant.serving (keeps_same (g.R.Read.remaining c.loop.reader))
