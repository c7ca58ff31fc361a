use Rattle.std.proofs.Common.{◌≡◌, ℕ, List, [], Ok, Err, ◌==◌, false, subst, sym, rules}
use Rattle.std.proofs.lemmas.List.Elements.{All-nil}
use Rattle.fed_home.specs.Home.{site_of, state_in}
use Rattle.fed_serve.specs.Inputs.{HasNoLineFeed}
use Rattle.fed_serve.specs.declared.faults.ServeFault.TheVariants.{NotKept}
use Rattle.fed_serve.specs.declared.serving.Served.TheVariants.{Ended, Long}
use Rattle.fed_serve.proofs.GoingOn.{IsGoing, compacted_as, counted_as, ended_as, failed_again_as, going_none, lost_again_as, none_long, none_lost, stopped_as, unopened_failed_as, unopened_lost_as}
use Rattle.fed_serve.proofs.openings.serve_all.Goals as goal
use Rattle.fed_serve.proofs.openings.serve_all.Goals.{in-Ok-Long+else-compacted, in-Err-NotKept}

pub loop-init : goal.loop-init
loop-init g c =
    let home = c.args.home in
    let had = g.R.Read.remaining c.args.reader.now in
    let out = g.W.Write.contents c.args.writer.now in
    let empty : c.new-begun.result.items ≡ [] = search rules in
    record {
      is_open = c.requires;
      none = subst HasNoLineFeed (sym empty) (All-nil (λ byte. (byte == 10) ≡ false));
      going = λ trusted. subst (λ (bs : List ℕ). IsGoing c.args.frames (site_of home).roster (state_in home) had had bs (site_of home).roster (state_in home) out out) (sym empty) (going_none c.args.frames (site_of home).roster (state_in home) had out);
    }

pub returns-in-Ok-Ended-clause-served : goal.returns-in-Ok-Ended-clause-served
returns-in-Ok-Ended-clause-served g c =
    let ended : c.serve-end.result ≡ Ok Ended = search rules in
    λ trusted. ended_as c.args.frames g.D.Device.seen g.D.Device.may_leave g.D.Device.errors c.args.home g.row.P-Fault.Denot c.loop.home c.serve-end.new.home
    (g.R.Read.remaining c.args.reader.now) (g.R.Read.remaining c.loop.reader) (g.R.Read.remaining c.serve-end.new.reader) c.loop.begun.items c.serve-end.new.begun.items
    (g.W.Write.contents c.args.writer.now) (g.W.Write.contents c.loop.writer) (g.W.Write.contents c.serve-end.new.writer) c.serve-end.result
    (c.loop.invariant.going trusted) c.serve-end.ensures.served c.serve-end.ensures.ended ended

pub loop-preserved-then-compacted : goal.loop-preserved-then-compacted
loop-preserved-then-compacted g c =
    let long : c.serve-end.result ≡ Ok Long = search rules in
    record {
      is_open = c.compact_long-compacted.ensures.open c.if-compacted.true;
      none = none_long c.serve-end.result (HasNoLineFeed c.serve-end.new.begun.items) c.serve-end.ensures.paused long;
      going = λ trusted. compacted_as c.args.frames g.D.Device.seen g.D.Device.may_leave g.D.Device.errors c.args.home c.loop.home c.serve-end.new.home c.compact_long-compacted.new.home
          (g.R.Read.remaining c.args.reader.now) (g.R.Read.remaining c.loop.reader) (g.R.Read.remaining c.serve-end.new.reader) c.loop.begun.items c.serve-end.new.begun.items
          (g.W.Write.contents c.args.writer.now) (g.W.Write.contents c.loop.writer) (g.W.Write.contents c.serve-end.new.writer) c.serve-end.result
          (c.loop.invariant.going trusted) c.serve-end.ensures.served long c.compact_long-compacted.ensures.site;
    }

pub returns-in-Err-clause-served : goal.returns-in-Err-clause-served
returns-in-Err-clause-served g c =
    λ trusted. stopped_as c.args.frames g.D.Device.seen g.D.Device.may_leave g.D.Device.errors c.args.home g.row.P-Fault.Denot c.loop.home c.serve-end.new.home
    (g.R.Read.remaining c.args.reader.now) (g.R.Read.remaining c.loop.reader) (g.R.Read.remaining c.serve-end.new.reader) c.loop.begun.items c.serve-end.new.begun.items
    (g.W.Write.contents c.args.writer.now) (g.W.Write.contents c.loop.writer) (g.W.Write.contents c.serve-end.new.writer) c.in-Err.fault c.serve-end.result
    (c.loop.invariant.going trusted) c.serve-end.ensures.served c.in-Err.is

pub returns-in-Err-open_again-clause-served : goal.returns-in-Err-open_again-clause-served
returns-in-Err-open_again-clause-served g c = λ trusted.
    let going = c.loop.invariant.going (c.open_again.ensures.before trusted) in
    let had = g.R.Read.remaining c.args.reader.now in
    let has = g.R.Read.remaining c.loop.reader in
    let now = g.R.Read.remaining c.serve-end.new.reader in
    let a = g.W.Write.contents c.args.writer.now in
    let b = g.W.Write.contents c.loop.writer in
    let o = g.W.Write.contents c.serve-end.new.writer in
    elim c.match-end.branch [
      | in-Ok-Long+else-compacted w ↦
          let long : c.serve-end.result ≡ Ok Long = search rules in
          unopened_failed_as c.args.frames g.D.Device.seen g.D.Device.may_leave g.D.Device.errors c.args.home g.row.P-Fault.Denot c.loop.home c.serve-end.new.home
          had has now c.loop.begun.items c.serve-end.new.begun.items a b o c.in-Err-open_again.fault c.serve-end.result going c.serve-end.ensures.served long
      | in-Err-NotKept w ↦
          let lost : c.serve-end.result ≡ Err (NotKept w.in-Err-NotKept.fault) = search rules in
          unopened_lost_as c.args.frames g.D.Device.seen g.D.Device.may_leave g.D.Device.errors c.args.home g.row.P-Fault.Denot c.loop.home c.serve-end.new.home
          had has now c.loop.begun.items c.serve-end.new.begun.items a b o w.in-Err-NotKept.fault c.in-Err-open_again.fault c.serve-end.result going c.serve-end.ensures.served lost
    ]

pub loop-preserved : goal.loop-preserved
loop-preserved g c =
    let had = g.R.Read.remaining c.args.reader.now in
    let has = g.R.Read.remaining c.loop.reader in
    let now = g.R.Read.remaining c.serve-end.new.reader in
    let a = g.W.Write.contents c.args.writer.now in
    let b = g.W.Write.contents c.loop.writer in
    let o = g.W.Write.contents c.serve-end.new.writer in
    elim c.match-end.branch [
      | in-Ok-Long+else-compacted w ↦
          let long : c.serve-end.result ≡ Ok Long = search rules in
          record {
            is_open = c.in-Ok.ensures.open;
            none = none_long c.serve-end.result (HasNoLineFeed c.serve-end.new.begun.items) c.serve-end.ensures.paused long;
            going = λ trusted. failed_again_as c.args.frames g.D.Device.seen g.D.Device.may_leave g.D.Device.errors c.args.home c.loop.home c.serve-end.new.home w.compact_long-compacted.new.home c.match-end.home c.in-Ok.again
                had has now c.loop.begun.items c.serve-end.new.begun.items a b o c.serve-end.result (c.loop.invariant.going (c.in-Ok.ensures.before trusted)) c.serve-end.ensures.served long
                (w.compact_long-compacted.ensures.left w.if-compacted.false) w.home-is (c.in-Ok.ensures.found trusted) c.in-Ok.ensures.open;
          }
      | in-Err-NotKept w ↦
          let lost : c.serve-end.result ≡ Err (NotKept w.in-Err-NotKept.fault) = search rules in
          record {
            is_open = c.in-Ok.ensures.open;
            none = none_lost c.serve-end.result (HasNoLineFeed c.serve-end.new.begun.items) w.in-Err-NotKept.fault c.serve-end.ensures.begun lost;
            going = λ trusted. lost_again_as c.args.frames g.D.Device.seen g.D.Device.may_leave g.D.Device.errors c.args.home c.loop.home c.serve-end.new.home c.match-end.home c.in-Ok.again
                had has now c.loop.begun.items c.serve-end.new.begun.items a b o w.in-Err-NotKept.fault c.serve-end.result (c.loop.invariant.going (c.in-Ok.ensures.before trusted)) c.loop.invariant.is_open c.serve-end.ensures.served lost
                w.home-is (c.in-Ok.ensures.found trusted) c.in-Ok.ensures.open;
          }
    ]

pub returns-clause-served : goal.returns-clause-served
returns-clause-served g c =
    λ trusted. counted_as c.args.frames g.D.Device.seen g.D.Device.may_leave g.D.Device.errors c.args.home g.row.P-Fault.Denot c.loop.home
    (g.R.Read.remaining c.args.reader.now) (g.R.Read.remaining c.loop.reader) c.loop.begun.items (g.W.Write.contents c.args.writer.now) (g.W.Write.contents c.loop.writer) c.into.result (c.loop.invariant.going trusted)
