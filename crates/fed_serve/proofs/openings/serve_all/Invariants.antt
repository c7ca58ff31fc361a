use Rattle.fed_home.specs.Home.{IsOpen, site_of, state_in}
use Rattle.fed_serve.specs.Inputs.{HasNoLineFeed}
use Rattle.fed_serve.proofs.GoingOn.{IsGoing}
use Rattle.fed_serve.proofs.openings.serve_all.Given as goal

abbrev pub invariant-loop : goal.invariant-loop
invariant-loop g l = record {
  is_open : IsOpen g.D.Device.seen g.D.Device.may_leave l.home;
  none : HasNoLineFeed l.begun.items;
  going : g.P.Place.trusted l.place → IsGoing l.frames (site_of l.fn.home).roster (state_in l.fn.home) (g.R.Read.remaining l.fn.reader) (g.R.Read.remaining l.reader) l.begun.items (site_of l.home).roster (state_in l.home)
      (g.W.Write.contents l.fn.writer) (g.W.Write.contents l.writer);
}
