use Rattle.std.proofs.Common.{ap}
use Rattle.fed_easy.specs.declared.profiles.Step.{Step}
use Rattle.fed_easy.proofs.Raise.{added_nodes, added_after, added_ends}
use Rattle.fed_easy.proofs.profiles.Profile.add.Goals as goal

pub returns-clause-profile : goal.returns-clause-profile
returns-clause-profile c =
    let p = c.args.self.now in
    let e = c.in_ok-split_both.ensures in
    let first = ap (λ (s : Step). s.nodes) c.raised_step.ensures in
    record {
      capacity = c.requires.profile.capacity;
      ascending = added_after p.capacity c.args.from c.args.until c.args.nodes p.start p.nodes p.steps.items c.split_both.new.steps.items c.raise.new.steps.items c.raised_step.result.nodes
          e.after e.same e.from e.until c.raise.ensures first;
      ends = added_ends p.capacity c.args.from c.args.until c.args.nodes p.start p.nodes p.steps.items c.split_both.new.steps.items c.raise.new.steps.items c.raised_step.result.nodes
          e.after e.same e.from e.until c.raise.ensures first c.requires.profile.ends;
    }

pub returns-clause-nodes : goal.returns-clause-nodes
returns-clause-nodes c = λ u le.
    let p = c.args.self.now in
    let e = c.in_ok-split_both.ensures in
    added_nodes p.capacity c.args.from c.args.until c.args.nodes p.start p.nodes p.steps.items c.split_both.new.steps.items c.raise.new.steps.items c.raised_step.result.nodes
    e.after e.same e.from e.until c.raise.ensures (ap (λ (s : Step). s.nodes) c.raised_step.ensures) u le
