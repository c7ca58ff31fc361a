use Rattle.std.specs.Ordering.{nat_cmp}
use Rattle.fed_tags.specs.Tags.{pair_cmp}
use Rattle.fed_model.specs.Hold.{kind_cmp}
use Rattle.fed_model.specs.Ranges.{IsSite}
use Rattle.fed_job_json.specs.Parts.{job_from}
use Rattle.fed_job_json.proofs.PairLaws.{sorted_where_ascending}
use Rattle.fed_job_json.proofs.JobReads.{pairs_covered, holds_covered, sites_covered}
use Rattle.fed_parts_json.proofs.read_jobs.record.Goals as goal

pub from_parts-requires-clause-holds_ascend : goal.from_parts-requires-clause-holds_ascend
from_parts-requires-clause-holds_ascend c = rw c.deref.ensures.value (sorted_where_ascending (pair_cmp kind_cmp) c.args.job.now.holds.items c.requires.holds.1)

pub from_parts-requires-clause-sites_ascend : goal.from_parts-requires-clause-sites_ascend
from_parts-requires-clause-sites_ascend c = rw c.deref-2.ensures.value (sorted_where_ascending (pair_cmp nat_cmp) c.args.job.now.sites.items c.requires.sites.1)

pub from_parts-requires-clause-holds_covered : goal.from_parts-requires-clause-holds_covered
from_parts-requires-clause-holds_covered c = rw c.deref.ensures.value (pairs_covered (λ _. Unit {0}) c.args.job.now.touched c.args.job.now.holds.items c.requires.holds.0 (holds_covered (job_from c.args.job.now) c.requires.covered))

pub from_parts-requires-clause-sites_covered : goal.from_parts-requires-clause-sites_covered
from_parts-requires-clause-sites_covered c = rw c.deref-2.ensures.value (pairs_covered IsSite c.args.job.now.touched c.args.job.now.sites.items c.requires.sites.0 (sites_covered (job_from c.args.job.now) c.requires.covered))
