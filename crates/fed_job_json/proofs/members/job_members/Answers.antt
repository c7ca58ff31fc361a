use Rattle.fed_job_json.proofs.MemberLaws.{one_is, two_is}
use Rattle.serde_json.specs.View.{view}
use Rattle.fed_job_json.proofs.members.job_members.Goals.{in-One, in-Two, in-One-format, in-Two-format}
use Rattle.fed_job_json.proofs.members.job_members.Goals as goal

pub returns-clause-members : goal.returns-clause-members
returns-clause-members c =
    elim c.match-format.branch [
      | in-One w ↦ elim c.match-format-2.branch [
        | in-One-format v ↦
            rw (v.result-is, w.first-is) (one_is (view c.args.job.now) c.args.job c.read_members.new.members
            c.index-members-1.result c.index-members-2.result c.index-members-3.result c.index-members-4.result c.index-members-5.result c.index-members-6.result c.index-members-7.result c.index-members-8.result c.index-members-9.result c.index-members-10.result c.index-members-11.result c.index-members-12.result
            (rw w.first-is at c.read_members.auto.members) (rw w.first-is at c.if-not-read_members.ensures.members))
        | in-Two-format v ↦ absurd (cc (w.in-One.is, v.in-Two-format.is))
      ]
      | in-Two w ↦ elim c.match-format-2.branch [
        | in-One-format v ↦ absurd (cc (w.in-Two.is, v.in-One-format.is))
        | in-Two-format v ↦
            rw (v.result-is, w.first-is) (two_is (view c.args.job.now) c.read_members.new.members v.index-members-0.result
            c.index-members-1.result c.index-members-2.result c.index-members-3.result c.index-members-4.result c.index-members-5.result c.index-members-6.result c.index-members-7.result c.index-members-8.result c.index-members-9.result c.index-members-10.result c.index-members-11.result c.index-members-12.result
            (rw w.first-is at c.read_members.auto.members) (rw w.first-is at c.if-not-read_members.ensures.members))
      ]
    ]
