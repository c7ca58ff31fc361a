use Rattle.serde_json.proofs.Views.{view-Object}
use Rattle.fed_parts_json.proofs.MemberLaws.{members_are}
use Rattle.fed_parts_json.proofs.written_jobs.write_job.Goals as goal

pub returns : goal.returns
returns c =
    rw (view-Object c.put_holds_to_account.new.members, c.in_ok-put_holds_to_account.ensures, c.in_ok-put-2.ensures.ok, c.in_ok-put_nodes_to_limit.ensures, c.in_ok-put_sites_to_owner.ensures, c.in_ok-put.ensures.ok, c.in_ok-write_stamp.ensures, c.in_ok-write_version.ensures, c.touched.ensures, c.new-members.ensures.empty) (members_are (c.args.id, c.args.job.now))
