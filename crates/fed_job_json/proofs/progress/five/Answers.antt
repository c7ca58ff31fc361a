use Rattle.fed_json.proofs.RowLaws.{five_are}
use Rattle.fed_job_json.proofs.progress.five.Goals as goal

pub returns-in-len5 : goal.returns-in-len5
returns-in-len5 c =
    rw (
      five_are c.args.values.now c.word-item.result c.stamp-item.result c.moment-item.result c.nodes-item.result c.end-item.result c.requires
          c.word-item.is c.stamp-item.is c.moment-item.is c.nodes-item.is c.end-item.is,
      ← c.if-is_word.ensures,
      c.begun_alone.ensures,
    )
