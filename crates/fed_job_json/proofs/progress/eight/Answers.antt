use Rattle.fed_json.proofs.RowLaws.{eight_are}
use Rattle.fed_job_json.proofs.progress.eight.Goals as goal

pub returns-in-len8 : goal.returns-in-len8
returns-in-len8 c =
    rw (
      eight_are c.args.values.now c.word-item.result c.stamp-item.result c.moment-item.result c.nodes-item.result c.end-item.result c.after-item.result c.last-item.result c.status-item.result c.requires
          c.word-item.is c.stamp-item.is c.moment-item.is c.nodes-item.is c.end-item.is c.after-item.is c.last-item.is c.status-item.is,
      ← c.if-is_word.ensures,
      c.begun_and_finished.ensures,
      c.begun-begun.ensures,
      c.finished.ensures,
    )
