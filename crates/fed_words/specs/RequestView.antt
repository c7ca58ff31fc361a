-- A request is seen as what it asks.
use Rattle.fed_words.specs.declared.requests.Request.{Request}
use Rattle.fed_words.specs.declared.requests.Request.TheVariants.{Acts, List as Lists}
use Rattle.fed_words.specs.Request.{Asked, acts, list}

abbrev pub asked_by : Request → Asked
asked_by (Acts commands) = acts commands.items
asked_by (Lists full jobs) = list full jobs.items
