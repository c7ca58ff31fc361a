-- The parts of something of each field of a job.
use Rattle.fed_model.specs.declared.fields.Fields.{Fields}

module _ {Owner Name Priority Nodes Limit Account : Type 0} where
  abbrev pub owner_part : Fields Owner Name Priority Nodes Limit Account → Owner
  owner_part x = x.owner

  abbrev pub name_part : Fields Owner Name Priority Nodes Limit Account → Name
  name_part x = x.name

  abbrev pub priority_part : Fields Owner Name Priority Nodes Limit Account → Priority
  priority_part x = x.priority

  abbrev pub nodes_part : Fields Owner Name Priority Nodes Limit Account → Nodes
  nodes_part x = x.nodes

  abbrev pub limit_part : Fields Owner Name Priority Nodes Limit Account → Limit
  limit_part x = x.limit

  abbrev pub account_part : Fields Owner Name Priority Nodes Limit Account → Account
  account_part x = x.account
