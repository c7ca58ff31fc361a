-- Which operations want memory.
use Rattle.std.specs.Prelude.{IsSome}
use Rattle.fed_model.specs.declared.commands.Command.{Command}

-- the operation that the command adds has a list: of the sites that an Alter replaces, or of the holds that a Release ends
abbrev pub HasList : Command → Type 0
HasList (Command.Alter job changes) = IsSome changes.sites
HasList (Command.Release job kinds) = Unit {0}
HasList _ = ⊥
