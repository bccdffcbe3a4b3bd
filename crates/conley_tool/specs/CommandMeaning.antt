-- What a command in hand means.
--     meaning_of command    the verb, and the arguments as their bytes
use Rattle.std.specs.Prelude.{map, string_bytes}
use Rattle.conley_tool.specs.Words as spec
use Rattle.conley_tool.specs.declared.words.Command.{Command}

abbrev pub meaning_of : Command → spec.Command
meaning_of command = record { verb = command.verb; arguments = map string_bytes command.arguments.now }
