use Rattle.std.proofs.Common.{rules}
use Rattle.commands.specs.Grammar.{Read}
use Rattle.commands.proofs.Refused.{spells_none}
use Rattle.commands.proofs.lines.parse.Goals as goal

pub returns-in-Some-3-clause-refuses_no_command : goal.returns-in-Some-3-clause-refuses_no_command
returns-in-Some-3-clause-refuses_no_command c = let read : Read c.args.line.now c.map.result = search rules in spells_none _ _ read
