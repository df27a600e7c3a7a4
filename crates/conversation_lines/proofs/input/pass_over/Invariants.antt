use Rattle.conversation_lines.proofs.Taken.{HasPassed}
use Rattle.conversation_lines.proofs.input.pass_over.Given as goal

-- what was passed over so far has no newline
abbrev pub invariant-loop : goal.invariant-loop
invariant-loop g l = HasPassed (g.R.Read.remaining l.fn.input) (g.R.Read.remaining l.input)
