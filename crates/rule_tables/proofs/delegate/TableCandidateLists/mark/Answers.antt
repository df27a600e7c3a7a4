use Rattle.rule_tables.proofs.Steps.{fresh_within}
use Rattle.rule_tables.proofs.delegate.TableCandidateLists.mark.Goals as goal

pub returns-in_err-candidate-clause-within : goal.returns-in_err-candidate-clause-within
returns-in_err-candidate-clause-within g c = fresh_within (g.T.Lends.lent_by c.args.self.lender) c.args.goal

pub returns-clause-within : goal.returns-clause-within
returns-clause-within g c = fresh_within (g.T.Lends.lent_by c.args.self.lender) c.args.goal
