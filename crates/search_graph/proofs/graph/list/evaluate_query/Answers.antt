use Rattle.search_graph.proofs.graph.list.evaluate_query.Goals as goal

pub returns-clause-ran : goal.returns-clause-ran
returns-clause-ran g c = (c.evaluate_goal.new.self, rw c.new-graph.ensures at c.evaluate_goal.ensures.ran)
