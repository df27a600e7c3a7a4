use Rattle.graph_data.proofs.Written.{claims_added}
use Rattle.graph_pages.proofs.page.add_data.Goals as goal

pub returns-in-Some : goal.returns-in-Some
returns-in-Some c =
    claims_added c.args.rules.now _ _ _ _ c.write_answer.result (c.in-Some.ensures c.args.goal) c.write_answer.ensures
