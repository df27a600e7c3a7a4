use Rattle.std.proofs.Common.{◌∙◌, ap, arith, subst}
use Rattle.std.proofs.lemmas.Option.{slice_get_within}
use Rattle.rule_tables.specs.Groups.{AreGroups}
use Rattle.rule_tables.specs.Words.{number_of, rows_at}
use Rattle.rule_tables.specs.Candidate.{candidates_with}
use Rattle.rule_tables.proofs.Groups.{groups_candidates, groups_ordered}
use Rattle.rule_tables.proofs.draft.Draft.finish.Goals as goal

pub new-requires-clause-few : goal.new-requires-clause-few
new-requires-clause-few c = c.in_ok-rows.ensures.few

pub new-requires-clause-ordered : goal.new-requires-clause-ordered
new-requires-clause-ordered c = groups_ordered _ _ _ _ c.in_ok-rows.ensures

pub returns : goal.returns
returns c = record {
  names = c.new.ensures.names;
  candidates = λ goal name e.
      let l = slice_get_within c.args.self.names (number_of goal) name e in
      let count = c.count.ensures in
      let groups = subst (λ rules. AreGroups rules c.count.result c.in_ok-rows.starts.items c.in_ok-rows.rows.items)
      c.as_slice.ensures.value c.in_ok-rows.ensures in
      ap (λ askings. candidates_with askings.items
      (rows_at c.new.result.starts.items c.new.result.rows.items (number_of goal))) c.new.ensures.askings
      ∙ ap (λ starts. candidates_with c.args.self.askings.items
      (rows_at starts.items c.new.result.rows.items (number_of goal))) c.new.ensures.starts
      ∙ ap (λ rows. candidates_with c.args.self.askings.items
      (rows_at c.in_ok-rows.starts.items rows.items (number_of goal))) c.new.ensures.rows
      ∙ groups_candidates c.args.self.rules.items c.count.result c.in_ok-rows.starts.items c.in_ok-rows.rows.items
      c.args.self.askings.items (number_of goal) groups (omega arith);
  questions = ap (λ all. all.items) c.new.ensures.questions;
}
