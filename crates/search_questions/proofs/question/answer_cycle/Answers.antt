use Rattle.std.proofs.Common.{◌≡◌, ◌∙◌, ◌∷◌, [], false, Some, get_or, map, reverse, unwrap_or, ap, sym, subst}
use Rattle.std.proofs.lemmas.Option.{slice_get-get_or}
use Rattle.search_questions.specs.Below.{cycle_head, AnswersNewest, Answer, path_kind_from}
use Rattle.search_rules.proofs.answers.Cycles.{found_goal}
use Rattle.search_questions.proofs.question.answer_cycle.Goals as goal

pub returns-clause-answered : goal.returns-clause-answered
returns-clause-answered g c =
    let goals = c.args.evaluation.now.goals in
    let e = c.index.result.now in
    let e_is : e ≡ get_or (reverse (map (λ s. s.0) goals)) c.args.head.0 e =
    c.index.ensures ∙ ap (λ es. get_or es c.args.head.0 e) c.stack-2.ensures in
    let found = found_goal g.D.Cx.Input.PartialEq.eq g.met.D.Cx.Cx.same_input c.args.input
    (reverse (map (λ s. s.0) goals)) c.args.head.0 e c.requires.found e_is in
    let kind_is : c.path_kind-kind.result ≡ path_kind_from (reverse (map (λ s. s.0) goals)) c.args.head.0 c.args.step =
    c.path_kind-kind.ensures ∙ ap (λ es. path_kind_from es c.args.head.0 c.args.step) c.stack.ensures in
    record {
      entry = e;
      is_at = slice_get-get_or (reverse (map (λ s. s.0) goals)) c.args.head.0 e found.0 ∙ ap Some (sym e_is);
      of_goal = found.1;
      is = ap (λ r. record { reply = Answer r; node = e.state.node }) (c.cycle_result-outcome.ensures ∙ ap
          (λ k. unwrap_or e.state.provisional_result (g.D.Delegate.initial_result c.args.cx k c.args.input)) kind_is);
      takes = subst (λ k. AnswersNewest c.args.step 0 false ((c.args.head, cycle_head c.args.step k) ∷ []) goals
          c.note_cycle.new.self) kind_is c.in_ok-note_cycle.ensures.answered;
      nested = c.in_ok-note_cycle.ensures.nested;
    }
