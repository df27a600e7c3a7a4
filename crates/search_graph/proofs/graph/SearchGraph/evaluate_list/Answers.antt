use Rattle.std.proofs.Common.{rules, ◌++◌, ◌∷◌, [], ap, sym, ◌∙◌, subst, arith, take}
use Rattle.std.proofs.lemmas.Grind.{common_steps}
use Rattle.std.proofs.lemmas.List.{append-nil, take_all, take_more}
use Rattle.search_context.proofs.Builders.{builder_goes_on, builder_stays}
use Rattle.search_graph.proofs.called.Lists.{all_keep, all_shown, all_within}
use Rattle.search_graph.proofs.lists.ListAnswers.{appended}
use Rattle.search_graph.specs.Called.{HasRun}
use Rattle.search_graph.specs.Lists.{AllRan, call_for, NoneRan, ThenRan}
use Rattle.search_graph.proofs.graph.SearchGraph.evaluate_list.Goals as goal

pub loop-query-init : goal.loop-query-init
loop-query-init g c = record {
  ran = record { more = []; graphs = []; appended = sym (append-nil c.reserve.new.self.items); ran = NoneRan };
  room = search rules;
  builder = builder_stays g.D.Delegate.starts g.D.Delegate.noop c.args.inspect.now;
}

pub loop-query-preserved : goal.loop-query-preserved
loop-query-preserved g c =
    let same = g.D.Cx.Input.PartialEq.eq in
    let same_result = g.D.Cx.Result.PartialEq.eq in
    let noop = g.D.Delegate.noop c.args.inspect.now in
    let queries = c.args.queries.now in
    let at = c.loop-query.query-index in
    let query = c.query-item.result in
    let then = c.loop-query.invariant in
    let now = c.evaluate_query-answer.ensures in
    let answer = c.evaluate_query-answer.result in
    let from = g.D.Delegate.starts c.loop-query.inspect in
    let to = g.D.Delegate.starts c.evaluate_query-answer.new.inspect in
    let new = c.evaluate_query-answer.new.cache in
    record {
      ran = record {
        more = then.ran.more ++ answer ∷ [];
        graphs = then.ran.graphs ++ now.ran.0 ∷ [];
        appended = c.push_reserved.ensures.items ∙ (ap (λ items. items ++ answer ∷ []) then.ran.appended
            ∙ appended c.reserve.new.self.items then.ran.more answer);
        ran =
            subst (λ qs. AllRan g.D.Delegate g.D.Cx.Cx same same_result noop c.args.cache.now
            (g.D.Delegate.starts c.args.inspect.now) qs (then.ran.more ++ answer ∷ [])
            (then.ran.graphs ++ now.ran.0 ∷ []) new to)
            (ap (λ q. take at queries ++ q ∷ []) c.query-item.is
            ∙ sym (take_more queries at query c.loop-query-test.true))
            (ThenRan (take at queries) then.ran.more then.ran.graphs c.loop-query.cache from query
            answer now.ran.0 new to then.ran.ran
            (subst (λ b. HasRun g.D.Delegate g.D.Cx.Cx same same_result
            (call_for b query c.loop-query.cache from answer now.ran.0 new to)) then.builder.same_noop now.ran.1));
      };
      room = grind (arith, common_steps);
      builder = builder_goes_on g.D.Delegate.starts g.D.Delegate.noop c.args.inspect.now c.loop-query.inspect
          c.evaluate_query-answer.new.inspect then.builder now.builder;
    }

-- ---- all were answered

pub returns-clause-ran : goal.returns-clause-ran
returns-clause-ran g c =
    let have = c.loop-query.invariant.ran in
    record {
      more = have.more;
      graphs = have.graphs;
      appended = have.appended ∙ ap (λ old. old ++ have.more) c.reserve.ensures.items;
      ran = subst (λ queries. AllRan g.D.Delegate g.D.Cx.Cx g.D.Cx.Input.PartialEq.eq g.D.Cx.Result.PartialEq.eq
          (g.D.Delegate.noop c.args.inspect.now) c.args.cache.now (g.D.Delegate.starts c.args.inspect.now) queries
          have.more have.graphs c.loop-query.cache (g.D.Delegate.starts c.loop-query.inspect))
          (take_all c.loop-query.query-index c.args.queries.now c.loop-query-test.false) have.ran;
    }

pub returns-clause-answered : goal.returns-clause-answered
returns-clause-answered g c =
    let have = returns-clause-ran g c in
    record { more = have.more; is = have.appended; each = all_shown have.ran }

pub returns-clause-frames : goal.returns-clause-frames
returns-clause-frames g c = all_within (returns-clause-ran g c).ran

pub returns-clause-keeps : goal.returns-clause-keeps
returns-clause-keeps g c = all_keep (returns-clause-ran g c).ran
