use Rattle.std.proofs.Common.{◌≡◌, ◌∙◌, ap, arith, false, nat_eq, not, refl, subst, sym, true}
use Rattle.delegate_parts.specs.Builder.{started_in}
use Rattle.sessions.proofs.Calls.{IfSome-weaker, call_told, paid, same_answer}
use Rattle.sessions.proofs.causes.ask_watched.Goals as goal
use Rattle.sessions.specs.Below.{Outcome}
use Rattle.search_stack.specs.Hit.{Hit}
use Rattle.watched_runs.specs.Reasons.{IsReason, was_run}
use Rattle.watched_runs.specs.Watch.{inner_of}

pub returns-in-Ok-clause-asked : goal.returns-in-Ok-clause-asked
returns-in-Ok-clause-asked g c = λ starts.
    let answer = c.in-Ok.answer in
    let begun = inner_of c.new-watcher.result in
    let left = inner_of c.evaluate_goal.new.inspect in
    let depth : c.new-graph.result.root_depth ≡ c.args.depth = ap (λ graph. graph.root_depth) c.new-graph.ensures in
    let unmet : c.new-graph.result.limits_met ≡ false = ap (λ graph. graph.limits_met) c.new-graph.ensures in
    let counted : c.started.result ≡ g.D.Delegate.starts left =
    c.started.ensures ∙ ap started_in c.reason-seen.ensures.same ∙ sym (starts left).0 in
    let none : g.D.Delegate.starts begun ≡ 0 = (starts begun).0 ∙ c.new-watcher.ensures.started in
    let is_noop : g.D.Delegate.noop begun ≡ true = (starts begun).1 ∙ c.new-watcher.ensures.noop in
    let frames = rw depth at c.in-Ok.ensures.frames in
    record {
      before = c.new-cache.result;
      nothing_known = c.new-cache.ensures;
      after = c.evaluate_goal.new.cache;
      asked = record {
        graph = c.in-Ok.ensures.has_graph;
        yes = c.in-Ok.ensures.yes;
        no = c.in-Ok.ensures.no;
        plain = rw depth at c.in-Ok.ensures.plain;
        plain_faults = λ n is within. tt;
        decisive = λ is all met. c.in-Ok.ensures.decisive is all (sym c.limits_met-is_limited.ensures ∙ met);
        stored = λ unscoped. IfSome-weaker _ _ (λ (hit : Hit _ Outcome _).
            (c.in-Ok.answer.result ≡ hit.result) × (c.in-Ok.answer.node ≡ hit.node)
            × (c.started.result ≡ 0)) (λ hit all.
            let same = same_answer _ _ answer (record { result = hit.result; node = hit.node }) all.0 refl refl in
            (ap (λ a. a.result) same, ap (λ a. a.node) same, counted ∙ all.1 ∙ none))
            (rw depth at (c.in-Ok.ensures.stored is_noop unscoped));
        frames = omega (arith, frames, counted, none);
        price = λ counts without met. paid _ _ _ _ _ _ _ _ depth none counted
            (c.price.ensures _ c.evaluate_goal.ensures.ran counts without unmet
            (sym c.limits_met-is_limited.ensures ∙ met));
        ran = call_told _ g.X.Cx _ _ c.args.goal c.args.depth c.new-cache.result c.evaluate_goal.new.cache _ _
            c.evaluate_goal.new.self _ _ _ answer c.limits_met-is_limited.result
            is_noop c.new-graph.ensures none counted c.limits_met-is_limited.ensures c.in-Ok.ensures.ran;
        faults = tt;
        keeps = c.evaluate_goal.ensures.keeps;
      };
    }

pub returns-in-Ok-clause-reason : goal.returns-in-Ok-clause-reason
returns-in-Ok-clause-reason g c =
    let left = inner_of c.evaluate_goal.new.inspect in
    let counted : c.started.result ≡ started_in left = c.started.ensures ∙ ap started_in c.reason-seen.ensures.same in
    subst (λ n. IsReason (not (nat_eq n 0)) c.limits_met-is_limited.result c.in-Ok.answer.result
    c.first_reason-reason.result) (sym counted)
    (c.first_reason-reason.ensures (was_run 0 left) c.in-Ok.answer.result c.reason-seen.ensures.reason)

pub returns-clause-asked : goal.returns-clause-asked
returns-clause-asked g c = λ starts.
    let begun = inner_of c.new-watcher.result in
    let depth : c.new-graph.result.root_depth ≡ c.args.depth = ap (λ graph. graph.root_depth) c.new-graph.ensures in
    let is_noop : g.D.Delegate.noop begun ≡ true = (starts begun).1 ∙ c.new-watcher.ensures.noop in
    record {
      before = c.new-cache.result;
      nothing_known = c.new-cache.ensures;
      after = c.evaluate_goal.new.cache;
      asked = record {
        graph = tt;
        yes = tt;
        no = tt;
        plain = λ n is within. tt;
        plain_faults = rw depth at c.in-Err.ensures.plain_faults;
        decisive = λ is all. tt;
        stored = λ unscoped. IfSome-weaker _ _ (λ (hit : Hit _ Outcome _). Unit {0}) (λ hit all. tt)
            (rw depth at (c.in-Err.ensures.stored is_noop unscoped));
        frames = tt;
        price = λ counts without. tt;
        ran = tt;
        faults = c.in-Err.ensures.faults;
        keeps = c.evaluate_goal.ensures.keeps;
      };
    }
