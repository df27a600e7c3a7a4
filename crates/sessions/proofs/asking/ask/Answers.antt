use Rattle.std.proofs.Common.{◌≡◌, ◌∙◌, ap, arith, false, refl, sym, true}
use Rattle.sessions.proofs.Calls.{IfSome-weaker, call_told, paid, same_answer}
use Rattle.sessions.proofs.asking.ask.Goals as goal
use Rattle.sessions.specs.Below.{Outcome}
use Rattle.search_stack.specs.Hit.{Hit}

pub returns : goal.returns
returns g c = record {
  asked = λ starts.
      let answer = c.in_ok-answer.answer in
      let depth : c.renew.new.self.root_depth ≡ c.args.depth = ap (λ graph. graph.root_depth) c.renew.ensures in
      let unmet : c.renew.new.self.limits_met ≡ false = ap (λ graph. graph.limits_met) c.renew.ensures in
      let counted : c.started.result ≡ g.D.Delegate.starts c.evaluate_goal.new.inspect =
      c.started.ensures ∙ sym (starts c.evaluate_goal.new.inspect).0 in
      let none : g.D.Delegate.starts c.new-builder.result ≡ 0 =
      (starts c.new-builder.result).0 ∙ c.new-builder.ensures.started in
      let is_noop : g.D.Delegate.noop c.new-builder.result ≡ true =
      (starts c.new-builder.result).1 ∙ c.new-builder.ensures.noop in
      let frames = rw depth at c.in_ok-answer.ensures.frames in
      record {
        graph = c.in_ok-answer.ensures.has_graph;
        yes = c.in_ok-answer.ensures.yes;
        no = c.in_ok-answer.ensures.no;
        plain = rw depth at c.in_ok-answer.ensures.plain;
        plain_faults = λ n is within. tt;
        decisive = λ is all met. c.in_ok-answer.ensures.decisive is all (sym c.limits_met.ensures ∙ met);
        stored = λ unscoped. IfSome-weaker _ _ (λ (hit : Hit _ Outcome _).
            (c.in_ok-answer.answer.result ≡ hit.result) × (c.in_ok-answer.answer.node ≡ hit.node)
            × (c.started.result ≡ 0)) (λ hit all.
            let same = same_answer _ _ answer (record { result = hit.result; node = hit.node }) all.0 refl refl in
            (ap (λ a. a.result) same, ap (λ a. a.node) same, counted ∙ all.1 ∙ none))
            (rw depth at (c.in_ok-answer.ensures.stored is_noop unscoped));
        frames = omega (arith, frames, counted, none);
        price = λ counts without met. paid _ _ _ _ _ _ _ _ depth none counted
            (c.price.ensures _ c.evaluate_goal.ensures.ran counts without unmet (sym c.limits_met.ensures ∙ met));
        ran = call_told g.D.Delegate g.X.Cx _ _ c.args.goal c.args.depth c.args.cache.now c.evaluate_goal.new.cache _ _
            c.evaluate_goal.new.self _ _ _ answer c.limits_met.result
            is_noop c.renew.ensures none counted c.limits_met.ensures c.in_ok-answer.ensures.ran;
        faults = tt;
        keeps = c.evaluate_goal.ensures.keeps;
      };
}
