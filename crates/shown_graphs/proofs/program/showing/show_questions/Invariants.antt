use Rattle.std.proofs.Common.{◌≡◌, take}
use Rattle.shown_graphs.proofs.Asking.{AreAskedTo}
use Rattle.shown_graphs.proofs.program.showing.show_questions.Given as goal
use Rattle.shown_graphs.specs.Below.{verdicts}

-- the questions so far are asked, and the cache is about these rules
abbrev pub invariant-loop-done : goal.invariant-loop-done
invariant-loop-done g l =
    let contents = g.W.Write.contents in
    record {
      same_context : l.cache.cx ≡ l.fn.cx;
      asked : AreAskedTo (verdicts g.X.Cx) (g.D.Delegate.script l.fn.cx) l.shown.rules.now l.fn.page l.page
          (contents l.fn.out) (contents l.out) (take l.done l.questions) l.all_fine;
    }
