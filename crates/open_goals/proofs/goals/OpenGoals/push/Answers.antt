use Rattle.open_goals.proofs.Pairs.{absent_from_paired, pushed_or_kept}
use Rattle.open_goals.proofs.goals.OpenGoals.push.Goals as goal

pub push_both-requires : goal.push_both-requires
push_both-requires g c = record {
  absent = absent_from_paired (λ e. e.input) (g.X.Input.PartialEq.eq c.args.entry.input) c.self.inside.stack
      c.self.inside.runs.items _ c.self.invariant c.self.view_is c.requires.absent;
}

pub invariant_of-self : goal.invariant_of-self
invariant_of-self g c = (pushed_or_kept c.push_both.result c.self.inside.stack c.push_both.new.stack
    c.self.inside.runs.items c.push_both.new.runs.items c.args.entry c.args.run _ c.self.invariant c.self.view_is
    c.push_both.ensures.ok c.push_both.ensures.err).0

pub returns-clause-ok : goal.returns-clause-ok
returns-clause-ok g c = (pushed_or_kept c.push_both.result c.self.inside.stack c.push_both.new.stack
    c.self.inside.runs.items c.push_both.new.runs.items c.args.entry c.args.run _ c.self.invariant c.self.view_is
    c.push_both.ensures.ok c.push_both.ensures.err).1

pub returns-clause-err : goal.returns-clause-err
returns-clause-err g c = (pushed_or_kept c.push_both.result c.self.inside.stack c.push_both.new.stack
    c.self.inside.runs.items c.push_both.new.runs.items c.args.entry c.args.run _ c.self.invariant c.self.view_is
    c.push_both.ensures.ok c.push_both.ensures.err).2
