use Rattle.std.proofs.Common.{◌∙◌, ap}
use Rattle.test_delegates.specs.Scripts.{request_of}
use Rattle.test_delegates.proofs.Scripted.{place_more, same_line}
use Rattle.test_delegates.proofs.scripts.ScriptsFrames.step.Goals as goal

pub returns-clause-request : goal.returns-clause-request
returns-clause-request c = λ cx goal replies stands fitting. (
  c.request.ensures ∙ ap request_of (c.line-line.ensures ∙ same_line c.args.frame.now cx.0 goal replies stands),
  record {
    same_scripts = stands.same_scripts;
    same_goal = stands.same_goal;
    same_place = place_more c.args.frame.now.place c.args._reply replies stands.same_place;
  },
)
