use Rattle.std.proofs.Common.{refl}
use Rattle.search_graph.proofs.called.Calling.{run_is_grounded, run_keeps, run_names_none, run_proves, run_refutes}
use Rattle.search_graph.proofs.called.Decided.{run_is_definite}
use Rattle.search_graph.proofs.called.Limits.{run_fails_plainly, run_is_plain, run_is_within}
use Rattle.search_graph.proofs.called.Stored.{run_tells}
use Rattle.search_graph.proofs.graph.SearchGraph.evaluate_goal.Goals as goal

pub returns-clause-ran : goal.returns-clause-ran
returns-clause-ran g c =
    rw (← c.self.view_is)
    (record {
      laws = c.keeps_laws.ensures;
      fits = c.begin.ensures.fits;
      was_sound = c.is_sound.ensures;
      is_sound = c.is_sound-2.ensures;
      at_least = c.evaluate-outcome.ensures.builder.at_least;
      same_depth = refl;
      drafts = c.begin.new.self.drafts;
      left = c.evaluate-outcome.new.evaluation;
      at_outset = record {
        new = record { no_goals = refl; no_scopes = refl; no_entries = refl; fits = c.begin.ensures.fits };
        no_drafts = c.begin.ensures.drafts;
      };
      evaluated = rw c.begin.ensures.begins at c.evaluate-outcome.ensures.evaluated;
    })

-- ---- what follows

pub returns-clause-yes : goal.returns-clause-yes
returns-clause-yes g c = run_proves (returns-clause-ran g c)

pub returns-clause-no : goal.returns-clause-no
returns-clause-no g c = run_refutes (returns-clause-ran g c)

pub returns-clause-neither : goal.returns-clause-neither
returns-clause-neither g c = run_names_none (returns-clause-ran g c)

pub returns-clause-has_graph : goal.returns-clause-has_graph
returns-clause-has_graph g c = (run_is_grounded (returns-clause-ran g c)).has_graph

pub returns-clause-plain : goal.returns-clause-plain
returns-clause-plain g c = run_is_plain (returns-clause-ran g c)

pub returns-clause-plain_faults : goal.returns-clause-plain_faults
returns-clause-plain_faults g c = run_fails_plainly (returns-clause-ran g c)

pub returns-clause-decisive : goal.returns-clause-decisive
returns-clause-decisive g c = run_is_definite (returns-clause-ran g c)

pub returns-clause-stored : goal.returns-clause-stored
returns-clause-stored g c = run_tells (returns-clause-ran g c)

pub returns-clause-faults : goal.returns-clause-faults
returns-clause-faults g c = (run_is_grounded (returns-clause-ran g c)).caused

pub returns-clause-frames : goal.returns-clause-frames
returns-clause-frames g c = run_is_within (returns-clause-ran g c)

pub returns-clause-keeps : goal.returns-clause-keeps
returns-clause-keeps g c = run_keeps (returns-clause-ran g c)

pub returns-clause-same_context : goal.returns-clause-same_context
returns-clause-same_context g c = (run_keeps (returns-clause-ran g c)).context
