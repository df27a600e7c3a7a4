use Rattle.search_graph.proofs.law.is_sound.Goals as goal

pub returns : goal.returns
returns g c = record { runs = c.has_runs.ensures; results = c.has_sound_results.ensures }
