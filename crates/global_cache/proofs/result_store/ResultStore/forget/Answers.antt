use Rattle.std.proofs.Common.{refl}
use Rattle.std.proofs.lemmas.Map.Steps.{list_any_congr}
use Rattle.graph_nodes.proofs.Filters.{none_long}
use Rattle.global_cache.specs.Words.{is_among}
use Rattle.global_cache.proofs.Forgotten.{none_goes, others_are_stored, TellsOverflow-left}
use Rattle.global_cache.proofs.result_store.ResultStore.forget.Goals as goal

pub returns-then-is_empty : goal.returns-then-is_empty
returns-then-is_empty g c = none_goes g.I.PartialEq.eq c.args.gone.now.keys c.args.self.now
    (none_long c.args.gone.now.keys (c.if-is_empty.ensures.0 refl))

pub invariant_of-self : goal.invariant_of-self
invariant_of-self g c =
    let results = c.self.inside.results.entries in
    let same = g.I.PartialEq.eq in
    TellsOverflow-left same (is_among same c.args.gone.now.keys)
    (λ x y at. list_any_congr g.met.I.Eq.laws x y c.args.gone.now.keys at)
    c.self.inside.has_overflow results c.forget_entries.new.map.entries
    (others_are_stored same (is_among same c.args.gone.now.keys)
    (λ x y at. list_any_congr g.met.I.Eq.laws x y c.args.gone.now.keys at)
    results results c.forget_entries.new.map.entries refl c.forget_entries.ensures)
    c.self.invariant

pub returns-then-len : goal.returns-then-len
returns-then-len g c =
    others_are_stored g.I.PartialEq.eq (is_among g.I.PartialEq.eq c.args.gone.now.keys)
    (λ x y at. list_any_congr g.met.I.Eq.laws x y c.args.gone.now.keys at)
    c.self.inside.results.entries c.args.self.now c.forget_entries.new.map.entries
    c.self.view_is c.forget_entries.ensures
