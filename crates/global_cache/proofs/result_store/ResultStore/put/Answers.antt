use Rattle.std.proofs.Common.{sym, subst}
use Rattle.std.proofs.Math.Bool.{◌||◌}
use Rattle.global_cache.specs.Words.{Puts, TellsOverflow}
use Rattle.global_cache.proofs.Stores.{puts, TellsOverflow-put}
use Rattle.global_cache.proofs.result_store.ResultStore.put.Goals as goal

pub invariant_of-self : goal.invariant_of-self
invariant_of-self g c =
    let updates = c.in-Ok.ensures.updates in
    let results = c.self.inside.results.entries in
    subst (λ is_of. TellsOverflow g.I.PartialEq.eq (c.self.inside.has_overflow || is_of)
    c.insert_entry.new.map.entries) (sym c.is_of_overflow.ensures)
    (TellsOverflow-put g.I.PartialEq.eq c.self.inside.has_overflow results
    c.insert_entry.new.map.entries c.args.input c.args.place c.args.found
    (puts g.I.PartialEq.eq results c.insert_entry.new.map.entries c.args.input c.args.place c.args.found
    updates.1 updates.2) c.self.invariant)

pub returns-in-Ok-clause-ok : goal.returns-in-Ok-clause-ok
returns-in-Ok-clause-ok g c =
    let updates = c.in-Ok.ensures.updates in
    subst (λ old. Puts g.I.PartialEq.eq old c.insert_entry.new.map.entries c.args.input c.args.place c.args.found)
    c.self.view_is
    (puts g.I.PartialEq.eq c.self.inside.results.entries c.insert_entry.new.map.entries c.args.input
    c.args.place c.args.found updates.1 updates.2)
