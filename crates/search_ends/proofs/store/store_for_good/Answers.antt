use Rattle.std.proofs.Common.{◌≡◌, ◌∙◌, Contains, Some, OnOk, ap, ap₂, refl, subst, sym}
use Rattle.std.specs.Prelude.{length, take}
use Rattle.search_ends.specs.Below.{HasGraph, stored_at, stored_from, place_of, verdicts}
use Rattle.search_ends.proofs.results.Causes.{lasts_after, storing_lasts}
use Rattle.search_ends.proofs.results.Notes.{never_memory, notes_none, notes_stored, notes_unstored}
use Rattle.search_ends.proofs.results.Storing.{puts_for_good, puts_nothing}
use Rattle.run_records.specs.declared.runs.Fate.TheVariants.{Stored}
use Rattle.search_ends.proofs.results.Failing.{refused_fails, storing_fails, storing_finds}
use Rattle.search_rules.proofs.answers.Differing.{storing_differs}
use Rattle.search_rules.proofs.moves.Storing.{put_is_stored, same_results, stored_either}
use Rattle.search_state.proofs.nodes.Noting.{noted_forgotten, target_is_noted}
use Rattle.search_ends.proofs.store.store_for_good.Goals as goal

pub returns-in_err-note_stored-clause-noted : goal.returns-in_err-note_stored-clause-noted
returns-in_err-note_stored-clause-noted g c =
    notes_none (verdicts g.D.Cx.Cx) g.D.Cx.Input.PartialEq.eq c.from_residual.result c.args.cache.now c.args.drafts.now
    c.note_stored.new.self c.note_stored.ensures.first c.in_err-note_stored.ensures.refused

pub returns-in_err-note_stored-clause-puts : goal.returns-in_err-note_stored-clause-puts
returns-in_err-note_stored-clause-puts g c =
    puts_nothing g.D.Cx.Input.PartialEq.eq c.args.input c.args.answer Stored c.args.cache.now

-- ---- memory was out

pub returns-then-wants_memory-clause-puts : goal.returns-then-wants_memory-clause-puts
returns-then-wants_memory-clause-puts g c =
    puts_for_good g.D.Cx.Input.PartialEq.eq c.args.input c.args.answer c.args.cache.now c.insert-stored.new.self
    (record { rest = c.insert-stored.ensures.rest; kept = c.insert-stored.ensures.kept })
    (stored_either g.D.Cx.Input.PartialEq.eq c.args.cache.now.results c.insert-stored.new.self.results c.args.input
    c.args.answer c.dep_node-token.result c.insert-stored.result c.requires.no_heads c.insert-stored.ensures.ok
    (same_results c.insert-stored.result c.args.cache.now c.insert-stored.new.self c.insert-stored.ensures.err))

pub returns-then-wants_memory-clause-is_stored : goal.returns-then-wants_memory-clause-is_stored
returns-then-wants_memory-clause-is_stored g c =
    subst (λ token. OnOk c.insert-stored.result (stored_at g.D.Cx.Input.PartialEq.eq c.insert-stored.new.self.results
    c.args.input (place_of c.args.answer) ≡ Some (stored_from c.args.answer token)))
    (c.dep_node-token.ensures ∙ ap (λ cx. g.D.Cx.Cx.token cx c.args.input) c.cx.ensures)
    (put_is_stored g.D.Cx.Input.PartialEq.eq c.args.cache.now.results c.insert-stored.new.self.results c.args.input
    (place_of c.args.answer) (stored_from c.args.answer c.dep_node-token.result)
    c.insert-stored.result c.insert-stored.ensures.ok)

pub returns-then-wants_memory-clause-noted : goal.returns-then-wants_memory-clause-noted
returns-then-wants_memory-clause-noted g c =
    notes_unstored (verdicts g.D.Cx.Cx) g.D.Cx.Input.PartialEq.eq c.args.cache.now c.insert-stored.new.self
    c.args.drafts.now (record c.note_stored.new.self { stored = c.truncate.new.self }) c.note_stored.ensures.first
    (c.truncate.ensures.items ∙ (ap₂ take (ap length c.as_slice-known.ensures.value) c.in_ok-note_stored.ensures.noted
    ∙ noted_forgotten c.args.answer.node c.args.drafts.now.stored.items))
    c.insert-stored.result (c.wants_memory.ensures.memory c.if-wants_memory.true) c.insert-stored.ensures.err

pub returns-then-wants_memory-clause-fails : goal.returns-then-wants_memory-clause-fails
returns-then-wants_memory-clause-fails g c =
    refused_fails g.D.Delegate g.D.Cx.Cx g.D.Cx.Input.PartialEq.eq c.args.answer.result c.args.cache.now
    c.insert-stored.new.self _ c.insert-stored.result (c.wants_memory.ensures.memory c.if-wants_memory.true)
    (same_results c.insert-stored.result c.args.cache.now c.insert-stored.new.self c.insert-stored.ensures.err)

-- ---- the result was stored, or another one is

pub returns-else-wants_memory-clause-puts : goal.returns-else-wants_memory-clause-puts
returns-else-wants_memory-clause-puts g c =
    puts_for_good g.D.Cx.Input.PartialEq.eq c.args.input c.args.answer c.args.cache.now c.insert-stored.new.self
    (record { rest = c.insert-stored.ensures.rest; kept = c.insert-stored.ensures.kept })
    (stored_either g.D.Cx.Input.PartialEq.eq c.args.cache.now.results c.insert-stored.new.self.results c.args.input
    c.args.answer c.dep_node-token.result c.insert-stored.result c.requires.no_heads c.insert-stored.ensures.ok
    (same_results c.insert-stored.result c.args.cache.now c.insert-stored.new.self c.insert-stored.ensures.err))

pub returns-else-wants_memory-clause-is_stored : goal.returns-else-wants_memory-clause-is_stored
returns-else-wants_memory-clause-is_stored g c =
    subst (λ token. OnOk c.insert-stored.result (stored_at g.D.Cx.Input.PartialEq.eq c.insert-stored.new.self.results
    c.args.input (place_of c.args.answer) ≡ Some (stored_from c.args.answer token)))
    (c.dep_node-token.ensures ∙ ap (λ cx. g.D.Cx.Cx.token cx c.args.input) c.cx.ensures)
    (put_is_stored g.D.Cx.Input.PartialEq.eq c.args.cache.now.results c.insert-stored.new.self.results c.args.input
    (place_of c.args.answer) (stored_from c.args.answer c.dep_node-token.result)
    c.insert-stored.result c.insert-stored.ensures.ok)

pub returns-else-wants_memory-clause-noted : goal.returns-else-wants_memory-clause-noted
returns-else-wants_memory-clause-noted g c =
    notes_stored (verdicts g.D.Cx.Cx) g.D.Cx.Input.PartialEq.eq c.args.cache.now c.insert-stored.new.self
    g.met.D.Cx.Cx.same_input c.args.input (place_of c.args.answer)
    (stored_from c.args.answer c.dep_node-token.result) g.D.Cx.Result.PartialEq.eq
    c.args.drafts.now c.note_stored.new.self c.in_ok-note_stored.ensures.first c.in_ok-note_stored.ensures.noted
    (subst (λ cache. HasGraph (verdicts g.D.Cx.Cx) cache.nodes c.args.input c.args.answer.result c.args.answer.node)
    (sym c.insert-stored.ensures.rest) (c.requires.storable.graph c.requires.no_heads))
    c.insert-stored.result c.insert-stored.ensures.answer c.insert-stored.ensures.ok c.insert-stored.ensures.err
    (never_memory c.insert-stored.result (c.wants_memory.ensures.other c.if-wants_memory.false))

pub returns-else-wants_memory-clause-fails : goal.returns-else-wants_memory-clause-fails
returns-else-wants_memory-clause-fails g c =
    storing_fails g.D.Delegate g.D.Cx.Cx g.D.Cx.Input.PartialEq.eq c.args.answer.result c.args.cache.now
    c.insert-stored.new.self c.note_stored.new.self c.insert-stored.result
    (lasts_after g.D.Delegate g.D.Cx.Cx g.D.Cx.Input.PartialEq.eq c.args.cache.now c.insert-stored.new.self
    c.note_stored.new.self c.insert-stored.result c.insert-stored.ensures.err
    (storing_lasts g.D.Delegate g.D.Cx.Cx g.D.Cx.Input.PartialEq.eq c.args.cache.now c.note_stored.new.self
    c.has_runs.ensures (g.met.D.Cx.Cx.clash c.args.cache.now.cx) (g.met.D.Delegate.yes_is_proved c.args.cache.now.cx)
    (g.met.D.Delegate.no_is_refuted c.args.cache.now.cx) g.met.D.Cx.Cx.one_sort c.has_sound_results.ensures
    g.D.Cx.Result.PartialEq.eq g.met.D.Cx.Result.Eq.laws
    c.args.input c.args.answer.result c.args.answer.node
    (c.requires.storable.graph c.requires.no_heads) c.requires.storable.comes
    (target_is_noted c.args.answer.node c.args.drafts.now.stored.items c.note_stored.new.self.stored.items
    (λ n has. subst (λ l. Contains l n) (sym c.in_ok-note_stored.ensures.noted) has))
    (place_of c.args.answer) (stored_at g.D.Cx.Input.PartialEq.eq c.args.cache.now.results c.args.input
    (place_of c.args.answer)) refl c.insert-stored.result c.insert-stored.ensures.answer))
    (storing_differs g.D.Cx.Result.PartialEq.eq c.args.input c.args.answer.result
    (stored_at g.D.Cx.Input.PartialEq.eq c.args.cache.now.results c.args.input (place_of c.args.answer))
    c.insert-stored.result c.insert-stored.ensures.answer)
    (same_results c.insert-stored.result c.args.cache.now c.insert-stored.new.self c.insert-stored.ensures.err)

pub returns-then-wants_memory-clause-whose : goal.returns-then-wants_memory-clause-whose
returns-then-wants_memory-clause-whose g c =
    storing_finds g.D.Cx.Input.PartialEq.eq c.args.cache.now.results c.args.input (place_of c.args.answer)
    g.D.Cx.Result.PartialEq.eq c.args.answer.result c.insert-stored.result c.insert-stored.ensures.answer

pub returns-else-wants_memory-clause-whose : goal.returns-else-wants_memory-clause-whose
returns-else-wants_memory-clause-whose g c =
    storing_finds g.D.Cx.Input.PartialEq.eq c.args.cache.now.results c.args.input (place_of c.args.answer)
    g.D.Cx.Result.PartialEq.eq c.args.answer.result c.insert-stored.result c.insert-stored.ensures.answer
