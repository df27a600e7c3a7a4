use Rattle.search_ends.specs.Below.{verdicts}
use Rattle.search_ends.specs.Storing.{NotesOne}
use Rattle.std.proofs.Common.{Contains, Ok, refl, sym, subst, ◌∙◌}
use Rattle.search_ends.proofs.results.Notes.{notes_none, notes_same}
use Rattle.search_state.proofs.nodes.Noting.{noted_more, target_is_noted}
use Rattle.search_ends.proofs.results.Causes.{comparing_lasts}
use Rattle.search_ends.proofs.store.compare.Goals as goal

pub returns-clause-fails : goal.returns-clause-fails
returns-clause-fails g c = record {
  stores = record {
    caused =
        comparing_lasts g.D.Delegate g.D.Cx.Cx g.D.Cx.Input.PartialEq.eq c.args.cache.now c.note_stored.new.self
        c.has_runs.ensures (g.met.D.Cx.Cx.clash c.args.cache.now.cx)
        (g.met.D.Delegate.yes_is_proved c.args.cache.now.cx) (g.met.D.Delegate.no_is_refuted c.args.cache.now.cx)
        g.met.D.Cx.Cx.one_sort c.has_sound_results.ensures g.D.Cx.Result.PartialEq.eq g.met.D.Cx.Result.Eq.laws
        c.args.input c.args.answer.now.result c.args.answer.now.node
        (c.requires.storable.graph c.requires.no_heads) c.requires.storable.comes
        (target_is_noted c.args.answer.now.node c.args.drafts.now.stored.items c.note_stored.new.self.stored.items
        (λ n has. subst (λ l. Contains l n) (sym c.in_ok-note_stored.ensures.noted) has))
        c.args.stored c.requires.expected (sym c.eq.ensures ∙ c.if-eq.false);
    unstored = refl;
  };
  differs = refl;
}

pub returns-in_err-note_stored-clause-noted : goal.returns-in_err-note_stored-clause-noted
returns-in_err-note_stored-clause-noted g c =
    notes_none (verdicts g.D.Cx.Cx) g.D.Cx.Input.PartialEq.eq c.from_residual.result c.args.cache.now c.args.drafts.now
    c.note_stored.new.self c.note_stored.ensures.first c.in_err-note_stored.ensures.refused

pub returns-then-eq-clause-noted : goal.returns-then-eq-clause-noted
returns-then-eq-clause-noted g c = notes_same (verdicts g.D.Cx.Cx) g.D.Cx.Input.PartialEq.eq (Ok tt) c.args.cache.now
    c.args.cache.now c.args.drafts.now refl

pub returns-clause-noted : goal.returns-clause-noted
returns-clause-noted g c = record {
  keeps = noted_more g.D.Cx.Input.PartialEq.eq c.args.cache.now c.args.drafts.now c.note_stored.new.self
      c.in_ok-note_stored.ensures.first c.args.answer.now.node c.in_ok-note_stored.ensures.noted;
  more = NotesOne c.args.input c.args.answer.now.result c.args.answer.now.node c.in_ok-note_stored.ensures.noted
      (c.requires.storable.graph c.requires.no_heads) (refl, refl);
}
