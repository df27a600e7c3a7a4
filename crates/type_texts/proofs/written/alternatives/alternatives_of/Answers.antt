use Rattle.std.proofs.Common.{sym, ◌∙◌}
use Rattle.std.proofs.lemmas.Bool.{false≢true}
use Rattle.std.proofs.lemmas.List.{map-append}
use Rattle.type_texts.specs.Words.{words_left}
use Rattle.type_texts.proofs.Refusing.{is_first_name, name_lacks, no_bar_due, no_name_due}
use Rattle.type_texts.proofs.Spelling.{bar_more, first_name, name_more}
use Rattle.type_texts.proofs.written.alternatives.alternatives_of.Goals as goal
use Rattle.type_texts.proofs.written.alternatives.alternatives_of.Goals.{then-is_due+else-not-is_name-2+in_ok-push-2}
use Rattle.type_texts.proofs.written.alternatives.alternatives_of.Goals.{else-is_due+else-not-is_bar}

pub loop-word-init : goal.loop-word-init
loop-word-init c =
    rw (c.in_ok-push.ensures.items, c.new-alternatives.ensures.items, c.into_iter-word-iterator.ensures.into_iter_gives)
    (first_name c.args.first.now (words_left c.args.words) (c.is_name.ensures.0 c.if-not-is_name.false))

pub loop-word-preserved : goal.loop-word-preserved
loop-word-preserved c = elim c.if-is_due.branch [
  | then-is_due+else-not-is_name-2+in_ok-push-2 w ↦
      rw (w.alternatives-is, w.if-is_due.true, w.in_ok-push-2.ensures.items, map-append)
      (name_more _ _ _ _ c.in-Some.word.now (rw w.if-is_due.true at c.loop-word.invariant) c.in-Some.ensures.steps
      (w.is_name-then-is_due.ensures.0 w.if-not-is_name-2.false))
  | else-is_due+else-not-is_bar w ↦
      rw (w.alternatives-is, w.if-is_due.false)
      (bar_more _ _ _ _ c.in-Some.word.now (rw w.if-is_due.false at c.loop-word.invariant) c.in-Some.ensures.steps
      (w.is_bar.ensures.0 w.if-not-is_bar.false))
]

pub returns-then-not-is_name-clause-malformed : goal.returns-then-not-is_name-clause-malformed
returns-then-not-is_name-clause-malformed c =
    λ _ names are. false≢true (sym c.if-not-is_name.true ∙ c.is_name.ensures.1 (is_first_name _ _ names are))

pub returns-then-not-is_name-2-clause-malformed : goal.returns-then-not-is_name-2-clause-malformed
returns-then-not-is_name-2-clause-malformed c =
    λ _. no_name_due _ _ _ _ c.in-Some.word.now (rw c.if-is_due.true at c.loop-word.invariant) c.in-Some.ensures.steps
    (λ is. false≢true (sym c.if-not-is_name-2.true ∙ c.is_name-then-is_due.ensures.1 is))

pub returns-then-not-is_bar-clause-malformed : goal.returns-then-not-is_bar-clause-malformed
returns-then-not-is_bar-clause-malformed c =
    λ _. no_bar_due _ _ _ _ c.in-Some.word.now (rw c.if-is_due.false at c.loop-word.invariant) c.in-Some.ensures.steps
    (λ is. false≢true (sym c.if-not-is_bar.true ∙ c.is_bar.ensures.1 is))

pub returns-then-is_due-2-clause-malformed : goal.returns-then-is_due-2-clause-malformed
returns-then-is_due-2-clause-malformed c =
    λ _. name_lacks _ _ _ (rw c.if-is_due-2.true at c.loop-word.invariant) c.in-None.ensures.steps.0
