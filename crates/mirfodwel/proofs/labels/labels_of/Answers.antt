use Rattle.std.proofs.Common.{◌≡◌, ◌∙◌, ◌+◌, ◌<◌, ℕ, List, [], ◌∷◌, ◌++◌, ap, arith, get_or, length, map, rules}
use Rattle.std.proofs.Common.{sym, take}
use Rattle.std.specs.Prelude.{◌==◌}
use Rattle.std.specs.List.{enumerate_from}
use Rattle.std.proofs.lemmas.Iterator.Consumers.{YieldsList-at, YieldsList-end, YieldsList-from_enumerate}
use Rattle.std.proofs.lemmas.Iterator.Consumers.{YieldsList-turn}
use Rattle.std.proofs.lemmas.Iterator.Splits.{YieldsList-from_slice_split}
use Rattle.std.proofs.lemmas.List.{length_push, map-append, take_all, take_more}
use borrow.Author.Tests.{tests}
use Rattle.line_texts.specs.Lines.{lines_of}
use Rattle.mirfodwel.specs.Labels.{label_of}
use Rattle.mirfodwel.proofs.labels.labels_of.Goals as goal

-- one label more
labels_more : (lines : List (ℕ × List ℕ)) (count : ℕ) (line : ℕ × List ℕ) (labels more : List (List ℕ))
    (label : List ℕ) → labels ≡ map (λ line. label_of line.0 line.1) (take count lines)
    → (count < length lines) × (line ≡ get_or lines count line) → label ≡ label_of line.0 line.1
    → more ≡ labels ++ label ∷ [] → more ≡ map (λ line. label_of line.0 line.1) (take (count + 1) lines)
labels_more lines count line labels more label so_far at its pushed =
    let call : (ℕ × List ℕ) → List ℕ = λ line. label_of line.0 line.1 in
    pushed ∙ ap (λ before. before ++ label ∷ []) so_far
    ∙ ap (λ last. map call (take count lines) ++ last ∷ []) (its ∙ ap call at.1)
    ∙ sym (ap (map call) (take_more lines count line at.0)
    ∙ map-append call (take count lines) (get_or lines count line ∷ []))

pub loop-place-preserved : goal.loop-place-preserved
loop-place-preserved c =
    let at = YieldsList-turn
    (YieldsList-at c.into_iter-place-iterator.ensures.into_iter_gives
    (YieldsList-from_enumerate (YieldsList-at c.enumerate-place-items.ensures.source
    (YieldsList-from_slice_split _ (λ byte. byte == 10) c.args.names.now c.split.ensures.rest c.split.ensures.done
    c.split.ensures.closure (λ x b q k. search (rules, tests)))) c.enumerate-place-items.ensures.count))
    c.loop-place.yielded _ c.loop-place.yielded_by _ _ (c.in-Some.place, c.in-Some.name)
    c.in-Some.is c.next.ensures.steps in
    rw length_push (labels_more (enumerate_from 0 (lines_of c.args.names.now)) (length c.loop-place.yielded)
    (c.in-Some.place, c.in-Some.name.now) (map (λ label. label.items) c.loop-place.labels.items)
    (map (λ label. label.items) c.push.new.self.items) c.in_ok-label.label.items c.loop-place.invariant at
    c.in_ok-label.ensures
    (ap (map (λ label. label.items)) c.in_ok-push.ensures.items
    ∙ map-append (λ label. label.items) c.loop-place.labels.items (c.in_ok-label.label ∷ [])))

pub returns : goal.returns
returns c =
    let lines = enumerate_from 0 (lines_of c.args.names.now) in
    let end = YieldsList-end
    (YieldsList-at c.into_iter-place-iterator.ensures.into_iter_gives
    (YieldsList-from_enumerate (YieldsList-at c.enumerate-place-items.ensures.source
    (YieldsList-from_slice_split _ (λ byte. byte == 10) c.args.names.now c.split.ensures.rest c.split.ensures.done
    c.split.ensures.closure (λ x b q k. search (rules, tests)))) c.enumerate-place-items.ensures.count))
    c.loop-place.yielded _ c.loop-place.yielded_by _ _ c.in-None.is c.next.ensures.steps in
    c.loop-place.invariant
    ∙ ap (map (λ line. label_of line.0 line.1)) (take_all (length c.loop-place.yielded) lines (omega (arith, end.1)))
