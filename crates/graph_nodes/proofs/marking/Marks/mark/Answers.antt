use Rattle.std.proofs.Common.{arith, Some, [], ◌∷◌, ap, length, slice_get, sym, subst₂, ◌∙◌}
use Rattle.std.proofs.lemmas.Option.{slice_get-get_or}
use Rattle.graph_nodes.specs.Words.{AreWaiting, Marks}
use Rattle.graph_nodes.proofs.HeldNodes.{numbered_within}
use Rattle.graph_nodes.proofs.MarkedNodes.{AreWaiting-new, marked_there, Marks-known, Marks-new, Marks-none}
use Rattle.graph_nodes.proofs.marking.Marks.mark.Goals as goal

pub returns-in_default-clause-marks : goal.returns-in_default-clause-marks
returns-in_default-clause-marks g c = Marks-none c.args.held.now c.requires.rising c.args.number
    c.args.self.now.marked.items c.args.self.now.waiting.items c.in_default.ensures

pub bounds-as_slice-place : goal.bounds-as_slice-place
bounds-as_slice-place g c = omega (
  arith,
  numbered_within c.args.held.now c.in-Some.place c.args.number c.in-Some.ensures,
  c.requires.each,
  ap length c.as_slice.ensures,
)

pub returns-then-as_slice-place-clause-marks : goal.returns-then-as_slice-place-clause-marks
returns-then-as_slice-place-clause-marks g c = Marks-known c.args.held.now c.requires.rising c.args.number
    c.args.self.now.marked.items c.args.self.now.waiting.items c.in-Some.place c.in-Some.ensures
    (ap (λ l. slice_get l c.in-Some.place) (sym c.as_slice.ensures)
    ∙ (slice_get-get_or c.as_slice.result.now c.in-Some.place _ (omega (
      arith,
      numbered_within c.args.held.now c.in-Some.place c.args.number c.in-Some.ensures,
      c.requires.each,
      ap length c.as_slice.ensures,
    )) ∙ ap Some c.if-as_slice-place.true))

pub bounds-as_mut_slice-place : goal.bounds-as_mut_slice-place
bounds-as_mut_slice-place g c = omega (
  arith,
  numbered_within c.args.held.now c.in-Some.place c.args.number c.in-Some.ensures,
  c.requires.each,
  ap length c.as_mut_slice.ensures.value,
)

pub returns-clause-waiting : goal.returns-clause-waiting
returns-clause-waiting g c =
    let place = c.in-Some.place in
    let unread =
    ap (λ l. slice_get l place) (sym c.as_slice.ensures) ∙ (slice_get-get_or c.as_slice.result.now place _ (omega (
      arith,
      numbered_within c.args.held.now place c.args.number c.in-Some.ensures,
      c.requires.each,
      ap length c.as_slice.ensures,
    )) ∙ ap Some c.if-as_slice-place.false) in
    subst₂ AreWaiting
    (sym (marked_there c.args.self.now.marked.items c.as_mut_slice.result.now place c.as_mut_slice.ensures.value))
    (sym c.in_ok-push.ensures.ok)
    (AreWaiting-new c.args.self.now.marked.items c.args.self.now.waiting.items place unread c.requires.waiting)

pub returns-clause-marks : goal.returns-clause-marks
returns-clause-marks g c =
    let place = c.in-Some.place in
    let unread =
    ap (λ l. slice_get l place) (sym c.as_slice.ensures) ∙ (slice_get-get_or c.as_slice.result.now place _ (omega (
      arith,
      numbered_within c.args.held.now place c.args.number c.in-Some.ensures,
      c.requires.each,
      ap length c.as_slice.ensures,
    )) ∙ ap Some c.if-as_slice-place.false) in
    subst₂ (λ marked waiting. Marks c.args.held.now (c.args.number ∷ []) c.args.self.now.marked.items marked
    c.args.self.now.waiting.items waiting)
    (sym (marked_there c.args.self.now.marked.items c.as_mut_slice.result.now place c.as_mut_slice.ensures.value))
    (sym c.in_ok-push.ensures.ok)
    (Marks-new c.args.held.now c.requires.rising c.args.number c.args.self.now.marked.items
    c.args.self.now.waiting.items place c.in-Some.ensures unread)
