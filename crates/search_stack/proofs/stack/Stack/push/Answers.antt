use Rattle.std.proofs.Common.{◌≡◌, ◌++◌, [], ◌∷◌, length, map, sym, ap, ◌∙◌}
use Rattle.std.proofs.lemmas.List.{length-map, map-append}
use Rattle.goal_paths.specs.Words.{AreLastSteps, TellsKinds}
use Rattle.goal_paths.proofs.LastSteps.{AreLastSteps-push}
use Rattle.search_stack.proofs.Places.{found_push}
use Rattle.search_stack.proofs.stack.Stack.push.Goals as goal

-- the new input is found at the old length, and each other one where it was; and the new step is the last of its kind
pub invariant_of-self-2 : goal.invariant_of-self-2
invariant_of-self-2 g c =
    let kind = c.args.entry.step_kind_from_parent in
    let old = c.self.inside.entries.items in
    let kinds = map (λ e. e.step_kind_from_parent) old in
    let told : TellsKinds c.steps_with-steps.result (kinds ++ kind ∷ []) =
    rw c.self.view_is c.steps_with-steps.ensures in
    let all : c.push_reserved.new.self.items ≡ old ++ c.args.entry ∷ [] =
    c.push_reserved.ensures.items ∙ ap (λ es. es ++ c.args.entry ∷ []) c.note_place.ensures.entries in
    let more : map (λ e. e.step_kind_from_parent) c.push_reserved.new.self.items ≡ kinds ++ kind ∷ [] =
    ap (map (λ e. e.step_kind_from_parent)) all ∙ map-append (λ e. e.step_kind_from_parent) old (c.args.entry ∷ []) in
    let last : AreLastSteps c.note_place.new.steps.items
    (map (λ e. e.step_kind_from_parent) c.push_reserved.new.self.items) =
    rw (more, c.in_ok-depth.ensures.step)
    (AreLastSteps-push c.self.inside.steps.items kinds c.steps_with-steps.result kind told c.self.invariant.1) in (
      found_push g.X.Input.PartialEq.eq g.met.X.Input.Eq.laws g.met.X.Cx.same_input c.self.inside.is_mapped _ _
          (map (λ e. e.input) old) _ c.args.entry.input (length old)
          c.self.invariant.0 (rw (c.self.view_is, c.map_many.ensures) c.requires.absent)
          (sym (length-map old (λ e. e.input)))
          (ap (map (λ e. e.input)) all ∙ map-append (λ e. e.input) old (c.args.entry ∷ []))
          (λ there q. (c.in_ok-depth.ensures.noted there).0 q),
      last,
    )

-- nothing was put in
pub invariant_of-self : goal.invariant_of-self
invariant_of-self g c =
    rw (c.in_err-depth.ensures.err, c.note_place.ensures.entries, c.in_err-depth.ensures.no_step) c.self.invariant
