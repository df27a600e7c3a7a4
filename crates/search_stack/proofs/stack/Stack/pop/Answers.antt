use Rattle.std.proofs.Common.{◌≡◌, ◌-◌, ◌+◌, List, [], ◌∷◌, ◌++◌, ◌∙◌, ap, arith, get_or, length, length-append, map}
use Rattle.std.proofs.Math.Seq.{get_or-append_seam}
use Rattle.std.proofs.lemmas.List.{map-append}
use Rattle.std.proofs.lemmas.Grind.{common_steps}
use Rattle.goal_paths.proofs.LastSteps.{AreLastSteps-pop}
use Rattle.search_stack.proofs.Places.{found_pop}
use Rattle.search_stack.proofs.stack.Stack.pop.Goals as goal

-- what stands at the last place is the last one
last_of : {A : Type 0} (all rest : List A) (x d : A) → all ≡ rest ++ x ∷ [] → d ≡ get_or all (length all - 1) d → d ≡ x
last_of all rest x d parts is =
    let count : length all ≡ length rest + 1 = ap length parts ∙ length-append rest (x ∷ []) in
    let place : length all - 1 ≡ length rest = omega (arith, count) in
    is ∙ ap (λ n. get_or all n d) place ∙ ap (λ l. get_or l (length rest) d) parts ∙ get_or-append_seam rest x [] d

-- the last input is found no more, and each other one where it was; and the last steps up to the other
-- entries are as before
pub invariant_of-self : goal.invariant_of-self
invariant_of-self g c =
    let all = c.self.inside.entries.items in
    let rest = c.pop-2.new.self.items in
    let parts : all ≡ rest ++ c.unwrap.result ∷ [] = grind (arith, common_steps) in
    let last : c.last.result.now ≡ c.unwrap.result =
    last_of all rest c.unwrap.result c.last.result.now parts (rw (← c.self.view_is) at c.last.ensures) in (
      found_pop g.X.Input.PartialEq.eq g.met.X.Input.Eq.laws g.met.X.Cx.same_input c.self.inside.is_mapped _ _ _
          (map (λ e. e.input) c.self.inside.entries.items) c.unwrap.result.input
          c.self.invariant.0 (ap (map (λ e. e.input)) parts ∙ map-append (λ e. e.input) rest (c.unwrap.result ∷ []))
          (λ there q. rw (← last) ((c.forget_place.ensures there).0 q)),
      AreLastSteps-pop _ (map (λ e. e.step_kind_from_parent) c.self.inside.entries.items) _
          c.unwrap.result.step_kind_from_parent _ _
          (ap (map (λ e. e.step_kind_from_parent)) parts ∙ map-append (λ e. e.step_kind_from_parent) rest
          (c.unwrap.result ∷ [])) c.self.inside.steps.ok.0 c.pop.ensures.rest c.self.invariant.1,
    )

pub last-requires : goal.last-requires
last-requires g c = record { some = rw c.give_room_back.ensures c.requires.some }
