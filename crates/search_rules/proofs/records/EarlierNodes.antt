-- Which nodes stay as they are: those that were there before the nodes of the goals under evaluation.
use Rattle.std.proofs.Common.{◌≡◌, ℕ, zero, suc, ◌≤◌, List, [], ◌∷◌, length, slice_get, Option, sym, ap, ◌∙◌, subst}
use Rattle.std.proofs.Common.{inl, inr, arith}
use Rattle.std.proofs.lemmas.Option.{slice_get_cases, slice_get_within}
use Rattle.search_rules.specs.Below.{AnswersNewest, CacheNode, CxOf, DelegateOf, EnterCandidate, Evaluate}
use Rattle.search_rules.specs.Below.{FinishCandidate, Done, HasStepped, Heads, Ignore, KeepsNodes, NotesCandidate}
use Rattle.search_rules.specs.Below.{NotesOverflow, PathKind, Received, Request, TakesStored, OpenGoal, Hit}
use Rattle.search_rules.specs.Below.{AvailableDepth, change_newest, enters, finishes, NodeId}
use Rattle.search_rules.specs.Below.{rerun_with, with_no_record}
use Rattle.search_rules.specs.Words.{AreFrom, KeepsBut, KeepsEarlier, KeepsFirst, NewestLeaves, Pushes, StayFrom}

-- nodes that are as they were are there
pub first_there : {I R : Type 0} (first : ℕ) (old new : List (CacheNode I R)) → first ≤ length old
    → KeepsFirst first old new → first ≤ length new
first_there zero old new within kept = omega arith
first_there (suc n) old new within kept = elim (slice_get_cases old n).1 [
  | inl there ↦ let lt = slice_get_within new n there.0 (kept n (omega arith) ∙ there.2) in omega (arith, lt)
  | inr past ↦ absurd (omega (arith, past.0, within))
]

module _ {X F I R A T : Type 0} where
  -- ---- what changes of the nodes

  pub earlier_same : (goals : List (OpenGoal X F I R A T)) (old new : List (CacheNode I R))
      → new ≡ old → KeepsEarlier goals old new
  earlier_same goals old new same = λ first within from at less. ap (λ l. slice_get l at) same

  pub earlier_of_nodes : (goals : List (OpenGoal X F I R A T)) (old new : List (CacheNode I R))
      → KeepsNodes old new → KeepsEarlier goals old new
  earlier_of_nodes goals old new kept = λ first within from at less. elim (slice_get_cases old at).1 [
    | inl there ↦ kept at there.0 there.2 ∙ sym there.2
    | inr past ↦ absurd (omega (arith, past.0, within, less))
  ]

  -- the newest goal's run may end
  pub earlier_but : (s : OpenGoal X F I R A T) (below : List (OpenGoal X F I R A T)) (old new : List (CacheNode I R))
      → KeepsBut s.1.node.0 old new → KeepsEarlier (s ∷ below) old new
  earlier_but s below old new but =
      λ first within from at less. but at (λ same. let later = from.0 in omega (arith, later, less, same))

  pub earlier_then : (goals : List (OpenGoal X F I R A T)) (old mid new : List (CacheNode I R))
      → KeepsEarlier goals old mid → KeepsEarlier goals mid new → KeepsEarlier goals old new
  earlier_then goals old mid new one two = λ first within from at less.
      two first (first_there first old mid within (one first within from)) from at less ∙ one first within from at less

  -- all nodes stay where no goal was under evaluation
  pub nodes_of_earlier : (goals : List (OpenGoal X F I R A T)) (old new : List (CacheNode I R)) → goals ≡ []
      → KeepsEarlier goals old new → KeepsNodes old new
  nodes_of_earlier goals old new none earlier at n is = earlier (length old) (omega arith)
      (subst (AreFrom (length old)) (sym none) tt) at (slice_get_within old at n is) ∙ is

  -- and goals that are from there on stay so, under any first place
  pub earlier_over : (goals later : List (OpenGoal X F I R A T)) (old new : List (CacheNode I R))
      → StayFrom old goals later → KeepsEarlier later old new → KeepsEarlier goals old new
  earlier_over goals later old new stays earlier = λ first within from. earlier first within (stays first within from)

  -- ---- what changes of the goals

  -- the newest goal is run again
  pub rerun_stays : (nodes : List (CacheNode I R)) (old taken new : List (OpenGoal X F I R A T)) (r : R)
      (lead : Option NodeId) (frame : F) (own : NodeId)
      → taken ≡ change_newest with_no_record old → new ≡ change_newest (rerun_with r lead frame own) taken
      → ((first : ℕ) → first ≤ length nodes → AreFrom first old → first ≤ own.0) → StayFrom nodes old new
  rerun_stays nodes [] taken new r lead frame own is then there =
      λ first within from. subst (AreFrom first) (sym (then ∙ ap (change_newest (rerun_with r lead frame own)) is)) tt
  rerun_stays nodes (s ∷ below) taken new r lead frame own is then there = λ first within from.
      subst (AreFrom first) (sym (then ∙ ap (change_newest (rerun_with r lead frame own)) is))
      (there first within from, from.1)

  module _ (nodes : List (CacheNode I R)) (old new : List (OpenGoal X F I R A T)) where
    pub stay_taken : (step : PathKind) (required : ℕ) (overflow : _) (answer : Heads)
        → AnswersNewest step required overflow answer old new → StayFrom nodes old new
    stay_taken step required overflow answer a =
        λ first within from. subst (AreFrom first) (sym a.is) (subst (AreFrom first) a.was from)

    pub stay_noted : (same : I → I → _) → NotesOverflow same old new → StayFrom nodes old new
    stay_noted same a = λ first within from. subst (AreFrom first) (sym a.is) (subst (AreFrom first) a.was from)

    pub stay_stored : (same : I → I → _) (step : PathKind) (hit : Hit I R T)
        → TakesStored same step hit old new → StayFrom nodes old new
    stay_stored same step hit a =
        λ first within from. subst (AreFrom first) (sym a.is) (subst (AreFrom first) a.was from)

  pub stay_left : (nodes : List (CacheNode I R)) (r : R) (old new : List (OpenGoal X F I R A T)) (next : _)
      → NewestLeaves r old next new → StayFrom nodes old new
  stay_left nodes r [] new next l = absurd l
  stay_left nodes r (s ∷ []) new next l = λ first within from. subst (AreFrom first) (sym l.2) tt
  stay_left nodes r (s ∷ p ∷ below) new next l =
      λ first within from. stay_taken nodes (p ∷ below) new _ _ _ _ l.2 first within from.1

module _ {D C V P F I R A T : Type 0} (G : DelegateOf D C V P F I R A T) (X : CxOf C I R A T) (cx : C)
    (nodes : List (CacheNode I R)) (old new : List (OpenGoal C F I R A T)) where
  pub stay_pushed : (input : I) (kind : PathKind) (depth : AvailableDepth) (after : List (CacheNode I R))
      → Pushes G X cx input kind depth nodes after old new → StayFrom nodes old new
  stay_pushed input kind depth after pushes = λ first within from.
      subst (AreFrom first) (sym pushes.is) (let place = pushes.place in omega (arith, place, within), from)

  pub stay_stepped : (given : Received R) (request : Request I R)
      → HasStepped G X cx given request old new → StayFrom nodes old new
  stay_stepped given request stepped =
      λ first within from. subst (AreFrom first) (sym stepped.is) (subst (AreFrom first) stepped.was from)

module _ {X F I R A T : Type 0} (nodes : List (CacheNode I R)) where
  entered : (old : List (OpenGoal X F I R A T)) (first : ℕ) → AreFrom first old
      → AreFrom first (change_newest enters old)
  entered [] first from = tt
  entered (s ∷ below) first from = from

  finished : (old : List (OpenGoal X F I R A T)) (first : ℕ) → AreFrom first old
      → AreFrom first (change_newest finishes old)
  finished [] first from = tt
  finished (s ∷ below) first from = from

  pub stay_candidates : (request : Request I R) (old new : List (OpenGoal X F I R A T))
      → NotesCandidate request old new → StayFrom nodes old new
  stay_candidates EnterCandidate old new is =
      λ first within from. subst (AreFrom first) (sym is) (entered old first from)
  stay_candidates FinishCandidate old new is =
      λ first within from. subst (AreFrom first) (sym is) (finished old first from)
  stay_candidates (Ignore number) old new a =
      λ first within from. subst (AreFrom first) (sym a.is) (subst (AreFrom first) a.was from)
  stay_candidates (Evaluate kind goal) old new is = λ first within from. subst (AreFrom first) (sym is) from
  stay_candidates (Done r) old new is = λ first within from. subst (AreFrom first) (sym is) from
