-- The heads of an entry that is left once the newest goal was popped: those of the goals below, and those of that goal,
-- which the goal below it takes over.
use Rattle.std.proofs.Common.{◌≡◌, ◌≢◌, ℕ, Bool, List, [], ◌∷◌, length, IsSome, refl, sym, subst, ◌⊎◌, inl, inr, arith}
use Rattle.std.proofs.lemmas.List.{length-map}
use Rattle.search_rules.specs.Below.{StackDepth, PathKind, Heads, at_depth, Request, Reply, OpenGoal, EvaluationResult}
use Rattle.search_rules.specs.Below.{ProvisionalCacheEntry, CacheNode, Next, with_depth, with_nested_goals}
use Rattle.search_rules.specs.Below.{AnswersNewest, Verdicts}
use Rattle.search_rules.specs.Words.{OpenRun, HaveTallies, GivesAnswer, IsHead, IsLeftOver, IsReady, run_of, runs_of}
use Rattle.search_rules.specs.Words.{LieBelow, counted, tally_of}
use Rattle.search_rules.proofs.rebasing.HeadOrder.{at_here}
use Rattle.search_rules.proofs.counts.Tallies.{counted_other, counted_own}
use Rattle.search_rules.proofs.counts.TakenTallies.{counted_has}
use Rattle.search_rules.proofs.answers.Kept.{some_of_usages, taken_keeps}
use Rattle.search_rules.proofs.entries.Ready.{is_below, RestsOn-kept}
use Rattle.search_rules.proofs.entries.Reusable.{reusable_kept}

-- ---- heads of goals

module _ {I R : Type 0} (o : OpenRun I R) (below : List (OpenRun I R)) where
  -- a head that isn't the newest goal is one of that goal's heads, or of the goals below
  pub other_head : (head : StackDepth) → head.0 ≢ length below → IsHead (o ∷ below) head
      → IsHead below head ⊎ IsSome (at_depth o.tally.heads head)
  other_head head other (inl own) = inr (some_of_usages (at_depth o.tally.heads head)
      (subst IsSome (counted_other (length below) o.tally head other) own))
  other_head head other (inr later) = inl later

  -- and if it is the newest goal, that was used
  pub own_head : HaveTallies below → (head : StackDepth) → head.0 ≡ length below
      → IsHead (o ∷ below) head → IsSome o.tally.own
  own_head tallies head here (inl own) = subst IsSome (counted_own (length below) o.tally head here) own
  own_head tallies head here (inr later) =
      let lower = is_below below tallies head later in absurd (omega (arith, here, lower))

-- a goal that takes an answer over takes over its heads
pub heads_taken : {X F I R A T : Type 0} (step : PathKind) (required : ℕ) (overflow : Bool) (answer : Heads)
    (old new : List (OpenGoal X F I R A T)) → AnswersNewest step required overflow answer old new → (head : StackDepth)
    → IsHead (runs_of old) head ⊎ IsSome (at_depth answer head) → IsHead (runs_of new) head
heads_taken step required overflow answer old new a head there =
    subst (λ l. IsHead (runs_of l) head) (sym a.is)
    (at (subst (λ l. IsHead (runs_of l) head ⊎ IsSome (at_depth answer head)) a.was there))
  where
    has : IsSome (counted (length (runs_of a.below)) (tally_of a.entry.state a.run.candidates) head)
        ⊎ IsSome (at_depth answer head)
        → IsSome (counted (length (runs_of a.below)) (tally_of a.state a.run.candidates) head)
    has = subst (λ n. IsSome (counted n (tally_of a.entry.state a.run.candidates) head) ⊎ IsSome (at_depth answer head)
        → IsSome (counted n (tally_of a.state a.run.candidates) head)) (sym (length-map a.below run_of))
        (counted_has (record { 0 = length a.below }) step answer
        (with_nested_goals (with_depth a.entry.state required overflow) a.state.nested_goals)
        a.state a.run.candidates a.takes head)

    at : IsHead (runs_of ((a.entry, a.run) ∷ a.below)) head ⊎ IsSome (at_depth answer head)
        → IsHead (runs_of ((record a.entry { state = a.state }, a.run) ∷ a.below)) head
    at (inl (inl own)) = inl (has (inl own))
    at (inl (inr later)) = inr later
    at (inr came) = inl (has (inr came))

pub first_head : (heads : Heads) → heads ≢ [] → (head : StackDepth) × IsSome (at_depth heads head)
first_head [] some = absurd (some refl)
first_head (e ∷ es) some = (e.0, subst IsSome (sym (at_here e es e.0 refl)) refl)

-- ---- entries that are left

-- such an entry may be used once the answer with those heads was given
pub left_over_ready : {X F I R A T : Type 0} (says : Verdicts R) (scripts : I → List (Reply R) → Request I R)
    (nodes : List (CacheNode I R)) (step : PathKind) (answer : EvaluationResult X I R A T)
    (below later : List (OpenGoal X F I R A T)) (next : Next R) → LieBelow (length below) answer.heads
    → GivesAnswer step answer below next later → (goal : I) (entry : ProvisionalCacheEntry X I R A T)
    → IsLeftOver says scripts nodes (runs_of below) answer.heads goal entry
    → IsReady says scripts nodes (runs_of later) goal entry
left_over_ready says scripts nodes step answer [] later next lower given goal entry left =
    let first = first_head entry.heads left.some in
    absurd (elim (left.are_heads first.0 first.1) [
      | inl none ↦ none
      | inr own ↦ (let limit = lower first.0 own in omega (arith, limit))
    ])
left_over_ready says scripts nodes step answer (p ∷ below) later next lower given goal entry left =
    RestsOn-kept says scripts nodes nodes (runs_of (p ∷ below)) (runs_of later)
    (λ head. IsHead (runs_of (p ∷ below)) head ⊎ IsSome (at_depth answer.heads head))
    (IsHead (runs_of later)) goal entry
    (reusable_kept says nodes nodes (runs_of (p ∷ below)) (runs_of later) (taken_keeps says nodes (p ∷ below) later step
    answer.required_depth answer.encountered_overflow answer.heads given.1) goal entry)
    (λ head some. heads_taken step answer.required_depth answer.encountered_overflow answer.heads
    (p ∷ below) later given.1 head) left
