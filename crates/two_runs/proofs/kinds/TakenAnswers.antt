-- The newest goal takes over an answer to its question: it is joined to the heads that come with it, and
-- reaches the nested goals.
use Rattle.std.proofs.Common.{◌≡◌, ℕ, ◌==◌, if◌then◌else◌, Bool, true, false, List, ◌∷◌, length, IsSome, Option, None}
use Rattle.std.proofs.Common.{Some, All, refl, sym, ◌∙◌, subst, ◌⊎◌, inl, inr, eq-eqb}
use Rattle.std.proofs.lemmas.Bool.{false≢true}
use Rattle.std.proofs.lemmas.List.Elements.{All-weaker}
use Rattle.search_graph.specs.Reaching.{AsksNewest, MayAsk}
use Rattle.two_runs.specs.Below.{AnswersNewest, at_depth, CycleHead, entries_at, EntryState, Heads, Hit, joined_over}
use Rattle.two_runs.specs.Below.{Lists, NestedPaths, NestsAnswer, NestsHead, OpenGoal, PathKind, ProvisionalCacheEntry}
use Rattle.two_runs.specs.Below.{Reply, Request, TakesStored, with_depth, with_nested_goals}
use Rattle.goal_changes.specs.Entries.{TakesHeads}
use Rattle.goal_changes.specs.NestedGoals.{NestsItself}
use Rattle.two_runs.specs.Kinds.{AreJoined, AreLinked, EntryIsLinked, IsGoalAt, IsJoinedTo, ReachesNested}
use Rattle.two_runs.proofs.kinds.NestedPaths.{nested_head, nested_itself, nested_taken}
use Rattle.search_graph.proofs.called.Reaching.{asked_reached, reaches_on}
use Rattle.two_runs.proofs.kinds.Stack.{at_below, stack_reaches}

-- ---- what depends on the goals on the stack alone

module _ {X F I R A T : Type 0} (scripts : I → List (Reply R) → Request I R) (old new : List (OpenGoal X F I R A T))
    (stay : (place : ℕ) (goal : I) → IsGoalAt old place goal → IsGoalAt new place goal) where
  pub joined_kept : (goal : I) (place : ℕ) → IsJoinedTo scripts old goal place → IsJoinedTo scripts new goal place
  joined_kept goal place j = record { head = j.head; is_at = stay place j.head j.is_at; there = j.there; back = j.back }

  pub entries_kept : (same : I → I → Bool) (entries : Lists I (ProvisionalCacheEntry X I R A T))
      → ((goal : I) → All (EntryIsLinked scripts same old goal) (entries_at same entries goal)) → (goal : I)
      → All (EntryIsLinked scripts same new goal) (entries_at same entries goal)
  entries_kept same entries h goal =
      All-weaker (EntryIsLinked scripts same old goal) (EntryIsLinked scripts same new goal)
      (λ entry e. record { heads = λ depth there. joined_kept goal depth.0 (e.heads depth there); kind = e.kind })
      (entries_at same entries goal) (h goal)

-- the newest goal with another state stands where it stood
pub at_changed : {X F I R A T : Type 0} (s t : OpenGoal X F I R A T) (below : List (OpenGoal X F I R A T))
    → s.0.input ≡ t.0.input → (place : ℕ) (goal : I) → IsGoalAt (s ∷ below) place goal → IsGoalAt (t ∷ below) place goal
at_changed s t below is place goal (inl at) = inl (at.0, at.1 ∙ is)
at_changed s t below is place goal (inr at) = inr at

-- a head that is there once an answer was taken over was there before, or came with it
head_from : (here : Bool) (step : PathKind) (own used now : Option CycleHead)
    → now ≡ (if here then own else joined_over step own used) → IsSome now → IsSome own ⊎ ((here ≡ false) × IsSome used)
head_from true step own used now is some = inl (subst IsSome is some)
head_from false step own None now is some = inl (subst IsSome is some)
head_from false step own (Some head) now is some = inr (refl, refl)

module _ {X F I R A T : Type 0} (scripts : I → List (Reply R) → Request I R) (same : I → I → Bool) where
  -- another state of the newest goal
  pub newest_linked : (s t : OpenGoal X F I R A T) (below : List (OpenGoal X F I R A T)) → s.0.input ≡ t.0.input
      → s.0.step_kind_from_parent ≡ t.0.step_kind_from_parent → AreJoined scripts below t.0.input t.0.state.heads
      → ReachesNested scripts same t.0.input t.0.state.nested_goals → AreLinked scripts same (s ∷ below)
      → AreLinked scripts same (t ∷ below)
  newest_linked s t below is same_step heads nested h = (
    record {
      asked = subst (λ g. AsksNewest scripts below t.0.step_kind_from_parent g) is
          (subst (λ k. AsksNewest scripts below k s.0.input) same_step h.0.asked);
      heads = heads;
      nested = nested;
    },
    h.1,
  )

  -- the goal that asked is joined to the heads of the answer, and to those that it had
  heads_joined : (s : OpenGoal X F I R A T) (below : List (OpenGoal X F I R A T)) (step : PathKind) (goal : I)
      (answer : Heads) (was now : EntryState X I R A T)
      → AreLinked scripts same (s ∷ below) → MayAsk scripts s.0.input step goal
      → AreJoined scripts (s ∷ below) goal answer → TakesHeads (record { 0 = length below }) step answer was now
      → AreJoined scripts below s.0.input was.heads → AreJoined scripts below s.0.input now.heads
  heads_joined s below step goal answer was now linked asks joined takes before depth there =
      elim (head_from (depth.0 == length below) step (at_depth was.heads depth) (at_depth answer depth)
      (at_depth now.heads depth) (takes.heads depth) there) [
        | inl own ↦ before depth own
        | inr came ↦
            let j = joined depth came.1 in
            record {
              head = j.head;
              is_at = at_below s below depth.0 j.head j.is_at
                  (λ here. false≢true (sym came.0 ∙ same_place depth.0 (length below) here));
              there = reaches_on scripts (asked_reached scripts asks) j.there;
              back = stack_reaches scripts same s below depth.0 j.head linked j.is_at;
            }
      ]
    where
      same_place : (n m : ℕ) → n ≡ m → (n == m) ≡ true
      same_place n m is = eq-eqb n m is

  -- ---- the newest goal takes an answer over

  module _ (by_value : (x y : I) → same x y ≡ true → x ≡ y) (old new : List (OpenGoal X F I R A T)) (step : PathKind)
      (goal : I) (h : AreLinked scripts same old) (asks : AsksNewest scripts old step goal) where
    module _ (required : ℕ) (overflow : Bool) (heads : Heads) (a : AnswersNewest step required overflow heads old new)
        (joined : AreJoined scripts old goal heads) where
      was : AreLinked scripts same ((a.entry, a.run) ∷ a.below)
      was = subst (AreLinked scripts same) a.was h

      asks_there : MayAsk scripts a.entry.input step goal
      asks_there = subst (λ l. AsksNewest scripts l step goal) a.was asks

      now_joined : AreJoined scripts a.below a.entry.input a.state.heads
      now_joined =
          heads_joined (a.entry, a.run) a.below step goal heads
          (with_nested_goals (with_depth a.entry.state required overflow) a.state.nested_goals) a.state was asks_there
          (subst (λ l. AreJoined scripts l goal heads) a.was joined) a.takes was.0.heads

      taken_linked : ReachesNested scripts same a.entry.input a.state.nested_goals → AreLinked scripts same new
      taken_linked nested = subst (AreLinked scripts same) (sym a.is) (newest_linked (a.entry, a.run)
          (record a.entry { state = a.state }, a.run) a.below refl refl now_joined nested was)

      -- all goals stay where they are
      pub taken_at : (place : ℕ) (other : I) → IsGoalAt old place other → IsGoalAt new place other
      taken_at place other at = subst (λ l. IsGoalAt l place other) (sym a.is)
          (at_changed (a.entry, a.run) (record a.entry { state = a.state }, a.run) a.below refl place other
          (subst (λ l. IsGoalAt l place other) a.was at))

      carried : (P : List (OpenGoal X F I R A T) → List (OpenGoal X F I R A T) → Type 0) → P old new
          → P ((a.entry, a.run) ∷ a.below) ((record a.entry { state = a.state }, a.run) ∷ a.below)
      carried P p = subst (P ((a.entry, a.run) ∷ a.below)) a.is (subst (λ l. P l new) a.was p)

      -- with its nested goals,
      pub answered_linked : (nested : NestedPaths I) → ReachesNested scripts same goal nested
          → NestsAnswer same step nested old new → AreLinked scripts same new
      answered_linked nested reached nests =
          taken_linked (nested_taken scripts same by_value a.entry.input goal step nested a.entry.state.nested_goals
          a.state.nested_goals asks_there reached (carried (NestsAnswer same step nested) nests) was.0.nested)

      -- that of a cycle,
      pub cycled_linked : NestsHead same step goal old new → AreLinked scripts same new
      cycled_linked nests =
          taken_linked (nested_head scripts same by_value a.entry.input goal step a.entry.state.nested_goals
          a.state.nested_goals asks_there (carried (NestsHead same step goal) nests) was.0.nested)

      -- or that of an entry
      pub provisional_linked : NestsItself same old new → AreLinked scripts same new
      provisional_linked nests = taken_linked (nested_itself scripts same by_value a.entry.input
          a.entry.state.nested_goals a.state.nested_goals (carried (NestsItself same) nests) was.0.nested)

    -- a stored result has no heads
    module _ (hit : Hit I R T) (t : TakesStored same step hit old new) where
      pub stored_at_places : (place : ℕ) (other : I) → IsGoalAt old place other → IsGoalAt new place other
      stored_at_places place other at =
          subst (λ l. IsGoalAt l place other) (sym t.is)
          (at_changed (t.entry, t.run) (
            record t.entry {
              state = with_nested_goals (with_depth t.entry.state hit.required_depth hit.encountered_overflow) t.nested;
            },
            t.run,
          ) t.below refl place other (subst (λ l. IsGoalAt l place other) t.was at))

      pub stored_linked : ReachesNested scripts same goal hit.nested_goals → AreLinked scripts same new
      stored_linked reached =
          let before = subst (AreLinked scripts same) t.was h in
          let asks_so = subst (λ l. AsksNewest scripts l step goal) t.was asks in
          subst (AreLinked scripts same) (sym t.is)
          (newest_linked (t.entry, t.run) (
            record t.entry {
              state = with_nested_goals (with_depth t.entry.state hit.required_depth hit.encountered_overflow) t.nested;
            },
            t.run,
          ) t.below refl refl before.0.heads
          (nested_taken scripts same by_value t.entry.input goal step hit.nested_goals t.entry.state.nested_goals
          t.nested asks_so reached t.takes before.0.nested) before)
