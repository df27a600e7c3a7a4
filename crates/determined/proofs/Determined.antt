-- Each goal of a list that is closed but for given questions has a proof graph or a refutation graph over these. By
-- rounds and stages each place of the list is won or lost, and what wins or loses it are the reasons of which its graph
-- is made.
use Rattle.std.proofs.Common.{◌≡◌, ℕ, ◌<◌, Bool, true, false, not, cond, ◌⊎◌, inl, inr, List, length, get_or, Contains}
use Rattle.std.proofs.Common.{Option, None, Some, refl, sym, ◌∙◌, subst}
use Rattle.std.proofs.lemmas.Bool.{cases_lt}
use Rattle.std.proofs.lemmas.List.{get_or_default, get_or_past}
use Rattle.determined.specs.Below.{Coinductive, Evaluate, ForcedAmbiguity, Inductive, IsDecidedKind, IsDecisive}
use Rattle.determined.specs.Below.{IsFitting, PathKind, Question, Reply, Request, Unknown, Verdicts, request_after}
use Rattle.determined.specs.Closed.{ExactlyOne}
use Rattle.determined.specs.Given.{HasProofOver, HasRefutationOver, IsClosedButGiven}
use Rattle.determined.proofs.Apart.{never_both_over}
use Rattle.determined.proofs.Laws.{AreLawful}
use Rattle.determined.proofs.Reasons.{HasReasons, graph_of}
use Rattle.determined.proofs.Rounds.{AreSorted, IsLost, IsWon, sorted}
use Rattle.determined.proofs.Runs.{IsShownBy, comes_to}
use Rattle.determined.proofs.Steps.{LostSteps, WonGoes, WonSteps, lost_steps, won_steps}

-- what a place counts for a question of this kind
abbrev CountsFor : (inner outer : ℕ → Bool) → PathKind → ℕ → Bool → Type 0
CountsFor inner outer Inductive y b = inner y ≡ b
CountsFor inner outer Unknown y b = ⊥
CountsFor inner outer Coinductive y b = outer y ≡ b
CountsFor inner outer ForcedAmbiguity y b = ⊥

counts : (inner outer : ℕ → Bool) (kind : PathKind) (y : ℕ) → IsDecidedKind kind
    → (b : Bool) × CountsFor inner outer kind y b
counts inner outer Inductive y decided = (inner y, refl)
counts inner outer Unknown y decided = absurd decided
counts inner outer Coinductive y decided = (outer y, refl)
counts inner outer ForcedAmbiguity y decided = absurd decided

module _ {I : Type 0} (given : Question I → Option Bool) (n : ℕ) (goal_at : ℕ → I) where
  -- a place of the question's goal counts this
  record IsAnswered (inner outer : ℕ → Bool) (q : Question I) (b : Bool) : Type 0 where
    is_followed : given q ≡ None
    place : ℕ
    within : place < n
    has_goal : goal_at place ≡ q.goal
    counts_for : CountsFor inner outer q.kind place b

  abbrev HasTruth : (inner outer : ℕ → Bool) → Question I → Bool → Type 0
  HasTruth inner outer q b = (given q ≡ Some b) ⊎ IsAnswered inner outer q b

  module _ (proves refutes : I → List (Question I) → Type 0) where
    abbrev IsProvedBy : (inner outer : ℕ → Bool) → ℕ → Type 0
    IsProvedBy inner outer x = IsShownBy (HasTruth inner outer) true (proves (goal_at x))

    abbrev IsRefutedBy : (inner outer : ℕ → Bool) → ℕ → Type 0
    IsRefutedBy inner outer x = IsShownBy (HasTruth inner outer) false (refutes (goal_at x))

    module _ (s : AreSorted n IsProvedBy IsRefutedBy) where
      won_to : (x : ℕ) (w : IsWon n IsProvedBy IsRefutedBy s.won s.rank x) (kind : PathKind) (y : ℕ) → y < n
          → CountsFor w.inner w.outer kind y true → (s.won y ≡ true) × WonSteps s.rank x kind y
      won_to x w Inductive y l h = let by = w.by_inner y h in (by.0, inr (refl, by.1))
      won_to x w Unknown y l h = absurd h
      won_to x w Coinductive y l h = (w.by_outer y l h, inl refl)
      won_to x w ForcedAmbiguity y l h = absurd h

      won_reasons : (x : ℕ) → s.won x ≡ true → HasReasons given true proves Coinductive (WonSteps s.rank)
          (WonGoes s.rank) (won_steps s.rank) n goal_at s.won x
      won_reasons x is =
          let w = s.won_at x is in
          record {
            shown = w.is_won.0;
            by_rule = w.is_won.1;
            lead_on = λ q has. elim (w.is_won.2 q has) [
              | inl told ↦ inl told
              | inr a ↦ let to = won_to x w q.kind a.place a.within a.counts_for in inr (record {
                is_followed = a.is_followed;
                place = a.place;
                within = a.within;
                has_goal = a.has_goal;
                is_in = to.0;
                is_step = to.1;
              })
            ];
          }

      lost_to : (x : ℕ) (w : IsLost n IsProvedBy IsRefutedBy s.lost s.fall x) (kind : PathKind) (y : ℕ)
          → CountsFor w.inner w.outer kind y false → (s.lost y ≡ true) × LostSteps s.fall x kind y
      lost_to x w Inductive y h = let by = w.by_inner y h in (by.0, inl (refl, by.1))
      lost_to x w Unknown y h = absurd h
      lost_to x w Coinductive y h = let by = w.by_outer y h in (by.0, inr (refl, by.1))
      lost_to x w ForcedAmbiguity y h = absurd h

      lost_reasons : (x : ℕ) → x < n → s.lost x ≡ true → HasReasons given false refutes Inductive (LostSteps s.fall)
          (LostSteps s.fall) (lost_steps s.fall) n goal_at s.lost x
      lost_reasons x l is =
          let w = s.lost_at x l is in
          record {
            shown = w.is_lost.0;
            by_rule = w.is_lost.1;
            lead_on = λ q has. elim (w.is_lost.2 q has) [
              | inl told ↦ inl told
              | inr a ↦ let to = lost_to x w q.kind a.place a.counts_for in inr (record {
                is_followed = a.is_followed;
                place = a.place;
                within = a.within;
                has_goal = a.has_goal;
                is_in = to.0;
                is_step = to.1;
              })
            ];
          }

      has_either : (x : ℕ) → x < n → HasProofOver given proves (goal_at x) ⊎ HasRefutationOver given refutes (goal_at x)
      has_either x l =
          elim (s.either x l) [
            | inl is ↦ inl (graph_of given true proves Coinductive (WonSteps s.rank) (WonGoes s.rank) (won_steps s.rank)
                n goal_at s.won (λ y m. won_reasons y) x l is)
            | inr is ↦ inr (graph_of given false refutes Inductive (LostSteps s.fall) (LostSteps s.fall)
                (lost_steps s.fall) n goal_at s.lost lost_reasons x l is)
          ]

module _ {I R : Type 0} (says : Verdicts R) (scripts : I → List (Reply R) → Request I R)
    (cycle_result : PathKind → I → R) (proves refutes : I → List (Question I) → Type 0)
    (lawful : AreLawful says scripts cycle_result proves refutes) (decisive : IsDecisive says scripts) where
  -- a goal's answer where it is true, and where it is false
  abbrev answer : I → Bool → R
  answer goal b = cycle_result (cond b Coinductive Inductive) goal

  answers_yes : (goal : I) (b : Bool) → says.is_yes (answer goal b) ≡ b
  answers_yes goal true = (lawful.cycles Coinductive goal).yes
  answers_yes goal false = (lawful.cycles Inductive goal).yes

  answers_no : (goal : I) (b : Bool) → says.is_no (answer goal b) ≡ not b
  answers_no goal true = (lawful.cycles Coinductive goal).no
  answers_no goal false = (lawful.cycles Inductive goal).no

  module _ (given : Question I → Option Bool) (goals : List I) (most : ℕ)
      (closed : IsClosedButGiven given scripts goals most) (first : I) (has_first : Contains goals first) where
    -- the goal at a place, and past the list a goal of it too
    abbrev goal_at : ℕ → I
    goal_at x = get_or goals x first

    goal_in : (x : ℕ) → Contains goals (goal_at x)
    goal_in x =
        elim (cases_lt x (length goals)) [
          | inl l ↦ (x, l, get_or_default goals x (goal_at x) first l)
          | inr past ↦ subst (Contains goals) (sym (get_or_past goals x first past)) has_first
        ]

    place_of : (goal : I) → Contains goals goal → (x : ℕ) × (x < length goals) × (goal_at x ≡ goal)
    place_of goal has = (has.0, has.1, get_or_default goals has.0 first goal has.1 ∙ has.2)

    module _ (inner outer : ℕ → Bool) (x : ℕ) where
      tell_by : (replies : List (Reply R)) (kind : PathKind) (goal : I) → IsFitting (scripts (goal_at x)) replies →
          request_after (scripts (goal_at x)) replies ≡ Some (Evaluate kind goal) →
          (o : Option Bool) → given (record { kind = kind; goal = goal }) ≡ o →
          (b : Bool) × HasTruth given (length goals) goal_at inner outer (record { kind = kind; goal = goal }) b
      tell_by replies kind goal fits is (Some b) told = (b, inl told)
      tell_by replies kind goal fits is None follows =
          let p = place_of goal (closed.stays (goal_at x) (goal_in x) replies kind goal fits is follows) in
          let c = counts inner outer kind p.0 (decisive.asks (goal_at x) goal replies kind fits is) in
          (c.0, inr (record { is_followed = follows; place = p.0; within = p.1; has_goal = p.2; counts_for = c.1 }))

      sides : IsProvedBy given (length goals) goal_at proves refutes inner outer x
          ⊎ IsRefutedBy given (length goals) goal_at proves refutes inner outer x
      sides =
          comes_to says (HasTruth given (length goals) goal_at inner outer)
          (scripts (goal_at x)) answer answers_yes answers_no
          (λ replies kind goal fits is.
          tell_by replies kind goal fits is (given (record { kind = kind; goal = goal })) refl)
          most (closed.is_done (goal_at x) (goal_in x))
          (closed.is_orderly (goal_at x) (goal_in x)) (decisive.ends (goal_at x))
          (proves (goal_at x)) (refutes (goal_at x))
          (lawful.yes_is_proved (goal_at x)) (lawful.no_is_refuted (goal_at x))

    either : HasProofOver given proves first ⊎ HasRefutationOver given refutes first
    either =
        let p = place_of first has_first in
        let s = sorted (length goals) (IsProvedBy given (length goals) goal_at proves refutes)
        (IsRefutedBy given (length goals) goal_at proves refutes) sides in
        subst (λ goal. HasProofOver given proves goal ⊎ HasRefutationOver given refutes goal) p.2
        (has_either given (length goals) goal_at proves refutes s p.0 p.1)

    -- the goal has one of the two graphs over given questions
    pub has_one_over_given : ExactlyOne (HasProofOver given proves first) (HasRefutationOver given refutes first)
    has_one_over_given = (either, never_both_over given proves refutes lawful.clash first)
