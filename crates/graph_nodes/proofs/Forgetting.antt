-- Where goals that stay ask only goals that stay, letting go of the nodes of the others leaves nodes that lead to one
-- another alone.
use Rattle.std.proofs.Common.{◌≡◌, ℕ, zero, suc, Bool, true, false, not, List, [], ◌∷◌, map, Option, None, Some}
use Rattle.std.proofs.Common.{option_map, slice_get, Contains, ◌⊎◌, inl, inr, refl, sym, ◌∙◌, ap, subst, arith, reverse}
use Rattle.std.specs.Prelude.{IsTrue}
use Rattle.std.specs.Option.{IfSome, IsSomeAnd}
use Rattle.std.proofs.lemmas.Bool.{cases_Bool}
use Rattle.std.proofs.lemmas.List.{map-append}
use Rattle.std.proofs.lemmas.List.Elements.{Contains-append_cases}
use Rattle.std.proofs.lemmas.Option.{slice_get-get_or, slice_get-map, slice_get_cases, slice_get_past}
use Rattle.search_context.specs.Rank.{AsksOnly}
use Rattle.search_context.specs.Run.{IsFitting, Progress, progress_after, progress_with, request_after}
use Rattle.search_context.specs.declared.context.Reply.TheVariants.{Answer, Begin, Noted}
use Rattle.search_context.specs.declared.context.Request.TheVariants.{Done, EnterCandidate, Evaluate}
use Rattle.search_context.specs.declared.context.Request.TheVariants.{FinishCandidate, Ignore}
use Rattle.graph_nodes.specs.Below.{Edge, HasEdge, NodeId, PathKind, Question, question_of, Reply, Request, Verdicts}
use Rattle.graph_nodes.specs.Words.{AreRuns, CacheNode, Collected, EndedRun, graph_node_of, graph_nodes_of, IsGone}
use Rattle.graph_nodes.specs.Words.{IsNodeOf, KeepsOtherNodes, WasAsked}
use Rattle.graph_nodes.proofs.NodeLists.{node_at}

-- ---- what a run asked

one_of_one : {A : Type 0} (x y : A) → Contains (x ∷ []) y → x ≡ y
one_of_one x y (zero, l, e) = e
one_of_one x y (suc k, l, e) = absurd (omega arith)

module _ {I R : Type 0} where
  -- the request is this question
  record Asks (q : Option (Request I R)) (question : Question I) : Type 0 where
    pub is : q ≡ Some (Evaluate question.kind question.goal)

  asked_now : (p : Progress I R) (q : Option (Request I R)) (r : Reply R) (question : Question I)
      → WasAsked (progress_with p q r) question → WasAsked p question ⊎ Asks q question
  asked_now p (Some (Evaluate kind goal)) (Answer r) question was =
      elim (Contains-append_cases (map (λ a. a.question) p.asked) (record { kind = kind; goal = goal } ∷ []) question
      (subst (λ l. Contains l question) (map-append (λ a. a.question) p.asked _) was)) [
        | inl earlier ↦ inl earlier
        | inr now ↦ inr (record {
          is = ap (λ x. Some (Evaluate x.kind x.goal))
              (one_of_one (record { kind = kind; goal = goal }) question now);
        })
      ]
  asked_now p (Some (Evaluate kind goal)) Begin question was = inl was
  asked_now p (Some (Evaluate kind goal)) Noted question was = inl was
  asked_now p (Some EnterCandidate) Noted question was = inl was
  asked_now p (Some EnterCandidate) Begin question was = inl was
  asked_now p (Some EnterCandidate) (Answer r) question was = inl was
  asked_now p (Some FinishCandidate) Noted question was = inl was
  asked_now p (Some FinishCandidate) Begin question was = inl was
  asked_now p (Some FinishCandidate) (Answer r) question was = inl was
  asked_now p (Some (Ignore n)) Noted question was = inl was
  asked_now p (Some (Ignore n)) Begin question was = inl was
  asked_now p (Some (Ignore n)) (Answer r) question was = inl was
  asked_now p (Some (Done s)) r question was = inl was
  asked_now p None r question was = inl was

  -- what a run asked is what its script may ask
  pub asked_among : (among : PathKind → I → Type 0) (script : List (Reply R) → Request I R) → AsksOnly among script
      → (replies : List (Reply R)) → IsFitting script replies → (question : Question I)
      → WasAsked (progress_after script replies) question → among question.kind question.goal
  asked_among among script only [] fits question (k, l, e) = absurd (omega arith)
  asked_among among script only (r ∷ earlier) fits question was =
      elim (asked_now (progress_after script earlier) (request_after script earlier) r question was) [
        | inl before ↦ asked_among among script only earlier fits.1 question before
        | inr asks ↦ only earlier question.kind question.goal fits.1 asks.is
      ]

-- ---- what stays

not_gone : (b : Bool) → IsTrue (not b) → b ≡ false
not_gone false is = refl
not_gone true is = absurd cc

module _ {I R : Type 0} (is_gone : I → Bool) where
  -- the goal of the node stays
  abbrev pub stays_at : Option (CacheNode I R) → Bool
  stays_at None = false
  stays_at (Some n) = not (is_gone n.goal)

  -- the goal of the node with this number stays
  abbrev pub stays_in : List (CacheNode I R) → ℕ → Bool
  stays_in nodes at = stays_at (slice_get nodes at)

  -- a node whose goal stays
  pub node_that_stays : (o : Option (CacheNode I R)) → IsTrue (stays_at o)
      → (n : CacheNode I R) × (o ≡ Some n) × (is_gone n.goal ≡ false)
  node_that_stays None is = absurd cc
  node_that_stays (Some n) is = (n, refl, not_gone (is_gone n.goal) is)

  pub stays_with : (o : Option (CacheNode I R)) (n : CacheNode I R) → o ≡ Some n → is_gone n.goal ≡ false
      → IsTrue (stays_at o)
  stays_with o n is stays = subst (λ x. IsTrue (stays_at x)) (sym is)
      (subst (λ b. IsTrue (not b)) (sym stays) refl)

  -- the node of a goal that stays
  pub goal_stays : (nodes : List (CacheNode I R)) (at : ℕ) (goal : I) → is_gone goal ≡ false → IsNodeOf nodes at goal
      → IsTrue (stays_in nodes at)
  goal_stays nodes at goal stays h =
      let n = node_at (slice_get nodes at) goal h in
      stays_with (slice_get nodes at) n.0 n.1 (ap is_gone n.2 ∙ stays)

  pub node_of_stays : (nodes : List (CacheNode I R)) (goal : I) (node : Option NodeId) → is_gone goal ≡ false
      → IfSome node (λ n. IsNodeOf nodes n.0 goal → IsTrue (stays_in nodes n.0))
  node_of_stays nodes goal None stays = tt
  node_of_stays nodes goal (Some n) stays = goal_stays nodes n.0 goal stays

  edge_of_run : (n : CacheNode I R) (r : Option (EndedRun I R)) (e : Edge I)
      → IsSomeAnd (Some (graph_node_of (record n { run = r }))) (λ m. Contains m.edges e)
      → (run : EndedRun I R) × (r ≡ Some run) × Contains run.edges e
  edge_of_run n None e (k, l, is) = absurd (omega arith)
  edge_of_run n (Some run) e has = (run, refl, has)

  edge_at : (nodes : List (CacheNode I R)) (at : ℕ) (n : CacheNode I R) (e : Edge I) → slice_get nodes at ≡ Some n
      → HasEdge (graph_nodes_of nodes) at e → (run : EndedRun I R) × (n.run ≡ Some run) × Contains run.edges e
  edge_at nodes at n e is has =
      edge_of_run n n.run e (subst (λ o. IsSomeAnd o (λ m. Contains m.edges e))
      (slice_get-map graph_node_of nodes at ∙ ap (option_map graph_node_of) is) has)

  module _ (says : Verdicts R) (scripts : I → List (Reply R) → Request I R) (old new : List (CacheNode I R))
      (runs : AreRuns says scripts old) (kept : KeepsOtherNodes is_gone old new)
      (stays : (goal : I) → is_gone goal ≡ false
      → AsksOnly (λ _ asked. is_gone asked ≡ false) (scripts goal)) where
    left_stays : (at : ℕ) → ¬ IsGone (slice_get new at) → (o : Option (CacheNode I R)) → slice_get old at ≡ o
        → IsTrue (stays_at o)
    left_stays at held None is =
        elim (slice_get_cases old at).1 [
          | inl there ↦ let both : None ≡ Some there.0 = sym is ∙ there.2 in absurd cc
          | inr past ↦ absurd (held (subst IsGone
              (sym (slice_get_past new at (omega (arith, past.0, kept.as_many)))) tt))
        ]
    left_stays at held (Some n) is = elim (cases_Bool (is_gone n.goal)) [
      | inl gone ↦ absurd (held (kept.gone at n is gone))
      | inr left ↦ stays_with (Some n) n refl left
    ]

    -- an edge of a node whose goal stays leads to one whose goal does
    edge_stays : (at : ℕ) (e : Edge I) → IsTrue (stays_in old at) → HasEdge (graph_nodes_of old) at e
        → IsTrue (stays_in old e.target)
    edge_stays at e is has =
        let n = node_that_stays (slice_get old at) is in
        let run = edge_at old at n.0 e n.1 has in
        let there = slice_get-get_or run.0.edges run.2.0 e run.2.1 ∙ ap Some run.2.2 in
        let was = runs at n.0 run.0 n.1 run.1 in
        goal_stays old e.target e.input
        (asked_among (λ _ asked. is_gone asked ≡ false) (scripts n.0.goal) (stays n.0.goal n.2)
        (reverse run.0.replies) was.ends.is_fitting (question_of e) (was.asked run.2.0 e there))
        (was.targets run.2.0 e there)

    pub others_are_collected : Collected (stays_in old) old new
    others_are_collected = record {
      same = λ at is.
          let n = node_that_stays (slice_get old at) is in kept.kept at n.0 n.1 n.2 ∙ sym n.1;
      closed = edge_stays;
      left = λ at held. left_stays at held (slice_get old at) refl;
    }
