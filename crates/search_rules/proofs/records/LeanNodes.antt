-- The node of a run, which was finished by the record of the run or by that of a replay.
use Rattle.std.proofs.Common.{◌≡◌, ◌≢◌, ◌↔◌, option_map, IsTrue, List, Option, Some, refl, sym, ap, ◌∙◌, subst}
use Rattle.std.proofs.Common.{inl, inr}
use Rattle.std.specs.List.{Contains}
use Rattle.search_rules.specs.Below.{CacheNode, IsNodeOf, open_goal, verdict_of, with_run, Verdict, Yes, No, Neither}
use Rattle.search_rules.specs.Below.{NodeId, Request, Reply, DefiniteAnswer, RunRecord, Edge, edges_of, Verdicts}
use Rattle.search_rules.specs.Below.{CameTo, verdict_shape, IsBackedEdge, IsRecordFor, Beyond, IsBacked, OfAnswer}
use Rattle.search_rules.specs.Runs.{EndsRun, HasResultNode, Ended}
use Rattle.search_rules.specs.Justified.{LeadToGoals}
use Rattle.lean_runs.proofs.Verdicts.{in_theory_definite, verdict_is}
use Rattle.lean_runs.proofs.Places.{contains_at, place_among}

module _ {I R : Type 0} (says : Verdicts R) (scripts : I → List (Reply R) → Request I R) (nodes : List (CacheNode I R))
    (node : NodeId) (input : I) (open_is : open_goal nodes node.0 ≡ Some input) (told : RunRecord I R) (r : R) where
  came_at : (goal : I) → Some input ≡ Some goal → CameTo says (scripts goal) told r → CameTo says (scripts input) told r
  came_at goal same came = let is : goal ≡ input = cc in subst (λ g. CameTo says (scripts g) told r) is came

  -- the run of the open node is one of its goal
  pub came_to : EndsRun says scripts nodes node told r → CameTo says (scripts input) told r
  came_to h = came_at h.goal (sym open_is ∙ h.is_open) h.ends

  module _ (v : Verdict) (p : RunRecord I R) (h : IsRecordFor says (scripts input) nodes node.0 told v r p) where
    -- the node is finished by it as well as by the record of its run,
    pub ends_by : EndsRun says scripts nodes node p r
    ends_by = record { goal = input; is_open = open_is; ends = h.came }

    placed_answer : LeadToGoals nodes told.answers → (e : Edge I) (a : DefiniteAnswer I) → Contains told.answers a
        → a.edge ≡ e → IsNodeOf nodes e.target e.input
    placed_answer placed e a there is = let place = place_among told.answers a there in
        subst (λ (x : Edge I). IsNodeOf nodes x.target x.input) is (placed place.0 a place.1)

    placed_backed : LeadToGoals nodes told.answers → (e : Edge I)
        → IsBackedEdge says nodes node.0 told v e → IsNodeOf nodes e.target e.input
    placed_backed placed e (OfAnswer j a at verdict counts is) =
        subst (λ (x : Edge I). IsNodeOf nodes x.target x.input) is (placed j a at)
    placed_backed placed e (Beyond j a at verdict counts later kind kind_too step of_goal) = of_goal

    pub placed_by : LeadToGoals nodes told.answers → LeadToGoals nodes p.answers
    placed_by placed i a at = elim (h.answers a (contains_at p.answers i a at)) [
      | inl of ↦ placed_answer placed a.edge of.0 of.1 of.2
      | inr backed ↦ placed_backed placed a.edge backed
    ]

    -- and is that of the result
    pub node_by : (holds : (v ≡ Yes) ↔ IsTrue (says.is_yes r)) (fails : (v ≡ No) ↔ IsTrue (says.is_no r)) → v ≢ Neither
        → EndsRun says scripts nodes node told r → (earlier : Option R) (lead : Option NodeId)
        → (option_map (verdict_of says) earlier ≡ Some (verdict_shape v) → ⊥) → (after : List (CacheNode I R))
        → after ≡ with_run nodes node.0 (record { replies = p.replies; edges = edges_of p v; outcome = r })
        → HasResultNode says nodes after earlier node lead told r (Some node)
    node_by holds fails definite ran earlier lead anew after is =
        let same : verdict_shape v ≡ verdict_of says r = verdict_is says r v holds fails definite in
        Ended (record { replies = p.replies; edges = edges_of p v; outcome = r }) refl
        (ran.ends.on_record.request_is ∙ ran.ends.is_done) (λ e. in_theory_definite v definite (same ∙ e))
        (λ repeats. anew (repeats ∙ ap Some (sym same))) is
        (λ i e at. subst (λ w. IsBacked says nodes node.0 told.answers told.ignored w e) same
        (h.edges e (contains_at (edges_of p v) i e at)))
