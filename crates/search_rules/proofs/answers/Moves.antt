-- The answers beside the goals under evaluation through each move of the goals: provisional entries, and answers that
-- rest on no goal. Any of them may stand beside a sound state of the theory.
use Rattle.std.proofs.Common.{◌≡◌, ℕ, zero, suc, List, [], ◌∷◌, ◌++◌, length, slice_get, option_map, Option, None, Some}
use Rattle.std.proofs.Common.{sym, ◌∙◌, subst}
use Rattle.std.specs.Option.{option_or}
use Rattle.std.proofs.lemmas.List.{length-map}
use Rattle.open_graphs.specs.Graph as theory
use Rattle.search_rules.specs.Below.{Entry, RunningGoal, ProvisionalEntry, Final, stack_of, in_first_run, in_next_run}
use Rattle.search_rules.specs.Below.{answering, AllProvisional, AllFinal, IsSoundState, IsLeft, LeftByRerun, Before}
use Rattle.search_rules.specs.Below.{PathKind, NodeId, heads_shape, rank_of, CacheNode, open_node, verdict_of, shape_of}
use Rattle.search_rules.specs.Below.{shapes_of, Verdicts}
use Rattle.open_graphs.proofs.States.{push_keeps_sound, pop_keeps_sound, rerun_keeps_sound}
use Rattle.search_rules.specs.Words.{OpenRun, frame_of, frames_of, AreJustified}
use Rattle.search_rules.proofs.justified.Justified.{new_run, no_tally, tally_again, shapes_opened, EndsWithNode}
use Rattle.search_rules.proofs.justified.Justified.{lead_is, leads_there, no_answers}

-- ---- lists of answers

-- what holds of an answer holds of all in a list of it alone,
pub alone : {A : Type 0} (P : A → Type 0) (x : A) → P x → (i : ℕ) (y : A) → slice_get (x ∷ []) i ≡ Some y → P y
alone P x holds zero y is = let same : x ≡ y = cc in subst P same holds
alone P x holds (suc i) y is = absurd (no_answers i y is)

-- and of all in a list without answers
pub nothing : {A : Type 0} (P : A → Type 0) (i : ℕ) (y : A) → slice_get [] i ≡ Some y → P y
nothing P i y is = absurd (no_answers i y is)

-- the provisional entries and the final answers may be used over the stack
abbrev pub Hold : List theory.Node → List Entry → List ProvisionalEntry → List Final → Type 0
Hold nodes stack provisional final = AllProvisional nodes stack provisional × AllFinal nodes stack final

beside : (nodes : List theory.Node) (frames : List RunningGoal) (provisional : List ProvisionalEntry)
    (final : List Final) → IsSoundState nodes frames [] [] → Hold nodes (stack_of frames) provisional final
    → IsSoundState nodes frames provisional final
beside nodes frames provisional final h answers = record {
  is_stack = h.is_stack;
  running = h.running;
  apart = h.apart;
  stored = answers.0;
  closed = answers.1;
}

-- ---- a goal is pushed

module _ {I R : Type 0} (says : Verdicts R) where
  -- the answers may be used over these goals
  abbrev pub HoldOver : List (CacheNode I R) → List (OpenRun I R) → List ProvisionalEntry → List Final → Type 0
  HoldOver nodes goals = Hold (shapes_of says nodes) (stack_of (frames_of says goals))

  pub pushed_hold : (nodes : List (CacheNode I R)) (goal : I) (step : PathKind) (own : NodeId)
      (goals : List (OpenRun I R)) → own.0 ≡ length nodes → AreJustified says nodes goals
      → (provisional : List ProvisionalEntry) (final : List Final) → HoldOver nodes goals provisional final → HoldOver
      (nodes ++ open_node goal ∷ []) (new_run goal step own (Some own) None no_tally ∷ goals) provisional final
  pushed_hold nodes goal step own goals at h provisional final answers =
      let many : length (shapes_of says nodes) ≡ own.0 = length-map nodes (shape_of says) ∙ sym at in
      let frames : List RunningGoal = frames_of says goals in
      let pushed =
      push_keeps_sound (shapes_of says nodes) frames provisional final (rank_of step) (heads_shape [])
      (beside (shapes_of says nodes) frames provisional final h.sound answers) in
      subst (λ more. Hold more (stack_of (frames_of says (new_run goal step own (Some own) None no_tally ∷ goals)))
      provisional final) (sym (shapes_opened says nodes goal))
      (subst (λ m. Hold (shapes_of says nodes ++ theory.Unfinished ∷ [])
      (stack_of (in_first_run (rank_of step) m (heads_shape []) ∷ frames)) provisional final) many
      (pushed.stored, pushed.closed))

-- ---- the newest goal changes, but not its entry

module _ {I R : Type 0} (says : Verdicts R) (o p : OpenRun I R) (below : List (OpenRun I R)) (steps : o.step ≡ p.step)
    (earlier : o.provisional ≡ p.provisional) (owns : o.own ≡ p.own) (leads : o.cycles_lead ≡ p.cycles_lead) where
  same_stack : stack_of (frames_of says (o ∷ below)) ≡ stack_of (frames_of says (p ∷ below))
  same_stack = λ i. stack_of (frames_of says below) ++ record {
    step = rank_of (steps i);
    provisional = option_map (verdict_of says) (earlier i);
    node = elim (leads i) [ None ↦ owns i | Some n ↦ n.0 ];
  } ∷ []

  pub above_hold : (nodes : List (CacheNode I R)) (provisional : List ProvisionalEntry) (final : List Final)
      → HoldOver says nodes (o ∷ below) provisional final → HoldOver says nodes (p ∷ below) provisional final
  above_hold nodes provisional final answers =
      subst (λ stack. Hold (shapes_of says nodes) stack provisional final) same_stack answers

-- ---- the newest goal's run has ended

module _ {I R : Type 0} (says : Verdicts R) (nodes after : List (CacheNode I R)) (o : OpenRun I R)
    (below : List (OpenRun I R)) (h : AreJustified says nodes (o ∷ below)) (r : R) (target : Option NodeId)
    (s : EndsWithNode says nodes after o below r target) where
  -- the frame of the run, with the edges that its result rests on
  abbrev last_frame : RunningGoal
  last_frame = answering (frame_of says o) s.edges (heads_shape o.tally.heads)

  with_last : (provisional : List ProvisionalEntry) (final : List Final)
      → HoldOver says nodes (o ∷ below) provisional final
      → IsSoundState (shapes_of says nodes) (last_frame ∷ frames_of says below) provisional final
  with_last provisional final =
      beside (shapes_of says nodes) (last_frame ∷ frames_of says below) provisional final s.sound

  -- The goal is popped: final answers hold still, and provisional ones as far as the theory leaves them.
  pub popped_hold : (provisional left : List ProvisionalEntry) (final : List Final)
      → ((i : ℕ) (k : ProvisionalEntry) → slice_get left i ≡ Some k → IsLeft (stack_of (frames_of says below))
      (frame_of says o).entry (verdict_of says r) s.place (heads_shape o.tally.heads) provisional k)
      → HoldOver says nodes (o ∷ below) provisional final → HoldOver says after below left final
  popped_hold provisional left final leaves answers =
      let popped =
      (pop_keeps_sound (shapes_of says nodes) last_frame (frames_of says below) provisional left final final
      (verdict_of says r) (shapes_of says after) s.place s.answered
      leaves (λ i x is. Before i is) (with_last provisional final answers)).0 in
      (popped.stored, popped.closed)

  -- The goal is run again: final answers hold still, and provisional ones that record no usage of it.
  module _ (own : NodeId) (at : own.0 ≡ length after) where
    abbrev next_goals : List (OpenRun I R)
    next_goals = new_run o.goal o.step own (option_or target o.cycles_lead) (Some r) (tally_again o.tally) ∷ below

    pub rerun_hold : (provisional left : List ProvisionalEntry) (final : List Final)
        → LeftByRerun (stack_of (frames_of says below)) provisional left
        → HoldOver says nodes (o ∷ below) provisional final → HoldOver says (after ++ open_node o.goal ∷ [])
        (new_run o.goal o.step own (option_or target o.cycles_lead) (Some r) (tally_again o.tally) ∷ below) left final
    rerun_hold provisional left final unused answers =
        let v = verdict_of says r in
        let frames : List RunningGoal = frames_of says below in
        let again =
        rerun_keeps_sound (shapes_of says nodes) last_frame frames provisional left final v
        (shapes_of says after) s.place s.answered
        unused (with_last provisional final answers) in
        let lead = leads_there says nodes after o below h r target s own at (option_or target o.cycles_lead)
        (lead_is says nodes after o below h r target s) in
        subst (λ more. Hold more (stack_of (frames_of says next_goals)) left final)
        (sym (shapes_opened says after o.goal))
        (subst (λ p. Hold (shapes_of says after ++ theory.Unfinished ∷ [])
        (stack_of (in_next_run (frame_of says o) v p own.0 ∷ frames)) left final) (sym lead)
        (again.stored, again.closed))
