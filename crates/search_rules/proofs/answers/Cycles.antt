-- The answer to a question whose goal is under evaluation already.
use Rattle.std.proofs.Common.{◌≡◌, ◌≢◌, ℕ, suc, ◌+◌, ◌<◌, max, Bool, true, false, if◌then◌else◌, List, [], ◌∷◌, ◌++◌}
use Rattle.std.proofs.Common.{map, reverse, length, drop, get_or, Option, None, Some, option_map, unwrap_or, slice_get}
use Rattle.std.proofs.Common.{refl, sym, ap, ◌∙◌, subst, inl, inr, arith, IsTrue, IsSome}
use Rattle.std.specs.Option.{IsSomeAnd}
use Rattle.std.specs.List.{position}
use Rattle.std.proofs.lemmas.Grind.{reverse_onto}
use Rattle.std.proofs.lemmas.List.{drop-map, get_or-map, map-append, length-map, length-reverse}
use Rattle.std.proofs.lemmas.List.Quantifiers.{position-Some}
use Rattle.std.proofs.lemmas.Option.{slice_get-map, slice_get-get_or, slice_get_within}
use Rattle.std.proofs.lemmas.Bool.{cases_eq}
use Rattle.open_graphs.specs.Graph as theory
use Rattle.search_rules.specs.Below.{Entry, Accepts, greatest, path_kind, Recorded, IsAnsweredEdge, stack_of, PathKind}
use Rattle.search_rules.specs.Below.{Inductive, Unknown, Coinductive, ForcedAmbiguity, NodeId, Answer, StackDepth}
use Rattle.search_rules.specs.Below.{OpenGoal, StackEntry, CacheNode, IsNodeOf, path_kind_from, IsCycleResult}
use Rattle.search_rules.specs.Below.{heads_shape, CycleHead, at_depth, rank_of, greater_kind, greatest_kind}
use Rattle.search_rules.specs.Below.{is_coinductive, is_inductive, has_kind, paths_of, verdict_of, shapes_of, count_of}
use Rattle.search_rules.specs.Below.{no_usages, with_usage, Run, cycle_head, AnswersNewest, Verdicts}
use Rattle.open_graphs.specs.Stack.{IsLeaf}
use Rattle.open_graphs.specs.Use.{Heads}
use Rattle.open_graphs.proofs.Asked.{cycle_is_answered}
use Rattle.list_lemmas.proofs.Lists.{get_cases}
use Rattle.cycle_heads.proofs.HeadLists.{at_depth-first, at_depth-rest}
use Rattle.cycle_heads.proofs.HeadShapes.{IsIn, in_head}
use Rattle.path_kinds.proofs.PathRanks.{greater_rank}
use Rattle.search_rules.specs.Words.{AreJustified, AreSupported, asked_now, cycles_node, frame_of, frames_of, heads_of}
use Rattle.search_rules.specs.Words.{IsFit, LieBelow, MayAnswer, NewestAsks, OpenRun, run_of, runs_of, tally_of}
use Rattle.search_rules.proofs.justified.Finishing.{heads_come}
use Rattle.search_rules.proofs.justified.Justified.{stack_length}
use Rattle.search_rules.proofs.answers.Taken.{later_run, taken_fits}

-- ---- kinds of cycles

-- the initial result of a cycle is yes only if its kind is coinductive, and no only if it is inductive
initial_at : (kind : PathKind) (y n : Bool) → y ≡ is_coinductive kind → n ≡ is_inductive kind
    → (if y then theory.Yes else if n then theory.No else theory.Neither) ≢ theory.Neither
    → rank_of kind ≡ theory.cycle_kind (if y then theory.Yes else if n then theory.No else theory.Neither)
initial_at Inductive true n says denies definite = absurd cc
initial_at Inductive false true says denies definite = refl
initial_at Inductive false false says denies definite = absurd (definite refl)
initial_at Unknown true n says denies definite = absurd cc
initial_at Unknown false true says denies definite = absurd cc
initial_at Unknown false false says denies definite = absurd (definite refl)
initial_at Coinductive true n says denies definite = refl
initial_at Coinductive false true says denies definite = absurd cc
initial_at Coinductive false false says denies definite = absurd (definite refl)
initial_at ForcedAmbiguity true n says denies definite = absurd cc
initial_at ForcedAmbiguity false true says denies definite = absurd cc
initial_at ForcedAmbiguity false false says denies definite = absurd (definite refl)

-- what a cycle records of its head
own_path : (kind : PathKind) → IsTrue (has_kind (paths_of kind) kind)
own_path Inductive = refl
own_path Unknown = refl
own_path Coinductive = refl
own_path ForcedAmbiguity = refl

one_is_some : {n : ℕ} → n ≡ 1 → n ≢ 0
one_is_some is e = omega (arith, is, e)

own_usage : (kind : PathKind) → count_of (with_usage no_usages kind) kind ≢ 0
own_usage Inductive e = one_is_some refl e
own_usage Unknown e = one_is_some refl e
own_usage Coinductive e = one_is_some refl e
own_usage ForcedAmbiguity e = one_is_some refl e

cycle_recorded : (step kind : PathKind) (head : StackDepth)
    → Recorded (heads_shape ((head, cycle_head step kind) ∷ [])) head.0 (rank_of step) (rank_of kind)
cycle_recorded step kind head =
    subst (λ o. IsIn o (rank_of step) (rank_of kind)) (sym (at_depth-first head (cycle_head step kind) []))
    (in_head (cycle_head step kind) step kind (own_path step, own_usage kind))

one_head_lower : (head : StackDepth) (used : CycleHead) (place : ℕ) → head.0 < place
    → LieBelow place ((head, used) ∷ [])
one_head_lower head used place within depth some = elim (cases_eq depth.0 head.0) [
  | inl same ↦ omega (arith, same, within)
  | inr other ↦ absurd (none_there (at_depth ((head, used) ∷ []) depth) (at_depth-rest head depth used [] other) some)
]
  where
    none_there : (o : Option CycleHead) → o ≡ None → IsSome o → ⊥
    none_there None is some = cc
    none_there (Some x) is some = cc

-- a head that stands on the stack lies below the place above the newest goal
pub cycle_head_lower : {X F I R A T : Type 0} (step : PathKind) (head : StackDepth) (used : CycleHead)
    (old new : List (OpenGoal X F I R A T)) (a : AnswersNewest step 0 false ((head, used) ∷ []) old new)
    → head.0 < length old → LieBelow (suc (length a.below)) ((head, used) ∷ [])
cycle_head_lower step head used old new a within =
    one_head_lower head used (suc (length a.below)) (omega (arith, within, ap length a.was))

-- ---- the stack from below

module _ {X F I R A T : Type 0} (says : Verdicts R) where
  -- an item as an entry of the theory
  abbrev entry_of : OpenGoal X F I R A T → Entry
  entry_of s = (frame_of says (run_of s)).entry

  stack_is : (goals : List (OpenGoal X F I R A T))
      → stack_of (frames_of says (runs_of goals)) ≡ map entry_of (reverse goals)
  stack_is [] = refl
  stack_is (s ∷ below) =
      ap (λ l. l ++ entry_of s ∷ []) (stack_is below)
      ∙ sym (map-append entry_of (reverse below) (s ∷ []))
      ∙ ap (map entry_of) (sym (reverse_onto below s []))

  entries_are : (goals : List (OpenGoal X F I R A T)) → reverse (map (λ s. s.0) goals) ≡ map (λ s. s.0) (reverse goals)
  entries_are [] = refl
  entries_are (s ∷ below) =
      reverse_onto (map (λ t. t.0) below) s.0 []
      ∙ ap (λ l. l ++ s.0 ∷ []) (entries_are below)
      ∙ sym (map-append (λ t. t.0) (reverse below) (s ∷ []))
      ∙ ap (map (λ t. t.0)) (sym (reverse_onto below s []))

  -- the kind of a path over the last goals
  kind_at : (step : PathKind) (items : List (OpenGoal X F I R A T))
      → rank_of (greatest_kind (step ∷ map (λ e. e.step_kind_from_parent) (map (λ s. s.0) items)))
      ≡ greatest (rank_of step) (map entry_of items)
  kind_at step [] = omega (arith, greater_rank step Inductive)
  kind_at step (s ∷ items) =
      let rest = greatest_kind (map (λ e. e.step_kind_from_parent) (map (λ (t : OpenGoal X F I R A T). t.0) items)) in
      omega (
        arith,
        kind_at step items,
        greater_rank step (greater_kind s.0.step_kind_from_parent rest),
        greater_rank s.0.step_kind_from_parent rest,
        greater_rank step rest,
      )

  pub path_kind_is : (step : PathKind) (head : ℕ) (goals : List (OpenGoal X F I R A T))
      → rank_of (path_kind_from (reverse (map (λ s. s.0) goals)) head step)
      ≡ path_kind (stack_of (frames_of says (runs_of goals))) (rank_of step) head
  path_kind_is step head goals =
      let next : head + 1 ≡ suc head = omega arith in
      ap (λ l. rank_of (path_kind_from l head step)) (entries_are goals)
      ∙ ap (λ l. rank_of (greatest_kind (step ∷ map (λ e. e.step_kind_from_parent) l)))
      (ap (λ n. drop n (map (λ s. s.0) (reverse goals))) next ∙ drop-map (λ s. s.0) (suc head) (reverse goals))
      ∙ kind_at step (drop (suc head) (reverse goals))
      ∙ ap (greatest (rank_of step)) (sym (drop-map entry_of (suc head) (reverse goals)))
      ∙ ap (λ l. path_kind l (rank_of step) head) (sym (stack_is goals))

  home_of : (nodes : List (CacheNode I R)) (goals : List (OpenGoal X F I R A T))
      → AreSupported says nodes (runs_of goals) → (j : ℕ) (s : OpenGoal X F I R A T)
      → slice_get (reverse goals) j ≡ Some s → IsSomeAnd s.0.state.node (λ n. IsNodeOf nodes n.0 s.0.input)
  home_of nodes [] h j s at = absurd cc
  home_of nodes (g ∷ below) h j s at =
      elim (get_cases (reverse below) g j s (ap (λ l. slice_get l j) (sym (reverse_onto below g [])) ∙ at)) [
        | inl lower ↦ home_of nodes below h.1 j s lower
        | inr here ↦ subst (λ (t : OpenGoal X F I R A T). IsSomeAnd t.0.state.node (λ n. IsNodeOf nodes n.0 t.0.input))
            here.1 h.0.lead_home
      ]

  -- the goal at a depth, of which the entry was read
  pub record HeadIs (goals : List (OpenGoal X F I R A T)) (head : ℕ) (e : StackEntry X I R A T) : Type 0 where
    pub run : Run X F I R A T
    pub at : slice_get (reverse goals) head ≡ Some (e, run)

  item_at : (items : List (OpenGoal X F I R A T)) (j : ℕ) (e : StackEntry X I R A T)
      → option_map (λ s. s.0) (slice_get items j) ≡ Some e
      → (run : Run X F I R A T) × (slice_get items j ≡ Some (e, run))
  item_at items j e is = some_at (slice_get items j) is
    where
      some_at : (o : Option (OpenGoal X F I R A T)) → option_map (λ s. s.0) o ≡ Some e
          → (run : Run X F I R A T) × (o ≡ Some (e, run))
      some_at None is = absurd cc
      some_at (Some s) is = let same : s.0 ≡ e = cc in (s.1, ap (λ d. Some (d, s.1)) same)

  pub head_is : (goals : List (OpenGoal X F I R A T)) (head : ℕ) (e : StackEntry X I R A T)
      → head < length (reverse (map (λ s. s.0) goals))
      → e ≡ get_or (reverse (map (λ s. s.0) goals)) head e → HeadIs goals head e
  head_is goals head e within e_is =
      let there : slice_get (reverse (map (λ s. s.0) goals)) head ≡ Some e =
      slice_get-get_or (reverse (map (λ s. s.0) goals)) head e within ∙ ap Some (sym e_is) in
      let item =
      item_at (reverse goals) head e (sym (slice_get-map (λ (s : OpenGoal X F I R A T). s.0) (reverse goals) head)
      ∙ ap (λ l. slice_get l head) (sym (entries_are goals)) ∙ there) in
      record { run = item.0; at = item.1 }

  -- the node to which its cycles lead is one at which walks stop
  pub head_leaf : (nodes : List (CacheNode I R)) (goals : List (OpenGoal X F I R A T))
      → AreSupported says nodes (runs_of goals) → (head : ℕ) (e : StackEntry X I R A T) → HeadIs goals head e
      → IsSomeAnd e.state.node (λ n. IsLeaf (stack_of (frames_of says (runs_of goals))) n.0)
  head_leaf nodes goals supported head e there =
      by e.state.node refl (home_of nodes goals supported head (e, there.run) there.at)
    where
      place : slice_get (stack_of (frames_of says (runs_of goals))) head ≡ Some (entry_of (e, there.run))
      place = ap (λ l. slice_get l head) (stack_is goals)
          ∙ slice_get-map entry_of (reverse goals) head ∙ ap (option_map entry_of) there.at

      by : (lead : Option NodeId) → e.state.node ≡ lead → IsSomeAnd lead (λ n. IsNodeOf nodes n.0 e.input)
          → IsSomeAnd lead (λ n. IsLeaf (stack_of (frames_of says (runs_of goals))) n.0)
      by None is home = absurd home
      by (Some n) is home =
          (head, entry_of (e, there.run), place, ap (λ l. elim l [ None ↦ there.run.node.0 | Some m ↦ m.0 ]) is)

-- ---- the answer

module _ {X F I R A T : Type 0} (says : Verdicts R) (nodes : List (CacheNode I R))
    (old new : List (OpenGoal X F I R A T)) (step kind : PathKind) (head : StackDepth) (input : I)
    (e : StackEntry X I R A T) (there : HeadIs says old head.0 e) (same_goal : e.input ≡ input)
    (kind_is : kind ≡ path_kind_from (reverse (map (λ s. s.0) old)) head.0 step) (initial : R)
    (sorted : IsCycleResult says.is_yes says.is_no kind initial) (asks : NewestAsks (runs_of old) step input)
    (a : AnswersNewest step 0 false ((head, cycle_head step kind) ∷ []) old new)
    (h : AreJustified says nodes (runs_of old)) where
  abbrev result : R
  result = unwrap_or e.state.provisional_result initial

  abbrev newest_run_of : OpenRun I R
  newest_run_of = run_of (a.entry, a.run)

  abbrev entries_below : List Entry
  entries_below = stack_of (frames_of says (runs_of a.below))

  was : AreJustified says nodes (newest_run_of ∷ runs_of a.below)
  was = subst (λ l. AreJustified says nodes (runs_of l)) a.was h

  stack_was : stack_of (frames_of says (runs_of old)) ≡ entries_below ++ (frame_of says newest_run_of).entry ∷ []
  stack_was = ap (λ l. stack_of (frames_of says (runs_of l))) a.was

  place : slice_get (entries_below ++ (frame_of says newest_run_of).entry ∷ []) head.0
      ≡ Some (entry_of says (e, there.run))
  place =
      ap (λ l. slice_get l head.0) (sym stack_was ∙ stack_is says old)
      ∙ slice_get-map (entry_of says) (reverse old) head.0
      ∙ ap (option_map (entry_of says)) there.at

  rank_is : rank_of kind ≡ path_kind (entries_below ++ (frame_of says newest_run_of).entry ∷ []) (rank_of step) head.0
  rank_is =
      ap rank_of kind_is ∙ path_kind_is says step head.0 old ∙ ap (λ l. path_kind l (rank_of step) head.0) stack_was

  accepts_at : (earlier : Option R) → e.state.provisional_result ≡ earlier
      → verdict_of says (unwrap_or earlier initial) ≢ theory.Neither
      → Accepts (verdict_of says (unwrap_or earlier initial)) (entry_of says (e, there.run)) (rank_of kind)
  accepts_at None is definite = inr (
    ap (option_map (verdict_of says)) is,
    initial_at kind (says.is_yes initial) (says.is_no initial) sorted.yes sorted.no definite,
  )
  accepts_at (Some r) is definite = inl (ap (option_map (verdict_of says)) is)

  head_lower : LieBelow (suc (length a.below)) ((head, cycle_head step kind) ∷ [])
  head_lower = cycle_head_lower step head (cycle_head step kind) old new a
      (omega (arith, slice_get_within (reverse old) head.0 (e, there.run) there.at, length-reverse old))

  -- what the newest goal counts of it
  abbrev counts_now : Heads
  counts_now = heads_of (tally_of a.state a.run.candidates) (asked_now (run_of (a.entry, a.run)))

  recorded : head.0 < length a.below → Recorded counts_now head.0 (rank_of step) (rank_of kind)
  recorded lower =
      let twice : max (rank_of step) (rank_of step) ≡ rank_of step = omega arith in
      subst (λ p. Recorded counts_now head.0 p (rank_of kind)) twice
      (heads_come says nodes step 0 false ((head, cycle_head step kind) ∷ []) old new a head_lower h head.0
      (rank_of step) (rank_of kind) lower (cycle_recorded step kind head))

  answered : verdict_of says (unwrap_or e.state.provisional_result initial) ≢ theory.Neither
      → IsAnsweredEdge (shapes_of says nodes) (verdict_of says (unwrap_or e.state.provisional_result initial))
      (stack_of (frames_of says (runs_of a.below))) (frame_of says (run_of (a.entry, a.run))).entry
      (record { kind = rank_of step; target = cycles_node (run_of (e, there.run)) }) counts_now
  answered definite =
      let many : length (stack_of (frames_of says (runs_of a.below))) ≡ length a.below =
      stack_length says (runs_of a.below) ∙ length-map a.below run_of in
      cycle_is_answered (shapes_of says nodes) (verdict_of says (unwrap_or e.state.provisional_result initial))
      (stack_of (frames_of says (runs_of a.below))) (frame_of says (run_of (a.entry, a.run))).entry head.0
      (entry_of says (e, there.run)) (rank_of step) counts_now
      was.sound.is_stack.distinct place
      (subst (Accepts (verdict_of says (unwrap_or e.state.provisional_result initial)) (entry_of says (e, there.run)))
      rank_is (accepts_at e.state.provisional_result refl definite))
      (λ lower. subst (Recorded counts_now head.0 (rank_of step)) rank_is
      (recorded (subst (λ n. head.0 < n) many lower)))

  may_answer_at : (lead : Option NodeId) → e.state.node ≡ lead → IsSomeAnd lead (λ n. IsNodeOf nodes n.0 e.input)
      → verdict_of says (unwrap_or e.state.provisional_result initial) ≢ theory.Neither → IsSomeAnd lead
      (λ n. MayAnswer says nodes (later_run says nodes old new step 0 false ((head, cycle_head step kind) ∷ []) a)
      (runs_of a.below) (verdict_of says (unwrap_or e.state.provisional_result initial)) step input n.0)
  may_answer_at None is home definite = absurd home
  may_answer_at (Some n) is home definite = record {
    of_goal = subst (IsNodeOf nodes n.0) same_goal home;
    answered = subst (λ t. IsAnsweredEdge (shapes_of says nodes)
        (verdict_of says (unwrap_or e.state.provisional_result initial)) (stack_of (frames_of says (runs_of a.below)))
        (frame_of says (run_of (a.entry, a.run))).entry (record { kind = rank_of step; target = t }) counts_now)
        (ap (λ l. elim l [ None ↦ there.run.node.0 | Some m ↦ m.0 ]) is) (answered definite);
  }

  pub cycle_fits : IsFit says nodes (runs_of new) (Answer (unwrap_or e.state.provisional_result initial)) e.state.node
  cycle_fits =
      taken_fits says nodes old new step 0 false ((head, cycle_head step kind) ∷ []) a
      (unwrap_or e.state.provisional_result initial) input e.state.node asks
      (may_answer_at e.state.node refl (home_of says nodes old h.supported head.0 (e, there.run) there.at))

-- the entry that was found by its goal has that goal
pub found_goal : {X I R A T : Type 0} (eq : I → I → Bool) → ((x y : I) → eq x y ≡ true → x ≡ y)
    → (input : I) (es : List (StackEntry X I R A T)) (head : ℕ) (e : StackEntry X I R A T)
    → position (eq input) (map (λ d. d.input) es) ≡ Some head → e ≡ get_or es head e
    → (head < length es) × (e.input ≡ input)
found_goal eq exact input es head e found e_is =
    let at = position-Some (eq input) (map (λ d. d.input) es) head e.input found in
    let within : head < length es = omega (arith, at.0, length-map es (λ d. d.input)) in
    let input_is : get_or (map (λ d. d.input) es) head e.input ≡ e.input =
    get_or-map (λ d. d.input) es head e e.input within ∙ ap (λ d. d.input) (sym e_is) in
    (within, sym (exact input e.input (subst (λ i. eq input i ≡ true) input_is at.1)))
