-- What is left of the nodes that a call wrote: what shows stored results, what a fault tells, and what these lead to.
use Rattle.std.proofs.Common.{◌≡◌, ◌≢◌, ◌∙◌, ◌⊎◌, ℕ, Bool, [], Contains, length, List, None, Option, Some, Result, Ok}
use Rattle.std.proofs.Common.{Err, IfOk, IfErr, IsTrue, arith, inl, inr, refl, ap, sym, subst}
use Rattle.std.specs.Option.{IsSomeAnd}
use Rattle.std.specs.Prelude.{Vec}
use Rattle.std.specs.Global.{Global}
use Rattle.std.proofs.lemmas.Option.{slice_get_past}
use Rattle.graph_nodes.proofs.Definites.{HasGraph-finished}
use Rattle.graph_nodes.specs.Collected.{Collected}
use Rattle.graph_nodes.specs.Held.{IsGone}
use Rattle.list_lemmas.proofs.Lists.{mapped_some}
use Rattle.run_records.specs.declared.runs.Fate.{Fate}
use Rattle.search_context.specs.Verdicts.{Verdicts}
use Rattle.search_context.specs.declared.context.Answer.{Answer}
use Rattle.search_context.specs.declared.context.Fault.TheVariants.{Conflict, Validation}
use Rattle.search_ends.proofs.moves.Ended.{ended_cache}
use Rattle.search_ends.specs.RunEnded.{EndedAtLimit, EndedDone, NotRunAgain, RanAgain}
use Rattle.search_ends.specs.Storing.{IsStoredOrTold, NotesMore, NotesNone, NotesOne}
use Rattle.search_ends.specs.Words.{RunEnds}
use Rattle.global_cache.proofs.Stores.{KeepsResults-same}
use Rattle.search_graph.proofs.ran.Calls.{kept}
use Rattle.search_graph.proofs.ran.Moves.{advanced_noted}
use Rattle.search_graph.specs.Below.{AreRuns, AreSoundResults, Cache, CacheNode, CxOf, DelegateOf, Fault, Finished}
use Rattle.search_graph.specs.Below.{HasGraph, KeepsFinished, KeepsResults, Memory, Next, NodeId, PathKind, Protocol}
use Rattle.search_graph.specs.Below.{Received, Step, stored_at, StoredResult, verdicts}
use Rattle.search_graph.specs.Called.{Called, Evaluated, HasRun, WasStored, WasWorkedOut}
use Rattle.search_graph.specs.Laws.{AreLaws}
use Rattle.search_graph.specs.Left.{ShowsFound, ShowsStored}
use Rattle.search_graph.specs.Ran.{Advanced, Answered, Asked, Began, ended, Failed, FailedForGood, FrameFailed, GoesOn}
use Rattle.search_graph.specs.Ran.{NotAnswered, NotAsked, NotBegun, Noted, NotNoted, Ran, RunEnded, Then, Turned}
use Rattle.search_graph.specs.Turns.{IsAtOutset}
use Rattle.search_rules.proofs.collecting.Kept.{graph_stays}
use Rattle.search_state.proofs.nodes.Noting.{noted_cases}
use Rattle.search_state.specs.Drafts.{LeavesReached, noted}
use Rattle.search_state.specs.declared.drafts.Drafts.{Drafts}
use Rattle.search_state.specs.declared.evaluation.Evaluation.{Evaluation}

-- the node of what a fault tells shows it still, where it is not let go
found_stays : {I R : Type 0} (says : Verdicts R) (fault : Fault I R) (live : ℕ → Bool) (old new : List (CacheNode I R))
    → Collected live old new → (node : NodeId) → IsTrue (live node.0)
    → ShowsFound says old fault node → ShowsFound says new fault node
found_stays says Memory live old new collected node is shows = absurd shows
found_stays says (Protocol number) live old new collected node is shows = absurd shows
found_stays says (Conflict goal stored found) live old new collected node is shows =
    graph_stays says live old new collected goal found (Some node) is shows
found_stays says (Validation goal stored found) live old new collected node is shows =
    graph_stays says live old new collected goal found (Some node) is shows

-- ---- nodes that show stored results

module _ {C I R T : Type 0} (says : Verdicts R) (same : I → I → Bool) where
  abbrev pub AllShown : Cache C I R T → List NodeId → Type 0
  AllShown cache items = (node : NodeId) → Contains items node → ShowsStored says same cache node

  -- or what a fault tells
  abbrev AllTold : Fault I R → Cache C I R T → List NodeId → Type 0
  AllTold fault cache items =
      (node : NodeId) → Contains items node → ShowsStored says same cache node ⊎ ShowsFound says cache.nodes fault node

  module _ (old new : Cache C I R T) (results : KeepsResults same old.results new.results) where
    -- an equal result is stored still
    still_shown : (node : NodeId) (was : ShowsStored says same old node)
        → HasGraph says new.nodes was.goal was.stored.result.result (Some node) → ShowsStored says same new node
    still_shown node was shows =
        at (stored_at same new.results was.goal was.place) refl (results was.goal was.place was.stored was.is_stored)
      where
        at : (o : Option (StoredResult I R T)) → stored_at same new.results was.goal was.place ≡ o
            → IsSomeAnd o (λ t. t.result.result ≡ was.stored.result.result) → ShowsStored says same new node
        at None is h = absurd h
        at (Some t) is h = record {
          goal = was.goal;
          place = was.place;
          stored = t;
          is_stored = is;
          shows = subst (λ r. HasGraph says new.nodes was.goal r (Some node)) (sym h) shows;
        }

    -- as nodes are written,
    shown_grows : KeepsFinished old.nodes new.nodes → (items : List NodeId) → AllShown old items → AllShown new items
    shown_grows finished items all node has = let was = all node has in still_shown node was
        (HasGraph-finished says old.nodes new.nodes finished was.goal was.stored.result.result (Some node) was.shows)

    -- and as nodes are let go to which these do not lead
    shown_stays : (live : ℕ → Bool) → Collected live old.nodes new.nodes → (items : List NodeId)
        → ((node : NodeId) → Contains items node → IsTrue (live node.0)) → AllShown old items → AllShown new items
    shown_stays live collected items lives all node has =
        let was = all node has in still_shown node was (graph_stays says live old.nodes new.nodes collected was.goal
        was.stored.result.result (Some node) (lives node has) was.shows)

  told_stays : (fault : Fault I R) (live : ℕ → Bool) (old new : Cache C I R T)
      → KeepsResults same old.results new.results → Collected live old.nodes new.nodes → (items : List NodeId)
      → ((node : NodeId) → Contains items node → IsTrue (live node.0))
      → AllTold fault old items → AllTold fault new items
  told_stays fault live old new results collected items lives all node has = elim (all node has) [
    | inl was ↦ inl (still_shown old new results node was (graph_stays says live old.nodes new.nodes collected was.goal
        was.stored.result.result (Some node) (lives node has) was.shows))
    | inr found ↦ inr (found_stays says fault live old.nodes new.nodes collected node (lives node has) found)
  ]

  -- ---- the node of an answer that is stored

  -- what shows a result of a goal that is stored or told
  shows_either : {B : Type 0} (result : Result B (Fault I R)) (cache : Cache C I R T) (goal : I) (r : R)
      (node : NodeId) → HasGraph says cache.nodes goal r (Some node) → IsStoredOrTold same cache.results goal r result
      → IfOk result (λ answer. ShowsStored says same cache node)
      × IfErr result (λ fault. ShowsFound says cache.nodes fault node)
  shows_either (Ok answer) cache goal r node graph told =
      let s = mapped_some (λ (s : StoredResult I R T). s.result.result)
      (stored_at same cache.results goal told.0) r told.1 in (
        record {
          goal = goal;
          place = told.0;
          stored = s.0;
          is_stored = s.1;
          shows = subst (λ x. HasGraph says cache.nodes goal x (Some node)) (sym s.2) graph;
        },
        tt,
      )
  shows_either (Err Memory) cache goal r node graph told = absurd told
  shows_either (Err (Protocol number)) cache goal r node graph told = absurd told
  shows_either (Err (Conflict other stored found)) cache goal r node graph told = (
    tt,
    subst (λ x. HasGraph says cache.nodes x found (Some node)) (sym told.0)
        (subst (λ x. HasGraph says cache.nodes goal x (Some node)) (sym told.1) graph),
  )
  shows_either (Err (Validation other stored found)) cache goal r node graph told = (
    tt,
    subst (λ x. HasGraph says cache.nodes x found (Some node)) (sym told.0)
        (subst (λ x. HasGraph says cache.nodes goal x (Some node)) (sym told.1) graph),
  )

  -- all that is noted after a move
  abbrev NotedShow : {B : Type 0} → Result B (Fault I R) → Cache C I R T → List NodeId → Type 0
  NotedShow result cache items =
      IfOk result (λ next. AllShown cache items) × IfErr result (λ fault. AllTold fault cache items)

  -- where all shows stored results that did so before
  all_show : {B : Type 0} (result : Result B (Fault I R)) (cache : Cache C I R T) (items : List NodeId)
      → AllShown cache items → NotedShow result cache items
  all_show (Ok next) cache items all = (all, tt)
  all_show (Err fault) cache items all = (tt, λ node has. inl (all node has))

  more_show : {B : Type 0} (result : Result B (Fault I R)) (cache : Cache C I R T) (before after : List NodeId)
      → NotesMore says same before result cache after → AllShown cache before → NotedShow result cache after
  more_show result cache before after (NotesNone is) all =
      subst (NotedShow result cache) (sym is) (all_show result cache before all)
  more_show {B} result cache before after (NotesOne goal r node is graph told) all =
      subst (NotedShow result cache) (sym is) (both result
      (λ n own. shows_either result cache goal r n (subst (HasGraph says cache.nodes goal r) own graph) told))
    where
      both : (x : Result B (Fault I R)) → ((n : NodeId) → node ≡ Some n
          → IfOk x (λ answer. ShowsStored says same cache n) × IfErr x (λ fault. ShowsFound says cache.nodes fault n))
          → NotedShow x cache (noted node before)
      both (Ok next) own =
          (λ n has. elim (noted_cases node before n has) [ inl new ↦ (own n new).0 | inr was ↦ all n was ], tt)
      both (Err fault) own = (
        tt,
        λ n has. elim (noted_cases node before n has) [ inl new ↦ inr (own n new).1 | inr was ↦ inl (all n was) ],
      )

-- ---- what is left

module _ {C I R A T : Type 0} (X : CxOf C I R A T) (same : I → I → Bool) where
  -- From this place on, each node is reached from the answer's, or from one that shows a stored result, or
  -- what the fault tells.
  abbrev IsLeft : ℕ → Result (Answer R) (Fault I R) → Cache C I R T → Type 0
  IsLeft first (Ok answer) new =
      LeavesReached first (λ root. (answer.node ≡ Some root) ⊎ ShowsStored (verdicts X) same new root) new
  IsLeft first (Err fault) new = fault ≢ Memory → LeavesReached first
      (λ root. ShowsStored (verdicts X) same new root ⊎ ShowsFound (verdicts X) new.nodes fault root) new

  -- As long as a call goes on, all that is noted shows stored results; when it ends, such nodes are left.
  abbrev IsLeftBy : Result (Next R) (Fault I R) → Cache C I R T → Drafts → Type 0
  IsLeftBy (Ok (Step given)) new drafts = AllShown (verdicts X) same new drafts.stored.items
  IsLeftBy (Ok (Finished answer)) new drafts = IsLeft drafts.first (Ok answer) new
  IsLeftBy (Err fault) new drafts = IsLeft drafts.first (Err fault) new

-- ---- what moves note

module _ {D C V P F I R A T : Type 0} {G : DelegateOf D C V P F I R A T} {X : CxOf C I R A T}
    {same : I → I → Bool} {same_result : R → R → Bool} where
  end_notes : {outcome : R} {old : Cache C I R T} {e : Evaluation D C V P F I R A T} {starts : ℕ}
      {result : Result (Next R) (Fault I R)} {new : Cache C I R T} {after : Evaluation D C V P F I R A T} {later : ℕ}
      → RunEnds G X same same_result outcome old e starts result new after later
      → AllShown (verdicts X) same new e.drafts.stored.items
      → NotedShow (verdicts X) same result new after.drafts.stored.items
  end_notes {e = e} (EndedDone entry run reason result new after comes pop) all =
      more_show (verdicts X) same result new e.drafts.stored.items after.drafts.stored.items pop.noted.more all
  end_notes {e = e} (EndedAtLimit entry run result new after comes pop) all =
      more_show (verdicts X) same result new e.drafts.stored.items after.drafts.stored.items pop.noted.more all
  end_notes (RanAgain entry run new after later comes keeps reran counted) all = (
    subst (λ (a : Evaluation D C V P F I R A T). AllShown (verdicts X) same new a.drafts.stored.items)
        (sym keeps.rest) all,
    tt,
  )
  end_notes (NotRunAgain entry run new after later comes keeps) all = (
    tt,
    λ node has. inl (subst (λ (a : Evaluation D C V P F I R A T). AllShown (verdicts X) same new a.drafts.stored.items)
        (sym keeps.rest) all node has),
  )

  module _ {noop : Bool} {received : Received R} {old : Cache C I R T} {e : Evaluation D C V P F I R A T} {starts : ℕ}
      (all : AllShown (verdicts X) same old e.drafts.stored.items) where
    move_notes : {result : Result (Next R) (Fault I R)} {new : Cache C I R T} {after : Evaluation D C V P F I R A T}
        {later : ℕ} → Advanced G X same same_result noop received old e starts result new after later
        → NotedShow (verdicts X) same result new after.drafts.stored.items
    move_notes (FrameFailed fault goals failed) = (tt, λ node has. inl (all node has))
    move_notes (Asked kind goal goals given new after later stepped asking asks) = (
      subst (λ (d : Drafts). AllShown (verdicts X) same new d.stored.items) (sym asks.same_drafts)
          (shown_grows (verdicts X) same old new asks.cache.results asks.cache.nodes e.drafts.stored.items all),
      tt,
    )
    move_notes (NotAsked kind goal goals new after later stepped fails asks) = (
      tt,
      λ node has. inl (subst (λ (d : Drafts). AllShown (verdicts X) same new d.stored.items) (sym asks.same_drafts)
          (shown_grows (verdicts X) same old new asks.cache.results asks.cache.nodes
          e.drafts.stored.items all) node has),
    )
    move_notes (RunEnded outcome goals result new after later stepped runs ends) =
        let changes = ended_cache ends in
        end_notes ends
        (shown_grows (verdicts X) same old new changes.keeps.results changes.keeps.nodes e.drafts.stored.items all)
    move_notes (Noted request goals noted stepped about notes) = (all, tt)
    move_notes (NotNoted request goals left stepped) = (tt, λ node has. inl (all node has))

    -- ---- and turns leave

    turn_leaves : {result : Result (Next R) (Fault I R)} {new : Cache C I R T} {after : Evaluation D C V P F I R A T}
        {later : ℕ} → Turned G X same same_result noop received old e starts result new after later
        → IsLeftBy X same result new after.drafts
    turn_leaves (GoesOn given mid new between after later advanced goes is first stored) =
        subst (λ (v : Vec NodeId Global). AllShown (verdicts X) same new v.items) (sym stored)
        (shown_stays (verdicts X) same mid new
        (KeepsResults-same same mid.results new.results (ap (λ (c : Cache C I R T). c.results) goes.rest)) goes.live
        goes.collected between.drafts.stored.items goes.noted_are (move_notes advanced).0)
    turn_leaves (Answered answer mid new after later advanced goes) = λ at late left.
        let from = goes.leaves at late left in
        let shown = shown_stays (verdicts X) same mid new
        (KeepsResults-same same mid.results new.results (ap (λ (c : Cache C I R T). c.results) goes.rest)) goes.live
        goes.collected after.drafts.stored.items goes.noted_are (move_notes advanced).0 in
        (from.0, elim from.1 [ inl target ↦ inl target | inr noted_one ↦ inr (shown from.0 noted_one) ], from.2)
    turn_leaves (NotAnswered answer new after later advanced) = λ other. absurd (other refl)
    turn_leaves (Failed fault mid new between after later advanced goes is) = λ other.
        let told = told_stays (verdicts X) same fault goes.live mid new
        (KeepsResults-same same mid.results new.results (ap (λ (c : Cache C I R T). c.results) goes.rest))
        goes.collected between.drafts.stored.items goes.noted_are (move_notes advanced).1 in
        subst (λ (a : Evaluation D C V P F I R A T). LeavesReached a.drafts.first
        (λ root. ShowsStored (verdicts X) same new root ⊎ ShowsFound (verdicts X) new.nodes fault root) new) (sym is)
        (λ at late left. let from = goes.leaves at late left in
        (from.0, elim from.1 [ inl target ↦ absurd cc | inr noted_one ↦ told from.0 noted_one ], from.2))
    turn_leaves (FailedForGood fault new between after later advanced is) = λ other. absurd (other refl)

  -- ---- the whole call

  -- a turn keeps the place from which on the call's nodes stand
  turn_first : {noop : Bool} {received : Received R} {old : Cache C I R T} {e : Evaluation D C V P F I R A T}
      {starts : ℕ} {result : Result (Next R) (Fault I R)} {new : Cache C I R T}
      {after : Evaluation D C V P F I R A T} {later : ℕ}
      → Turned G X same same_result noop received old e starts result new after later
      → after.drafts.first ≡ e.drafts.first
  turn_first (GoesOn given mid new between after later advanced goes is first stored) =
      first ∙ (advanced_noted advanced).first
  turn_first (Answered answer mid new after later advanced goes) = (advanced_noted advanced).first
  turn_first (NotAnswered answer new after later advanced) = (advanced_noted advanced).first
  turn_first (Failed fault mid new between after later advanced goes is) =
      ap (λ (a : Evaluation D C V P F I R A T). a.drafts.first) is ∙ (advanced_noted advanced).first
  turn_first (FailedForGood fault new between after later advanced is) =
      ap (λ (a : Evaluation D C V P F I R A T). a.drafts.first) is ∙ (advanced_noted advanced).first

  module _ {noop : Bool} (laws : AreLaws G X same same_result) {kind : PathKind} {goal : I} {fate : Fate R}
      {old : Cache C I R T} {e : Evaluation D C V P F I R A T} {starts : ℕ}
      (outset : IsAtOutset old e) (are_runs : AreRuns (verdicts X) (G.script old.cx) old.nodes)
      (sound : AreSoundResults same (verdicts X) (G.script old.cx) old.nodes old.results) where
    ran_shows : {given : Received R} {new : Cache C I R T} {after : Evaluation D C V P F I R A T} {later : ℕ}
        (result : Result (Next R) (Fault I R))
        → result ≡ Ok (Step given) → Ran G X same same_result noop kind goal fate old e starts result new after later
        → AllShown (verdicts X) same new after.drafts.stored.items
    ran_shows result is (Began goals held nodes later pushes fates holds nodes_kept one counted) =
        λ node has. none_noted (subst (λ (l : List NodeId). Contains l node) outset.no_drafts.none has)
      where
        none_noted : {B : Type 0} {node : NodeId} → Contains [] node → B
        none_noted has = absurd (omega (arith, has.1))
    ran_shows result is (NotBegun goals held later least one) = absurd cc
    ran_shows {given = given} result is (Then earlier mid between now told new after later ran turned) =
        subst (λ r. IsLeftBy X same r new after.drafts) is
        (turn_leaves (ran_shows {given = earlier} (Ok (Step earlier)) refl ran) turned)

    ran_leaves : {new : Cache C I R T} {after : Evaluation D C V P F I R A T} {later : ℕ}
        (result : Result (Answer R) (Fault I R)) (last : Result (Next R) (Fault I R))
        → last ≡ ended result → Ran G X same same_result noop kind goal fate old e starts last new after later
        → IsLeft X same (length old.nodes) result new
    ran_leaves (Ok answer) last is (Began goals held nodes later pushes fates holds nodes_kept one counted) = absurd cc
    ran_leaves (Err fault) last is (Began goals held nodes later pushes fates holds nodes_kept one counted) = absurd cc
    ran_leaves (Ok answer) last is (NotBegun goals held later least one) = absurd cc
    ran_leaves (Err fault) last is (NotBegun goals held later least one) =
        let memory : Memory ≡ fault = cc in λ other. absurd (other (sym memory))
    ran_leaves (Ok answer) last is (Then given mid between now told new after later ran turned) =
        subst (λ n. IsLeft X same n (Ok answer) new)
        (turn_first turned ∙ (kept laws outset are_runs sound ran).drafts.1)
        (subst (λ r. IsLeftBy X same r new after.drafts) is
        (turn_leaves (ran_shows {given = given} (Ok (Step given)) refl ran) turned))
    ran_leaves (Err fault) last is (Then given mid between now told new after later ran turned) =
        subst (λ n. IsLeft X same n (Err fault) new)
        (turn_first turned ∙ (kept laws outset are_runs sound ran).drafts.1)
        (subst (λ r. IsLeftBy X same r new after.drafts) is
        (turn_leaves (ran_shows {given = given} (Ok (Step given)) refl ran) turned))

  evaluated_leaves :
      {noop looks_up : Bool} {kind : PathKind} {goal : I} {old : Cache C I R T} {e : Evaluation D C V P F I R A T}
      {starts : ℕ} {result : Result (Answer R) (Fault I R)} {new : Cache C I R T}
      {after : Evaluation D C V P F I R A T} {later : ℕ}
      → AreLaws G X same same_result → IsAtOutset old e → AreRuns (verdicts X) (G.script old.cx) old.nodes
      → AreSoundResults same (verdicts X) (G.script old.cx) old.nodes old.results
      → Evaluated G X same same_result noop looks_up kind goal old e starts result new after later
      → IsLeft X same (length old.nodes) result new
  evaluated_leaves {old = old} laws outset are_runs sound (WasStored hit found usable) =
      λ at late left. absurd (left (subst IsGone (sym (slice_get_past old.nodes at late)) tt))
  evaluated_leaves laws outset are_runs sound (WasWorkedOut result new after later none fated ran) =
      ran_leaves laws outset are_runs sound result (ended result) refl ran

  module _ {call : Called C I R A T} (ran : HasRun G X same same_result call) where
    run_leaves : IsLeft X same (length call.before.cache.nodes) call.result call.after.cache
    run_leaves = evaluated_leaves ran.laws ran.at_outset ran.was_sound.runs ran.was_sound.results ran.evaluated

    pub run_leaves_shown : IfOk call.result (λ answer. LeavesReached (length call.before.cache.nodes)
        (λ root. (answer.node ≡ Some root) ⊎ ShowsStored (verdicts X) same call.after.cache root) call.after.cache)
    run_leaves_shown = at_answer call.result run_leaves
      where
        at_answer : (result : Result (Answer R) (Fault I R))
            → IsLeft X same (length call.before.cache.nodes) result call.after.cache
            → IfOk result (λ answer. LeavesReached (length call.before.cache.nodes)
            (λ root. (answer.node ≡ Some root) ⊎ ShowsStored (verdicts X) same call.after.cache root) call.after.cache)
        at_answer (Ok answer) h = h
        at_answer (Err fault) h = tt

    pub run_leaves_told : IfErr call.result (λ fault. fault ≢ Memory → LeavesReached (length call.before.cache.nodes)
        (λ root. ShowsStored (verdicts X) same call.after.cache root
        ⊎ ShowsFound (verdicts X) call.after.cache.nodes fault root) call.after.cache)
    run_leaves_told = at_fault call.result run_leaves
      where
        at_fault : (result : Result (Answer R) (Fault I R))
            → IsLeft X same (length call.before.cache.nodes) result call.after.cache → IfErr result
            (λ fault. fault ≢ Memory → LeavesReached (length call.before.cache.nodes) (λ root. ShowsStored (verdicts X)
            same call.after.cache root ⊎ ShowsFound (verdicts X) call.after.cache.nodes fault root) call.after.cache)
        at_fault (Ok answer) h = tt
        at_fault (Err fault) h = h
