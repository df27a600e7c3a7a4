-- A run that is done, and its node.
use Rattle.run_records.specs.declared.runs.Fate.{Fate}
use Rattle.std.proofs.Common.{◌≡◌, ◌≢◌, ℕ, suc, Bool, true, false, IsTrue, ◌↔◌, List, [], ◌∷◌, map, ◌++◌, length}
use Rattle.std.proofs.Common.{is_some, Option, None, Some, option_map, slice_get, refl, sym, ap, ◌∙◌}
use Rattle.std.proofs.Common.{subst, if◌then◌else◌}
use Rattle.std.proofs.Common.{◌&&◌, Contains}
use Rattle.std.specs.List.{filter}
use Rattle.std.specs.Option.{IsSomeAnd}
use Rattle.std.proofs.lemmas.List.{length-map}
use Rattle.open_graphs.specs.Graph as theory
use Rattle.graph_nodes.specs.Nodes.{WasAsked}
use Rattle.list_lemmas.proofs.Members.{Contains-map, Contains-mapped, filtered_member}
use Rattle.run_records.specs.Words.{Records}
use Rattle.search_context.specs.Question.{Question}
use Rattle.search_context.specs.Run.{is_counted, Progress}
use Rattle.search_rules.specs.Below.{PathKind, Verdict, Yes, No, Neither, Edge, NodeId, Request, Reply, Begin, Answer}
use Rattle.search_rules.specs.Below.{Noted, AvailableDepth, OpenGoal, StackEntry, question_of, EndsIn, progress_after}
use Rattle.search_rules.specs.Below.{questions_answered, CacheNode, open_node, open_goal, with_run, IsNodeOf, IsRun}
use Rattle.search_rules.specs.Below.{verdict_of, Run, DefiniteAnswer, NotesOverflow, TakesStored, Hit, first_entry}
use Rattle.search_rules.specs.Below.{usages_over, with_depth, with_nested_goals, TakesAnswer, AnswersNewest, RunRecord}
use Rattle.search_rules.specs.Below.{acted, answered, no_record, edges_of, counted_by, IsDefinite, Heads, at_depth}
use Rattle.search_rules.specs.Below.{heads_shape, rank_of, UsagesByHead, StackDepth, EntryState, Evaluate, TakesIn}
use Rattle.search_rules.specs.Below.{Verdicts, verdict_shape}
use Rattle.search_rules.specs.Words.{tally_of, heads_of, IsTallied, LieBelow, OpenRun, AreEdges, NewestAsks, HasTally}
use Rattle.search_rules.specs.Words.{AreJustified, LeadToGoals, MayAnswer, IsFit, asked_now, run_of, runs_of}
use Rattle.search_rules.specs.Words.{EndsNewest, EndsRun, HasResultNode, Ended, LeftOpen}
use Rattle.search_rules.proofs.counts.TakenTallies.{taken_tallied, taken_keeps, taken_comes_in}
use Rattle.search_rules.specs.Runs.{Again}
use Rattle.search_rules.proofs.justified.Justified.{EndsWithNode, pushed_is_justified, recounted_is_justified}
use Rattle.search_rules.proofs.justified.Justified.{again_ends, neither_ends, anew_ends}
use Rattle.run_records.proofs.ProgressEdges.{yes_edges_are, no_edges_are, edge_is_of_answer}
use Rattle.lean_runs.proofs.Places.{contains_at, place_among}
use Rattle.lean_runs.proofs.Verdicts.{verdict_is, in_theory_definite, neither_at}
use Rattle.run_records.proofs.Verdicts.{fails_unless}

-- ---- goals that are pushed, or only change their entries

pub pushed_goal_is_justified : {X F I R A T : Type 0} (says : Verdicts R) (nodes : List (CacheNode I R)) (input : I)
    (kind : PathKind) (depth : AvailableDepth) (own : NodeId) (frame : F) (becomes : Fate R)
    (goals : List (OpenGoal X F I R A T)) → own.0 ≡ length nodes → NewestAsks (runs_of goals) kind input
    → AreJustified says nodes (runs_of goals) → AreJustified says (nodes ++ open_node input ∷ []) (runs_of ((
      first_entry input kind depth own,
      record {
        frame = frame;
        node = own;
        progress = no_record;
        finished_runs = 0;
        met_overflow_before = false;
        candidates = [];
        fate = becomes;
      },
    ) ∷ goals))
pushed_goal_is_justified says nodes input kind depth own frame becomes goals at asks h =
    pushed_is_justified says nodes input kind own (runs_of goals) at asks h

-- the newest goal changes, but not what stands in its run
module _ {X F I R A T : Type 0} (says : Verdicts R) (nodes : List (CacheNode I R)) (same : I → I → Bool)
    (old new : List (OpenGoal X F I R A T)) where
  pub overflow_noted_same : NotesOverflow same old new → runs_of old ≡ runs_of new
  overflow_noted_same n = ap (λ (l : List (OpenGoal X F I R A T)). runs_of l) n.was
      ∙ ap (λ (l : List (OpenGoal X F I R A T)). runs_of l) (sym n.is)

  pub overflow_noted_is_justified : NotesOverflow same old new → AreJustified says nodes (runs_of old)
      → AreJustified says nodes (runs_of new)
  overflow_noted_is_justified n h = subst (AreJustified says nodes) (overflow_noted_same n) h

  pub stored_taken_same : (step : PathKind) (hit : Hit I R T)
      → TakesStored same step hit old new → runs_of old ≡ runs_of new
  stored_taken_same step hit t = ap (λ (l : List (OpenGoal X F I R A T)). runs_of l) t.was
      ∙ ap (λ (l : List (OpenGoal X F I R A T)). runs_of l) (sym t.is)

-- ---- heads that are taken over

module _ {X I R A T : Type 0} (parent : StackDepth) (step : PathKind) (required : ℕ) (overflow : Bool) (answer : Heads)
    (old new : EntryState X I R A T) (t : TakesAnswer parent step required overflow answer old new) where
  -- but for what it counts, the goal's run is the same
  pub same_run : {F : Type 0} (entry : StackEntry X I R A T) (run : Run X F I R A T) → entry.state ≡ old
      → run_of (record entry { state = new }, run)
      ≡ record (run_of (entry, run)) { tally = tally_of new run.candidates }
  same_run entry run is =
      ap (λ (s : EntryState X I R A T).
      record (run_of (record entry { state = s }, run)) { tally = tally_of new run.candidates })
      (t.others ∙ ap (λ (s : EntryState X I R A T). record (with_depth s required overflow) {
        heads = new.heads;
        usages = new.usages;
        candidate_usages = new.candidate_usages;
        nested_goals = new.nested_goals;
      }) (sym is))

  some_at : {A B : Type 0} (o : Option A) (q : Option A) (f g : A → B)
      → option_map f o ≡ option_map g q → is_some o ≡ is_some q
  some_at None None f g is = refl
  some_at (Some x) (Some y) f g is = refl
  some_at None (Some y) f g is = absurd cc
  some_at (Some x) None f g is = absurd cc

  -- a candidate stays open, or none is
  pub open_stays : is_some new.candidate_usages ≡ is_some old.candidate_usages
  open_stays = some_at new.candidate_usages old.candidate_usages (λ counts. at_depth counts (record { 0 = 0 }))
      (λ counts. usages_over (at_depth counts (record { 0 = 0 })) (at_depth answer (record { 0 = 0 })))
      (t.in_candidate (record { 0 = 0 }))

-- the newest goal that takes an answer over stays justified
module _ {X F I R A T : Type 0} (says : Verdicts R) (nodes : List (CacheNode I R)) (step : PathKind) (required : ℕ)
    (overflow : Bool) (answer : Heads) (old new : List (OpenGoal X F I R A T))
    (a : AnswersNewest step required overflow answer old new) (lower : LieBelow (suc (length a.below)) answer) where
  was_justified : AreJustified says nodes (runs_of old)
      → AreJustified says nodes (run_of (a.entry, a.run) ∷ runs_of a.below)
  was_justified h = subst (λ l. AreJustified says nodes (runs_of l)) a.was h

  was_tallied : AreJustified says nodes (runs_of old)
      → IsTallied (length a.below) (tally_of a.entry.state a.run.candidates)
  was_tallied h = subst (λ n. IsTallied n (tally_of a.entry.state a.run.candidates))
      (length-map a.below run_of) (was_justified h).tallies.0.tallied

  recounted : AreJustified says nodes (runs_of old) → HasTally (length (runs_of a.below))
      (record (run_of (a.entry, a.run)) { tally = tally_of a.state a.run.candidates })
  recounted h = record {
    tallied =
        subst (λ n. IsTallied n (tally_of a.state a.run.candidates)) (sym (length-map a.below run_of))
        (taken_tallied (record { 0 = length a.below }) step answer
        (with_nested_goals (with_depth a.entry.state required overflow) a.state.nested_goals) a.state
        a.run.candidates a.takes lower (was_tallied h));
    open_is = open_stays (record { 0 = length a.below }) step required overflow answer a.entry.state a.state a.takes
        ∙ (was_justified h).tallies.0.open_is;
    finished_are = (was_justified h).tallies.0.finished_are;
  }

  pub answered_newest_is_justified : AreJustified says nodes (runs_of old) → AreJustified says nodes (runs_of new)
  answered_newest_is_justified h =
      subst (λ l. AreJustified says nodes (runs_of l)) (sym a.is)
      (subst (λ o. AreJustified says nodes (o ∷ runs_of a.below)) (sym (same_run (record { 0 = length a.below }) step
      required overflow answer a.entry.state a.state a.takes a.entry a.run refl))
      (recounted_is_justified says nodes (tally_of a.state a.run.candidates) (run_of (a.entry, a.run)).is_open
      (run_of (a.entry, a.run)).ignored a.run.progress.request (run_of (a.entry, a.run)) (runs_of a.below) (recounted h)
      (λ c kept. (
        kept,
        taken_keeps (record { 0 = length a.below }) step answer
            (with_nested_goals (with_depth a.entry.state required overflow) a.state.nested_goals) a.state
            a.run.candidates a.takes lower (was_tallied h) c,
      ))
      (was_justified h)))

  candidate_now : (o : Option UsagesByHead) (is_open : Bool) (many more : ℕ) → is_some o ≡ is_open → many ≡ more
      → (if is_some o then Some many else None) ≡ (if is_open then Some more else None)
  candidate_now o is_open many more same length_is =
      ap (λ b. if b then Some many else None) same ∙ ap (λ n. if is_open then Some n else None) length_is

  -- its counts take in what the answer rests on, outside candidates or in the one that is open
  pub heads_come : AreJustified says nodes (runs_of old) → TakesIn (length a.below) (rank_of step) (heads_shape answer)
      (heads_of (tally_of a.state a.run.candidates) (asked_now (run_of (a.entry, a.run))))
  heads_come h =
      let was = (was_justified h).tallies.0 in
      subst (λ c. TakesIn (length a.below) (rank_of step) (heads_shape answer)
      (heads_of (tally_of a.state a.run.candidates) c))
      (candidate_now a.entry.state.candidate_usages (run_of (a.entry, a.run)).is_open (length a.run.candidates)
      (length (run_of (a.entry, a.run)).ignored) was.open_is was.finished_are)
      (taken_comes_in (record { 0 = length a.below }) step answer
      (with_nested_goals (with_depth a.entry.state required overflow) a.state.nested_goals) a.state
      a.run.candidates a.takes lower (was_tallied h))

-- a reply that is no definite answer fits
other_fits : {I R : Type 0} (says : Verdicts R) (nodes : List (CacheNode I R)) (goals : List (OpenRun I R))
    (reply : Reply R) (target : Option NodeId)
    → ((r : R) → reply ≡ Answer r → verdict_of says r ≡ theory.Neither) → IsFit says nodes goals reply target
other_fits says nodes [] reply target neither = tt
other_fits says nodes (o ∷ below) reply target neither =
    λ r kind goal is asks definite. absurd (definite (neither r is))

-- an answer that is neither yes nor no fits
pub neither_fits : {I R : Type 0} (says : Verdicts R) (nodes : List (CacheNode I R)) (goals : List (OpenRun I R))
    (r : R) (target : Option NodeId) → verdict_of says r ≡ theory.Neither → IsFit says nodes goals (Answer r) target
neither_fits says nodes goals r target neither = other_fits says nodes goals (Answer r) target
    (λ s is. let same : r ≡ s = cc in ap (verdict_of says) (sym same) ∙ neither)

-- a frame begins, and is noted, with no answer
pub begin_fits : {I R : Type 0} (says : Verdicts R) (nodes : List (CacheNode I R)) (goals : List (OpenRun I R))
    → IsFit says nodes goals Begin None
begin_fits says nodes goals =
    other_fits says nodes goals Begin None (λ s is. let e : Begin ≡ Answer s = is in absurd cc)

pub noted_fits : {I R : Type 0} (says : Verdicts R) (nodes : List (CacheNode I R)) (goals : List (OpenRun I R))
    → IsFit says nodes goals Noted None
noted_fits says nodes goals =
    other_fits says nodes goals Noted None (λ s is. let e : Noted ≡ Answer s = is in absurd cc)

-- the newest goal gets the answer that its question has
pub answer_fits : {I R : Type 0} (says : Verdicts R) (nodes : List (CacheNode I R)) (p : OpenRun I R)
    (below : List (OpenRun I R)) (r : R) (step : PathKind) (goal : I) (target : Option NodeId)
    → NewestAsks (p ∷ below) step goal → (verdict_of says r ≢ theory.Neither
    → IsSomeAnd target (λ n. MayAnswer says nodes p below (verdict_of says r) step goal n.0))
    → IsFit says nodes (p ∷ below) (Answer r) target
answer_fits says nodes p below r step goal target asks may s kind asked is asks_too definite =
    let same : r ≡ s = cc in
    let requests : Some (Evaluate step goal) ≡ Some (Evaluate kind asked) = sym asks ∙ asks_too in
    let kinds : step ≡ kind = cc in
    let goals : goal ≡ asked = cc in
    subst (λ x. IsSomeAnd target (λ n. MayAnswer says nodes p below (verdict_of says x) kind asked n.0)) same
    (subst (λ k. IsSomeAnd target (λ n. MayAnswer says nodes p below (verdict_of says r) k asked n.0)) kinds
    (subst (λ g. IsSomeAnd target (λ n. MayAnswer says nodes p below (verdict_of says r) step g n.0)) goals
    (may (λ neither. definite (ap (verdict_of says) (sym same) ∙ neither)))))

-- ---- the run that a node is finished with

-- what is answered in some way was asked
answered_was_asked : {I R : Type 0} (test : R → Bool) (done : Progress I R) (question : Question I)
    → Contains (questions_answered test done) question → WasAsked done question
answered_was_asked test done question has =
    let one = Contains-map (λ a. a.question) (filter (λ a. test a.answer && is_counted done.ignored a.candidate)
    done.asked) question has in
    subst (WasAsked done) one.2 (Contains-mapped (λ a. a.question) done.asked one.0
    ((filtered_member (λ a. test a.answer && is_counted done.ignored a.candidate) done.asked one.0 one.1).0))

-- what the edges of a definite verdict ask was asked
edge_was_asked : {I R : Type 0} (says : Verdicts R) (script : List (Reply R) → Request I R) (p : RunRecord I R)
    (replies : List (Reply R)) → Records says script p replies → (v : Verdict) → v ≢ Neither → (e : Edge I)
    → Contains (edges_of p v) e → WasAsked (progress_after script replies) (question_of e)
edge_was_asked says script p replies on_record Yes definite e has =
    answered_was_asked says.is_yes (progress_after script replies) (question_of e)
    (subst (λ l. Contains l (question_of e)) (yes_edges_are says script p replies on_record)
    (Contains-mapped question_of (edges_of p Yes) e has))
edge_was_asked says script p replies on_record No definite e has =
    answered_was_asked says.is_no (progress_after script replies) (question_of e)
    (subst (λ l. Contains l (question_of e)) (no_edges_are says script p replies on_record)
    (Contains-mapped question_of (edges_of p No) e has))
edge_was_asked says script p replies on_record Neither definite e has = absurd (definite refl)

module _ {I R : Type 0} (says : Verdicts R) (scripts : I → List (Reply R) → Request I R) (nodes : List (CacheNode I R))
    (node : NodeId) (p : RunRecord I R) (r : R) (h : EndsRun says scripts nodes node p r)
    (placed : LeadToGoals nodes p.answers) (v : Verdict) (holds : (v ≡ Yes) ↔ IsTrue (says.is_yes r))
    (fails : (v ≡ No) ↔ IsTrue (says.is_no r)) (definite : v ≢ Neither) where
  edge_placed : (i : ℕ) (e : Edge I) → slice_get (edges_of p v) i ≡ Some e → (j : ℕ) × (a : DefiniteAnswer I)
      × (slice_get p.answers j ≡ Some a) × (a.edge ≡ e) × (a.verdict ≡ v) × (counted_by p.ignored a.candidate ≡ true)
  edge_placed i e at =
      let from = edge_is_of_answer p v e (contains_at (edges_of p v) i e at) in
      let place = place_among p.answers from.answer from.is_in in
      (place.0, from.answer, place.1, from.edge_is, from.verdict_is, from.kept)

  pub is_run : IsRun says (scripts h.goal) nodes (record { replies = p.replies; edges = edges_of p v; outcome = r })
  is_run =
      let same = h.ends.on_record.replies_are in
      record {
        ends = subst (λ replies. EndsIn (scripts h.goal) replies r) (sym same) (record {
          is_fitting = h.ends.is_fitting;
          is_in_order = h.ends.on_record.in_order;
          is_done = h.ends.is_done;
        });
        yes = λ is. subst (λ replies. map question_of (edges_of p v)
            ≡ questions_answered says.is_yes (progress_after (scripts h.goal) replies)) (sym same)
            (subst (λ w. map question_of (edges_of p w)
            ≡ questions_answered says.is_yes (progress_after (scripts h.goal) h.ends.replies))
            (sym (holds.1 is)) (yes_edges_are says (scripts h.goal) p h.ends.replies h.ends.on_record));
        no = λ is. subst (λ replies. map question_of (edges_of p v)
            ≡ questions_answered says.is_no (progress_after (scripts h.goal) replies)) (sym same)
            (subst (λ w. map question_of (edges_of p w)
            ≡ questions_answered says.is_no (progress_after (scripts h.goal) h.ends.replies))
            (sym (fails.1 is)) (no_edges_are says (scripts h.goal) p h.ends.replies h.ends.on_record));
        asked = λ i e at.
            subst (λ replies. WasAsked (progress_after (scripts h.goal) replies) (question_of e)) (sym same)
            (edge_was_asked says (scripts h.goal) p h.ends.replies h.ends.on_record v definite e
            (contains_at (edges_of p v) i e at));
        targets = λ i e at.
            let w = edge_placed i e at in subst (λ x. IsNodeOf nodes x.target x.input) w.3 (placed w.0 w.1 w.2);
      }

  pub open_for_run : IsSomeAnd (open_goal nodes node.0)
      (λ goal. IsRun says (scripts goal) nodes (record { replies = p.replies; edges = edges_of p v; outcome = r }))
  open_for_run = subst (λ o. IsSomeAnd o
      (λ goal. IsRun says (scripts goal) nodes (record { replies = p.replies; edges = edges_of p v; outcome = r })))
      (sym h.is_open) is_run

module _ {I R : Type 0} (says : Verdicts R) (nodes : List (CacheNode I R)) (earlier : Option R) (node : NodeId)
    (lead : Option NodeId) (p : RunRecord I R) (r : R) (v : Verdict) (holds : (v ≡ Yes) ↔ IsTrue (says.is_yes r))
    (fails : (v ≡ No) ↔ IsTrue (says.is_no r)) where
  -- one that says what the provisional result said has that one's node
  pub again : v ≢ Neither → option_map (verdict_of says) earlier ≡ Some (verdict_shape v)
      → HasResultNode says nodes nodes earlier node lead p r lead
  again definite repeats =
      let same : verdict_shape v ≡ verdict_of says r = verdict_is says r v holds fails definite in
      Again (λ e. in_theory_definite v definite (same ∙ e)) (repeats ∙ ap Some same) refl

  -- any other leaves it open
  pub left_open : v ≡ Neither → HasResultNode says nodes nodes earlier node lead p r None
  left_open is = LeftOpen (neither_at (says.is_yes r) (says.is_no r)
      (fails_unless (says.is_yes r) (λ t. let e : Neither ≡ Yes = sym is ∙ holds.1 t in cc))
      (fails_unless (says.is_no r) (λ t. let e : Neither ≡ No = sym is ∙ fails.1 t in cc))) refl

  -- where the result is definite, so is its verdict
  pub definite_result : v ≢ Neither → IsDefinite says r
  definite_result definite e = in_theory_definite v definite (verdict_is says r v holds fails definite ∙ e)

-- ---- the newest goal's run has ended

module _ {X F I R A T : Type 0} (says : Verdicts R) (before after : List (CacheNode I R)) (entry : StackEntry X I R A T)
    (run : Run X F I R A T) (below : List (OpenGoal X F I R A T))
    (h : AreJustified says before (runs_of ((entry, run) ∷ below))) where
  pub ends_run : (scripts : I → List (Reply R) → Request I R) (r : R) → EndsNewest says scripts ((entry, run) ∷ below) r
      → EndsRun says scripts before run.node run.progress r
  ends_run scripts r ends = record { goal = entry.input; is_open = h.are_open.0; ends = ends }

  -- each answer on its record leads to a node of its goal
  pub answers_placed : LeadToGoals before run.progress.answers
  answers_placed = h.supported.0.placed

  pub rebases : (r : R) (target : Option NodeId)
      → HasResultNode says before after entry.state.provisional_result run.node entry.state.node run.progress r target
      → EndsWithNode says before after (run_of (entry, run)) (runs_of below) r target
  rebases r target (Again definite repeats is) =
      subst (λ l. EndsWithNode says before l (run_of (entry, run)) (runs_of below) r entry.state.node) (sym is)
      (again_ends says before (run_of (entry, run)) (runs_of below) h r definite repeats)
  rebases r target (Ended ended outcome done definite anew is edges) =
      subst (λ l. EndsWithNode says before l (run_of (entry, run)) (runs_of below) r (Some run.node)) (sym is)
      (subst (λ x. EndsWithNode says before (with_run before run.node.0 ended) (run_of (entry, run))
      (runs_of below) x (Some run.node)) outcome
      (anew_ends says before (run_of (entry, run)) (runs_of below) h run.node refl ended
      (λ e. definite (ap (verdict_of says) (sym outcome) ∙ e))
      (λ repeats. anew (repeats ∙ ap (λ x. Some (verdict_of says x)) outcome))
      (subst (λ x. AreEdges says before run.node.0 run.progress.answers (acted run.progress).ignored
      (verdict_of says x) ended.edges) (sym outcome)
      (subst (λ ignored. AreEdges says before run.node.0 run.progress.answers ignored (verdict_of says r) ended.edges)
      (sym (ap (λ q. (answered run.progress q Neither None).ignored) done)) edges))))
  rebases r target (LeftOpen neither is) =
      subst (λ l. EndsWithNode says before l (run_of (entry, run)) (runs_of below) r None) (sym is)
      (neither_ends says before (run_of (entry, run)) (runs_of below) h r neither)
