-- Each move keeps a sound state sound.
use Rattle.std.proofs.Common.{◌≡◌, ◌≢◌, ℕ, ◌<◌, ◌≤◌, max, List, [], ◌∷◌, ◌++◌, Some, None, length, slice_get, slice_set}
use Rattle.std.proofs.Common.{arith, refl, sym, subst, ◌∙◌, ◌⊎◌, inl, inr, length-set}
use Rattle.std.proofs.lemmas.Option.{slice_get_within}
use Rattle.open_graphs.specs.Words.{Verdict, Yes, No, Neither, cycle_kind, Edge, Node, Unfinished, Finished, Grown}
use Rattle.open_graphs.specs.Words.{Entry, IsLeaf, path_kind, IsSameOrFresh, Heads, Use, Unreached, ProvisionalUse}
use Rattle.open_graphs.specs.Words.{UsesNo, KeepsCycleKinds, TakesOver, Running, IsStack, Answered, Anew, RunningGoal}
use Rattle.open_graphs.specs.Words.{ProvisionalEntry, Final, stack_of, no_heads, AllRunning, OwnsOther, AllProvisional}
use Rattle.open_graphs.specs.Words.{AllFinal, IsMoved, IsFixpoint, Lower, Unused, Fixpoint, Other, PushKeepsSound}
use Rattle.open_graphs.specs.Words.{AnswersKeepSound, IsLeft, Survives, Added, IsFinalAfter, Before, Now, PopKeepsSound}
use Rattle.open_graphs.specs.Words.{RerunKeepsSound, StartIsSound, FinalIsGraph, AfterPop}
use Rattle.list_lemmas.proofs.Lists.{get_left, get_end, get_set_other}
use Rattle.open_graphs.proofs.Keep.{append_grows, growth_keeps_use, push_keeps_use, pop_keeps_use, rerun_keeps_use}
use Rattle.open_graphs.proofs.Keep.{unused_is_unreached, other_is_unreached}
use Rattle.open_graphs.proofs.Store.{use_gives_stored, growth_keeps_stored, push_keeps_stored}
use Rattle.open_graphs.proofs.Store.{pop_keeps_stored, rerun_keeps_stored}
use Rattle.open_graphs.proofs.Closed.{closed_is_graph, graph_is_use}
use Rattle.open_graphs.proofs.Rebase.{unreached_head_keeps_stored, rebase_keeps_stored}
use Rattle.open_graphs.proofs.Runs.{first_run_starts, growth_keeps_running, answered_grows, run_gives_use}
use Rattle.open_graphs.proofs.Runs.{next_run_starts, closed_gives_use, pop_is_stack, not_leaf}

-- verdicts
pub verdict_cases : (v w : Verdict) → (v ≡ w) ⊎ (v ≢ w)
verdict_cases Yes Yes = inl refl
verdict_cases No No = inl refl
verdict_cases Neither Neither = inl refl
verdict_cases _ _ = inr (λ e. absurd (cc))

pub same_cycles : (v w : Verdict) → v ≢ Neither → w ≢ Neither → cycle_kind v ≡ cycle_kind w → v ≡ w
same_cycles Yes Yes h h' e = refl
same_cycles No No h h' e = refl
same_cycles Neither w h h' e = absurd (h refl)
same_cycles v Neither h h' e = absurd (h' refl)
same_cycles _ _ h h' e = absurd (omega arith)

-- a provisional entry at equal data
stored_at : (nodes : List Node) (below : List Entry) (verdict verdict' : Verdict)
    (highest path path' node node' : ℕ) (heads : Heads)
    → verdict' ≡ verdict → path' ≡ path → node' ≡ node → ProvisionalUse nodes verdict below highest path node heads
    → ProvisionalUse nodes verdict' below highest path' node' heads
stored_at nodes below verdict verdict' highest path path' node node' heads e e' e'' s =
    subst (λ v. ProvisionalUse nodes v below highest path' node' heads) (sym e)
    (subst (λ p. ProvisionalUse nodes verdict below highest p node' heads) (sym e')
    (subst (λ n. ProvisionalUse nodes verdict below highest path n heads) (sym e'') s))

-- a provisional entry from which the popped goal's node is not reached
moved_unreached : (nodes : List Node) (below : List Entry) (top : Entry) (k after : ProvisionalEntry)
    → IsMoved below top k after → Unreached nodes k.verdict (below ++ top ∷ []) k.node top.node
    → ProvisionalUse nodes k.verdict (below ++ top ∷ []) k.highest k.path k.node k.heads
    → ProvisionalUse nodes after.verdict below after.highest after.path after.node after.heads
moved_unreached nodes below top k after m un s =
    stored_at nodes below k.verdict after.verdict after.highest (max k.path (path_kind below top.step after.highest))
    after.path k.node after.node after.heads m.same_verdict m.path m.same_node
    (unreached_head_keeps_stored nodes k.verdict below top k.path k.node k.heads after.heads
    after.highest un m.heads m.on_stack m.within
    (subst (λ h. ProvisionalUse nodes k.verdict (below ++ top ∷ []) h k.path k.node k.heads) m.was s))

moved_rebased : (nodes : List Node) (below : List Entry) (top : Entry) (verdict : Verdict) (top_heads : Heads)
    (k after : ProvisionalEntry) → Use nodes verdict below (path_kind below top.step) 0 top.node top_heads
    → IsMoved below top k after → k.verdict ≡ verdict → KeepsCycleKinds below top k.path k.heads top_heads
    → TakesOver (length below) k.heads top_heads after.heads
    → ProvisionalUse nodes k.verdict (below ++ top ∷ []) k.highest k.path k.node k.heads
    → ProvisionalUse nodes after.verdict below after.highest after.path after.node after.heads
moved_rebased nodes below top verdict top_heads k after u m e keeps takes s =
    stored_at nodes below k.verdict after.verdict after.highest (max k.path (path_kind below top.step after.highest))
    after.path k.node after.node after.heads m.same_verdict m.path m.same_node
    (rebase_keeps_stored nodes k.verdict below top k.path k.node k.heads top_heads after.heads after.highest
    (subst (λ v. Use nodes v below (path_kind below top.step) 0 top.node top_heads) (sym e) u) keeps
    m.heads takes m.on_stack m.within
    (subst (λ h. ProvisionalUse nodes k.verdict (below ++ top ∷ []) h k.path k.node k.heads) m.was s))

-- A provisional entry under a popped head may be used without it, where `AfterPop` leaves it. Where the head reached
-- its fixpoint with a verdict, its own answer may be used below.
pub fixpoint_keeps_stored :
    (nodes : List Node) (below : List Entry) (top : Entry) (verdict : Verdict)
    (top_heads : Heads) (k after : ProvisionalEntry)
    → (verdict ≢ Neither → IsFixpoint verdict top (length below) k.heads
    → Use nodes verdict below (path_kind below top.step) 0 top.node top_heads)
    → AfterPop below top verdict top_heads k after
    → ProvisionalUse nodes k.verdict (below ++ top ∷ []) k.highest k.path k.node k.heads
    → ProvisionalUse nodes after.verdict below after.highest after.path after.node after.heads
fixpoint_keeps_stored nodes below top verdict top_heads k after u (Lower lower) s =
    pop_keeps_stored nodes k.verdict below top k.highest k.path k.node k.heads lower s
fixpoint_keeps_stored nodes below top verdict top_heads k after u (Unused m unused) s =
    moved_unreached nodes below top k after m
    (unused_is_unreached nodes k.verdict below top _ 0 k.node k.heads unused s.use_there) s
fixpoint_keeps_stored nodes below top verdict top_heads k after u (Fixpoint m definite definite' fix keeps takes) s =
    elim (verdict_cases k.verdict verdict) [
      | inl e ↦ moved_rebased nodes below top verdict top_heads k after (u definite fix) m e keeps takes s
      | inr ne ↦ moved_unreached nodes below top k after m
          (other_is_unreached nodes k.verdict below top _ 0 k.node k.heads
          (λ e. elim fix [
            | inl f ↦ ne (let same : verdict ≡ k.verdict = cc in sym same)
            | inr f ↦ (let none = f.0 in absurd (cc))
          ])
          (λ none path r. elim fix [
            | inl f ↦ absurd (cc)
            | inr f ↦ ne (same_cycles k.verdict verdict definite' definite (f.1 path (cycle_kind k.verdict) r))
          ])
          s.use_there) s
    ]
fixpoint_keeps_stored nodes below top verdict top_heads k after u (Other m other) s =
    moved_unreached nodes below top k after m
    (other_is_unreached nodes k.verdict below top _ 0 k.node k.heads other.result other.kinds s.use_there) s

-- the runs' nodes stay unfinished when a node is appended, and when another run's node is finished
AllUnfinished : List Node → List RunningGoal → Type 0
AllUnfinished nodes [] = Unit {0}
AllUnfinished nodes (f ∷ fs) = (slice_get nodes f.own ≡ Some Unfinished) × AllUnfinished nodes fs

still_unfinished : (nodes : List Node) (frames : List RunningGoal)
    → AllRunning nodes frames → AllUnfinished nodes frames
unfolding AllUnfinished
still_unfinished nodes [] r = tt
still_unfinished nodes (f ∷ fs) r = (r.0.unfinished, still_unfinished nodes fs r.1)

after_append : (nodes : List Node) (frames : List RunningGoal) → AllUnfinished nodes frames
    → AllUnfinished (nodes ++ Unfinished ∷ []) frames
unfolding AllUnfinished
after_append nodes [] r = tt
after_append nodes (f ∷ fs) r = (get_left nodes (Unfinished ∷ []) f.own Unfinished r.0, after_append nodes fs r.1)

after_finish : (nodes : List Node) (own : ℕ) (node : Node) (frames : List RunningGoal) → OwnsOther own frames
    → AllUnfinished nodes frames → AllUnfinished (slice_set nodes own node) frames
unfolding AllUnfinished
after_finish nodes own node [] other r = tt
after_finish nodes own node (f ∷ fs) other r =
    (get_set_other nodes own node f.own (λ e. other.0 (sym e)) ∙ r.0, after_finish nodes own node fs other.1 r.1)

after_answer : (nodes : List Node) (f : RunningGoal) (verdict : Verdict) {later : List Node} {a : ℕ}
    (frames : List RunningGoal) → OwnsOther f.own frames → Answered nodes f.entry f.own f.edges verdict later a
    → AllUnfinished nodes frames → AllUnfinished later frames
after_answer nodes f verdict frames other (Anew ne) r =
    after_finish nodes f.own (Finished verdict (f.edges verdict)) frames other r
after_answer nodes f verdict frames other _ r = r

all_grow : (nodes later : List Node) (frames : List RunningGoal) → Grown nodes later → AllUnfinished later frames
    → AllRunning nodes frames → AllRunning later frames
unfolding AllUnfinished
all_grow nodes later [] grown u r = tt
all_grow nodes later (f ∷ fs) grown u r = (
  growth_keeps_running nodes later (stack_of fs) f.entry f.own f.edges f.heads_before f.heads grown u.0 r.0,
  all_grow nodes later fs grown u.1 r.1,
)

new_owner : (nodes : List Node) (own : ℕ) (frames : List RunningGoal) → length nodes ≤ own
    → AllRunning nodes frames → OwnsOther own frames
new_owner nodes own [] le r = tt
new_owner nodes own (f ∷ fs) le r = (
  (λ e. let h : f.own < length nodes = slice_get_within nodes f.own Unfinished r.0.unfinished in absurd (omega arith)),
  new_owner nodes own fs le r.1,
)

same_length : (nodes : List Node) (top : Entry) (own : ℕ) (edges : Verdict → List Edge) (verdict : Verdict)
    {later : List Node} {a : ℕ} → Answered nodes top own edges verdict later a → length later ≡ length nodes
same_length nodes top own edges verdict (Anew ne) = length-set nodes own (Finished verdict (edges verdict))
same_length nodes top own edges verdict _ = refl

longer_is_stack : (nodes later : List Node) (stack : List Entry) → length later ≡ length nodes
    → IsStack nodes stack → IsStack later stack
longer_is_stack nodes later stack e s =
    record { in_list = λ depth x at. let h = s.in_list depth x at in omega arith; distinct = s.distinct }

pub push_keeps_sound : PushKeepsSound
push_keeps_sound nodes frames provisional final step heads s =
    let new = first_run_starts nodes (stack_of frames) step heads s.is_stack in
    let later : List Node = nodes ++ Unfinished ∷ [] in
    let entry : Entry = record { step = step; provisional = None; node = length nodes } in
    let fresh = not_leaf nodes (stack_of frames) s.is_stack in
    record {
      is_stack = new.1;
      running = (
        new.0,
        all_grow nodes later frames (append_grows nodes)
            (after_append nodes frames (still_unfinished nodes frames s.running)) s.running,
      );
      apart = (new_owner nodes (length nodes) frames (omega arith) s.running, s.apart);
      stored = λ i k at. push_keeps_stored later k.verdict (stack_of frames) entry k.highest k.path k.node
          k.heads (get_end nodes Unfinished) fresh
          (growth_keeps_stored nodes later k.verdict (stack_of frames) k.highest k.path k.node k.heads
          (append_grows nodes) (s.stored i k at));
      closed = λ i f at. push_keeps_use later f.verdict (stack_of frames) entry (λ depth. 0) 0 f.node
          no_heads (get_end nodes Unfinished) fresh
          (growth_keeps_use nodes later f.verdict (stack_of frames) (λ depth. 0) 0 f.node no_heads
          (append_grows nodes) (s.closed i f at));
    }

pub answers_keep_sound : AnswersKeepSound
answers_keep_sound nodes f frames provisional final edges heads still answered s = record {
  is_stack = s.is_stack;
  running = (
    let r = s.running.0 in record {
      unfinished = r.unfinished;
      lower = r.lower;
      which_run = r.which_run;
      earlier = r.earlier;
      still = still;
      answered = answered;
    },
    s.running.1,
  );
  apart = s.apart;
  stored = s.stored;
  closed = s.closed;
}

pub none_used : (depth : ℕ) → UsesNo no_heads depth
none_used depth path cycle h = h.1 refl

-- the node of the first run, and the node of a provisional result of the same verdict, are the entry's
own_is_node : (nodes : List Node) (below : List Entry) (f : RunningGoal) (verdict : Verdict) (heads : Heads)
    {later : List Node} {a : ℕ} → Answered nodes f.entry f.own f.edges verdict later a
    → Running nodes below f.entry f.own f.edges f.heads_before f.heads
    → IsFixpoint verdict f.entry (length below) heads → a ≡ f.entry.node
own_is_node nodes below f verdict heads (Anew ne) r fix = elim fix [
  | inl e ↦ absurd (ne e)
  | inr h ↦ elim r.which_run [ inl first ↦ sym first.0 | inr other ↦ absurd (other.1 h.0) ]
]
own_is_node nodes below f verdict heads _ r fix = refl

left_stored : (nodes later : List Node) (f : RunningGoal) (frames : List RunningGoal)
    (provisional : List ProvisionalEntry) (verdict : Verdict) (a : ℕ)
    → Grown nodes later → AllProvisional nodes (stack_of frames ++ f.entry ∷ []) provisional
    → ((heads : Heads) → verdict ≢ Neither → IsFixpoint verdict f.entry (length (stack_of frames)) heads
    → Use later verdict (stack_of frames) (path_kind (stack_of frames) f.entry.step) 0 f.entry.node f.heads)
    → (verdict ≢ Neither → Use later verdict (stack_of frames) (path_kind (stack_of frames) f.entry.step) 0 a f.heads)
    → {k : ProvisionalEntry} → IsLeft (stack_of frames) f.entry verdict a f.heads provisional k
    → ProvisionalUse later k.verdict (stack_of frames) k.highest k.path k.node k.heads
left_stored nodes later f frames provisional verdict a grown stored fix u {k} (Survives {old = old} i at after) =
    fixpoint_keeps_stored later (stack_of frames) f.entry verdict f.heads old k (fix old.heads) after
    (growth_keeps_stored nodes later old.verdict (stack_of frames ++ f.entry ∷ []) old.highest old.path
    old.node old.heads grown (stored i old at))
left_stored nodes later f frames provisional verdict a grown stored fix u (Added highest definite on_stack within) =
    use_gives_stored later verdict (stack_of frames) f.entry.step a f.heads highest on_stack within (u definite)

left_final : (nodes later : List Node) (f : RunningGoal) (frames : List RunningGoal) (final : List Final)
    (verdict : Verdict) (a : ℕ) → Grown nodes later → AllFinal nodes (stack_of frames ++ f.entry ∷ []) final
    → (verdict ≢ Neither → Use later verdict (stack_of frames) (path_kind (stack_of frames) f.entry.step) 0 a f.heads)
    → {x : Final} → IsFinalAfter verdict a f.heads final x
    → Use later x.verdict (stack_of frames) (λ depth. 0) 0 x.node no_heads
left_final nodes later f frames final verdict a grown closed u {x} (Before i at) =
    let v = growth_keeps_use nodes later x.verdict (stack_of frames ++ f.entry ∷ []) (λ depth. 0) 0
    x.node no_heads grown (closed i x at) in
    pop_keeps_use later x.verdict (stack_of frames) f.entry (λ depth. 0) 0 x.node no_heads
    (unused_is_unreached later x.verdict (stack_of frames) f.entry (λ depth. 0) 0 x.node no_heads
    (none_used (length (stack_of frames))) v) v
left_final nodes later f frames final verdict a grown closed u (Now definite none) =
    closed_gives_use later verdict (stack_of frames) (path_kind (stack_of frames) f.entry.step) (λ depth. 0) 0 0
    a f.heads no_heads none (u definite)

pub pop_keeps_sound : PopKeepsSound
pop_keeps_sound nodes f frames provisional left final done verdict later a answer provisional_left final_left s =
    let below : List Entry = stack_of frames in
    let r = s.running.0 in
    let grown : Grown nodes later = answered_grows nodes f.entry f.own f.edges verdict r.unfinished answer in
    let u : verdict ≢ Neither → Use later verdict below (path_kind below f.entry.step) 0 a f.heads = λ definite.
    (run_gives_use nodes below f.entry f.own f.edges f.heads_before f.heads verdict later a definite answer r).1 in (
      record {
        is_stack = longer_is_stack nodes later below (same_length nodes f.entry f.own f.edges verdict answer)
            (pop_is_stack nodes below f.entry s.is_stack);
        running = all_grow nodes later frames grown (after_answer nodes f verdict frames s.apart.0 answer
            (still_unfinished nodes frames s.running.1)) s.running.1;
        apart = s.apart.1;
        stored = λ i k at. left_stored nodes later f frames provisional verdict a grown s.stored
            (λ heads definite fix. subst (λ n. Use later verdict below (path_kind below f.entry.step) 0 n f.heads)
            (own_is_node nodes below f verdict heads answer r fix) (u definite)) u (provisional_left i k at);
        closed = λ i x at. left_final nodes later f frames final verdict a grown s.closed u (final_left i x at);
      },
      u,
    )

-- the node of an answer is the entry's or a fresh one, and no leaf below
answer_is_fresh : (nodes : List Node) (below : List Entry) (f : RunningGoal) (verdict : Verdict) (again : Entry)
    {later : List Node} {a : ℕ} → again.node ≡ a → Answered nodes f.entry f.own f.edges verdict later a
    → Running nodes below f.entry f.own f.edges f.heads_before f.heads → IsSameOrFresh nodes below f.entry again
answer_is_fresh nodes below f verdict again same (Anew ne) r = inr (
  subst (λ n. slice_get nodes n ≡ Some Unfinished) (sym same) r.unfinished,
  subst (λ n. ¬ IsLeaf below n) (sym same) r.lower,
)
answer_is_fresh nodes below f verdict again same _ r = inl same

top_is_no_leaf : (nodes : List Node) (below : List Entry) (top : Entry)
    → IsStack nodes (below ++ top ∷ []) → ¬ IsLeaf below top.node
top_is_no_leaf nodes below top s l =
    let h : l.0 < length below = slice_get_within below l.0 l.1 l.2 in
    let e : l.0 ≡ length below =
    s.distinct l.0 (length below) l.1 top (get_left below (top ∷ []) l.0 l.1 l.2) (get_end below top) l.3 in
    absurd (omega arith)

answer_in_list : (nodes : List Node) (below : List Entry) (f : RunningGoal) (verdict : Verdict) {later : List Node}
    {a : ℕ} → Answered nodes f.entry f.own f.edges verdict later a
    → Running nodes below f.entry f.own f.edges f.heads_before f.heads → IsStack nodes (below ++ f.entry ∷ [])
    → (a < length later) × ¬ IsLeaf below a
answer_in_list nodes below f verdict (Anew ne) r s = (
  let h : f.own < length nodes = slice_get_within nodes f.own Unfinished r.unfinished in
      omega (arith, length-set nodes f.own (Finished verdict (f.edges verdict))),
  r.lower,
)
answer_in_list nodes below f verdict _ r s =
    (s.in_list (length below) f.entry (get_end below f.entry), top_is_no_leaf nodes below f.entry s)

pub rerun_keeps_sound : RerunKeepsSound
rerun_keeps_sound nodes f frames provisional left final verdict later a answer left_by s =
    let below : List Entry = stack_of frames in
    let r = s.running.0 in
    let grown : Grown nodes later = answered_grows nodes f.entry f.own f.edges verdict r.unfinished answer in
    let longer : List Node = later ++ Unfinished ∷ [] in
    let grown' : Grown nodes longer = λ b v es h. append_grows later b v es (grown b v es h) in
    let again : Entry = record { step = f.entry.step; provisional = Some verdict; node = a } in
    let entries_length : length later ≡ length nodes = same_length nodes f.entry f.own f.edges verdict answer in
    let at_a = answer_in_list nodes below f verdict answer r s.is_stack in
    let new = next_run_starts later below f.entry verdict a f.heads
    (longer_is_stack nodes later (below ++ f.entry ∷ []) entries_length s.is_stack) at_a.0 at_a.1
    (λ definite. (run_gives_use nodes below f.entry f.own f.edges f.heads_before f.heads
    verdict later a definite answer r).1) in
    let fresh = answer_is_fresh nodes below f verdict again refl answer r in
    let lower = after_answer nodes f verdict frames s.apart.0 answer (still_unfinished nodes frames s.running.1) in
    record {
      is_stack = new.1;
      running = (new.0, all_grow nodes longer frames grown' (after_append later frames lower) s.running.1);
      apart = (new_owner nodes (length later) frames (omega arith) s.running.1, s.apart.1);
      stored = λ i k at. let old = left_by i k at in
          growth_keeps_stored nodes longer k.verdict (below ++ again ∷ []) k.highest k.path k.node k.heads grown'
          (rerun_keeps_stored nodes k.verdict below f.entry again k.highest k.path k.node k.heads refl
          fresh old.2 (s.stored old.0 k old.1));
      closed = λ i x at. let v = s.closed i x at in
          growth_keeps_use nodes longer x.verdict (below ++ again ∷ []) (λ depth. 0) 0 x.node no_heads grown'
          (rerun_keeps_use nodes x.verdict below f.entry again (λ depth. 0) 0 x.node no_heads fresh
          (unused_is_unreached nodes x.verdict below f.entry (λ depth. 0) 0 x.node
          no_heads (none_used (length below)) v) v);
    }

pub start_is_sound : StartIsSound
start_is_sound nodes final graphs = record {
  is_stack = record { in_list = λ depth e at. absurd (cc); distinct = λ i j x y at at' same. absurd (cc) };
  running = tt;
  apart = tt;
  stored = λ i k at. absurd (cc);
  closed = λ i x at. graph_is_use nodes x.verdict (λ depth. 0) 0 x.node no_heads (graphs i x at);
}

pub final_is_graph : FinalIsGraph
final_is_graph nodes frames provisional final i x sound at =
    closed_is_graph nodes x.verdict (stack_of frames) (λ depth. 0) 0 x.node no_heads none_used (sound.closed i x at)
