-- One provisional entry, once the newest goal was popped: it stays where it didn't use that goal, or it is rebased; and
-- that goal's own answer may be an entry.
use Rattle.std.proofs.Common.{◌≡◌, ◌≢◌, ◌<◌, ◌≤◌, ℕ, List, [], ◌∷◌, length, map, reverse, Option, Some, None, IsSome}
use Rattle.std.proofs.Common.{All, refl, sym, ap, ◌∙◌, subst, ◌⊎◌, inl, inr, arith}
use Rattle.std.proofs.lemmas.Bool.{false≢true}
use Rattle.std.proofs.lemmas.List.{length-map}
use Rattle.std.proofs.lemmas.List.Elements.{All-cons, All-nil}
use Rattle.open_graphs.specs.Graph as theory
use Rattle.search_rules.specs.Below.{IsTrueReason, path_kind, AfterPop, Lower, stack_of, StackDepth, CycleHead}
use Rattle.search_rules.specs.Below.{at_depth, highest, IsRising, heads_shape, rank_of, NodeId, Request, Reply}
use Rattle.search_rules.specs.Below.{OpenGoal, ProvisionalCacheEntry, RebaseReason, CacheNode, HasNoRank, rebased}
use Rattle.search_rules.specs.Below.{changed_for, verdict_of, Verdicts}
use Rattle.open_graphs.proofs.Rebased.{rebased_is_after_pop}
use Rattle.search_rules.specs.Words.{AreJustified, frame_of, frames_of, depths_of, highest_depth, entry_shape}
use Rattle.search_rules.specs.Words.{reason_shape, IsHead, IsLeftOver, IsReady, final_answer, entries_for, entry_of}
use Rattle.search_rules.specs.Words.{run_of, runs_of, LieBelow}
use Rattle.search_rules.proofs.answers.Cycles.{path_kind_is}
use Rattle.search_rules.proofs.rebasing.HeadOrder.{ascends, at_most_highest, highest_there, no_highest}
use Rattle.search_rules.proofs.justified.Justified.{EndsWithNode, stack_length}
use Rattle.search_rules.proofs.entries.Reusable.{reusable_added, reusable_popped}
use Rattle.search_rules.proofs.entries.LeftOver.{other_head, own_head}
use Rattle.search_rules.proofs.entries.Ready.{RestsOn-kept, all_at_depths, is_below, on_stack_many}
use Rattle.search_rules.proofs.rebasing.Rule.{are_depths, goal_rebased, highest_is, rebasable}
use Rattle.search_rules.proofs.rebasing.Left.{LeavesEntry, leaves_entry}
use Rattle.search_rules.proofs.rebasing.Rising.{rebased_rising}

module _ {X F I R A T : Type 0} (says : Verdicts R) (scripts : I → List (Reply R) → Request I R)
    (nodes after : List (CacheNode I R)) (s : OpenGoal X F I R A T) (below : List (OpenGoal X F I R A T)) (r : R)
    (target : Option NodeId) (h : AreJustified says nodes (runs_of (s ∷ below)))
    (rebases : EndsWithNode says nodes after (run_of s) (runs_of below) r target) where
  many : length (runs_of below) ≡ length below
  many = length-map below run_of

  theory_many : length (stack_of (frames_of says (runs_of below))) ≡ length below
  theory_many = stack_length says (runs_of below) ∙ many

  -- the newest goal's heads lie below it
  pub lower : LieBelow (length below) s.0.state.heads
  lower = subst (λ n. LieBelow n s.0.state.heads) many h.tallies.0.tallied.lower

  -- an entry that is left
  abbrev pub IsLeft : I → ProvisionalCacheEntry X I R A T → Type 0
  IsLeft = IsLeftOver says scripts after (runs_of below) s.0.state.heads

  -- ---- the entries

  module _ (goal : I) (entry : ProvisionalCacheEntry X I R A T)
      (ready : IsReady says scripts nodes (runs_of (s ∷ below)) goal entry) where
    within : (head : StackDepth) → IsSome (at_depth entry.heads head) → head.0 ≤ length below
    within head there = let place = is_below (runs_of (s ∷ below)) h.tallies head (ready.are_heads head there) in
        omega (arith, place, many)

    others : (head : StackDepth) → IsSome (at_depth entry.heads head) → head.0 ≢ length below
        → IsHead (runs_of below) head ⊎ IsSome (at_depth s.0.state.heads head)
    others head there other =
        other_head (run_of s) (runs_of below) head (λ same. other (same ∙ many)) (ready.are_heads head there)

    -- no entry has a goal among its heads that wasn't used,
    apart : s.0.state.usages ≡ None → (head : StackDepth) → IsSome (at_depth entry.heads head) → head.0 ≢ length below
    apart none head there same = false≢true (subst IsSome none
        (own_head (run_of s) (runs_of below) h.tallies.1 head (same ∙ sym many) (ready.are_heads head there)))

    top_lower : s.0.state.usages ≡ None → (o : Option (StackDepth × CycleHead)) → highest entry.heads ≡ o
        → highest_depth entry.heads < length (stack_of (frames_of says (runs_of below)))
    top_lower none None top_is = absurd (ready.some (no_highest entry.heads top_is))
    top_lower none (Some head) top_is =
        let there : IsSome (at_depth entry.heads head.0) =
        subst IsSome (sym (highest_there entry.heads head (ascends entry.heads ready.rising) top_is)) refl in
        let most = within head.0 there in
        let other = apart none head.0 there in
        let depth_is = highest_is entry.heads head top_is in
        omega (arith, most, other, depth_is, theory_many)

    -- so it stays
    pub unused_is_left : s.0.state.usages ≡ None → IsLeft goal entry
    unused_is_left none =
        RestsOn-kept says scripts nodes after (runs_of (s ∷ below)) (runs_of below) (IsHead (runs_of (s ∷ below)))
        (λ head. IsHead (runs_of below) head ⊎ IsSome (at_depth s.0.state.heads head)) goal entry
        (reusable_popped says nodes after (run_of s) (runs_of below) h r target rebases goal entry entry refl refl
        (λ definite n. Lower (top_lower none (highest entry.heads) refl)))
        (λ head there is. others head there (apart none head there)) ready

    -- and where the newest goal was used, what the rule of rebasing leaves of an entry is left, if the reason is true
    module _ (propagated : A → R) (overflow : R)
        (unsure : (info : A) → verdict_of says (propagated info) ≡ theory.Neither)
        (overflow_unsure : verdict_of says overflow ≡ theory.Neither) (reason : RebaseReason X I R A T)
        (is_true : IsTrueReason (reason_shape reason) (verdict_of says r) (frame_of says (run_of s)).entry)
        (later : ProvisionalCacheEntry X I R A T)
        (is : rebased (reverse (map (λ s. s.0) below)) s.0 (changed_for propagated overflow reason) entry
        ≡ Some later) where
      within_real : (head : StackDepth) → IsSome (at_depth entry.heads head)
          → head.0 ≤ length (reverse (map (λ s. s.0) below))
      within_real head there = subst (λ n. head.0 ≤ n) (sym (on_stack_many below)) (within head there)

      lower_real : LieBelow (length (reverse (map (λ s. s.0) below))) s.0.state.heads
      lower_real = subst (λ n. LieBelow n s.0.state.heads) (sym (on_stack_many below)) lower

      left : LeavesEntry says (reverse (map (λ s. s.0) below)) s.0 entry later
      left = leaves_entry says (reverse (map (λ s. s.0) below)) s.0 propagated overflow unsure overflow_unsure reason
          lower_real entry later ready.rising within_real ready.some is

      after_pop : verdict_of says later.result ≢ theory.Neither → (n : ℕ)
          → AfterPop (stack_of (frames_of says (runs_of below))) (frame_of says (run_of s)).entry (verdict_of says r)
          (heads_shape s.0.state.heads) (entry_shape says entry n) (entry_shape says later n)
      after_pop definite n =
          rebased_is_after_pop (reason_shape reason) (stack_of (frames_of says (runs_of below)))
          (frame_of says (run_of s)).entry (depths_of entry.heads) (depths_of s.0.state.heads) (verdict_of says r)
          (heads_shape s.0.state.heads) (entry_shape says entry n) (entry_shape says later n)
          (rebasable says (reverse (map (λ s. s.0) below)) s.0 (stack_of (frames_of says (runs_of below)))
          (frame_of says (run_of s)).entry (on_stack_many below ∙ sym theory_many)
          lower_real reason (verdict_of says r) entry
          (record {
            some = ready.some;
            within = all_at_depths (λ head. head.0 ≤ length (reverse (map (λ (t : OpenGoal X F I R A T). t.0) below)))
                entry.heads within_real;
          }) ready.rising is_true n)
          definite
          (goal_rebased says s below lower propagated overflow unsure overflow_unsure reason
          entry later n ready.some ready.rising is)

      pub rebased_is_left : IsLeft goal later
      rebased_is_left = record {
        reusable = elim left.outcome [
          | inl same ↦ reusable_popped says nodes after (run_of s) (runs_of below) h r target rebases goal entry later
              same.0 same.1 after_pop ready.reusable
          | inr gone ↦ record { definite = λ d. absurd (d gone.0); neither = λ n. gone.1 }
        ];
        some = left.some;
        rising =
            rebased_rising (reverse (map (λ s. s.0) below)) s.0 propagated overflow reason entry later ready.rising is;
        are_heads = λ head there. let place = left.left head there in elim place.1 [
          | inl own ↦ others head own (λ same. place.0 (same ∙ sym (on_stack_many below)))
          | inr came ↦ inr came
        ];
        no_rank = ready.no_rank;
      }

  -- ---- the newest goal's own answer

  module _ (rising : IsRising s.0.state.heads) (no_rank : s.0.state.heads ≢ [] → HasNoRank scripts s.0.input) where
    -- the entry of the answer, with this highest head
    abbrev own_entry : StackDepth × CycleHead → ProvisionalCacheEntry X I R A T
    own_entry head =
        entry_of (reverse (map (λ s. s.0) below)) head.0.0 s.0.step_kind_from_parent (final_answer s r target)

    own_is_left : (head : StackDepth × CycleHead)
        → highest s.0.state.heads ≡ Some head → IsLeft s.0.input (own_entry head)
    own_is_left head top_is =
        let asc = ascends s.0.state.heads rising in
        let depth_is = highest_is s.0.state.heads head top_is in
        let place = lower head.0 (subst IsSome (sym (highest_there s.0.state.heads head asc top_is)) refl) in
        let some : s.0.state.heads ≢ [] =
        λ none. (let wrong : None ≡ Some head = ap highest (sym none) ∙ top_is in absurd cc) in
        record {
          reusable = reusable_added says nodes after (run_of s) (runs_of below) h r target rebases (own_entry head)
              (path_kind_is says s.0.step_kind_from_parent head.0.0 below
              ∙ ap (path_kind (stack_of (frames_of says (runs_of below))) (rank_of s.0.step_kind_from_parent))
              (sym depth_is))
              (omega (arith, depth_is, place, theory_many))
              (λ depth path cycle recorded. subst (λ n. depth ≤ n) (sym depth_is) (at_most_highest s.0.state.heads head
              asc top_is (record { 0 = depth }) ((are_depths s.0.state.heads).usages depth cycle recorded.1)));
          some = some;
          rising = rising;
          are_heads = λ head there. inr there;
          no_rank = no_rank some;
        }

    -- where it is an entry, it is left
    pub own_pushed : (goal : I) → s.0.input ≡ goal → All (IsLeft goal)
        (entries_for (reverse (map (λ s. s.0) below)) s.0.step_kind_from_parent (final_answer s r target))
    own_pushed goal is = at (highest s.0.state.heads) refl
      where
        at : (o : Option (StackDepth × CycleHead)) → highest s.0.state.heads ≡ o
            → All (IsLeft goal) (elim o [ None ↦ [] | Some head ↦ own_entry head ∷ [] ])
        at None none = All-nil (IsLeft goal)
        at (Some head) top_is = All-cons (IsLeft goal) (own_entry head) []
            (subst (λ g. IsLeft g (own_entry head)) is (own_is_left head top_is)) (All-nil (IsLeft goal))
