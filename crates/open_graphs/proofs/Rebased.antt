-- The rule of rebasing leaves only what stays true.
use Rattle.std.proofs.Common.{◌≡◌, ◌≢◌, ℕ, max, List, Some, None, length, Bool, arith, refl, sym, ◌∙◌, ◌⊎◌, inl, inr}
use native.Mathlib.Decide.{ℕ_discrete}
use Rattle.open_graphs.specs.Words.{Verdict, Yes, No, Neither, cycle_kind, Entry, Head, Heads, IncludesBelow}
use Rattle.open_graphs.specs.Words.{ProvisionalEntry, IsMoved, IsFixpoint, IsOther, Lower, Unused, Fixpoint, Other}
use Rattle.open_graphs.specs.Words.{Reason, NoCycleUsages, Ambiguity, Overflow, ReachedFixpoint, IsInitial, Inductive}
use Rattle.open_graphs.specs.Words.{Unknown, Coinductive, ForcedAmbiguity, IsTrueReason, HasResult, IsSingle}
use Rattle.open_graphs.specs.Words.{IsTakenOut, Stays, NotNeeded, Needed, IsRebasable}
use Rattle.open_graphs.specs.Words.{RebasedIsAfterPop, RebasedKeepsStored}
use Rattle.open_graphs.proofs.States.{verdict_cases, fixpoint_keeps_stored}

moved : (reason : Reason) (below : List Entry) (top : Entry) (own others : ℕ → Bool) (verdict : Verdict)
    (top_heads : Heads) (k after : ProvisionalEntry)
    → IsRebasable reason below top own others verdict top_heads k → IsTakenOut below top own others k after
    → IncludesBelow (length below) k.heads after.heads → after.verdict ≡ k.verdict → IsMoved below top k after
moved reason below top own others verdict top_heads k after now out includes same = record {
  was = out.was;
  same_verdict = same;
  same_node = out.same_node;
  path = out.path;
  heads = includes;
  within = λ depth path cycle r. out.highest depth (out.only depth cycle r.1);
  on_stack = let ne = out.is_head.0 in
      let was = out.was in
      elim out.is_head.1 [
        | inl h ↦ (let le = now.own_within after.highest h in omega arith)
        | inr h ↦ now.top_within after.highest h
      ];
}

-- the result of a definite answer that is left is the one that it had
same_result : (reason : Reason) (head : Head) (before after : Verdict) → after ≢ Neither
    → HasResult reason head before after → after ≡ before
same_result NoCycleUsages head before after definite h = absurd h
same_result (ReachedFixpoint None) head before after definite h = h
same_result (ReachedFixpoint (Some kind)) head before after definite h = h.1
same_result _ head before after definite h = absurd (definite h)

single_kind : (kind : ℕ) (head : Head) (cycle : ℕ) → IsSingle kind head → head.usages cycle ≢ 0 → cycle ≡ kind
single_kind kind head cycle single used = elim (ℕ_discrete cycle kind) [
  | yes e ↦ e
  | no ne ↦ absurd (used (single cycle ne))
]

no_cycle_kind : (v : Verdict) (kind : ℕ) → kind ≢ 0 → kind ≢ 2 → cycle_kind v ≢ kind
no_cycle_kind Yes kind ne ne' e = ne' (sym e)
no_cycle_kind No kind ne ne' e = ne (sym e)
no_cycle_kind Neither kind ne ne' e = ne (sym e)

-- the popped entry reached its fixpoint with a verdict, or its cycles were answered with another
-- verdict than the answer's
first_reached : (kind : ℕ) (verdict before : Verdict) (top : Entry) (depth : ℕ) (heads : Heads) → top.provisional ≡ None
    → IsInitial kind verdict → IsSingle kind (heads depth)
    → ((verdict ≢ Neither) × IsFixpoint verdict top depth heads) ⊎ IsOther before top depth heads
first_reached kind verdict before top depth heads none Inductive single =
    inl ((λ e. absurd (cc)), inr (none, λ path cycle r. single_kind 0 (heads depth) cycle single r.1))
first_reached kind verdict before top depth heads none Coinductive single =
    inl ((λ e. absurd (cc)), inr (none, λ path cycle r. single_kind 2 (heads depth) cycle single r.1))
first_reached kind verdict before top depth heads none Unknown single =
    inr (record {
      result = λ e. absurd (cc);
      kinds = λ n path r. no_cycle_kind before 1 (omega arith) (omega arith)
          (single_kind 1 (heads depth) (cycle_kind before) single r.1);
    })
first_reached kind verdict before top depth heads none ForcedAmbiguity single =
    inr (record {
      result = λ e. absurd (cc);
      kinds = λ n path r. no_cycle_kind before 3 (omega arith) (omega arith)
          (single_kind 3 (heads depth) (cycle_kind before) single r.1);
    })

reached : (reason : Reason) (verdict before after : Verdict) (top : Entry) (depth : ℕ) (heads : Heads)
    → before ≢ Neither → after ≢ Neither → IsTrueReason reason verdict top → HasResult reason (heads depth) before after
    → ((verdict ≢ Neither) × IsFixpoint verdict top depth heads) ⊎ IsOther before top depth heads
reached NoCycleUsages verdict before after top depth heads definite definite' t h = absurd h
reached Ambiguity verdict before after top depth heads definite definite' t h = absurd (definite' h)
reached Overflow verdict before after top depth heads definite definite' t h = absurd (definite' h)
reached (ReachedFixpoint None) verdict before after top depth heads definite definite' t h =
    elim (verdict_cases verdict Neither) [
      | inl e ↦ inr (record {
        result = λ f. definite (let same : verdict ≡ before = cc in sym same ∙ e);
        kinds = λ none path r. absurd (cc);
      })
      | inr ne ↦ inl (ne, inl t)
    ]
reached (ReachedFixpoint (Some kind)) verdict before after top depth heads definite definite' t h =
    first_reached kind verdict before top depth heads t.0 t.1 h.0

pub rebased_is_after_pop : RebasedIsAfterPop
rebased_is_after_pop reason below top own others verdict top_heads k after now definite (Stays ne) =
    let le = now.on_stack in Lower (omega arith)
rebased_is_after_pop reason below top own others verdict top_heads k after now definite
    (NotNeeded out zeros inserts same) =
    Unused (moved reason below top own others verdict top_heads k after now out
    (λ depth path cycle lower r. (
      (inserts depth lower).stays path r.0,
      (inserts depth lower).counted cycle (inl r.1),
    )) same)
    (λ path cycle r. r.1 (zeros cycle))
rebased_is_after_pop reason below top own others verdict top_heads k after now definite
    (Needed out nonzero test inserts result) =
    let same : after.verdict ≡ k.verdict =
    same_result reason (k.heads (length below)) k.verdict after.verdict definite result in
    let definite' : k.verdict ≢ Neither = λ e. definite (same ∙ e) in
    let m = moved reason below top own others verdict top_heads k after now out
    (λ depth path cycle lower r. (
      (inserts depth lower).stays path r.0,
      (inserts depth lower).counted cycle (inl r.1),
    )) same in
    elim (reached reason verdict k.verdict after.verdict top (length below) k.heads
    definite' definite now.is_true result) [
      | inl h ↦ Fixpoint m h.0 definite' h.1
          (λ depth top_path top_cycle own_path own_cycle r s. test depth top_path own_path r.0 s.0)
          (λ depth top_path top_cycle own_path own_cycle r s.
          let i = inserts depth (now.top_within depth (now.top_depths.usages depth top_cycle r.1)) in (
            i.added (max own_path top_path)
                (record { start = own_path; rest = top_path; has_start = s.0; has_rest = r.0; whole = refl }),
            i.counted top_cycle (inr r.1),
          ))
      | inr h ↦ Other m h
    ]

pub rebased_keeps_stored : RebasedKeepsStored
rebased_keeps_stored nodes reason below top own others verdict top_heads k after u now definite r s =
    fixpoint_keeps_stored nodes below top verdict top_heads k after (λ d fix. u d)
    (rebased_is_after_pop reason below top own others verdict top_heads k after now definite r) s
