-- A run gets one more answer, whose edge and heads become its own.
use Rattle.std.proofs.Common.{◌≡◌, ◌≢◌, ℕ, max, ◌≤◌, ◌<◌, List, [], ◌∷◌, ◌++◌, length, cond, Bool, true, false, IsTrue}
use Rattle.std.proofs.Common.{ltb, lt-ltb, le-ltb, inl, inr, subst, sym, refl, arith}
use native.Mathlib.Decide.{dec_lt}
use Rattle.open_graphs.specs.Words.{Verdict, Edge, Node, same_verdict, Entry, path_kind, Head, Heads, Recorded}
use Rattle.open_graphs.specs.Words.{IncludesBelow, IsAnsweredEdge, AllAnswered, no_heads, stack_of, with_edge}
use Rattle.open_graphs.specs.Words.{OneAnswerKeepsSound, CycleIsAnswered, DoneIsAnswered}
use Rattle.open_graphs.specs.Words.{ProvisionalIsAnswered, FinalIsAnswered}
use Rattle.list_lemmas.proofs.Lists.{get_cases}
use Rattle.open_graphs.proofs.Verdicts.{same}
use Rattle.open_graphs.proofs.Answers.{cycle_gives_use, use_gives_edge}
use Rattle.open_graphs.proofs.Store.{stored_gives_use}
use Rattle.open_graphs.proofs.Runs.{closed_gives_use}
use Rattle.open_graphs.proofs.States.{answers_keep_sound, none_used}

-- the heads with all that can be recorded from a depth on
abbrev all_recorded : Head
all_recorded = record { paths = λ path. true; usages = λ cycle. 1 }

abbrev filled : ℕ → Heads → Heads
filled limit heads depth = cond (ltb depth limit) (heads depth) all_recorded

filled_below : (limit : ℕ) (heads : Heads) (depth path cycle : ℕ) → depth < limit → Recorded heads depth path cycle
    → Recorded (filled limit heads) depth path cycle
filled_below limit heads depth path cycle lt h = subst (λ b. IsTrue ((cond b (heads depth) all_recorded).paths path)
    × ((cond b (heads depth) all_recorded).usages cycle ≢ 0)) (sym (lt-ltb _ _ lt)) h

below_filled : (limit : ℕ) (heads : Heads) → IncludesBelow limit (filled limit heads) heads
below_filled limit heads depth path cycle lt h = subst (λ b. IsTrue ((cond b (heads depth) all_recorded).paths path)
    × ((cond b (heads depth) all_recorded).usages cycle ≢ 0)) (lt-ltb _ _ lt) h

filled_above : (limit : ℕ) (heads : Heads) (depth path cycle : ℕ) → limit ≤ depth
    → Recorded (filled limit heads) depth path cycle
filled_above limit heads depth path cycle le = subst (λ b. IsTrue ((cond b (heads depth) all_recorded).paths path)
    × ((cond b (heads depth) all_recorded).usages cycle ≢ 0)) (sym (le-ltb _ _ le)) (refl, λ e. absurd (cc))

filled_at : (limit : ℕ) (heads : Heads) (depth path cycle : ℕ) → (depth < limit → Recorded heads depth path cycle)
    → Recorded (filled limit heads) depth path cycle
filled_at limit heads depth path cycle h = elim (dec_lt depth limit) [
  | yes lt ↦ filled_below limit heads depth path cycle lt (h lt)
  | no ge ↦ filled_above limit heads depth path cycle (omega arith)
]

pub cycle_is_answered : CycleIsAnswered
cycle_is_answered nodes verdict below top depth entry step heads distinct at accepts recorded = record {
  answer = filled (length below) heads;
  used = cycle_gives_use nodes verdict (below ++ top ∷ []) depth entry step
      (filled (length below) heads) distinct at accepts
      (filled_at (length below) heads depth step (path_kind (below ++ top ∷ []) step depth) recorded);
  among = below_filled (length below) heads;
}

pub done_is_answered : DoneIsAnswered
done_is_answered nodes verdict below top step a answer heads u takes = record {
  answer = filled (length below) heads;
  used = use_gives_edge nodes verdict (below ++ top ∷ []) step a answer (filled (length below) heads)
      (λ depth path cycle h.
      filled_at (length below) heads depth (max step path) cycle (λ lt. takes depth path cycle lt h)) u;
  among = below_filled (length below) heads;
}

pub stored_is_answered : ProvisionalIsAnswered
stored_is_answered nodes verdict below top step highest path a answer heads same s takes =
    done_is_answered nodes verdict below top step a answer heads
    (stored_gives_use nodes verdict (below ++ top ∷ []) step a answer highest path same s) takes

pub final_is_answered : FinalIsAnswered
final_is_answered nodes verdict below top step a heads u = record {
  answer = no_heads;
  used = closed_gives_use nodes verdict (below ++ top ∷ []) (λ depth. 0) (path_kind (below ++ top ∷ []) step) 0
      step a no_heads no_heads none_used u;
  among = λ depth path cycle lt h. absurd (none_used depth path cycle h);
}

-- the answers of each verdict, of which one has one more
more_answered : (nodes : List Node) (below : List Entry) (top : Entry) (verdict other : Verdict) (edges : List Edge)
    (edge : Edge) (heads : Heads) (b : Bool) → same_verdict verdict other ≡ b
    → IsAnsweredEdge nodes verdict below top edge heads → AllAnswered nodes other below top edges heads
    → AllAnswered nodes other below top (cond b (edges ++ edge ∷ []) edges) heads
more_answered nodes below top verdict other edges edge heads false e new old = old
more_answered nodes below top verdict other edges edge heads true e new old =
    λ i x at. elim (get_cases edges edge i x at) [
      | inl before ↦ old i x before
      | inr now ↦ subst (λ y. IsAnsweredEdge nodes other below top y heads) now.1
          (subst (λ v. IsAnsweredEdge nodes v below top edge heads) (sym (same verdict other e)) new)
    ]

pub one_answer_keeps_sound : OneAnswerKeepsSound
one_answer_keeps_sound nodes f frames provisional final verdict edge heads includes new s =
    answers_keep_sound nodes f frames provisional final (with_edge f.edges verdict edge) heads
    (λ d p c h. includes d p c (s.running.0.still d p c h))
    (λ other. more_answered nodes (stack_of frames) f.entry verdict other (f.edges other) edge heads
    (same_verdict verdict other) refl new
    (λ i x at. let h = s.running.0.answered other i x at in
    record { answer = h.answer; used = h.used; among = λ d p c lt r. includes d p c (h.among d p c lt r) }))
    s
