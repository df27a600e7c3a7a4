-- Which goals a change concerns, and what that leaves.
use Rattle.std.proofs.Common.{◌≡◌, ◌∙◌, ◌↔◌, Bool, true, false, Contains, IsTrue, List, ap, refl}
use Rattle.std.proofs.Common.{Err, IfOk, Ok, Result, subst, sym}
use Rattle.std.specs.HashSet.{HashSet, contains}
use Rattle.std.proofs.lemmas.Bool.{false≢true}
use Rattle.askers.specs.Concerned as askers
use Rattle.candidate_lists.specs.Frame.{script_of}
use Rattle.candidate_lists.proofs.Decided.{IsAskedIn, asked_of}
use Rattle.global_cache.specs.Changed.{KeepsOthers, is_among}
use Rattle.path_kinds.specs.declared.path.PathKind.{PathKind}
use Rattle.rule_tables.specs.Candidate.{Candidate}
use Rattle.rule_tables.specs.Rules.{question_of}
use Rattle.rule_tables.specs.declared.rules.Goal.{Goal}
use Rattle.open_tables.specs.Kept.{KeepsAllOtherCandidates}
use Rattle.open_tables.specs.Table.{IsAskedBy, IsConcerned, IsKept, Table, asker, candidates_of, itself, scripts_of}

pub if_ok : {T E : Type 0} {P Q : T → Type 0} (result : Result T E) → IfOk result P → ((x : T) → P x → Q x)
    → IfOk result Q
if_ok (Ok x) is on = on x is
if_ok (Err e) is on = tt

module _ (table : Table) (asks : List (Goal × Goal)) (kept : IsKept table asks) (changed : List Goal) where
  concerned_here : (goal : Goal) → askers.IsConcerned asks changed goal → IsConcerned table changed goal
  concerned_here goal (askers.itself _ it) = itself goal it
  concerned_here goal (askers.asker _ asked has next) =
      asker goal asked ((kept.asked goal asked).0 has) (concerned_here asked next)

  concerned_there : (goal : Goal) → IsConcerned table changed goal → askers.IsConcerned asks changed goal
  concerned_there goal (itself _ it) = askers.itself goal it
  concerned_there goal (asker _ asked it next) =
      askers.asker goal asked ((kept.asked goal asked).1 it) (concerned_there asked next)

  pub concerned_same : (goal : Goal) → askers.IsConcerned asks changed goal ↔ IsConcerned table changed goal
  concerned_same goal = (concerned_here goal, concerned_there goal)

module _ (table : Table) (changed : List Goal) (is_gone : Goal → Bool)
    (exact : (goal : Goal) → IsTrue (is_gone goal) ↔ IsConcerned table changed goal) where
  not_gone : (goal : Goal) → (IsConcerned table changed goal → ⊥) → is_gone goal ≡ false
  not_gone goal none = by (is_gone goal) (λ it. none ((exact goal).0 it))
    where
      by : (b : Bool) → (IsTrue b → ⊥) → b ≡ false
      by true never = absurd (never refl)
      by false never = refl

  not_changed : (goal : Goal) → is_gone goal ≡ false → Contains changed goal → ⊥
  not_changed goal stays has = false≢true (sym stays ∙ (exact goal).1 (itself goal has))

  -- what a script asks, its candidates ask
  asks_own : (cs : List Candidate) (asked : Goal) (kind : PathKind) → IsAskedIn question_of cs kind asked
      → IsAskedBy cs asked
  asks_own cs asked kind it = record {
    candidate = it.candidate;
    is_candidate = it.is_candidate;
    asking = it.question;
    is_asking = it.is_question;
    same = ap (λ q. q.goal) it.same;
  }

  -- of what the goals had before, and have after
  pub others_kept : (before after : Table) → KeepsAllOtherCandidates changed before table
      → KeepsAllOtherCandidates changed table after → KeepsOthers is_gone (scripts_of before) (scripts_of after)
  others_kept before after was will = record {
    same = λ goal stays replies. let other = not_changed goal stays in
        ap (λ cs. script_of question_of cs replies) (sym (will goal other ∙ was goal other));
    stays = λ goal stays replies kind asked fits is.
        not_gone asked (λ concerned. false≢true (sym stays ∙ (exact goal).1
        (asker goal asked
        (subst (λ cs. IsAskedBy cs asked) (sym (was goal (not_changed goal stays)))
        (asks_own (candidates_of before goal) asked kind
        (asked_of question_of (candidates_of before goal) replies kind asked is)))
        concerned)));
  }

-- ---- the goals that were found

module _ {E S : Type 0} (same : Goal → Goal → Bool) (result : Result (HashSet Goal S) E) (table : Table)
    (asks : List (Goal × Goal)) (changed : List Goal) (kept : IsKept table asks)
    (found : IfOk result (λ concerned. (goal : Goal) →
    IsTrue (contains same concerned goal) ↔ askers.IsConcerned asks changed goal)) where
  pub exactly : IfOk result (λ gone. (goal : Goal) → IsTrue (contains same gone goal) ↔ IsConcerned table changed goal)
  exactly = if_ok result found (λ gone exact goal. (
    λ is. (concerned_same table asks kept changed goal).0 ((exact goal).0 is),
    λ is. (exact goal).1 ((concerned_same table asks kept changed goal).1 is),
  ))

  pub keeps_others : IfOk result (λ gone. (before after : Table) → KeepsAllOtherCandidates changed before table
      → KeepsAllOtherCandidates changed table after
      → KeepsOthers (is_among same gone.keys) (scripts_of before) (scripts_of after))
  keeps_others = if_ok result exactly (λ gone exact before after was will.
      others_kept table changed (is_among same gone.keys) exact before after was will)
