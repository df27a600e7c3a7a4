-- Two tables that were read of one text, and the scripts of their goals.
use Rattle.std.proofs.Common.{◌≡◌, ◌∙◌, ℕ, ◌+◌, ap, cond, List, [], ◌∷◌, None, Option, refl, Some, subst, suc}
use Rattle.std.proofs.Common.{sym, zero}
use Rattle.std.specs.Prelude.{◌&&◌, ⊤, nat_le, slice_get}
use Rattle.std.specs.List.{AllZip, each_same, filter_map}
use Rattle.rule_tables.specs.Below.{Answer, Begin, Done, EnterCandidate, Evaluate, FinishCandidate, Ignore, Noted}
use Rattle.rule_tables.specs.Below.{Outcome, Reply, Request}
use Rattle.rule_tables.specs.Frame.{asking, asking_next, asking_in, entering, entering_next, ignoring, marked_from}
use Rattle.rule_tables.specs.Frame.{script_of, state_after, request_of, state_with, with_answer, with_ignored}
use Rattle.rule_tables.specs.Grammar.{NamedQuestion, Statement}
use Rattle.rule_tables.specs.Rules.{candidates_of, names_of, number_of, questions_of}
use Rattle.rule_tables.specs.Table.{candidate_in, IsAsked, IsCandidate, IsTableOf, IsToBeAnswered}
use Rattle.rule_tables.specs.Table.{NamedCandidate, question_in}
use Rattle.rule_tables.specs.Frame.{State}
use Rattle.rule_tables.specs.declared.rules.Asking.{Asking}
use Rattle.rule_tables.specs.Candidate.{Candidate}
use Rattle.rule_tables.specs.declared.rules.Goal.{Goal}
use Rattle.rule_tables.specs.declared.rules.Rules.{Rules}
use Rattle.graph_data.proofs.Lists.{zip_over}
use Rattle.graph_data.specs.Data.{HaveOwnNames}
use Rattle.graph_data.specs.Rules.{AreSameRules, IsSameCandidate}

-- ---- statements make one table

asking_same : (a b : Asking) → b.kind ≡ a.kind → b.goal ≡ a.goal → b ≡ a
asking_same a b kind goal =
    ap (λ k. record { kind = k; goal = b.goal }) kind ∙ ap (λ g. record { kind = a.kind; goal = g }) goal

module _ (names : List (List ℕ)) (own : HaveOwnNames names) where
  same_asked : (a b : Asking) (q : NamedQuestion) → IsAsked names a q → IsAsked names b q → b ≡ a
  same_asked a b q p r = asking_same a b (r.kind ∙ sym p.kind) (own b.goal a.goal q.name r.goal p.goal)

  same_candidate : (a b : Candidate) (c : NamedCandidate) → IsCandidate names a c
      → IsCandidate names b c → IsSameCandidate a b
  same_candidate a b c p r = record {
    is_marked = r.is_marked ∙ sym p.is_marked;
    questions = each_same a.questions b.questions (zip_over (IsAsked names) (IsAsked names) (λ x y. y ≡ x) same_asked
        a.questions b.questions c.questions p.questions r.questions);
  }

  same_question : (a b : ℕ × Goal) (q : ℕ × List ℕ) → IsToBeAnswered names a q → IsToBeAnswered names b q → b ≡ a
  same_question a b q p r =
      ap (λ depth. (depth, b.1)) (r.depth ∙ sym p.depth) ∙ ap (λ goal. (a.0, goal)) (own b.1 a.1 q.1 r.goal p.goal)

pub same_rules : (statements : List Statement) (rules others : Rules) → HaveOwnNames (names_of rules)
    → IsTableOf statements rules → IsTableOf statements others → AreSameRules rules others
same_rules statements rules others own p q =
    let same : names_of others ≡ names_of rules = q.names ∙ sym p.names in
    record {
      names = same;
      questions = each_same (questions_of rules) (questions_of others)
          (zip_over (IsToBeAnswered (names_of rules)) (IsToBeAnswered (names_of rules)) (λ x y. y ≡ x)
          (same_question (names_of rules) own) (questions_of rules) (questions_of others)
          (filter_map question_in statements) p.questions
          (subst (λ names. AllZip (IsToBeAnswered names) (questions_of others) (filter_map question_in statements)) same
          q.questions));
      candidates = λ goal name is.
          zip_over (IsCandidate (names_of rules)) (IsCandidate (names_of rules)) IsSameCandidate
          (same_candidate (names_of rules) own) (candidates_of rules goal) (candidates_of others goal)
          (filter_map (candidate_in name) statements) (p.candidates goal name is)
          (subst (λ names.
          AllZip (IsCandidate names) (candidates_of others goal) (filter_map (candidate_in name) statements))
          same (q.candidates goal name (ap (λ names. slice_get names (number_of goal)) same ∙ is)));
    }

-- ---- and the same rules, scripts

-- at one place stand two that are the same, or none
abbrev AreSameAt : Option Candidate → Option Candidate → Type 0
AreSameAt None None = ⊤
AreSameAt None (Some d) = ⊥
AreSameAt (Some c) None = ⊥
AreSameAt (Some c) (Some d) = IsSameCandidate c d

same_at : (cs ds : List Candidate) (n : ℕ) → AllZip IsSameCandidate cs ds → AreSameAt (slice_get cs n) (slice_get ds n)
same_at [] [] n h = tt
same_at [] (d ∷ ds) n h = absurd h
same_at (c ∷ cs) [] n h = absurd h
same_at (c ∷ cs) (d ∷ ds) zero h = h.0
same_at (c ∷ cs) (d ∷ ds) (suc n) h = same_at cs ds n h.1

same_marked : (cs ds : List Candidate) (at from : ℕ) → AllZip IsSameCandidate cs ds
    → marked_from at ds from ≡ marked_from at cs from
same_marked [] [] at from h = refl
same_marked [] (d ∷ ds) at from h = absurd h
same_marked (c ∷ cs) [] at from h = absurd h
same_marked (c ∷ cs) (d ∷ ds) at from h =
    ap (λ b. cond (nat_le from at && b) (Some at) (marked_from (at + 1) ds from)) h.0.is_marked
    ∙ ap (cond (nat_le from at && c.is_marked) (Some at)) (same_marked cs ds (at + 1) from h.1)

module _ (cs ds : List Candidate) (h : AllZip IsSameCandidate cs ds) where
  same_ignoring : (s : State) → ignoring ds s ≡ ignoring cs s
  same_ignoring s = ap (λ o. with_ignored s (cond s.unmarked_holds o None)) (same_marked cs ds 0 s.next_ignored h)

  same_entering_next : (s : State) (o p : Option Candidate) → AreSameAt o p
      → entering_next ds s p ≡ entering_next cs s o
  same_entering_next s None None one = same_ignoring s
  same_entering_next s None (Some d) one = absurd one
  same_entering_next s (Some c) None one = absurd one
  same_entering_next s (Some c) (Some d) one = refl

  same_entering : (s : State) → entering ds s ≡ entering cs s
  same_entering s =
      same_entering_next s (slice_get cs s.candidate) (slice_get ds s.candidate) (same_at cs ds s.candidate h)

  same_asking_next : (s : State) (c d : Candidate) → IsSameCandidate c d → (o : Option Asking)
      → asking_next d s o ≡ asking_next c s o
  same_asking_next s c d one None =
      ap (λ b. asking_next (record { is_marked = b; questions = c.questions }) s None) one.is_marked
  same_asking_next s c d one (Some a) = refl

  same_asking_in : (s : State) (o p : Option Candidate) → AreSameAt o p → asking_in ds s p ≡ asking_in cs s o
  same_asking_in s None None one = same_ignoring s
  same_asking_in s None (Some d) one = absurd one
  same_asking_in s (Some c) None one = absurd one
  same_asking_in s (Some c) (Some d) one = ap (λ qs. asking_next d s (slice_get qs s.question)) one.questions
      ∙ same_asking_next s c d one (slice_get c.questions s.question)

  same_asking : (s : State) → asking ds s ≡ asking cs s
  same_asking s = same_asking_in s (slice_get cs s.candidate) (slice_get ds s.candidate) (same_at cs ds s.candidate h)

  same_state_with : (s : State) (o : Option (Request Goal Outcome)) (r : Reply Outcome)
      → state_with ds s o r ≡ state_with cs s o r
  same_state_with s None Begin = same_entering s
  same_state_with s None (Answer a) = refl
  same_state_with s None Noted = refl
  same_state_with s (Some EnterCandidate) Begin = refl
  same_state_with s (Some EnterCandidate) (Answer a) = refl
  same_state_with s (Some EnterCandidate) Noted = same_asking s
  same_state_with s (Some (Evaluate kind goal)) Begin = refl
  same_state_with s (Some (Evaluate kind goal)) (Answer a) = same_asking (with_answer s a)
  same_state_with s (Some (Evaluate kind goal)) Noted = refl
  same_state_with s (Some FinishCandidate) Begin = refl
  same_state_with s (Some FinishCandidate) (Answer a) = refl
  same_state_with s (Some FinishCandidate) Noted = same_entering s
  same_state_with s (Some (Ignore n)) Begin = refl
  same_state_with s (Some (Ignore n)) (Answer a) = refl
  same_state_with s (Some (Ignore n)) Noted = same_ignoring s
  same_state_with s (Some (Done r)) Begin = refl
  same_state_with s (Some (Done r)) (Answer a) = refl
  same_state_with s (Some (Done r)) Noted = refl

  same_state : (replies : List (Reply Outcome)) → state_after ds replies ≡ state_after cs replies
  same_state [] = refl
  same_state (r ∷ earlier) = same_state_with (state_after ds earlier) (state_after ds earlier).request r
      ∙ ap (λ s. state_with cs s s.request r) (same_state earlier)

  pub same_script : script_of ds ≡ script_of cs
  same_script = λ i. λ replies. request_of (same_state replies i)
