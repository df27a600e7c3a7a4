-- What questions and candidates ask, and who is an asker once one more of them is read.
use Rattle.std.proofs.Common.{◌≡◌, ◌∙◌, ◌⊎◌, ℕ, List, [], ◌∷◌, ◌++◌, ap, arith, inl, inr, length}
use Rattle.std.proofs.Common.{subst, sym}
use Rattle.std.proofs.lemmas.List.Elements.{Contains-append_left, Contains-push, Contains-push_cases}
use Rattle.rule_arrays.specs.Askers.{AddsAskers, AreAskers, last_of}
use Rattle.rule_arrays.specs.Changes.{IsAskedBy, IsAskedIn}
use Rattle.rule_arrays.specs.Table.{Candidate}
use Rattle.rule_arrays.specs.declared.changes.askers.Askers.{Askers}
use Rattle.rule_arrays.specs.declared.rows.QuestionRow.{QuestionRow}
use Rattle.rule_arrays.proofs.Chains.{adds_more, begins}

-- ---- questions

in_more : (qs : List QuestionRow) (q : QuestionRow) (goal : ℕ) → IsAskedIn (qs ++ q ∷ []) goal
    → IsAskedIn qs goal ⊎ (goal ≡ q.goal)
in_more qs q goal it = elim (Contains-push_cases qs q it.question it.is_question) [
  | inl old ↦ inl (record { question = it.question; is_question = old; is_asked = it.is_asked })
  | inr new ↦ inr (sym it.is_asked ∙ ap (λ x. x.goal) (sym new))
]

in_still : (qs : List QuestionRow) (q : QuestionRow) (goal : ℕ) → IsAskedIn qs goal → IsAskedIn (qs ++ q ∷ []) goal
in_still qs q goal it = record {
  question = it.question;
  is_question = Contains-append_left qs (q ∷ []) it.question it.is_question;
  is_asked = it.is_asked;
}

in_last : (qs : List QuestionRow) (q : QuestionRow) (goal : ℕ) → goal ≡ q.goal → IsAskedIn (qs ++ q ∷ []) goal
in_last qs q goal is = record { question = q; is_question = Contains-push qs q; is_asked = sym is }

pub question_added : (qs : List QuestionRow) (q : QuestionRow) (goal : ℕ) (a b c : Askers)
    → AddsAskers (λ asked asker. (asker ≡ goal) × IsAskedIn qs asked) a b
    → AddsAskers (λ other asker. (asker ≡ goal) × (other ≡ q.goal)) b c
    → AddsAskers (λ asked asker. (asker ≡ goal) × IsAskedIn (qs ++ q ∷ []) asked) a c
question_added qs q goal a b c first second = adds_more
    (λ asked asker. (asker ≡ goal) × IsAskedIn qs asked)
    (λ other asker. (asker ≡ goal) × (other ≡ q.goal))
    (λ asked asker. (asker ≡ goal) × IsAskedIn (qs ++ q ∷ []) asked) a b c first second
    (λ asked asker it. elim (in_more qs q asked it.1) [
      | inl old ↦ inl (it.0, old)
      | inr new ↦ inr (it.0, new)
    ])
    (λ asked asker it. (it.0, in_still qs q asked it.1))
    (λ asked asker it. (it.0, in_last qs q asked it.1))

-- ---- candidates

pub none_by : (goal : ℕ) → IsAskedBy [] goal → ⊥
none_by goal it = absurd (omega (arith, it.is_candidate.1))

by_more : (cs : List Candidate) (c : Candidate) (goal : ℕ) → IsAskedBy (cs ++ c ∷ []) goal
    → IsAskedBy cs goal ⊎ IsAskedIn c.questions goal
by_more cs c goal it = elim (Contains-push_cases cs c it.candidate it.is_candidate) [
  | inl old ↦ inl (record { candidate = it.candidate; is_candidate = old; asks = it.asks })
  | inr new ↦ inr (subst (λ x. IsAskedIn x.questions goal) (sym new) it.asks)
]

by_still : (cs : List Candidate) (c : Candidate) (goal : ℕ) → IsAskedBy cs goal → IsAskedBy (cs ++ c ∷ []) goal
by_still cs c goal it = record {
  candidate = it.candidate;
  is_candidate = Contains-append_left cs (c ∷ []) it.candidate it.is_candidate;
  asks = it.asks;
}

by_last : (cs : List Candidate) (c : Candidate) (goal : ℕ) → IsAskedIn c.questions goal
    → IsAskedBy (cs ++ c ∷ []) goal
by_last cs c goal it = record { candidate = c; is_candidate = Contains-push cs c; asks = it }

pub candidate_added : (cs : List Candidate) (c : Candidate) (goal : ℕ) (old now new : Askers)
    → AddsAskers (λ asked asker. (asker ≡ goal) × IsAskedBy cs asked) old now
    → AddsAskers (λ asked asker. (asker ≡ goal) × IsAskedIn c.questions asked) now new
    → AddsAskers (λ asked asker. (asker ≡ goal) × IsAskedBy (cs ++ c ∷ []) asked) old new
candidate_added cs c goal old now new first second = adds_more
    (λ asked asker. (asker ≡ goal) × IsAskedBy cs asked)
    (λ asked asker. (asker ≡ goal) × IsAskedIn c.questions asked)
    (λ asked asker. (asker ≡ goal) × IsAskedBy (cs ++ c ∷ []) asked) old now new first second
    (λ asked asker it. elim (by_more cs c asked it.1) [
      | inl before ↦ inl (it.0, before)
      | inr last ↦ inr (it.0, last)
    ])
    (λ asked asker it. (it.0, by_still cs c asked it.1))
    (λ asked asker it. (it.0, by_last cs c asked it.1))

-- ---- all

-- all askers were added to none
pub all_added : (IsAsker : ℕ → ℕ → Type 0) (old new : Askers) (count : ℕ)
    → ((goal : ℕ) → last_of old goal ≡ 0) → length old.last.items ≡ count
    → AddsAskers IsAsker old new → AreAskers IsAsker count new
all_added IsAsker old new count none room adds = record {
  chains = adds.chains;
  all = λ goal asker within is. adds.added goal asker (omega (arith, room, within)) is;
  only = λ goal asker has. elim (adds.only goal asker has) [
    | inl before ↦ absurd (omega (arith, begins old.links.items asker (last_of old goal) before, none goal))
    | inr is ↦ is
  ];
}
