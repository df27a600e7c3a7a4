-- What a table keeps as its candidates change.
use Rattle.std.proofs.Common.{◌≡◌, ◌≢◌, ◌∙◌, ◌⊎◌, ◌+◌, ◌<◌, ◌≤◌, ◌^◌, Bool, true, not, Contains, List, []}
use Rattle.std.proofs.Common.{◌∷◌, ◌++◌, ap, arith, filter, inl, inr, length, map, subst, sym}
use Rattle.std.proofs.lemmas.Bool.{cases_Bool, false≢true}
use Rattle.std.proofs.lemmas.List.{length_push}
use Rattle.std.proofs.lemmas.List.Elements.{Contains-append_left, Contains-append_right, Contains-append_cases}
use Rattle.std.proofs.lemmas.List.Elements.{Contains-push, Contains-push_cases}
use Rattle.list_lemmas.proofs.Members.{Contains-filtered, Contains-map, Contains-mapped, filtered_member}
use Rattle.rule_tables.specs.Candidate.{Candidate}
use Rattle.rule_tables.specs.Rules.{number_of}
use Rattle.rule_tables.specs.declared.rules.Asking.{Asking}
use Rattle.rule_tables.specs.declared.rules.Goal.{Goal}
use Rattle.open_tables.specs.Kept.{AddsCandidate, ClearsCandidates, KeepsCandidates}
use Rattle.open_tables.specs.Table.{AreFew, AreFewer, Asks, IsAskedBy, IsKept, Table, candidates_of}
use Rattle.open_tables.proofs.Places.{one_or_two}

-- the goals that these questions are about, each with the one that asks
abbrev pub pairs_with : Goal → List Asking → List (Goal × Goal)
pairs_with goal questions = map (λ one. (goal, one)) (map (λ q. q.goal) questions)

record IsPair (goal : Goal) (questions : List Asking) (first second : Goal) : Type 0 where
  pub same_asker : goal ≡ first
  pub asking : Asking
  pub is_asking : Contains questions asking
  pub same : asking.goal ≡ second

pair_there : (goal : Goal) (questions : List Asking) (first second : Goal)
    → Contains (pairs_with goal questions) (first, second) → IsPair goal questions first second
pair_there goal questions first second has =
    let pair = Contains-map (λ one. (goal, one)) (map (λ q. q.goal) questions) (first, second) has in
    let one = Contains-map (λ q. q.goal) questions pair.0 pair.1 in
    record {
      same_asker = ap (λ p. p.0) pair.2;
      asking = one.0;
      is_asking = one.1;
      same = one.2 ∙ ap (λ p. p.1) pair.2;
    }

pair_here : (goal : Goal) (questions : List Asking) (asking : Asking) → Contains questions asking
    → Contains (pairs_with goal questions) (goal, asking.goal)
pair_here goal questions asking has =
    Contains-mapped (λ one. (goal, one)) (map (λ q. q.goal) questions) asking.goal
    (Contains-mapped (λ q. q.goal) questions asking has)

asked_still : (cs : List Candidate) (c : Candidate) (asked : Goal) → IsAskedBy cs asked → IsAskedBy (cs ++ c ∷ []) asked
asked_still cs c asked it = record {
  candidate = it.candidate;
  is_candidate = Contains-append_left cs (c ∷ []) it.candidate it.is_candidate;
  asking = it.asking;
  is_asking = it.is_asking;
  same = it.same;
}

few_more : (cs : List Candidate) (c : Candidate) → AreFew cs → AreFewer (length cs) (length c.questions)
    → AreFew (cs ++ c ∷ [])
few_more cs c few fewer = record {
  candidates_few = omega (arith, length_push cs c, fewer.candidates_fewer);
  questions_few = λ other has. elim (Contains-push_cases cs c other has) [
    | inl before ↦ few.questions_few other before
    | inr last ↦ subst (λ x. length x.questions < 2 ^ 32) last fewer.questions_fewer
  ];
}

-- names grow, and no candidates change
pub kept_as : (old new : Table) (asks : List (Goal × Goal)) → IsKept old asks → length new.names < 2 ^ 32 + 1
    → length new.candidates ≡ length new.names → KeepsCandidates old new → IsKept new asks
kept_as old new asks kept countable as_many same = record {
  countable = omega (arith, countable);
  as_many = as_many;
  few = λ goal. subst AreFew (sym (same goal)) (kept.few goal);
  asked = λ goal asked. (
    λ has. subst (λ cs. IsAskedBy cs asked) (sym (same goal)) ((kept.asked goal asked).0 has),
    λ it. (kept.asked goal asked).1 (subst (λ cs. IsAskedBy cs asked) (same goal) it),
  );
}

-- ---- one more candidate

module _ (old new : Table) (goal : Goal) (c : Candidate) (asks all : List (Goal × Goal)) (kept : IsKept old asks)
    (adds : AddsCandidate goal c old new) (as_many : length new.candidates ≡ length old.candidates)
    (fewer : AreFewer (length (candidates_of old goal)) (length c.questions))
    (told : all ≡ asks ++ pairs_with goal c.questions) where
  few_by : (other : Goal) → (other ≡ goal) ⊎ (number_of other ≢ number_of goal) → AreFew (candidates_of new other)
  few_by other (inl same) = subst (λ g. AreFew (candidates_of new g)) (sym same)
      (subst AreFew (sym adds.here) (few_more (candidates_of old goal) c (kept.few goal) fewer))
  few_by other (inr apart) =
      subst AreFew (sym (adds.others other (λ same. apart (ap number_of same)))) (kept.few other)

  asks_old : (other asked : Goal) → (other ≡ goal) ⊎ (number_of other ≢ number_of goal) → Asks old other asked
      → Asks new other asked
  asks_old other asked (inl same) it = subst (λ g. Asks new g asked) (sym same)
      (subst (λ cs. IsAskedBy cs asked) (sym adds.here)
      (asked_still (candidates_of old goal) c asked (subst (λ g. Asks old g asked) same it)))
  asks_old other asked (inr apart) it =
      subst (λ cs. IsAskedBy cs asked) (sym (adds.others other (λ same. apart (ap number_of same)))) it

  asks_new : (asked : Goal) (asking : Asking) → Contains c.questions asking → asking.goal ≡ asked → Asks new goal asked
  asks_new asked asking has same = subst (λ cs. IsAskedBy cs asked) (sym adds.here) (record {
    candidate = c;
    is_candidate = Contains-push (candidates_of old goal) c;
    asking = asking;
    is_asking = has;
    same = same;
  })

  there : (other asked : Goal) → Contains all (other, asked) → Asks new other asked
  there other asked has =
      elim (Contains-append_cases asks (pairs_with goal c.questions) (other, asked)
      (subst (λ l. Contains l (other, asked)) told has)) [
        | inl before ↦ asks_old other asked (one_or_two other goal) ((kept.asked other asked).0 before)
        | inr more ↦
            let pair = pair_there goal c.questions other asked more in
            subst (λ g. Asks new g asked) pair.same_asker (asks_new asked pair.asking pair.is_asking pair.same)
      ]

  told_before : (other asked : Goal) → Asks old other asked → Contains all (other, asked)
  told_before other asked it = subst (λ l. Contains l (other, asked)) (sym told)
      (Contains-append_left asks (pairs_with goal c.questions) (other, asked) ((kept.asked other asked).1 it))

  told_here : (asked : Goal) → IsAskedBy (candidates_of old goal ++ c ∷ []) asked → Contains all (goal, asked)
  told_here asked it = elim (Contains-push_cases (candidates_of old goal) c it.candidate it.is_candidate) [
    | inl before ↦ told_before goal asked (record {
      candidate = it.candidate;
      is_candidate = before;
      asking = it.asking;
      is_asking = it.is_asking;
      same = it.same;
    })
    | inr last ↦ subst (λ l. Contains l (goal, asked)) (sym told)
        (Contains-append_right asks (pairs_with goal c.questions) (goal, asked)
        (subst (λ a. Contains (pairs_with goal c.questions) (goal, a)) it.same
        (pair_here goal c.questions it.asking (subst (λ x. Contains x.questions it.asking) (sym last) it.is_asking))))
  ]

  back : (other asked : Goal) → (other ≡ goal) ⊎ (number_of other ≢ number_of goal) → Asks new other asked
      → Contains all (other, asked)
  back other asked (inl same) it = subst (λ g. Contains all (g, asked)) (sym same)
      (told_here asked (subst (λ cs. IsAskedBy cs asked) adds.here (subst (λ g. Asks new g asked) same it)))
  back other asked (inr apart) it = told_before other asked
      (subst (λ cs. IsAskedBy cs asked) (adds.others other (λ same. apart (ap number_of same))) it)

  pub kept_added : IsKept new all
  kept_added = record {
    countable = subst (λ names. length names ≤ 2 ^ 32) (sym adds.names) kept.countable;
    as_many = as_many ∙ kept.as_many ∙ ap length (sym adds.names);
    few = λ other. few_by other (one_or_two other goal);
    asked = λ other asked. (there other asked, back other asked (one_or_two other goal));
  }

-- ---- no candidates

none_asked : (asked : Goal) → IsAskedBy [] asked → ⊥
none_asked asked it = absurd (omega (arith, it.is_candidate.1))

module _ (same : Goal → Goal → Bool) (exact : (x y : Goal) → same x y ≡ true → x ≡ y)
    (own : (x : Goal) → same x x ≡ true) (old new : Table) (goal : Goal) (asks all : List (Goal × Goal))
    (kept : IsKept old asks) (clears : ClearsCandidates goal old new)
    (as_many : length new.candidates ≡ length old.candidates)
    (told : all ≡ filter (λ pair. not (same goal pair.0)) asks) where
  few_cleared : (other : Goal) → (other ≡ goal) ⊎ (number_of other ≢ number_of goal) → AreFew (candidates_of new other)
  few_cleared other (inl is) = subst (λ g. AreFew (candidates_of new g)) (sym is)
      (subst AreFew (sym clears.here) (record {
        candidates_few = omega arith;
        questions_few = λ c has. absurd (omega (arith, has.1));
      }))
  few_cleared other (inr apart) =
      subst AreFew (sym (clears.others other (λ is. apart (ap number_of is)))) (kept.few other)

  is_other : (other : Goal) → not (same goal other) ≡ true → other ≡ goal → ⊥
  is_other other passes is =
      let told_same : same goal other ≡ true = ap (same goal) is ∙ own goal in
      absurd (false≢true (sym (ap not told_same) ∙ passes))

  passes_other : (other : Goal) → number_of other ≢ number_of goal → not (same goal other) ≡ true
  passes_other other apart = elim (cases_Bool (same goal other)) [
    | inl is ↦ absurd (apart (ap number_of (sym (exact goal other is))))
    | inr not_same ↦ ap not not_same
  ]

  left_there : (other asked : Goal) → Contains all (other, asked) → Asks new other asked
  left_there other asked has =
      let member = filtered_member (λ pair. not (same goal pair.0)) asks (other, asked)
      (subst (λ l. Contains l (other, asked)) told has) in
      subst (λ cs. IsAskedBy cs asked) (sym (clears.others other (is_other other member.1)))
      ((kept.asked other asked).0 member.0)

  left_back : (other asked : Goal) → (other ≡ goal) ⊎ (number_of other ≢ number_of goal) → Asks new other asked
      → Contains all (other, asked)
  left_back other asked (inl is) it = absurd (none_asked asked
      (subst (λ cs. IsAskedBy cs asked) clears.here (subst (λ g. Asks new g asked) is it)))
  left_back other asked (inr apart) it = subst (λ l. Contains l (other, asked)) (sym told)
      (Contains-filtered (λ pair. not (same goal pair.0)) asks (other, asked)
      ((kept.asked other asked).1
      (subst (λ cs. IsAskedBy cs asked) (clears.others other (λ is. apart (ap number_of is))) it))
      (passes_other other apart))

  pub kept_cleared : IsKept new all
  kept_cleared = record {
    countable = subst (λ names. length names ≤ 2 ^ 32) (sym clears.names) kept.countable;
    as_many = as_many ∙ kept.as_many ∙ ap length (sym clears.names);
    few = λ other. few_cleared other (one_or_two other goal);
    asked = λ other asked. (left_there other asked, left_back other asked (one_or_two other goal));
  }
