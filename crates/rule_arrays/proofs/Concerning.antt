-- What is found from the goals that changed is what is concerned.
use Rattle.std.proofs.Common.{◌≡◌, ◌∙◌, ◌<◌, ◌≤◌, ℕ, [], ap, arith, inl, inr, length}
use Rattle.std.proofs.Common.{subst, sym}
use Rattle.std.specs.Prelude.{◌↔◌}
use Rattle.std.proofs.lemmas.Bool.{cases_lt}
use Rattle.std.proofs.lemmas.Option.{slice_get_past}
use Rattle.rule_arrays.specs.Askers.{AreAskers}
use Rattle.rule_arrays.specs.Changes.{Asks, IsAskedBy, IsChanged, IsConcerned, asks, changed}
use Rattle.rule_arrays.specs.Found.{CanReach, FindsAskers, FollowsAll, IsFound, IsReached, asker, itself, there}
use Rattle.rule_arrays.specs.Found as reach
use Rattle.rule_arrays.specs.Table.{Table, candidates_by, candidates_of}
use Rattle.rule_arrays.specs.declared.changes.askers.Askers.{Askers}
use Rattle.rule_arrays.specs.declared.changes.found.Found.{Found}
use Rattle.rule_arrays.proofs.Asking.{none_by}

-- a number past the goals has no candidates
pub no_candidates : (table : Table) (goal : ℕ) → length table.goals ≤ goal → candidates_of table goal ≡ []
no_candidates table goal past = ap (candidates_by table goal) (slice_get_past table.goals goal past)

asker_within : (table : Table) (goal asked count : ℕ) → length table.goals ≤ count → Asks table goal asked
    → goal < count
asker_within table goal asked count enough it = elim (cases_lt goal count) [
  | inl less ↦ less
  | inr past ↦ absurd (none_by asked
      (subst (λ cs. IsAskedBy cs asked) (no_candidates table goal (omega (arith, past, enough))) it))
]

changed_within : (old new : Table) (goal count : ℕ) → length old.goals ≤ count → length new.goals ≤ count
    → IsChanged old new goal → goal < count
changed_within old new goal count few enough it = elim (cases_lt goal count) [
  | inl less ↦ less
  | inr past ↦ absurd (it (no_candidates old goal (omega (arith, past, few))
      ∙ sym (no_candidates new goal (omega (arith, past, enough)))))
]

concerned_within : (old new : Table) (goal count : ℕ) → length old.goals ≤ count → length new.goals ≤ count
    → IsConcerned old new goal → goal < count
concerned_within old new goal count few enough (changed _ it) = changed_within old new goal count few enough it
concerned_within old new goal count few enough (asks _ asked it next) = asker_within new goal asked count enough it

module _ (old new : Table) (count : ℕ) (few : length old.goals ≤ count) (enough : length new.goals ≤ count)
    (first : Found) (exact : (goal : ℕ) → IsFound first goal ↔ ((goal < count) × IsChanged old new goal)) where
  -- where nothing changed, nothing is concerned
  pub none_concerned : length first.goals.items ≡ 0 → (goal : ℕ) → IsConcerned old new goal → IsFound first goal
  none_concerned none goal (changed _ it) = (exact goal).1 (changed_within old new goal count few enough it, it)
  none_concerned none goal (asks _ asked it next) =
      let found = none_concerned none asked next in absurd (omega (arith, found.1, none))

  pub concerned_first : (goal : ℕ) → IsFound first goal → IsConcerned old new goal
  concerned_first goal found = changed goal ((exact goal).0 found).1

  module _ (found : Found) (finds : FindsAskers new count first found) where
    reached_concerned : (goal : ℕ) → CanReach new first goal → IsConcerned old new goal
    reached_concerned goal (itself _ it) = concerned_first goal it
    reached_concerned goal (reach.asks _ asked it next) = asks goal asked it (reached_concerned asked next)

    concerned_found : (goal : ℕ) → IsConcerned old new goal → IsFound found goal
    concerned_found goal (changed _ it) =
        finds.kept goal ((exact goal).1 (changed_within old new goal count few enough it, it))
    concerned_found goal (asks _ asked it next) =
        finds.closed asked goal (concerned_found asked next) (concerned_within old new asked count few enough next) it

    pub all_found : (goal : ℕ) → IsFound found goal ↔ IsConcerned old new goal
    all_found goal = (λ it. reached_concerned goal (finds.only goal it), concerned_found goal)

-- ---- who can reach what was found

module _ (table : Table) (count : ℕ) (enough : length table.goals ≤ count) where
  -- the askers of the first goals are followed
  module _ (first : ℕ) (askers : Askers)
      (are : AreAskers (λ asked goal. (goal < count) × Asks table goal asked) first askers) (old new : Found)
      (follows : FollowsAll askers old new) where
    can_reach : (goal : ℕ) → IsReached askers old goal → CanReach table old goal
    can_reach goal (there _ it) = itself goal it
    can_reach goal (asker _ asked it next) = reach.asks goal asked (are.only asked goal it).1 (can_reach asked next)

    pub askers_found : FindsAskers table first old new
    askers_found = record {
      listed = follows.listed;
      kept = follows.kept;
      closed = λ goal one it less asks_it.
          follows.closed goal one it
          (are.all goal one less (asker_within table one goal count enough asks_it, asks_it));
      only = λ goal it. can_reach goal (follows.only goal it);
    }

  -- none that is found is further on
  pub all_near : (first : ℕ) (old new : Found) → FindsAskers table first old new
      → ((goal : ℕ) → IsFound new goal → goal < first) → FindsAskers table count old new
  all_near first old new finds within = record {
    listed = finds.listed;
    kept = finds.kept;
    closed = λ goal one it _ asks_it. finds.closed goal one it (within goal it) asks_it;
    only = finds.only;
  }

  reach_further : (old now : Found) → ((goal : ℕ) → IsFound now goal → CanReach table old goal) → (goal : ℕ)
      → CanReach table now goal → CanReach table old goal
  reach_further old now only goal (itself _ it) = only goal it
  reach_further old now only goal (reach.asks _ asked it next) =
      reach.asks goal asked it (reach_further old now only asked next)

  -- some is, and then all are followed
  pub then_all : (first : ℕ) (old now new : Found) → FindsAskers table first old now → FindsAskers table count now new
      → FindsAskers table count old new
  then_all first old now new near far = record {
    listed = far.listed;
    kept = λ goal it. far.kept goal (near.kept goal it);
    closed = far.closed;
    only = λ goal it. reach_further old now near.only goal (far.only goal it);
  }
