-- How many places are new, when the state of one changes.
use Rattle.std.proofs.Common.{◌≡◌, ℕ, ◌<◌, ◌+◌, List, length, set, cond}
use Rattle.std.specs.List.{count_by}
use Rattle.std.proofs.lemmas.List.Sums.{sum_by-set}
use Rattle.strong_components.specs.Words.{State, New, is_new, state_at}

-- one more where the old state counts
pub news-set : (states : List State) (a : ℕ) (x : State) → a < length states
    → count_by is_new (set states a x) + cond (is_new (state_at states a)) 1 0
    ≡ count_by is_new states + cond (is_new x) 1 0
news-set states a x inside = sum_by-set (λ (y : State). cond (is_new y) 1 0) states a x New inside
