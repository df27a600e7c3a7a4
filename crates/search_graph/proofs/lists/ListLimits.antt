-- What limits mean for a list of queries: for none, and for one more.
use Rattle.std.proofs.Common.{◌≡◌, ◌||◌, ◌⊎◌, ℕ, zero, suc, ◌+◌, ◌≤◌, max, min, All, Contains, Bool, true, false, List}
use Rattle.std.proofs.Common.{[], ◌∷◌, ◌++◌, length, slice_get, Some, Result, Ok, Err, IfOk, IfErr, refl, sym, ap, ◌∙◌}
use Rattle.std.proofs.Common.{subst, inl, inr, arith, le_refl}
use Rattle.std.proofs.lemmas.List.Elements.{All-cons, All-head, All-nil, All-tail}
use Rattle.search_context.specs.declared.context.Answer.{Answer}
use Rattle.search_graph.specs.Below.{Cache, CxOf, DelegateOf, Fault, HasCounted, HaveNoOverflow, HaveNoOverflowOf}
use Rattle.search_graph.specs.Below.{IsDecisive, IsEnclosed, IsPaid, PathKind, verdicts}
use Rattle.search_graph.specs.Lists.{AreEnclosed, HasLimits, HasPaid}

-- a place of a list with one more is in the list, or is the last
pub at_or_last : {A : Type 0} (xs : List A) (x : A) (at : ℕ) (y : A) → slice_get (xs ++ x ∷ []) at ≡ Some y
    → (slice_get xs at ≡ Some y) ⊎ (x ≡ y)
at_or_last [] x zero y is = inr cc
at_or_last [] x (suc n) y is = absurd cc
at_or_last (z ∷ xs) x zero y is = inl is
at_or_last (z ∷ xs) x (suc n) y is = at_or_last xs x n y is

-- a place of a list is one of that with one more
still_at : {A : Type 0} (xs : List A) (x : A) (at : ℕ) (y : A) → slice_get xs at ≡ Some y
    → slice_get (xs ++ x ∷ []) at ≡ Some y
still_at [] x at y is = absurd cc
still_at (z ∷ xs) x zero y is = is
still_at (z ∷ xs) x (suc n) y is = still_at xs x n y is

last_at : {A : Type 0} (xs : List A) (x : A) → slice_get (xs ++ x ∷ []) (length xs) ≡ Some x
last_at [] x = refl
last_at (z ∷ xs) x = last_at xs x

-- neither of two is true
neither_of : (first second : Bool) → (first || second) ≡ false → (first ≡ false) × (second ≡ false)
neither_of true second none = absurd cc
neither_of false second none = (refl, none)

-- what holds of all of a list with one more holds of the others, and of that one
pub each_of : {A : Type 0} (P : A → Type 0) (xs : List A) (x : A) → All P (xs ++ x ∷ []) → All P xs × P x
each_of P [] x h = (All-nil P, All-head P x [] h)
each_of P (z ∷ xs) x h =
    let rest = each_of P xs x (All-tail P z (xs ++ x ∷ []) h) in
    (All-cons P z xs (All-head P z (xs ++ x ∷ []) h) rest.0, rest.1)

-- what was counted is counted, if the count began earlier or ends later
pub counted_over : (last before mid now later many : ℕ) → before ≤ mid → now ≤ later
    → HasCounted last mid now many → HasCounted last before later many
counted_over last before mid now later many from to h =
    elim h [ inl counted ↦ inl (omega (arith, counted, from, to)) | inr ended ↦ inr (omega (arith, ended, to)) ]

module _ {D C V P F I R A T : Type 0} (G : DelegateOf D C V P F I R A T)
    (X : CxOf C I R A T) (same : I → I → Bool) where
  -- no query meets a limit
  pub no_limits : (cache : Cache C I R T) (starts : ℕ) → HasLimits G X same false [] cache cache starts starts []
  no_limits cache starts = record {
    decisive = λ decisive all unmet. all;
    decided = λ decisive all unmet at answer is. absurd cc;
    faults = λ decisive one all unmet at fault is. absurd cc;
    no_overflow = λ counted none unmet. none;
    price = λ counted none met. absurd cc;
    enclosed = λ goals all none. none;
    by_runs = λ goals all none counted met. absurd cc;
  }

  -- what was paid stays paid
  paid_later : (queries : List (ℕ × I × PathKind)) (query : ℕ × I × PathKind) (before mid now : ℕ) → mid ≤ now
      → HasPaid G X same queries before mid → HasPaid G X same (queries ++ query ∷ []) before now
  paid_later queries query before mid now later h = record {
    at = h.at;
    query = h.query;
    is_at = still_at queries query h.at h.query h.is_at;
    paid = counted_over G.last before before mid now
        (min (max 1 G.FIXPOINT_STEP_LIMIT) (h.query.0 + 1)) (le_refl before) later h.paid;
  }

  -- a later query pays
  paid_now : (queries : List (ℕ × I × PathKind)) (query : ℕ × I × PathKind) (before mid now : ℕ) → before ≤ mid
      → HasPaid G X same (query ∷ []) mid now → HasPaid G X same (queries ++ query ∷ []) before now
  paid_now queries query before mid now later h = record {
    at = length queries;
    query = query;
    is_at = last_at queries query;
    paid = subst (λ (q : ℕ × I × PathKind). IsPaid (max 1 G.FIXPOINT_STEP_LIMIT) q.0 G.last before now)
        (sym (only h.at h.query h.is_at))
        (counted_over G.last before mid now now
        (min (max 1 G.FIXPOINT_STEP_LIMIT) (h.query.0 + 1)) later (le_refl now) h.paid);
  }
    where
      only : (at : ℕ) (found : ℕ × I × PathKind) → slice_get (query ∷ []) at ≡ Some found → query ≡ found
      only zero found is = cc
      only (suc n) found is = absurd cc

  -- one more query
  pub limits_more : (queries : List (ℕ × I × PathKind)) (query : ℕ × I × PathKind) (old mid new : Cache C I R T)
      (before between now : ℕ) (answers : List (Result (Answer R) (Fault I R)))
      (answer : Result (Answer R) (Fault I R)) (met later : Bool)
      → mid.cx ≡ old.cx → before ≤ between → between ≤ now
      → HasLimits G X same met queries old mid before between answers
      → HasLimits G X same later (query ∷ []) mid new between now (answer ∷ [])
      → HasLimits G X same (met || later) (queries ++ query ∷ []) old new before now (answers ++ answer ∷ [])
  limits_more queries query old mid new before between now answers answer met later context from to first second =
      record {
        decisive = λ decisive all unmet.
            let each = neither_of met later unmet in
            second.decisive (moved decisive) (first.decisive decisive all each.0) each.1;
        decided = λ decisive all unmet at given is.
            let each = neither_of met later unmet in
            elim (at_or_last answers answer at (Ok given) is) [
              | inl there ↦ first.decided decisive all each.0 at given there
              | inr same_answer ↦
                  second.decided (moved decisive) (first.decisive decisive all each.0)
                  each.1 0 given (ap Some same_answer)
            ];
        faults = λ decisive one all unmet at fault is.
            let each = neither_of met later unmet in
            elim (at_or_last answers answer at (Err fault) is) [
              | inl there ↦ first.faults decisive one all each.0 at fault there
              | inr same_answer ↦ second.faults (moved decisive) one (first.decisive decisive all each.0)
                  each.1 0 fault (ap Some same_answer)
            ];
        no_overflow = λ counted none unmet.
            let each = neither_of met later unmet in
            second.no_overflow counted (first.no_overflow counted none each.0) each.1;
        price = λ counted none is. pays counted none met refl is;
        enclosed = λ goals all none.
            let each = each_of (λ q. IsEnclosed (G.script old.cx) goals q.0 q.1) queries query all in
            second.enclosed goals (alone goals each.1) (first.enclosed goals each.0 none);
        by_runs = λ goals all none counted is. pays_runs goals all none counted met refl is;
      }
    where
      alone : (goals : List I) → IsEnclosed (G.script old.cx) goals query.0 query.1
          → AreEnclosed G X same mid.cx goals (query ∷ [])
      alone goals e = subst (λ cx. AreEnclosed G X same cx goals (query ∷ [])) (sym context)
          (All-cons (λ q. IsEnclosed (G.script old.cx) goals q.0 q.1) query [] e
          (All-nil (λ q. IsEnclosed (G.script old.cx) goals q.0 q.1)))

      pays_runs : (goals : List I) → AreEnclosed G X same old.cx goals (queries ++ query ∷ [])
          → HaveNoOverflowOf (Contains goals) same old.results → G.counts ≡ true → (b : Bool) → met ≡ b
          → (met || later) ≡ true → HasCounted G.last before now (max 1 G.FIXPOINT_STEP_LIMIT)
      pays_runs goals all none counted true is any =
          let each = each_of (λ q. IsEnclosed (G.script old.cx) goals q.0 q.1) queries query all in
          counted_over G.last before before between now (max 1 G.FIXPOINT_STEP_LIMIT) (le_refl before) to
          (first.by_runs goals each.0 none counted is)
      pays_runs goals all none counted false is any =
          let each = each_of (λ q. IsEnclosed (G.script old.cx) goals q.0 q.1) queries query all in
          counted_over G.last before between now now (max 1 G.FIXPOINT_STEP_LIMIT) from (le_refl now)
          (second.by_runs goals (alone goals each.1) (first.enclosed goals each.0 none) counted
          (ap (λ b. b || later) (sym is) ∙ any))

      moved : IsDecisive (verdicts X) (G.script old.cx) → IsDecisive (verdicts X) (G.script mid.cx)
      moved decisive = subst (λ cx. IsDecisive (verdicts X) (G.script cx)) (sym context) decisive

      pays : G.counts ≡ true → HaveNoOverflow same old.results → (b : Bool) → met ≡ b → (met || later) ≡ true
          → HasPaid G X same (queries ++ query ∷ []) before now
      pays counted none true is any = paid_later queries query before between now to (first.price counted none is)
      pays counted none false is any =
          paid_now queries query before between now from
          (second.price counted (first.no_overflow counted none is) (ap (λ b. b || later) (sym is) ∙ any))

-- what holds of the only answer, if it is one
pub only_answer : {R E : Type 0} (r : Result (Answer R) E) (P : Answer R → Type 0) → IfOk r P
    → (at : ℕ) (answer : Answer R) → slice_get (r ∷ []) at ≡ Some (Ok answer) → P answer
only_answer r P h zero answer is = let same : r ≡ Ok answer = cc in subst (λ s. IfOk s P) same h
only_answer r P h (suc n) answer is = absurd cc

-- and of the only fault
pub only_fault : {A E : Type 0} (r : Result A E) (P : E → Type 0) → IfErr r P → (at : ℕ) (fault : E)
    → slice_get (r ∷ []) at ≡ Some (Err fault) → P fault
only_fault r P h zero fault is = let same : r ≡ Err fault = cc in subst (λ s. IfErr s P) same h
only_fault r P h (suc n) fault is = absurd cc
