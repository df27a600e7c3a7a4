-- The graph that is handed out for a definite answer is accepted.
use Rattle.std.proofs.Common.{◌≡◌, Bool, true, false, List, Result, Ok, Err, IfOk, IsTrue, ◌↔◌, refl, sym, subst}
use Rattle.table_runs.specs.Below.{Inductive, Coinductive, NoMemory, Node, Reply, Request, Verdict, IsDefinite, IsValid}
use Rattle.table_runs.specs.Below.{IsValidFor, Verdicts}
use Rattle.search_context.specs.declared.context.Verdict.TheVariants as verdict

-- what is exactly so is so
so_is : {P : Type 0} (checked : Result Bool NoMemory) → IfOk checked (λ accepted. IsTrue accepted ↔ P) → P
    → IfOk checked (λ accepted. IsTrue accepted)
so_is (Ok accepted) exact p = exact.1 p
so_is (Err refused) exact p = tt

module _ {I R : Type 0} (says : Verdicts R) (scripts : I → List (Reply R) → Request I R) (nodes : List (Node I R))
    (goal : I) (r : R) (sort : Verdict) where
  valid_for : (said failed : Bool) → says.is_yes r ≡ said → says.is_no r ≡ failed
      → ((sort ≡ verdict.Yes) ↔ IsTrue (says.is_yes r)) → ((sort ≡ verdict.No) ↔ IsTrue (says.is_no r))
      → IsDefinite says r → (says.is_yes r ≡ true → IsValid says.is_yes Coinductive scripts nodes goal)
      → (says.is_no r ≡ true → IsValid says.is_no Inductive scripts nodes goal)
      → IsValidFor says sort scripts nodes goal
  valid_for true failed p q as_yes as_no definite valid_yes valid_no =
      subst (λ s. IsValidFor says s scripts nodes goal) (sym (as_yes.1 p)) (valid_yes p)
  valid_for false true p q as_yes as_no definite valid_yes valid_no =
      subst (λ s. IsValidFor says s scripts nodes goal) (sym (as_no.1 q)) (valid_no q)
  valid_for false false p q as_yes as_no definite valid_yes valid_no = absurd (definite (rw (p, q)))

  -- the answer of the checker, for a definite result with a valid graph
  pub is_accepted : (checked : Result Bool NoMemory) → ((sort ≡ verdict.Yes) ↔ IsTrue (says.is_yes r))
      → ((sort ≡ verdict.No) ↔ IsTrue (says.is_no r)) → IsDefinite says r
      → (says.is_yes r ≡ true → IsValid says.is_yes Coinductive scripts nodes goal)
      → (says.is_no r ≡ true → IsValid says.is_no Inductive scripts nodes goal)
      → IfOk checked (λ accepted. IsTrue accepted ↔ IsValidFor says sort scripts nodes goal)
      → IfOk checked (λ accepted. IsTrue accepted)
  is_accepted checked as_yes as_no definite valid_yes valid_no exact =
      so_is checked exact (valid_for (says.is_yes r) (says.is_no r) refl refl as_yes as_no definite valid_yes valid_no)
