-- Goals that ask over steps of several kinds: when they hold, and when they don't, whatever rule proves and
-- refutes each of them.
use Rattle.std.specs.Prelude.{◌≡◌, List, Contains}
use Rattle.question_lists.specs.Below.{Coinductive, Inductive, PathKind, Question}

-- the kind is not inductive
abbrev pub IsNotInductive : PathKind → Type 0
IsNotInductive kind = kind ≡ Inductive → ⊥

-- the kind is not coinductive
abbrev pub IsNotCoinductive : PathKind → Type 0
IsNotCoinductive kind = kind ≡ Coinductive → ⊥

-- The goal holds if those of the list do: a tree that ends, in which a coinductive step leads to a goal of the list,
-- and each other one leads on.
pub data Derives {I : Type 0} (proves : I → List (Question I) → Type 0) (given : List I) : I → Type 0 where
  derive : {goal : I} (held : List (Question I)) → proves goal held →
      ((q : Question I) → Contains held q → q.kind ≡ Coinductive → Contains given q.goal) →
      ((q : Question I) → Contains held q → IsNotCoinductive q.kind → Derives proves given q.goal) →
      Derives proves given goal

-- The goal holds: it is derived from some goals, each of which is derived from these, too. So each way round goes
-- through a coinductive step.
pub record IsDerivable {I : Type 0} (proves : I → List (Question I) → Type 0) (goal : I) : Type 0 where
  pub given : List I
  pub are_derived : (asked : I) → Contains given asked → Derives proves given asked
  pub is_derived : Derives proves given goal

-- The goal does not hold: it is among some that fail together. Each of these is refuted by questions: one that is
-- inductive leads to one of them, and one that is not to a goal that is refuted before, in a tree that ends. So each
-- way round goes through inductive steps alone.
pub data IsRefutable {I : Type 0} (refutes : I → List (Question I) → Type 0) : I → Type 0 where
  refute : {goal : I} (among : List I) (failed : (asked : I) → Contains among asked → List (Question I)) →
      Contains among goal →
      ((asked : I) (is : Contains among asked) → refutes asked (failed asked is)) →
      ((asked : I) (is : Contains among asked) (q : Question I) → Contains (failed asked is) q →
      q.kind ≡ Inductive → Contains among q.goal) →
      ((asked : I) (is : Contains among asked) (q : Question I) → Contains (failed asked is) q → IsNotInductive q.kind →
      IsRefutable refutes q.goal) → IsRefutable refutes goal
