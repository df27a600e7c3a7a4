-- Whether an open node is appended, and what holds of an open node.
use Rattle.std.proofs.Common.{◌≡◌, ℕ, List, [], ◌∷◌, ◌++◌, Option, None, Some, Result, Ok, Err, is_ok, IsSome, refl}
use Rattle.std.specs.Prelude.{IfOk, IfSome, OnErr}
use Rattle.std.specs.Option.{IsSomeAnd}
use Rattle.graph_nodes.specs.Words.{CacheNode, open_node}
use Rattle.graph_nodes.proofs.NodeLists.{appended}

-- an open node is appended, or none is
pub is_appended : {I R E : Type 0} (answer : Result ℕ E) (old new : List (CacheNode I R)) (goal : I)
    → IfOk answer (λ number. new ≡ old ++ open_node goal ∷ []) → OnErr answer (new ≡ old)
    → new ≡ appended (is_ok answer) old goal
is_appended (Ok number) old new goal pushed refused = pushed
is_appended (Err e) old new goal pushed refused = refused

pub is_some_and : {A : Type 0} (P : A → Type 0) (o : Option A) → IsSomeAnd o P → IsSome o
is_some_and P None h = absurd h
is_some_and P (Some x) h = refl

pub if_some_and : {A : Type 0} (P : A → Type 0) (o : Option A) → IsSomeAnd o P → IfSome o P
if_some_and P None h = tt
if_some_and P (Some x) h = h

pub some_and : {A : Type 0} (P : A → Type 0) (o : Option A) → IsSome o → IfSome o P → IsSomeAnd o P
some_and P None some h = absurd cc
some_and P (Some x) some h = h
