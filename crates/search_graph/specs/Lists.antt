-- What a list of queries is answered with. A query is a root depth, a goal, and the kind of the step that asks it, on
-- which nothing depends.
use Rattle.std.specs.Prelude.{◌≡◌, ℕ, ◌≤◌, max, All, Bool, true, false, Contains, List, [], ◌∷◌, ◌++◌, slice_get, None}
use Rattle.std.specs.Prelude.{Some, IfSome, Result, Ok, Err, IfOk, IfErr}
use Rattle.std.specs.List.{AllZip, list_any, sum_by}
use Rattle.search_graph.specs.Called.{Called, HasRun}
use Rattle.search_graph.specs.Graph.{Graph}
use Rattle.search_graph.specs.Below.{AreDefinite, CxOf, DelegateOf, Fault, HasCounted, HaveNoOverflow, HaveNoOverflowOf}
use Rattle.search_graph.specs.Below.{IsDecisive, IsEnclosed, IsDefinite, IsPaid, Memory, PathKind, Cache, KeepsFinished}
use Rattle.search_graph.specs.Below.{HasGraph, IsWhole, IsPlainTo, IsPlainValue, frames_within, KeepsResults, verdicts}
use Rattle.search_context.specs.declared.context.Answer.{Answer}
use Rattle.search_rules.specs.Claims.{HasOneOfEach, IsCaused, IsMemoryOrOrder, IsProved, IsRefuted}

-- the new list has the items of the old one, and then one for each query, in order, of which this holds
pub record AppendsEach {Q A : Type 0} (Holds : Q → A → Type 0) (queries : List Q) (old new : List A) : Type 0 where
  pub more : List A
  pub is : new ≡ old ++ more
  pub each : AllZip Holds queries more

-- the most frames that the queries may start together
abbrev pub frames_for : {I : Type 0} → ℕ → ℕ → List (ℕ × I × PathKind) → ℕ
frames_for runs width queries = sum_by (λ query. frames_within runs width query.0) queries

module _ {D C V P F I R A T : Type 0} (G : DelegateOf D C V P F I R A T) (X : CxOf C I R A T)
    (same : I → I → Bool) (cache : Cache C I R T) where
  -- the fault has its cause in a cache whose results and finished nodes this one has still
  pub record HadCause (fault : Fault I R) : Type 0 where
    pub before : Cache C I R T
    pub same_context : cache.cx ≡ before.cx
    pub kept_results : KeepsResults same before.results cache.results
    pub kept : KeepsFinished before.nodes cache.nodes
    pub caused : IsCaused G X same before fault

  -- A goal whose questions go no deeper than the query's depth, and that is orderly with all goals below it, answers
  -- its plain value or that memory is out. An answer has its graph, and a fault its cause.
  pub record HasAnswer (query : ℕ × I × PathKind) (answer : Result (Answer R) (Fault I R)) : Type 0 where
    pub plain : (n : ℕ) → IsPlainTo (G.script cache.cx) n query.1 → n ≤ query.0
        → IfOk answer (λ a. IsPlainValue (G.script cache.cx) n query.1 a.result)
    pub plain_faults : (n : ℕ) → IsPlainTo (G.script cache.cx) n query.1 → n ≤ query.0
        → IfErr answer (λ fault. fault ≡ Memory)
    pub has_graph : IfOk answer (λ a. HasGraph (verdicts X) cache.nodes query.1 a.result a.node)
    pub faults : IfErr answer HadCause

  -- Besides, where the answer is definite, its goal has no graph of the other sort anywhere, and its
  -- own can be handed out.
  pub record IsAnsweredQuery (query : ℕ × I × PathKind) (answer : Result (Answer R) (Fault I R)) : Type 0 where
    pub has : HasAnswer query answer
    pub yes : IfOk answer (λ a. X.is_yes a.result ≡ true → IsProved X cache query.1 a.node)
    pub no : IfOk answer (λ a. X.is_no a.result ≡ true → IsRefuted X cache query.1 a.node)
    pub neither : IfOk answer (λ a. X.is_yes a.result ≡ false → X.is_no a.result ≡ false → a.node ≡ None)
    pub whole : IfOk answer (λ a. IfSome a.node (λ node. IsWhole cache.nodes node.0))

module _ {D C V P F I R A T : Type 0} (G : DelegateOf D C V P F I R A T)
    (X : CxOf C I R A T) (same : I → I → Bool) where
  -- one of the queries paid the price of a limit, while the starts rose to `now`
  pub record HasPaid (queries : List (ℕ × I × PathKind)) (before now : ℕ) : Type 0 where
    pub at : ℕ
    pub query : ℕ × I × PathKind
    pub is_at : slice_get queries at ≡ Some query
    pub paid : IsPaid (max 1 G.FIXPOINT_STEP_LIMIT) query.0 G.last before now

  -- each query asks for one of these goals, no question leads out of them, and each depth is enough for them all
  abbrev pub AreEnclosed : C → List I → List (ℕ × I × PathKind) → Type 0
  AreEnclosed cx goals queries = All (λ query. IsEnclosed (G.script cx) goals query.0 query.1) queries

  -- Whether a limit was met while the queries were answered, and what follows. Until one is, a decisive delegate's
  -- answers and stored results are yes or no, and if there is one yes and one no, the only faults are want of memory
  -- and requests out of order; and no result is stored that met overflow. One that is met is paid for. Where the
  -- queries are enclosed, no question is refused: no result of the goals is stored that met overflow, and a limit costs
  -- all runs of one goal.
  pub record HasLimits (met : Bool) (queries : List (ℕ × I × PathKind)) (old new : Cache C I R T) (before now : ℕ)
      (answers : List (Result (Answer R) (Fault I R))) : Type 0 where
    pub decisive : IsDecisive (verdicts X) (G.script old.cx) → AreDefinite (verdicts X) same old.results → met ≡ false
        → AreDefinite (verdicts X) same new.results
    pub decided : IsDecisive (verdicts X) (G.script old.cx) → AreDefinite (verdicts X) same old.results → met ≡ false
        → (at : ℕ) (answer : Answer R) → slice_get answers at ≡ Some (Ok answer) → IsDefinite (verdicts X) answer.result
    pub faults : IsDecisive (verdicts X) (G.script old.cx) → HasOneOfEach (verdicts X)
        → AreDefinite (verdicts X) same old.results → met ≡ false
        → (at : ℕ) (fault : Fault I R) → slice_get answers at ≡ Some (Err fault) → IsMemoryOrOrder fault
    pub no_overflow : G.counts ≡ true → HaveNoOverflow same old.results → met ≡ false → HaveNoOverflow same new.results
    pub price : G.counts ≡ true → HaveNoOverflow same old.results → met ≡ true → HasPaid queries before now
    pub enclosed : (goals : List I) → AreEnclosed old.cx goals queries
        → HaveNoOverflowOf (Contains goals) same old.results → HaveNoOverflowOf (Contains goals) same new.results
    pub by_runs : (goals : List I) → AreEnclosed old.cx goals queries
        → HaveNoOverflowOf (Contains goals) same old.results → G.counts ≡ true → met ≡ true
        → HasCounted G.last before now (max 1 G.FIXPOINT_STEP_LIMIT)

-- whether one of the graphs met a limit
abbrev pub met_in : List Graph → Bool
met_in graphs = list_any (λ graph. graph.limits_met) graphs

-- the call that a query makes, which is made on a new graph
abbrev pub call_for : {C I R A T : Type 0} → (noop : Bool) → ℕ × I × PathKind → Cache C I R T → ℕ
    → Result (Answer R) (Fault I R) → Graph → Cache C I R T → ℕ → Called C I R A T
call_for noop query old from result left new to = record {
  goal = query.1;
  noop = noop;
  looks_up = noop;
  before = record { graph = record { root_depth = query.0; limits_met = false }; cache = old; starts = from };
  result = result;
  after = record { graph = left; cache = new; starts = to };
}

-- A list of queries over one cache: whether its builder is a no-op, the cache and how many frames were started before
-- and after, the answers, and the graph that each call left.
pub record Listed (C I R A T : Type 0) : Type 0 where
  pub noop : Bool
  pub queries : List (ℕ × I × PathKind)
  pub before : Cache C I R T
  pub starts : ℕ
  pub answers : List (Result (Answer R) (Fault I R))
  pub graphs : List Graph
  pub after : Cache C I R T
  pub later : ℕ

module _ {D C V P F I R A T : Type 0} (G : DelegateOf D C V P F I R A T) (X : CxOf C I R A T) (same : I → I → Bool)
    (same_result : R → R → Bool) (noop : Bool) where
  -- the queries' calls were made, one after another, with these answers, and left these graphs
  pub data AllRan (old : Cache C I R T) (from : ℕ) : List (ℕ × I × PathKind) → List (Result (Answer R) (Fault I R))
      → List Graph → Cache C I R T → ℕ → Type 0 where
    NoneRan : AllRan old from [] [] [] old from
    ThenRan :
        (queries : List (ℕ × I × PathKind)) (answers : List (Result (Answer R) (Fault I R))) (graphs : List Graph)
        (mid : Cache C I R T) (between : ℕ)
        (query : ℕ × I × PathKind) (answer : Result (Answer R) (Fault I R))
        (graph : Graph) (new : Cache C I R T) (to : ℕ)
        → AllRan old from queries answers graphs mid between
        → HasRun G X same same_result (call_for noop query mid between answer graph new to)
        → AllRan old from (queries ++ query ∷ []) (answers ++ answer ∷ []) (graphs ++ graph ∷ []) new to

  -- and these answers were appended
  pub record HaveRun (queries : List (ℕ × I × PathKind)) (old new : Cache C I R T) (from to : ℕ)
      (answers_old answers_new : List (Result (Answer R) (Fault I R))) : Type 0 where
    pub more : List (Result (Answer R) (Fault I R))
    pub graphs : List Graph
    pub appended : answers_new ≡ answers_old ++ more
    pub ran : AllRan old from queries more graphs new to

  -- the query has this answer of a call
  pub record WasCalled (query : ℕ × I × PathKind) (answer : Result (Answer R) (Fault I R)) : Type 0 where
    pub old : Cache C I R T
    pub from : ℕ
    pub graph : Graph
    pub new : Cache C I R T
    pub to : ℕ
    pub ran : HasRun G X same same_result (call_for noop query old from answer graph new to)

-- each query of the list was asked by a call
abbrev pub ListHasRun : {D C V P F I R A T : Type 0} → DelegateOf D C V P F I R A T → CxOf C I R A T → (I → I → Bool)
    → (R → R → Bool) → Listed C I R A T → Type 0
ListHasRun G X same same_result list = AllRan G X same same_result list.noop list.before list.starts list.queries
    list.answers list.graphs list.after list.later
