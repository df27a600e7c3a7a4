-- Answers to a list of queries stay right while more queries are answered.
use Rattle.std.proofs.Common.{◌≡◌, ℕ, ◌≤◌, Bool, true, false, List, [], ◌∷◌, ◌++◌, IfSome, Result, Ok, Err, IfOk, IfErr}
use Rattle.std.proofs.Common.{None, refl, sym, ap, ◌∙◌, subst}
use Rattle.std.specs.List.{AllZip}
use Rattle.std.proofs.lemmas.Result.{IfOk-weaker}
use Rattle.search_graph.specs.Below.{CxOf, DelegateOf, Fault, Memory, PathKind, Cache, AreRuns, KeepsFinished, HasGraph}
use Rattle.search_graph.specs.Below.{Question, Overlap, IsPlainTo, IsPlainValue, KeepsResults, IsWhole, verdicts}
use Rattle.search_graph.specs.Below.{IsProved, IsRefuted}
use Rattle.search_context.specs.declared.context.Answer.{Answer}
use Rattle.search_context.proofs.Rules.{KeepsRule}
use Rattle.graph_nodes.proofs.Definites.{HasGraph-finished, definite_is_whole}
use Rattle.graph_nodes.proofs.Finished.{KeepsFinished-then}
use Rattle.global_cache.proofs.Stores.{KeepsResults-then}
use Rattle.search_graph.specs.Words.{HadCause, HasAnswer}
use Rattle.search_graph.specs.Lists.{IsAnsweredQuery}
use Rattle.search_rules.proofs.answers.Shown.{yes_is_proved, no_is_refuted, neither_is_none}

-- one more is appended
pub appended : {A : Type 0} (old more : List A) (a : A) → (old ++ more) ++ a ∷ [] ≡ old ++ (more ++ a ∷ [])
appended [] more a = refl
appended (b ∷ old) more a = ap (λ l. b ∷ l) (appended old more a)

module _ {Q A : Type 0} where
  pub AllZip-more : (Holds : Q → A → Type 0) (queries : List Q) (more : List A) (query : Q) (a : A)
      → AllZip Holds queries more → Holds query a → AllZip Holds (queries ++ query ∷ []) (more ++ a ∷ [])
  AllZip-more Holds [] [] query a h holds = (holds, tt)
  AllZip-more Holds [] (b ∷ more) query a h holds = absurd h
  AllZip-more Holds (q ∷ queries) [] query a h holds = absurd h
  AllZip-more Holds (q ∷ queries) (b ∷ more) query a h holds = (h.0, AllZip-more Holds queries more query a h.1 holds)

  pub AllZip-weaker : (Holds Also : Q → A → Type 0) → ((query : Q) (a : A) → Holds query a → Also query a)
      → (queries : List Q) (more : List A) → AllZip Holds queries more → AllZip Also queries more
  AllZip-weaker Holds Also so [] [] h = tt
  AllZip-weaker Holds Also so [] (b ∷ more) h = absurd h
  AllZip-weaker Holds Also so (q ∷ queries) [] h = absurd h
  AllZip-weaker Holds Also so (q ∷ queries) (b ∷ more) h = (so q b h.0, AllZip-weaker Holds Also so queries more h.1)

pub IfErr-weaker : {A E : Type 0} (r : Result A E) (P Q : E → Type 0) → ((e : E) → P e → Q e) → IfErr r P → IfErr r Q
IfErr-weaker (Ok a) P Q so h = tt
IfErr-weaker (Err e) P Q so h = so e h

module _ {D C V P F I R A T : Type 0} (G : DelegateOf D C V P F I R A T)
    (X : CxOf C I R A T) (same : I → I → Bool) where
  pub HadCause-kept : (old new : Cache C I R T) → new.cx ≡ old.cx → KeepsResults same old.results new.results
      → KeepsFinished old.nodes new.nodes → (fault : Fault I R)
      → HadCause G X same old fault → HadCause G X same new fault
  HadCause-kept old new context results nodes fault h = record {
    before = h.before;
    same_context = context ∙ h.same_context;
    kept_results = KeepsResults-then same h.before.results old.results new.results h.kept_results results;
    kept = KeepsFinished-then h.before.nodes old.nodes new.nodes h.kept nodes;
    caused = h.caused;
  }

  pub HasAnswer-kept : (old new : Cache C I R T) → new.cx ≡ old.cx → KeepsResults same old.results new.results
      → KeepsFinished old.nodes new.nodes → (query : ℕ × I × PathKind) (answer : Result (Answer R) (Fault I R))
      → HasAnswer G X same old query answer → HasAnswer G X same new query answer
  HasAnswer-kept old new context results nodes query answer h = record {
    plain = subst (λ cx. (n : ℕ) → IsPlainTo (G.script cx) n query.1 → n ≤ query.0
        → IfOk answer (λ a. IsPlainValue (G.script cx) n query.1 a.result)) (sym context) h.plain;
    plain_faults =
        subst (λ cx. (n : ℕ) → IsPlainTo (G.script cx) n query.1 → n ≤ query.0 → IfErr answer (λ fault. fault ≡ Memory))
        (sym context) h.plain_faults;
    has_graph =
        IfOk-weaker answer (λ a. HasGraph (verdicts X) old.nodes query.1 a.result a.node)
        (λ a. HasGraph (verdicts X) new.nodes query.1 a.result a.node)
        (λ a. HasGraph-finished (verdicts X) old.nodes new.nodes nodes query.1 a.result a.node) h.has_graph;
    faults = IfErr-weaker answer (HadCause G X same old) (HadCause G X same new)
        (HadCause-kept old new context results nodes) h.faults;
  }

  -- where the cache's nodes are runs, an answer's graph is one of its goal
  module _ (cache : Cache C I R T) (runs_are : AreRuns (verdicts X) (G.script cache.cx) cache.nodes)
      (clash : (goal : I) (held failed : List (Question I)) → X.proves cache.cx goal held
      → X.refutes cache.cx goal failed → Overlap held failed)
      (proved : KeepsRule X.is_yes (G.script cache.cx) (X.proves cache.cx))
      (refuted : KeepsRule X.is_no (G.script cache.cx) (X.refutes cache.cx))
      (one_sort : (r : R) → X.is_yes r ≡ true → X.is_no r ≡ false) where
    pub answer_is_shown : (query : ℕ × I × PathKind) (answer : Result (Answer R) (Fault I R))
        → HasAnswer G X same cache query answer → IsAnsweredQuery G X same cache query answer
    answer_is_shown query answer h = record {
      has = h;
      yes = IfOk-weaker answer (λ a. HasGraph (verdicts X) cache.nodes query.1 a.result a.node)
          (λ a. X.is_yes a.result ≡ true → IsProved X cache query.1 a.node)
          (λ a graph. yes_is_proved G X cache runs_are clash query.1 a.result a.node graph proved) h.has_graph;
      no = IfOk-weaker answer (λ a. HasGraph (verdicts X) cache.nodes query.1 a.result a.node)
          (λ a. X.is_no a.result ≡ true → IsRefuted X cache query.1 a.node)
          (λ a graph. no_is_refuted G X cache runs_are clash query.1 a.result a.node graph refuted (one_sort a.result))
          h.has_graph;
      neither = IfOk-weaker answer (λ a. HasGraph (verdicts X) cache.nodes query.1 a.result a.node)
          (λ a. X.is_yes a.result ≡ false → X.is_no a.result ≡ false → a.node ≡ None)
          (λ a graph. neither_is_none G X cache runs_are clash query.1 a.result a.node graph) h.has_graph;
      whole = IfOk-weaker answer (λ a. HasGraph (verdicts X) cache.nodes query.1 a.result a.node)
          (λ a. IfSome a.node (λ node. IsWhole cache.nodes node.0))
          (λ a graph. definite_is_whole (verdicts X) cache.nodes query.1 a.result a.node graph) h.has_graph;
    }
