-- A type does not implement a trait where the number of the goal is refutable.
use Rattle.std.proofs.Common.{◌≡◌, ℕ, List, map, Contains, Option, None, Some, refl, sym, ◌∙◌, subst, arith}
use Rattle.std.specs.Prelude.{slice_get}
use Rattle.list_lemmas.proofs.Members.{Contains-map, Contains-mapped}
use Rattle.path_kinds.specs.declared.path.PathKind.TheVariants.{ForcedAmbiguity}
use Rattle.search_context.specs.Question.{Overlap, Question}
use Rattle.question_lists.specs.Derivations.{IsRefutable, refute}
use Rattle.question_lists.proofs.Mixed.{never_both}
use Rattle.candidate_lists.specs.Candidate as lists
use Rattle.trait_rules.specs.Rules.{bound_of}
use Rattle.trait_goals.specs.Implementing.{AgainstRules, ByRule, Implements, Query, asks as asks_clause}
use Rattle.trait_goals.specs.Below.{Rules, Term}
use Rattle.trait_goals.specs.Known.{AreRight, IsAsked, Table, candidates_at, kind_at}
use Rattle.trait_goals.specs.Rule.{asks, candidate_by, candidates_by, candidates_of, unknown, unknown_by}
use Rattle.trait_goals.specs.declared.asked.Asked.{Asked}
use Rattle.trait_goals.specs.declared.asked.Candidates.{Candidates}
use Rattle.trait_goals.proofs.Derived.{only_one}
use Rattle.trait_goals.proofs.Queries.{AsksFor, HasKnown, covers, has_query, has_question, kind_is, of_queries}
use Rattle.trait_goals.proofs.Queries.{queries_of, query, query_from, question_from}

-- what shows that a type implements a trait clashes with what shows that it does not
pub clash : (rules : Rules) (q : Query) (held failed : List (Question Query)) → ByRule rules q held
    → AgainstRules rules q failed → Overlap held failed
clash rules q held failed by against =
    let o = against by.rule by.types by.gives by.is_instance in
    let m = Contains-map (asks_clause rules by.types q.bound) by.rule.clauses.items o.0 o.1 in
    (o.0, subst (Contains held) m.2 (by.all m.0 m.1), o.2)

module _ (table : Table) where
  abbrev pub refutes : ℕ → List (Question ℕ) → Type 0
  refutes number failed = lists.Refutes (λ asked. asked) (candidates_of table number) failed

  -- a goal that says maybe is never refuted
  never_unknown : (number : ℕ) (entry : Asked) → slice_get table.asked number ≡ Some entry →
      candidates_at table number ≡ None → IsRefutable refutes number → ⊥
  never_unknown number entry at e (refute among failed is by_rule near before) =
      let r = subst (λ a. lists.Refutes (λ q. q) (unknown_by number a) (failed number is)) at
      (subst (λ o. lists.Refutes (λ a. a) (candidates_by (kind_at table number) number (slice_get table.asked number) o)
      (failed number is)) e (by_rule number is)) in
      let w = r (unknown number) (0, omega arith, refl) in
      let same = only_one (asks ForcedAmbiguity number) w.0 w.1 in
      never_unknown number entry at e (before number is (asks ForcedAmbiguity number)
      (subst (Contains (failed number is)) (sym same) w.2) (λ k. absurd cc))

  is_known : (number : ℕ) (entry : Asked) → slice_get table.asked number ≡ Some entry → (o : Option Candidates) →
      candidates_at table number ≡ o → IsRefutable refutes number → HasKnown table number
  is_known number entry at None e refuted = absurd (never_unknown number entry at e refuted)
  is_known number entry at (Some known) e refuted = record { known = known; is_known = e }

  module _ (right : AreRight table) where
    against : (number : ℕ) (q : Query) → AsksFor table number q → (known : Candidates) →
        candidates_at table number ≡ Some known → (failed : List (Question ℕ)) → refutes number failed →
        AgainstRules table.rules q (of_queries table right failed)
    against number q h known e failed refuted rule types gives is =
        let kind = kind_at table number in
        let r = subst (λ o. lists.Refutes (λ a. a) (candidates_by kind number (slice_get table.asked number) o) failed)
        e refuted in
        let c = (covers table right number q known h e).all rule types gives is in
        let m = Contains-map (λ x. x.questions.items) known.all.items c.questions c.is_among in
        let w = r (candidate_by kind m.0) (Contains-mapped (candidate_by kind) known.all.items m.0 m.1) in
        let u = Contains-map (λ a. a) (map (asks kind) m.0.questions.items) w.0 w.1 in
        let v = Contains-map (asks kind) m.0.questions.items u.0 u.1 in
        let o = c.is_candidate.only v.0 (subst (λ l. Contains l v.0) m.2 v.1) in
        let same = c.is_candidate.one_instance types is o.clause o.is_clause in
        let question = asks_clause table.rules types q.bound o.clause in
        let bound = bound_of q.bound o.clause.bound in
        let asked = subst (λ t. IsAsked table.made table.asked v.0 t bound) (sym same) o.is_asked in
        let has = has_question table right failed (asks kind v.0) question.goal
        (subst (Contains failed) (sym (v.2 ∙ u.2)) w.2) asked in (
          question,
          Contains-mapped (asks_clause table.rules types q.bound) rule.clauses.items o.clause o.is_clause,
          subst (λ k. Contains (of_queries table right failed) (record { kind = k; goal = question.goal }))
              (kind_is table number q h) has,
        )

    refuted_by : (number : ℕ) → IsRefutable refutes number → (q : Query) → AsksFor table number q
        → IsRefutable (AgainstRules table.rules) q
    refuted_by number (refute among failed is by_rule near before) q h =
        refute (queries_of table right among)
        (λ p has. let w = query_from table right among p has in of_queries table right (failed w.number w.is_among))
        (has_query table right among number q is h)
        (λ p has.
        let w = query_from table right among p has in
        let k = is_known w.number w.asks_for.entry w.asks_for.at (candidates_at table w.number) refl
        (refute among failed w.is_among by_rule near before) in
        against w.number p w.asks_for k.known k.is_known (failed w.number w.is_among) (by_rule w.number w.is_among))
        (λ p has a in_failed k.
        let w = query_from table right among p has in
        let n = question_from table right (failed w.number w.is_among) a in_failed in
        has_query table right among n.number a.goal
        (near w.number w.is_among (asks a.kind n.number) n.is_among k) n.asks_for)
        (λ p has a in_failed not.
        let w = query_from table right among p has in
        let n = question_from table right (failed w.number w.is_among) a in_failed in
        refuted_by n.number (before w.number w.is_among (asks a.kind n.number) n.is_among not) a.goal n.asks_for)

    module _ (number : ℕ) (term : Term) (bound : ℕ) (asked : IsAsked table.made table.asked number term bound) where
      pub never_implements : IsRefutable refutes number → Implements table.rules term bound → ⊥
      never_implements is implemented =
          never_both (ByRule table.rules) (AgainstRules table.rules) (clash table.rules) (query term bound) implemented
          (refuted_by number is (query term bound) asked)
