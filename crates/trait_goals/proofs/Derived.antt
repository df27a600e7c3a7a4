-- A type implements a trait where the number of the goal is derivable.
use Rattle.std.proofs.Common.{◌≡◌, ℕ, List, [], ◌∷◌, map, Contains, Option, None, Some, zero, suc, refl}
use Rattle.std.proofs.Common.{sym, ap, ◌∙◌, subst, arith}
use Rattle.std.specs.Prelude.{slice_get}
use Rattle.list_lemmas.proofs.Members.{Contains-map, Contains-mapped}
use Rattle.path_kinds.specs.declared.path.PathKind.{PathKind}
use Rattle.path_kinds.specs.declared.path.PathKind.TheVariants.{Coinductive, ForcedAmbiguity}
use Rattle.search_context.specs.Question.{IsWithin, Question}
use Rattle.question_lists.specs.Derivations.{Derives, IsDerivable, IsNotCoinductive, derive}
use Rattle.candidate_lists.specs.Candidate as lists
use Rattle.trait_rules.specs.Rules.{kind_of}
use Rattle.trait_goals.specs.Implementing.{ByRule, Implements, Query, asks as asks_clause}
use Rattle.trait_goals.specs.Below.{Rule, Term}
use Rattle.trait_goals.specs.Known.{AreRight, IsAsked, IsCandidate, Table, candidates_at, kind_at}
use Rattle.trait_goals.specs.Rule.{asks, candidate_by, candidates_by, candidates_of, unknown, unknown_by}
use Rattle.trait_goals.specs.declared.asked.Asked.{Asked}
use Rattle.trait_goals.specs.declared.asked.Candidates.{Candidates}
use Rattle.trait_goals.proofs.Queries.{AsksFor, HasKnown, HasNumber, covers, has_query, kind_is, queries_of, query}
use Rattle.trait_goals.proofs.Queries.{query_from}

pub only_one : {A : Type 0} (x y : A) → Contains (x ∷ []) y → x ≡ y
only_one x y (zero, l, e) = e
only_one x y (suc k, l, e) = absurd (omega (arith, l))

-- the one candidate of a goal that is not known
unknown_is : (number : ℕ) (asked : Option Asked) (c : lists.Candidate (Question ℕ)) → Contains (unknown_by number asked)
    c → unknown number ≡ c
unknown_is number None c has = absurd (omega (arith, has.1))
unknown_is number (Some asked) c has = only_one (unknown number) c has

module _ (table : Table) where
  abbrev pub proves : ℕ → List (Question ℕ) → Type 0
  proves number held = lists.Proves (λ asked. asked) (candidates_of table number) held

  -- what a rule asks is asked by the numbers of its candidate
  asked_in : (rule : Rule) (q : Query) (numbers : List ℕ) (kind : PathKind) (held : List (Question ℕ)) →
      (c : IsCandidate table.made table.asked rule q.bound q.subject numbers) → kind ≡ kind_of table.rules q.bound →
      ((number : ℕ) → Contains numbers number → Contains held (asks kind number)) → (a : Question Query) →
      Contains (map (asks_clause table.rules c.types q.bound) rule.clauses.items) a → HasNumber table held a
  asked_in rule q numbers kind held c same all a has =
      let m = Contains-map (asks_clause table.rules c.types q.bound) rule.clauses.items a has in
      let w = c.each m.0 m.1 in
      record {
        number = w.number;
        is_among =
            subst (λ k. Contains held (asks k w.number)) (same ∙ ap (λ x. x.kind) m.2) (all w.number w.is_question);
        asks_for = subst (AsksFor table w.number) (ap (λ x. x.goal) m.2) w.is_asked;
      }

  module _ (given : List ℕ) where
    -- a goal that says maybe is never derived
    never_unknown : (number : ℕ) → candidates_at table number ≡ None → Derives proves given number → ⊥
    never_unknown number e (derive held proved into led) =
        let asked = slice_get table.asked number in
        let p = subst (λ o. lists.Proves (λ a. a) (candidates_by (kind_at table number) number asked o) held) e
        proved in
        let within = subst (λ c. IsWithin (lists.asked_by (λ a. a) c) held)
        (sym (unknown_is number asked p.candidate p.is_candidate)) p.within in
        let own = asks ForcedAmbiguity number in
        never_unknown number e (led own (within own (0, omega arith, refl)) (λ k. absurd cc))

    is_known : (number : ℕ) (o : Option Candidates) → candidates_at table number ≡ o → Derives proves given number
        → HasKnown table number
    is_known number None e derived = absurd (never_unknown number e derived)
    is_known number (Some known) e derived = record { known = known; is_known = e }

    module _ (right : AreRight table) where
      by_known : (number : ℕ) (q : Query) → AsksFor table number q → (known : Candidates) →
          candidates_at table number ≡ Some known → (held : List (Question ℕ)) → proves number held →
          ((a : Question ℕ) → Contains held a → a.kind ≡ Coinductive → Contains given a.goal) →
          ((a : Question ℕ) → Contains held a → IsNotCoinductive a.kind → (p : Query) → AsksFor table a.goal p →
          Derives (ByRule table.rules) (queries_of table right given) p) →
          Derives (ByRule table.rules) (queries_of table right given) q
      by_known number q h known e held proved into led =
          let kind = kind_at table number in
          let p = subst (λ o. lists.Proves (λ a. a) (candidates_by kind number (slice_get table.asked number) o) held) e
          proved in
          let m = Contains-map (candidate_by kind) known.all.items p.candidate p.is_candidate in
          let within = subst (λ c. IsWithin (lists.asked_by (λ a. a) c) held) (sym m.2) p.within in
          let by = (covers table right number q known h e).each m.0.questions.items
          (Contains-mapped (λ c. c.questions.items) known.all.items m.0 m.1) in
          let all = λ (n : ℕ) (has : Contains m.0.questions.items n).
          within (asks kind n) (Contains-mapped (λ a. a) (map (asks kind) m.0.questions.items) (asks kind n)
          (Contains-mapped (asks kind) m.0.questions.items n has)) in
          let clauses = by.rule.clauses.items in
          let asked = asks_clause table.rules by.is_candidate.types q.bound in
          let in_held = λ (a : Question Query) (has : Contains (map asked clauses) a).
          asked_in by.rule q m.0.questions.items kind held by.is_candidate (kind_is table number q h) all a has in
          derive (map asked clauses) (record {
            rule = by.rule;
            types = by.is_candidate.types;
            gives = by.gives;
            is_instance = by.is_candidate.is_instance;
            all = λ clause is. Contains-mapped asked clauses clause is;
          })
          (λ a has k.
          let w = in_held a has in
          has_query table right given w.number a.goal (into (asks a.kind w.number) w.is_among k) w.asks_for)
          (λ a has not. let w = in_held a has in led (asks a.kind w.number) w.is_among not a.goal w.asks_for)

      derived_by : (number : ℕ) → Derives proves given number → (q : Query) → AsksFor table number q
          → Derives (ByRule table.rules) (queries_of table right given) q
      derived_by number (derive held proved into led) q h =
          let k = is_known number (candidates_at table number) refl (derive held proved into led) in
          by_known number q h k.known k.is_known held proved into
          (λ a has not p asks_for. derived_by a.goal (led a has not) p asks_for)

  module _ (right : AreRight table) (number : ℕ) (term : Term) (bound : ℕ)
      (asked : IsAsked table.made table.asked number term bound) where
    pub implements_by : IsDerivable proves number → Implements table.rules term bound
    implements_by d = record {
      given = queries_of table right d.given;
      are_derived = λ q has.
          let w = query_from table right d.given q has in
          derived_by d.given right w.number (d.are_derived w.number w.is_among) q w.asks_for;
      is_derived = derived_by d.given right number d.is_derived (query term bound) asked;
    }
