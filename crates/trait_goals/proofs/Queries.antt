-- What the numbers of goals ask for.
use Rattle.std.proofs.Common.{◌≡◌, ℕ, Bool, true, false, List, map, slice_get, Contains, Option, None, Some, refl}
use Rattle.std.proofs.Common.{sym, ap, ap₂, ◌∙◌, subst}
use Rattle.std.specs.List.{filter}
use Rattle.std.specs.Option.{option_map_or, unwrap_or}
use Rattle.list_lemmas.proofs.Members.{Contains-filtered, Contains-map, Contains-mapped, filtered_member}
use Rattle.path_kinds.specs.declared.path.PathKind.TheVariants.{Inductive}
use Rattle.search_context.specs.Question.{Question}
use Rattle.trait_rules.specs.Rules.{kind_of}
use Rattle.trait_goals.specs.Implementing.{Query}
use Rattle.trait_rules.specs.Terms.{constructor}
use Rattle.trait_rules.proofs.Standing.{has_term, one_term}
use Rattle.trait_goals.specs.Below.{Stands, Term}
use Rattle.trait_goals.specs.Known.{AreRight, Covers, IsAsked, Table, candidates_at, kind_at, lists_of}
use Rattle.trait_goals.specs.declared.asked.Asked.{Asked}
use Rattle.trait_goals.specs.declared.asked.Candidates.{Candidates}

abbrev pub query : Term → ℕ → Query
query subject bound = record { subject = subject; bound = bound }

pub known_in : (o : Option (Option Candidates)) (known : Candidates) → unwrap_or o None ≡ Some known →
    o ≡ Some (Some known)
known_in None known e = absurd cc
known_in (Some p) known e = ap Some e

module _ (table : Table) where
  -- the goal of this number asks for this
  abbrev pub AsksFor : ℕ → Query → Type 0
  AsksFor number q = IsAsked table.made table.asked number q.subject q.bound

  -- it asks for one thing
  pub one_query : (number : ℕ) (p q : Query) → AsksFor number p → AsksFor number q → p ≡ q
  one_query number p q h k =
      let same : Some k.entry ≡ Some h.entry = sym k.at ∙ h.at in
      let entry : k.entry ≡ h.entry = cc in
      let subjects : p.subject ≡ q.subject = one_term table.made h.entry.subject p.subject q.subject h.stands
      (subst (λ e. Stands table.made e.subject q.subject) entry k.stands) in
      let bounds : p.bound ≡ q.bound = sym h.same_bound ∙ ap (λ e. e.bound) (sym entry) ∙ k.same_bound in
      ap₂ query subjects bounds

  -- its own question has the kind of its trait
  pub kind_is : (number : ℕ) (q : Query) → AsksFor number q → kind_at table number ≡ kind_of table.rules q.bound
  kind_is number q h = ap (λ o. option_map_or (λ a. kind_of table.rules a.bound) o Inductive) h.at
      ∙ ap (kind_of table.rules) h.same_bound

  abbrev pub is_asked : ℕ → Bool
  is_asked number = option_map_or (λ _. true) (slice_get table.asked number) false

  pub has_asked : (number : ℕ) (q : Query) → AsksFor number q → is_asked number ≡ true
  has_asked number q h = ap (λ o. option_map_or (λ _. true) o false) h.at

  -- the candidates of the goal of this number are known
  pub record HasKnown (number : ℕ) : Type 0 where
    pub known : Candidates
    pub is_known : candidates_at table number ≡ Some known

  -- among the questions is one of this kind, by its number
  pub record HasNumber (questions : List (Question ℕ)) (a : Question Query) : Type 0 where
    pub number : ℕ
    pub is_among : Contains questions (record { kind = a.kind; goal = number })
    pub asks_for : AsksFor number a.goal

  module _ (right : AreRight table) where
    -- the known candidates of a goal
    pub covers : (number : ℕ) (q : Query) (known : Candidates) → AsksFor number q
        → candidates_at table number ≡ Some known
        → Covers table.rules table.made table.asked q.bound q.subject (lists_of known)
    covers number q known h e =
        subst (λ b. Covers table.rules table.made table.asked b q.subject (lists_of known)) h.same_bound
        (right.right number h.entry known h.at (known_in (slice_get table.known number) known e) q.subject h.stands)

    abbrev query_in : (number : ℕ) (o : Option Asked) → slice_get table.asked number ≡ o → Query
    query_in number None e = query (constructor 0) 0
    query_in number (Some entry) e =
        query (has_term table.made right.first entry.subject (right.inside number entry e)).0 entry.bound

    -- what the goal of this number asks for; anything where it is no goal's
    abbrev pub query_of : ℕ → Query
    query_of number = query_in number (slice_get table.asked number) refl

    asks_in : (number : ℕ) (o : Option Asked) (e : slice_get table.asked number ≡ o) →
        option_map_or (λ _. true) o false ≡ true → AsksFor number (query_in number o e)
    asks_in number None e is = absurd cc
    asks_in number (Some entry) e is = record {
      entry = entry;
      at = e;
      stands = (has_term table.made right.first entry.subject (right.inside number entry e)).1;
      same_bound = refl;
    }

    pub asks_own : (number : ℕ) → is_asked number ≡ true → AsksFor number (query_of number)
    asks_own number is = asks_in number (slice_get table.asked number) refl is

    pub is_query : (number : ℕ) (q : Query) → AsksFor number q → query_of number ≡ q
    is_query number q h = one_query number (query_of number) q (asks_own number (has_asked number q h)) h

    -- what those of the numbers ask for that are goals'
    abbrev pub queries_of : List ℕ → List Query
    queries_of numbers = map query_of (filter is_asked numbers)

    pub has_query : (numbers : List ℕ) (number : ℕ) (q : Query) → Contains numbers number → AsksFor number q
        → Contains (queries_of numbers) q
    has_query numbers number q has h = subst (Contains (queries_of numbers)) (is_query number q h)
        (Contains-mapped query_of (filter is_asked numbers) number
        (Contains-filtered is_asked numbers number has (has_asked number q h)))

    -- one of the numbers, whose goal asks for this
    pub record IsFrom (numbers : List ℕ) (q : Query) : Type 0 where
      pub number : ℕ
      pub is_among : Contains numbers number
      pub asks_for : AsksFor number q

    pub query_from : (numbers : List ℕ) (q : Query) → Contains (queries_of numbers) q → IsFrom numbers q
    query_from numbers q has =
        let m = Contains-map query_of (filter is_asked numbers) q has in
        let f = filtered_member is_asked numbers m.0 m.1 in
        record { number = m.0; is_among = f.0; asks_for = subst (AsksFor m.0) m.2 (asks_own m.0 f.1) }

    -- the same of questions
    abbrev of_query : Question ℕ → Question Query
    of_query a = record { kind = a.kind; goal = query_of a.goal }

    abbrev pub of_queries : List (Question ℕ) → List (Question Query)
    of_queries questions = map of_query (filter (λ a. is_asked a.goal) questions)

    pub has_question : (questions : List (Question ℕ)) (a : Question ℕ) (q : Query) → Contains questions a
        → AsksFor a.goal q → Contains (of_queries questions) (record { kind = a.kind; goal = q })
    has_question questions a q has h =
        subst (λ g. Contains (of_queries questions) (record { kind = a.kind; goal = g })) (is_query a.goal q h)
        (Contains-mapped of_query (filter (λ b. is_asked b.goal) questions) a
        (Contains-filtered (λ b. is_asked b.goal) questions a has (has_asked a.goal q h)))

    pub question_from : (questions : List (Question ℕ)) (a : Question Query) → Contains (of_queries questions) a
        → HasNumber questions a
    question_from questions a has =
        let m = Contains-map of_query (filter (λ b. is_asked b.goal) questions) a has in
        let f = filtered_member (λ b. is_asked b.goal) questions m.0 m.1 in
        record {
          number = m.0.goal;
          is_among = subst (λ k. Contains questions (record { kind = k; goal = m.0.goal })) (ap (λ x. x.kind) m.2) f.0;
          asks_for = subst (AsksFor m.0.goal) (ap (λ x. x.goal) m.2) (asks_own m.0.goal f.1);
        }
