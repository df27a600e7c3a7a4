-- What is known stays right as types and goals are added.
use Rattle.std.proofs.Common.{◌≡◌, ◌<◌, ◌+◌, ℕ, zero, suc, ◌⊎◌, inl, inr, List, [], ◌∷◌, ◌++◌, length}
use Rattle.std.proofs.Common.{Option, Some, None}
use Rattle.std.proofs.Common.{refl, sym, ◌∙◌, ap, subst, arith}
use Rattle.std.specs.Prelude.{slice_get, Contains, IsSome, is_some}
use Rattle.std.specs.Option.{unwrap_or}
use Rattle.std.proofs.lemmas.List.{map-append}
use Rattle.std.proofs.lemmas.Option.{slice_get_cases, slice_get_within}
use Rattle.candidate_lists.specs.Laws.Members.{Contains-from_slice_get, slice_get-from_Contains}
use Rattle.trait_rules.specs.Rules.{bound_of, rules_for}
use Rattle.trait_rules.proofs.Numbers.{at_before, at_end, in_longer, keeps_same, keeps_then}
use Rattle.trait_rules.proofs.Standing.{has_term, one_term, stands_in}
use Rattle.trait_goals.specs.Below.{ArePartsFirst, IsInstance, Keeps, Made, Rule, Rules, Stands, Term, constructor_of}
use Rattle.trait_goals.specs.Known.{AreRight, Covers, HasCandidate, HasRule, IsAsked, IsCandidate}
use Rattle.trait_goals.specs.Known.{known_at, lists_of}
use Rattle.trait_goals.specs.Trying.{AreInside, AreTried, IsKnownMore, IsNextTried, lists_in}
use Rattle.trait_goals.specs.declared.asked.Asked.{Asked}
use Rattle.trait_goals.specs.declared.asked.Candidate.{Candidate}
use Rattle.trait_goals.specs.declared.asked.Candidates.{Candidates}
use Rattle.std.proofs.Math.ListN.{set}
use Rattle.trait_goals.proofs.Matching.{in_set}
use native.Mathlib.Decide.{dec_lt}

-- what is asked and what is a candidate stays so
module _ (was made : List Made) (before asked : List Asked) (keeps_made : Keeps was made) (keeps_asked : Keeps before
    asked) where
  still_asked : (number : ℕ) (term : Term) (bound : ℕ) → IsAsked was before number term bound →
      IsAsked made asked number term bound
  still_asked number term bound a = record {
    entry = a.entry;
    at = keeps_asked.at number a.entry a.at;
    stands = stands_in keeps_made a.entry.subject term a.stands;
    same_bound = a.same_bound;
  }

  pub still_candidate : (rule : Rule) (bound : ℕ) (term : Term) (questions : List ℕ) →
      IsCandidate was before rule bound term questions
      → IsCandidate made asked rule bound term questions
  still_candidate rule bound term questions c = record {
    types = c.types;
    is_instance = c.is_instance;
    one_instance = c.one_instance;
    each = λ clause has. let a = c.each clause has in record {
      number = a.number;
      is_question = a.is_question;
      is_asked = still_asked a.number (c.types clause.shape) (bound_of bound clause.bound) a.is_asked;
    };
    only = λ number has. let a = c.only number has in record {
      clause = a.clause;
      is_clause = a.is_clause;
      is_asked = still_asked number (c.types a.clause.shape) (bound_of bound a.clause.bound) a.is_asked;
    };
  }

  pub still_rule : (rules : Rules) (bound : ℕ) (term : Term) (questions : List ℕ) →
      HasRule rules was before bound term questions
      → HasRule rules made asked bound term questions
  still_rule rules bound term questions h =
      record {
        rule = h.rule;
        gives = h.gives;
        is_candidate = still_candidate h.rule bound term questions
            h.is_candidate;
      }

  pub still_has : (rule : Rule) (bound : ℕ) (term : Term) (some more : List (List ℕ)) →
      ((questions : List ℕ) → Contains some questions → Contains more questions) →
      HasCandidate was before rule bound term some
      → HasCandidate made asked rule bound term more
  still_has rule bound term some more keeps h = record {
    questions = h.questions;
    is_among = keeps h.questions h.is_among;
    is_candidate = still_candidate rule bound term h.questions h.is_candidate;
  }

  still_covers : (rules : Rules) (bound : ℕ) (term : Term) (candidates : List (List ℕ)) →
      Covers rules was before bound term candidates
      → Covers rules made asked bound term candidates
  still_covers rules bound term candidates h = record {
    each = λ questions has. still_rule rules bound term questions (h.each questions has);
    all = λ rule types gives is. still_has rule bound term candidates candidates (λ q has. has) (h.all rule types
        gives is);
  }

-- no rule is tried yet
pub none_tried : (rules : Rules) (made : List Made) (asked : List Asked) (goal : Asked) (c : ℕ) →
    AreTried rules made made asked asked goal c 0 []
none_tried rules made asked goal c = record {
  keeps_made = keeps_same made;
  keeps_asked = keeps_same asked;
  each = λ term stands is questions has. absurd (omega (arith, has.1));
  all = λ term stands is place rule less. absurd (omega (arith, less));
}

-- one more place is tried
pub tried_more : (rules : Rules) (was made now : List Made) (before asked later : List Asked) (goal : Asked) (c count
    : ℕ)
    (given : Option Rule) (some more : List (List ℕ)) → AreTried rules was made before asked goal c count some →
    slice_get (rules_for rules goal.bound c) count ≡ Some given → Keeps made now → Keeps asked later →
    ((term : Term) → Stands made goal.subject term → IsNextTried now later goal.bound term given some more) →
    AreTried rules was now before later goal c (count + 1) more
tried_more rules was made now before asked later goal c count given some more tried at keeps_made keeps_asked next =
    record {
      keeps_made = keeps_then tried.keeps_made keeps_made;
      keeps_asked = keeps_then tried.keeps_asked keeps_asked;
      each = λ term stands is questions has.
          let n = next term (stands_in tried.keeps_made goal.subject term stands) in
          elim (n.each questions has) [
            | inl w ↦ still_rule made now asked later keeps_made keeps_asked rules goal.bound term questions (tried.each
                term stands is questions w)
            | inr w ↦ record {
              rule = w.0;
              gives = subst (λ k. Contains (rules_for rules goal.bound k) (Some w.0)) is
                  (Contains-from_slice_get (rules_for rules goal.bound c) count (Some w.0) (at ∙ ap Some w.1.0));
              is_candidate = w.1.1;
            }
          ];
      all = λ term stands is place rule less there types instance.
          let n = next term (stands_in tried.keeps_made goal.subject term stands) in
          elim (dec_lt place count) [
            | yes h ↦ still_has made now asked later keeps_made keeps_asked rule goal.bound term some more n.keeps
                (tried.all term stands is place rule h there types instance)
            | no h ↦
                let here : place ≡ count = omega (arith, h, less) in
                let same : Some given ≡ Some (Some rule) =
                sym at ∙ subst (λ p. slice_get (rules_for rules goal.bound c) p ≡ Some (Some rule)) here there in
                let so : given ≡ Some rule = cc in n.all rule so types instance
          ];
    }

-- all rules are tried
pub covered : (rules : Rules) (was made : List Made) (before asked : List Asked) (goal : Asked) (c count : ℕ)
    (candidates : List (List ℕ)) → AreTried rules was made before asked goal c count candidates →
    slice_get (rules_for rules goal.bound c) count ≡ None → (term : Term) → Stands was goal.subject term →
    c ≡ constructor_of term →
    Covers rules made asked goal.bound term candidates
covered rules was made before asked goal c count candidates tried ends term stands is = record {
  each = tried.each term stands is;
  all = λ rule types gives instance.
      let g : Contains (rules_for rules goal.bound c) (Some rule) = subst (λ k. Contains (rules_for rules goal.bound
      k) (Some rule)) (sym is) gives in
      let at = slice_get-from_Contains (rules_for rules goal.bound c) (Some rule) g in
      let within = slice_get_within (rules_for rules goal.bound c) g.0 (Some rule) at in
      elim (slice_get_cases (rules_for rules goal.bound c) count).1 [
        | inl w ↦ let no : Some w.0 ≡ None = sym w.2 ∙ ends in absurd cc
        | inr w ↦ tried.all term stands is g.0 rule (omega (arith, within, w.0)) at types instance
      ];
}

-- what became of what stands at a place
pub nothing_next : (made : List Made) (asked : List Asked) (bound : ℕ) (term : Term) (lists : List (List ℕ)) →
    IsNextTried made asked bound term None lists lists
nothing_next made asked bound term lists =
    record { keeps = λ q has. has; each = λ q has. inl has; all = λ rule e types is. absurd cc }

pub apart_next : (made : List Made) (asked : List Asked) (rule : Rule) (bound : ℕ) (term : Term) (lists : List (List
    ℕ)) →
    ((types : ℕ → Term) → IsInstance rule types term → ⊥) → IsNextTried made asked bound term (Some rule) lists lists
apart_next made asked rule bound term lists apart = record {
  keeps = λ q has. has;
  each = λ q has. inl has;
  all = λ other e types is. let so : rule ≡ other = cc in absurd (apart types (subst (λ r. IsInstance r types term)
      (sym so) is));
}

pub by_next : (made : List Made) (asked : List Asked) (rule : Rule) (bound : ℕ) (term : Term) (some more : List
    Candidate)
    (candidate : Candidate) → more ≡ some ++ candidate ∷ [] → IsCandidate made asked rule bound term
    candidate.questions.items →
    IsNextTried made asked bound term (Some rule) (lists_in some) (lists_in more)
by_next made asked rule bound term some more candidate is by = record {
  keeps = λ q has.
      let at = slice_get-from_Contains (lists_in some) q has in
      Contains-from_slice_get (lists_in more) has.0 q
      (subst (λ (l : List (List ℕ)). slice_get l has.0 ≡ Some q) (sym lists) (at_before (lists_in some) own has.0 q
      at));
  each = λ q has.
      let at = slice_get-from_Contains (lists_in more) q has in
      elim (in_longer (lists_in some) candidate.questions.items has.0 q (subst (λ (l : List (List ℕ)). slice_get l
      has.0 ≡ Some q) lists at)) [
        | inl w ↦ inl (Contains-from_slice_get (lists_in some) has.0 q w)
        | inr w ↦ inr (rule, (refl, subst (λ l. IsCandidate made asked rule bound term l) (sym w.1) by))
      ];
  all = λ other e types instance. let so : rule ≡ other = cc in record {
    questions = candidate.questions.items;
    is_among = Contains-from_slice_get (lists_in more) (length (lists_in some)) candidate.questions.items
        (subst (λ (l : List (List ℕ)). slice_get l (length (lists_in some)) ≡ Some candidate.questions.items) (sym
        lists)
        (at_end (lists_in some) candidate.questions.items (length (lists_in some)) refl));
    is_candidate = subst (λ r. IsCandidate made asked r bound term candidate.questions.items) so by;
  };
}
  where
    own : List (List ℕ)
    own = candidate.questions.items ∷ []

    lists : lists_in more ≡ lists_in some ++ candidate.questions.items ∷ []
    lists = ap lists_in is ∙ map-append (λ c. c.questions.items) some (candidate ∷ [])

-- what is known in the first list is so in the second one, too
abbrev pub StaysKnown : List (Option Candidates) → List (Option Candidates) → Type 0
StaysKnown some more = (n : ℕ) (k : Candidates) → slice_get some n ≡ Some (Some k) → slice_get more n ≡ Some (Some k)

stands_known : (known : List (Option Candidates)) (n : ℕ) (o : Option (Option Candidates)) → slice_get known n ≡ o →
    IsSome (unwrap_or o None) → (c : Candidates) × (slice_get known n ≡ Some (Some c))
stands_known known n None e h = absurd cc
stands_known known n (Some None) e h = absurd cc
stands_known known n (Some (Some c)) e h = (c, e)

-- what is known has its place
pub known_there : (known : List (Option Candidates)) (n : ℕ) → IsSome (known_at known n) →
    (c : Candidates) × (slice_get known n ≡ Some (Some c))
known_there known n h = stands_known known n (slice_get known n) refl h

pub there_known : (known : List (Option Candidates)) (n : ℕ) (c : Candidates) → slice_get known n ≡ Some (Some c) →
    IsSome (known_at known n)
there_known known n c e = ap (λ o. is_some (unwrap_or o None)) e

kept_in_set : {A : Type 0} (xs : List A) (i n : ℕ) (v x : A) → slice_get xs n ≡ Some x →
    (slice_get (set xs i v) n ≡ Some x) ⊎ (slice_get (set xs i v) n ≡ Some v)
kept_in_set [] i n v x e = absurd cc
kept_in_set (y ∷ xs) zero zero v x e = inr refl
kept_in_set (y ∷ xs) zero (suc n) v x e = inl e
kept_in_set (y ∷ xs) (suc i) zero v x e = inl e
kept_in_set (y ∷ xs) (suc i) (suc n) v x e = kept_in_set xs i n v x e

at_set : {A : Type 0} (xs : List A) (i : ℕ) (v : A) → i < length xs → slice_get (set xs i v) i ≡ Some v
at_set [] i v less = absurd (omega arith)
at_set (y ∷ xs) zero v less = refl
at_set (y ∷ xs) (suc i) v less = at_set xs i v (omega arith)

-- what is known of one goal more
pub known_set : (some : List (Option Candidates)) (was : List (Option Candidates)) (goal : ℕ) (c : Candidates) →
    StaysKnown some was → StaysKnown was some → IsKnownMore was (set some goal (Some c)) goal c
known_set some was goal c keeps stays = record {
  old = λ n k e. elim (in_set some goal n (Some c) (Some k) e) [
    | inl w ↦ inl (keeps n k w)
    | inr w ↦ let same : Some k ≡ Some c = w.1 in let sk : k ≡ c = cc in inr (w.0, sk)
  ];
  keeps = λ n h. let k = known_there was n h in
      elim (kept_in_set some goal n (Some c) (Some k.0) (stays n k.0 k.1)) [
        | inl w ↦ there_known (set some goal (Some c)) n k.0 w
        | inr w ↦ there_known (set some goal (Some c)) n c w
      ];
}

pub noted_set : (some : List (Option Candidates)) (goal : ℕ) (c : Candidates) → goal < length some →
    known_at (set some goal (Some c)) goal ≡ Some c
noted_set some goal c less = ap (λ o. unwrap_or o None) (at_set some goal (Some c) less)

pub known_push : (some more was : List (Option Candidates)) (goal : ℕ) (c : Candidates) → StaysKnown some was →
    StaysKnown was some → more ≡ some ++ Some c ∷ [] → length some ≡ goal → IsKnownMore was more goal c
known_push some more was goal c keeps stays is count = record {
  old = λ n k e. elim (in_longer some (Some c) n (Some k) (subst (λ (l : List (Option Candidates)). slice_get l n ≡
      Some (Some k)) is e)) [
        | inl w ↦ inl (keeps n k w)
        | inr w ↦ let same : Some k ≡ Some c = w.1 in let sk : k ≡ c = cc in inr (w.0 ∙ count, sk)
      ];
  keeps = λ n h. let k = known_there was n h in
      there_known more n k.0 (subst (λ (l : List (Option Candidates)). slice_get l n ≡ Some (Some k.0)) (sym is)
      (at_before some (Some c ∷ []) n (Some k.0) (stays n k.0 k.1)));
}

pub noted_push : (some more : List (Option Candidates)) (goal : ℕ) (c : Candidates) → more ≡ some ++ Some c ∷ [] →
    length some ≡ goal → known_at more goal ≡ Some c
noted_push some more goal c is count = ap (λ o. unwrap_or o None)
    (subst (λ (l : List (Option Candidates)). slice_get l goal ≡ Some (Some c)) (sym is)
    (at_end some (Some c) goal (sym count)))

pub known_none : (some more was : List (Option Candidates)) → more ≡ some ++ None ∷ [] → StaysKnown some was →
    StaysKnown more was
known_none some more was is keeps n k e =
    elim (in_longer some None n (Some k) (subst (λ (l : List (Option Candidates)). slice_get l n ≡ Some (Some k)) is
    e)) [
      | inl w ↦ keeps n k w
      | inr w ↦ let same : Some k ≡ None = w.1 in absurd cc
    ]

pub stays_none : (some more was : List (Option Candidates)) → more ≡ some ++ None ∷ [] → StaysKnown was some →
    StaysKnown was more
stays_none some more was is stays n k e = subst (λ (l : List (Option Candidates)). slice_get l n ≡ Some (Some k))
    (sym is) (at_before some (None ∷ []) n (Some k) (stays n k e))

pub known_same : (some was : List (Option Candidates)) (goal : ℕ) (c : Candidates) → StaysKnown some was →
    StaysKnown was some → IsKnownMore was some goal c
known_same some was goal c keeps stays = record {
  old = λ n k e. inl (keeps n k e);
  keeps = λ n h. let k = known_there was n h in there_known some n k.0 (stays n k.0 k.1);
}

-- right it stays as types and goals are added
module _ (rules : Rules) (was made : List Made) (before asked : List Asked) (known : List (Option Candidates))
    (right : AreRight (record { rules = rules; made = was; asked = before; known = known }))
    (keeps_made : Keeps was made) (keeps_asked : Keeps before asked) (first : ArePartsFirst made) (inside : AreInside
    made asked) where
  -- what was right of a goal is right with more types
  still_right : (number : ℕ) (entry : Asked) (candidates : Candidates) → slice_get asked number ≡ Some entry →
      slice_get known number ≡ Some (Some candidates) → (term : Term) → Stands made entry.subject term →
      Covers rules made asked entry.bound term (lists_of candidates)
  still_right number entry candidates at is term stands =
      let old = right.each number candidates is in
      let same : Some old.0 ≡ Some entry = sym (keeps_asked.at number old.0 old.1) ∙ at in
      let so : old.0 ≡ entry = cc in
      let there : slice_get before number ≡ Some entry = old.1 ∙ ap Some so in
      let was_term = has_term was right.first entry.subject (right.inside number entry there) in
      let one : was_term.0 ≡ term =
      one_term made entry.subject was_term.0 term (stands_in keeps_made entry.subject was_term.0 was_term.1) stands in
      subst (λ t. Covers rules made asked entry.bound t (lists_of candidates)) one
      (still_covers was made before asked keeps_made keeps_asked rules entry.bound was_term.0 (lists_of candidates)
      (right.right number entry candidates there is was_term.0 was_term.1))

  pub right_more : AreRight (record { rules = rules; made = made; asked = asked; known = known })
  right_more = record {
    right = still_right;
    each = λ number candidates is. let old = right.each number candidates is in
        (old.0, keeps_asked.at number old.0 old.1);
    first = first;
    inside = inside.inside;
  }

  -- and with one goal more
  pub right_known : (now : List (Option Candidates)) (goal : ℕ) (entry : Asked) (candidates : Candidates) →
      slice_get before goal ≡ Some entry → IsKnownMore known now goal candidates →
      ((term : Term) → Stands was entry.subject term → Covers rules made asked entry.bound term (lists_of candidates)) →
      AreRight (record { rules = rules; made = made; asked = asked; known = now })
  right_known now goal entry candidates at more covers = record {
    right = λ number e c there is term stands. elim (more.old number c is) [
      | inl w ↦ still_right number e c there w term stands
      | inr w ↦
          let same : Some e ≡ Some entry =
          sym there ∙ subst (λ n. slice_get asked n ≡ Some entry) (sym w.0) (keeps_asked.at goal entry at) in
          let se : entry ≡ e = cc in
          subst (λ (x : Asked). Covers rules made asked x.bound term (lists_of c)) se
          (subst (λ k. Covers rules made asked entry.bound term (lists_of k)) (sym w.1)
          (covers_now term (subst (λ (x : Asked). Stands made x.subject term) (sym se) stands)))
    ];
    each = λ number c is. elim (more.old number c is) [
      | inl w ↦ let old = right.each number c w in (old.0, keeps_asked.at number old.0 old.1)
      | inr w ↦ (entry, subst (λ n. slice_get asked n ≡ Some entry) (sym w.0) (keeps_asked.at goal entry at))
    ];
    first = first;
    inside = inside.inside;
  }
    where
      covers_now : (term : Term) → Stands made entry.subject term →
          Covers rules made asked entry.bound term (lists_of candidates)
      covers_now term stands =
          let was_term = has_term was right.first entry.subject (right.inside goal entry at) in
          let one : was_term.0 ≡ term =
          one_term made entry.subject was_term.0 term (stands_in keeps_made entry.subject was_term.0 was_term.1)
          stands in
          subst (λ t. Covers rules made asked entry.bound t (lists_of candidates)) one (covers was_term.0 was_term.1)
