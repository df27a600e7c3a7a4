-- Names that become goals.
use Rattle.std.proofs.Common.{◌≡◌, ◌∙◌, ◌⊎◌, ◌↔◌, ◌+◌, ℕ, cond, List, [], ◌∷◌, ◌++◌, None, Some}
use Rattle.std.proofs.Common.{Option, Vec, ap, arith, inl, inr, length, map, refl, slice_get, subst, sym}
use Rattle.std.specs.List.{AllZip, list_any}
use Rattle.std.specs.Str.{bytes_eq}
use Rattle.std.proofs.lemmas.Bool.{cases_Bool}
use Rattle.std.proofs.lemmas.List.{length_push, map-append}
use Rattle.line_texts.specs.Names.{with_name}
use Rattle.line_texts.proofs.NameLemmas.{has_place}
use Rattle.list_lemmas.proofs.Lists.{get_cases, get_left}
use Rattle.rule_tables.specs.Candidate.{Candidate}
use Rattle.rule_tables.specs.Grammar.{NamedQuestion}
use Rattle.rule_tables.specs.Rules.{number_of}
use Rattle.rule_tables.specs.Table.{AreAsked, IsAsked, IsCandidate, NamedCandidate}
use Rattle.rule_tables.specs.declared.rules.Asking.{Asking}
use Rattle.rule_tables.specs.declared.rules.Goal.{Goal}
use Rattle.rule_tables.proofs.Questions.{AllZip-append_one}
use Rattle.rule_tables.proofs.TableLemmas.{asked_kept}
use Rattle.open_tables.specs.Changes.{Change, HasNoChange, IsOpenTableOf, candidates_after}
use Rattle.open_tables.specs.Kept.{KeepsCandidates, KeepsNames}
use Rattle.open_tables.specs.Table.{Table, candidate_of, candidates_at, candidates_in, candidates_of, name_of}
use Rattle.open_tables.specs.Table.{names_of}
use Rattle.open_tables.specs.declared.table.Way.{Way}
use Rattle.open_tables.proofs.Places.{goal_at, none_behind, none_more}

-- a name that is not among these comes behind them
pub with_new : (names : List (List ℕ)) (name : List ℕ) → ((n : ℕ) → slice_get names n ≡ Some name → ⊥)
    → with_name names name ≡ names ++ name ∷ []
with_new names name none = elim (cases_Bool (list_any (bytes_eq name) names)) [
  | inl is ↦ let place = has_place names name is in absurd (none place.0 place.1)
  | inr apart ↦ ap (λ b. cond b names (names ++ name ∷ [])) apart
]

-- one more list without candidates
pub pushed_empty : {A : Type 0} (ways all : List (Vec Way A)) (more : Vec Way A) → all ≡ ways ++ more ∷ []
    → more.items ≡ [] → map candidates_in all ≡ map candidates_in ways ++ [] ∷ []
pushed_empty {A} ways all more is none =
    ap (λ (l : List (Vec Way A)). map candidates_in l) is ∙ map-append candidates_in ways (more ∷ [])
    ∙ ap (λ l. map candidates_in ways ++ map candidate_of l ∷ []) none

candidates_named : (old new : List (List ℕ))
    → ((n : ℕ) (x : List ℕ) → slice_get old n ≡ Some x → slice_get new n ≡ Some x)
    → (cs : List Candidate) (ws : List NamedCandidate) → AllZip (IsCandidate old) cs ws → AllZip (IsCandidate new) cs ws
candidates_named old new kept [] [] h = tt
candidates_named old new kept [] (w ∷ ws) h = absurd h
candidates_named old new kept (c ∷ cs) [] h = absurd h
candidates_named old new kept (c ∷ cs) (w ∷ ws) h = (
  record {
    is_marked = h.0.is_marked;
    questions = asked_kept old new kept c.questions w.questions h.0.questions;
  },
  candidates_named old new kept cs ws h.1,
)

-- there is one more name, which was not there
pub record IsGrown (old new : Table) (name : List ℕ) : Type 0 where
  pub names : new.names ≡ old.names ++ name ∷ []
  pub candidates : new.candidates ≡ old.candidates ++ [] ∷ []
  pub as_many : length old.candidates ≡ length old.names
  pub none : (n : ℕ) → slice_get old.names n ≡ Some name → ⊥

no_place : (found : Option Goal) (old : Table) (name : List ℕ)
    → ((goal : Goal) → (found ≡ Some goal) ↔ (name_of old goal ≡ Some name)) → found ≡ None
    → (n : ℕ) → slice_get old.names n ≡ Some name → ⊥
no_place found old name is none n there =
    let some : found ≡ Some (record { 0 = n }) = (is (record { 0 = n })).1 there in
    let never : None ≡ Some (record { 0 = n }) = sym none ∙ some in
    absurd cc

pub grown_by : {A : Type 0} (old : Table) (found : Option Goal) (name : List ℕ) (before all : List (List ℕ))
    (ways reserved more : List (Vec Way A)) (empty : Vec Way A)
    → record { names = before; candidates = map candidates_in ways } ≡ old
    → length old.candidates ≡ length old.names
    → ((goal : Goal) → (found ≡ Some goal) ↔ (name_of old goal ≡ Some name)) → found ≡ None
    → all ≡ with_name before name → reserved ≡ ways → more ≡ reserved ++ empty ∷ [] → empty.items ≡ []
    → IsGrown old (record { names = all; candidates = map candidates_in more }) name
grown_by {A} old found name before all ways reserved more empty view as_many is none named same pushed nothing =
    let absent = no_place found old name is none in
    record {
      names = named ∙ ap (λ l. with_name l name) (ap (λ (t : Table). t.names) view) ∙ with_new old.names name absent;
      candidates = pushed_empty reserved more empty pushed nothing
          ∙ ap (λ (l : List (Vec Way A)). map candidates_in l ++ [] ∷ []) same
          ∙ ap (λ (t : Table). t.candidates ++ [] ∷ []) view;
      as_many = as_many;
      none = absent;
    }

-- One more name, which the table has not.
module _ (old new : Table) (name : List ℕ) (grown : IsGrown old new name) where
  pub names_kept : KeepsNames old new
  names_kept goal known is = ap (λ l. slice_get l (number_of goal)) grown.names
      ∙ get_left old.names (name ∷ []) (number_of goal) known is

  pub candidates_kept : KeepsCandidates old new
  candidates_kept goal =
      ap (λ l. candidates_at l (number_of goal)) grown.candidates ∙ none_more old.candidates (number_of goal)

  pub as_many_still : length new.candidates ≡ length new.names
  as_many_still = ap length grown.candidates ∙ length_push old.candidates []
      ∙ ap (λ n. n + 1) grown.as_many ∙ sym (length_push old.names name) ∙ sym (ap length grown.names)

  -- a name of the new table is one of the old one, or the new one
  known_or_new : (goal : Goal) (known : List ℕ) → name_of new goal ≡ Some known
      → (name_of old goal ≡ Some known) ⊎ ((number_of goal ≡ length old.names) × (name ≡ known))
  known_or_new goal known is =
      get_cases old.names name (number_of goal) known (ap (λ l. slice_get l (number_of goal)) (sym grown.names) ∙ is)

  module _ (changes : List Change) (made : IsOpenTableOf changes old) where
    once_by : (goal other : Goal) (known : List ℕ)
        → (name_of old goal ≡ Some known) ⊎ ((number_of goal ≡ length old.names) × (name ≡ known))
        → (name_of old other ≡ Some known) ⊎ ((number_of other ≡ length old.names) × (name ≡ known)) → goal ≡ other
    once_by goal other known (inl a) (inl b) = made.once goal other known a b
    once_by goal other known (inl a) (inr b) = absurd (grown.none (number_of goal) (a ∙ ap Some (sym b.1)))
    once_by goal other known (inr a) (inl b) = absurd (grown.none (number_of other) (b ∙ ap Some (sym a.1)))
    once_by goal other known (inr a) (inr b) = goal_at goal other (a.0 ∙ sym b.0)

    known_by : (known : List ℕ)
        → (candidates_after changes known ≡ []) ⊎ ((goal : Goal) × (name_of old goal ≡ Some known))
        → (candidates_after changes known ≡ []) ⊎ ((goal : Goal) × (name_of new goal ≡ Some known))
    known_by known (inl nothing) = inl nothing
    known_by known (inr it) = inr (it.0, names_kept it.0 known it.1)

    nothing_written : (known : List ℕ) → name ≡ known
        → (candidates_after changes known ≡ []) ⊎ ((goal : Goal) × (name_of old goal ≡ Some known))
        → candidates_after changes known ≡ []
    nothing_written known same (inl nothing) = nothing
    nothing_written known same (inr it) = absurd (grown.none (number_of it.0) (it.1 ∙ ap Some (sym same)))

    candidates_by : (goal : Goal) (known : List ℕ)
        → (name_of old goal ≡ Some known) ⊎ ((number_of goal ≡ length old.names) × (name ≡ known))
        → AllZip (IsCandidate (names_of new)) (candidates_of old goal) (candidates_after changes known)
    candidates_by goal known (inl is) = candidates_named old.names new.names
        (λ n x e. ap (λ l. slice_get l n) grown.names ∙ get_left old.names (name ∷ []) n x e) (candidates_of old goal)
        (candidates_after changes known) (made.candidates goal known is)
    candidates_by goal known (inr it) =
        let nobody : candidates_of old goal ≡ [] =
        none_behind old.candidates (number_of goal) (omega (arith, it.0, grown.as_many)) in
        subst (λ cs. AllZip (IsCandidate (names_of new)) cs (candidates_after changes known)) (sym nobody)
        (subst (AllZip (IsCandidate (names_of new)) []) (sym (nothing_written known it.1 (made.known known))) tt)

    pub no_change : IsOpenTableOf changes new
    no_change = record {
      once = λ goal other known is too.
          once_by goal other known (known_or_new goal known is) (known_or_new other known too);
      known = λ known. known_by known (made.known known);
      candidates = λ goal known is.
          subst (λ cs. AllZip (IsCandidate (names_of new)) cs (candidates_after changes known))
          (sym (candidates_kept goal)) (candidates_by goal known (known_or_new goal known is));
    }

-- ---- the goals of questions

-- these questions ask what is written, and nothing else changed but that there are more names
pub record AreNamed (start now : Table) (askings : List Asking) (written : List NamedQuestion) : Type 0 where
  pub names : KeepsNames start now
  pub candidates : KeepsCandidates start now
  pub made : HasNoChange start now
  pub asked : AreAsked (names_of now) askings written

pub none_named : (start : Table) → AreNamed start start [] []
none_named start = record {
  names = λ goal name is. is;
  candidates = λ goal. refl;
  made = λ changes made. made;
  asked = tt;
}

pub one_named : (start now new : Table) (asked : List Asking) (written : List NamedQuestion) (asking : Asking)
    (question : NamedQuestion) → AreNamed start now asked written → KeepsNames now new → KeepsCandidates now new
    → HasNoChange now new → asking.kind ≡ question.kind → name_of new asking.goal ≡ Some question.name
    → AreNamed start new (asked ++ asking ∷ []) (written ++ question ∷ [])
one_named start now new asked written asking question so_far names candidates made kind goal = record {
  names = λ other name is. names other name (so_far.names other name is);
  candidates = λ other. candidates other ∙ so_far.candidates other;
  made = λ changes was. made changes (so_far.made changes was);
  asked = AllZip-append_one (IsAsked (names_of new)) asked written asking question
      (asked_kept (names_of now) (names_of new) (λ n x is. names (goal_with n) x is) asked written so_far.asked)
      (record { kind = kind; goal = goal });
}
  where
    goal_with : ℕ → Goal
    goal_with n = record { 0 = n }
