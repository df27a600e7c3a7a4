-- What a table is after one more statement of the text.
use Rattle.std.proofs.Common.{◌≡◌, ◌≢◌, ℕ, ◌+◌, ◌≤◌, Bool, true, false, cond, List, [], ◌∷◌, ◌++◌, length, map, take}
use Rattle.std.proofs.Common.{drop, All, Some, refl, ap, sym, ◌∙◌, subst, arith, inl, inr}
use Rattle.std.specs.Prelude.{slice_get}
use Rattle.std.specs.List.{AllZip, filter_map, flat_map}
use Rattle.std.specs.Str.{bytes_eq}
use Rattle.std.proofs.lemmas.Grind.{flat_map-append}
use Rattle.std.proofs.Math.Seq.{drop-append_seam, take-length}
use Rattle.std.proofs.lemmas.Bool.Decides.{eqb_tells}
use Rattle.std.proofs.lemmas.List.{append-nil, length-append, map-append}
use Rattle.std.proofs.lemmas.List.Elements.{All-push, filter-append, filter_map-append}
use Rattle.std.proofs.lemmas.Slice.Eq.{bytes_eq-Decides}
use Rattle.rule_tables.specs.Draft.{candidates_of, name_of, names_of, questions_of}
use Rattle.rule_tables.specs.Words.{Goal, Asking, Candidate, Draft, DraftRule, is_of, rules_of, NamedQuestion}
use Rattle.rule_tables.specs.Words.{Statement, Nothing, Rule, Ask, number_of, names_in, first_mentions, candidate_in}
use Rattle.rule_tables.specs.Words.{question_in, IsCandidate, IsToBeAnswered, IsDraftOf, Adds, Mentions}
use Rattle.line_texts.proofs.NameLemmas.{some_same}
use Rattle.line_texts.proofs.Lines.{AllZip-append_one}
use Rattle.rule_tables.proofs.TableLemmas.{IsGrown, grown, mentions_none}

table_with : (ss : List Statement) (s : Statement) (mid new : Draft) →
    IsGrown ss (names_in s) mid → names_of new ≡ names_of mid →
    ((goal : Goal) (name : List ℕ) → name_of mid goal ≡ Some name → AllZip (IsCandidate (names_of mid))
    (candidates_of new goal) (filter_map (candidate_in name) ss ++ filter_map (candidate_in name) (s ∷ []))) →
    AllZip (IsToBeAnswered (names_of mid)) (questions_of new)
    (filter_map question_in ss ++ filter_map question_in (s ∷ [])) → IsDraftOf (ss ++ s ∷ []) new
table_with ss s mid new h same candidates questions = record {
  names = same ∙ h.names ∙ ap (λ ns. first_mentions (flat_map names_in ss ++ ns)) (sym (append-nil (names_in s)))
      ∙ ap first_mentions (sym (flat_map-append names_in ss (s ∷ [])));
  candidates = λ goal name e. subst (λ ns.
      AllZip (IsCandidate ns) (candidates_of new goal) (filter_map (candidate_in name) (ss ++ s ∷ []))) (sym same)
      (rw filter_map-append (candidates goal name (ap (λ ns. slice_get ns (number_of goal)) (sym same) ∙ e)));
  questions = subst (λ ns. AllZip (IsToBeAnswered ns) (questions_of new) (filter_map question_in (ss ++ s ∷ [])))
      (sym same) (rw filter_map-append questions);
}

-- a line that is passed over
pub adds_nothing : (rules : Draft) → Adds Nothing rules rules
adds_nothing rules ss table =
    let h = grown ss rules rules [] table (mentions_none rules) in
    table_with ss Nothing rules rules h refl
    (λ goal name e. rw append-nil (h.candidates goal name e)) (rw append-nil h.questions)

-- a question to be answered
pub adds_question : (old mid new : Draft) (depth : ℕ) (name : List ℕ) (goal : Goal) → Mentions old mid (name ∷ []) →
    name_of mid goal ≡ Some name → names_of new ≡ names_of mid →
    ((g : Goal) → candidates_of new g ≡ candidates_of mid g) →
    questions_of new ≡ questions_of mid ++ (depth, goal) ∷ [] → Adds (Ask depth name) old new
adds_question old mid new depth name goal mentions is same candidates questions ss table =
    let h = grown ss old mid (name ∷ []) table mentions in
    table_with ss (Ask depth name) mid new h same (λ g x e. rw (candidates g, append-nil) (h.candidates g x e))
    (rw questions (AllZip-append_one (IsToBeAnswered (names_of mid)) (questions_of mid) (filter_map question_in ss)
    (depth, goal) (depth, name) h.questions (record { depth = refl; goal = is })))

with_rule : (ss : List Statement) (mid new : Draft) (is_marked : Bool) (head : List ℕ) (qs : List NamedQuestion)
    (goal : Goal) (c : Candidate) (more : List (List ℕ)) → IsGrown ss more mid →
    name_of mid goal ≡ Some head → IsCandidate (names_of mid) c (record { is_marked = is_marked; questions = qs }) →
    ((g : Goal) → number_of g ≡ number_of goal → candidates_of new g ≡ candidates_of mid g ++ c ∷ []) →
    ((g : Goal) → number_of g ≢ number_of goal → candidates_of new g ≡ candidates_of mid g) →
    (g : Goal) (name : List ℕ) → name_of mid g ≡ Some name → (b : Bool) → bytes_eq head name ≡ b →
    AllZip (IsCandidate (names_of mid)) (candidates_of new g)
    (filter_map (candidate_in name) ss ++ filter_map (candidate_in name) (Rule is_marked head qs ∷ []))
with_rule ss mid new is_marked head qs goal c more h is candidate here other g name e true same =
    let head_is : head ≡ name = (bytes_eq-Decides head name).0 same in
    let at : number_of g ≡ number_of goal = h.distinct (number_of g) (number_of goal) name e (is ∙ ap Some head_is) in
    rw (here g at, same)
    (AllZip-append_one (IsCandidate (names_of mid)) (candidates_of mid g) (filter_map (candidate_in name) ss) c
    (record { is_marked = is_marked; questions = qs }) (h.candidates g name e) candidate)
with_rule ss mid new is_marked head qs goal c more h is candidate here other g name e false differs =
    let apart : number_of g ≢ number_of goal = λ at.
    let f : Some name ≡ Some head = sym e ∙ ap (slice_get (names_of mid)) at ∙ is in
    let t : bytes_eq head name ≡ true = (bytes_eq-Decides head name).1 (sym (some_same name head f)) in
    let u = differs in
    absurd cc in
    rw (other g apart, differs, append-nil) (h.candidates g name e)

-- a candidate
pub adds_rule : (old mid new : Draft) (is_marked : Bool) (name : List ℕ) (qs : List NamedQuestion) (goal : Goal)
    (c : Candidate) → Mentions old mid (name ∷ map (λ q. q.name) qs) → name_of mid goal ≡ Some name →
    IsCandidate (names_of mid) c (record { is_marked = is_marked; questions = qs }) → names_of new ≡ names_of mid →
    questions_of new ≡ questions_of mid →
    ((g : Goal) → number_of g ≡ number_of goal → candidates_of new g ≡ candidates_of mid g ++ c ∷ []) →
    ((g : Goal) → number_of g ≢ number_of goal → candidates_of new g ≡ candidates_of mid g) →
    Adds (Rule is_marked name qs) old new
adds_rule old mid new is_marked name qs goal c mentions is candidate same questions here other ss table =
    let h = grown ss old mid (name ∷ map (λ q. q.name) qs) table mentions in
    table_with ss (Rule is_marked name qs) mid new h same
    (λ g x e. with_rule ss mid new is_marked name qs goal c (name ∷ map (λ q. q.name) qs) h is candidate
    here other g x e (bytes_eq name x) refl)
    (rw (questions, append-nil) h.questions)

-- Rules that are pushed

pub pushed_by : {A : Type 0} (P : A → Type 0) (b : Bool) (xs new : List A) (x : A) → new ≡ cond b (xs ++ x ∷ []) xs
    → All P xs → P x → (All P new) × (length new ≤ length xs + 1)
pushed_by P true xs new x e h p = (
  subst (All P) (sym e) (All-push P xs x h p),
  let f = ap length e in let n = length-append xs (x ∷ []) in omega arith,
)
pushed_by P false xs new x e h p = (subst (All P) (sym e) h, let f = ap length e in omega arith)

one_here : (rule : DraftRule) (n : ℕ) → number_of rule.goal ≡ n → rules_of n (rule ∷ []) ≡ rule ∷ []
one_here rule n e = elim (eqb_tells (number_of rule.goal) n) [
  | inl w ↦ rw w.0 refl
  | inr w ↦ absurd (w.1 e)
]

none_here : (rule : DraftRule) (n : ℕ) → number_of rule.goal ≢ n → rules_of n (rule ∷ []) ≡ []
none_here rule n e = elim (eqb_tells (number_of rule.goal) n) [
  | inl w ↦ absurd (e w.1)
  | inr w ↦ rw w.0 refl
]

-- the candidates of a pushed rule's goal, and those of another goal
pub candidates_here : {B : Type 0} (f : DraftRule → B) (rules new : List DraftRule) (rule : DraftRule) (n : ℕ)
    → new ≡ rules ++ rule ∷ [] → number_of rule.goal ≡ n
    → map f (rules_of n new) ≡ map f (rules_of n rules) ++ f rule ∷ []
candidates_here f rules new rule n pushed e =
    ap (λ xs. map f (rules_of n xs)) pushed
    ∙ ap (map f) (filter-append (is_of n) rules (rule ∷ []) ∙ ap (λ xs. rules_of n rules ++ xs) (one_here rule n e))
    ∙ map-append f (rules_of n rules) (rule ∷ [])

pub candidates_off : {B : Type 0} (f : DraftRule → B) (rules new : List DraftRule) (rule : DraftRule) (n : ℕ)
    → new ≡ rules ++ rule ∷ [] → number_of rule.goal ≢ n → map f (rules_of n new) ≡ map f (rules_of n rules)
candidates_off f rules new rule n pushed e =
    ap (λ xs. map f (rules_of n xs)) pushed ∙ ap (map f) (filter-append (is_of n) rules (rule ∷ [])
    ∙ ap (λ xs. rules_of n rules ++ xs) (none_here rule n e) ∙ append-nil (rules_of n rules))

-- the questions behind the first ones
pub asked_last : (all old more : List Asking) (first count : ℕ) → all ≡ old ++ more → first ≡ length old
    → count ≡ length more → take count (drop first all) ≡ more
asked_last all old more first count is e f =
    rw (is, e, f) (ap (take (length more)) (drop-append_seam old more) ∙ take-length more)
