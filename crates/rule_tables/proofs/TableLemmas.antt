-- A table that grows, statement by statement.
use Rattle.std.proofs.Common.{◌≡◌, ℕ, zero, suc, ◌+◌, ◌-◌, ◌<◌, Bool, true, false, cond, ◌||◌, ◌≤◌, List, [], ◌∷◌, ◌++◌}
use Rattle.std.proofs.Common.{length, map, take, drop, get_or, Option, Some, None, refl, ap, ap₂, sym, ◌∙◌, subst}
use Rattle.std.proofs.Common.{arith, append_assoc, inl, inr, Result, Ok, Err, OnOk, OnErr}
use Rattle.std.specs.Prelude.{slice_get, fold, All}
use Rattle.std.specs.List.{list_any, AllZip, filter_map, flat_map}
use Rattle.std.specs.Str.{bytes_eq}
use Rattle.std.proofs.lemmas.List.{append-nil, drop-append-le, length-append, length-drop, take-append-le}
use Rattle.std.proofs.lemmas.List.{take_more, map-append}
use Rattle.std.proofs.lemmas.List.Elements.{All-head, All-tail}
use Rattle.std.proofs.lemmas.List.Sums.{fold-append}
use Rattle.std.proofs.lemmas.List.Folds.{list_any-append}
use Rattle.std.proofs.lemmas.Bool.{cases_Bool}
use Rattle.std.proofs.lemmas.Bool.Decides.{eqb_tells}
use Rattle.std.proofs.lemmas.Slice.Eq.{bytes_eq-Decides}
use Rattle.rule_tables.specs.declared.reading.question.Question.{Question}
use Rattle.rule_tables.specs.Candidate.{candidate_with}
use Rattle.rule_tables.specs.Draft.{candidates_of, name_of, names_of, questions_of}
use Rattle.rule_tables.specs.Words.{Goal, Asking, Candidate, Row, Draft, DraftRule, EndsWithin, IsKnown, is_of}
use Rattle.rule_tables.specs.Words.{rules_of, HasAsked, NamedQuestion, Statement, Nothing, Rule, Ask, with_name, named}
use Rattle.rule_tables.specs.Words.{number_of, names_in, first_mentions, NamedCandidate, candidate_in, question_in}
use Rattle.rule_tables.specs.Words.{IsAsked, AreAsked, IsCandidate, IsToBeAnswered, IsDraftOf, Mentions}
use Rattle.line_texts.proofs.Lines.{AllZip-append_one}
use Rattle.line_texts.proofs.NameLemmas.{is_among, has_place, some_same, place_in_longer, slice_get-append_left, at_end}

-- no name is lost, and one more is there at most
length_by : (names : List (List ℕ)) (name : List ℕ) (b : Bool)
    → (length names ≤ length (cond b names (names ++ name ∷ [])))
    × (length (cond b names (names ++ name ∷ [])) ≤ length names + 1)
length_by names name true = (omega arith, omega arith)
length_by names name false =
    (omega (arith, length-append names (name ∷ [])), omega (arith, length-append names (name ∷ [])))

pub with_name-length : (names : List (List ℕ)) (name : List ℕ)
    → (length names ≤ length (with_name names name)) × (length (with_name names name) ≤ length names + 1)
with_name-length names name = length_by names name (list_any (bytes_eq name) names)

AllZip-weaken : {A B : Type 0} {R S : A → B → Type 0} → ((x : A) (y : B) → R x y → S x y)
    → (xs : List A) (ys : List B) → AllZip R xs ys → AllZip S xs ys
AllZip-weaken f [] [] h = tt
AllZip-weaken f [] (y ∷ ys) h = absurd h
AllZip-weaken f (x ∷ xs) [] h = absurd h
AllZip-weaken f (x ∷ xs) (y ∷ ys) h = (f x y h.0, AllZip-weaken f xs ys h.1)

-- as a name is added, or the set of names is left as it is
pub names_grown : {E : Type 0} (result : Result ℕ E) (old new : List (List ℕ)) (name : List ℕ)
    → OnOk result (new ≡ with_name old name) → OnErr result (new ≡ old)
    → (length old ≤ length new) × (length new ≤ length old + 1)
names_grown (Ok n) old new name ok err =
    let e = ap length ok in let w = with_name-length old name in (omega (arith, w.0), omega (arith, w.1))
names_grown (Err x) old new name ok err = let e = ap length err in (omega arith, omega arith)

-- the rules are among the goals where there are more of them
pub known_more : (rules : List DraftRule) (count more : ℕ) → count ≤ more
    → All (IsKnown count) rules → All (IsKnown more) rules
known_more rules count more le h = λ k d l. let known = h k d l in omega arith

-- Names stay where they are

abbrev pub NamesKept : List (List ℕ) → List (List ℕ) → Type 0
NamesKept old new = (n : ℕ) (x : List ℕ) → slice_get old n ≡ Some x → slice_get new n ≡ Some x

with_name-keeps : (names : List (List ℕ)) (name : List ℕ) (b : Bool)
    → NamesKept names (cond b names (names ++ name ∷ []))
with_name-keeps names name true n x e = e
with_name-keeps names name false n x e = slice_get-append_left names (name ∷ []) n x e

pub names_kept : (more names : List (List ℕ)) → NamesKept names (fold with_name names more)
names_kept [] names n x e = e
names_kept (name ∷ more) names n x e =
    names_kept more (with_name names name) n x (with_name-keeps names name (list_any (bytes_eq name) names) n x e)

module _ (old new : List (List ℕ)) (kept : NamesKept old new) where
  pub asked_kept : (askings : List Asking) (qs : List NamedQuestion) → AreAsked old askings qs → AreAsked new askings qs
  asked_kept = AllZip-weaken (λ a q h. record { kind = h.kind; goal = kept (number_of a.goal) q.name h.goal })

  candidates_kept : (cs : List Candidate) (ws : List NamedCandidate)
      → AllZip (IsCandidate old) cs ws → AllZip (IsCandidate new) cs ws
  candidates_kept = AllZip-weaken
      (λ c w h. record { is_marked = h.is_marked; questions = asked_kept c.questions w.questions h.questions })

  questions_kept : (qs : List (ℕ × Goal)) (ws : List (ℕ × List ℕ))
      → AllZip (IsToBeAnswered old) qs ws → AllZip (IsToBeAnswered new) qs ws
  questions_kept = AllZip-weaken (λ q w h. record { depth = h.depth; goal = kept (number_of q.1) w.1 h.goal })

-- Names are distinct

abbrev pub AreDistinct : List (List ℕ) → Type 0
AreDistinct names = (m n : ℕ) (x : List ℕ) → slice_get names m ≡ Some x → slice_get names n ≡ Some x → m ≡ n

with_name-distinct : (names : List (List ℕ)) (name : List ℕ) (b : Bool) → list_any (bytes_eq name) names ≡ b
    → AreDistinct names → AreDistinct (cond b names (names ++ name ∷ []))
with_name-distinct names name true is h = h
with_name-distinct names name false is h = λ m n x e f. elim (place_in_longer names name m x e) [
  | inl v ↦ elim (place_in_longer names name n x f) [
    | inl w ↦ h m n x v w
    | inr w ↦ absurd (let t = is_among names x m v in
        let u : list_any (bytes_eq name) names ≡ true = subst (λ y. list_any (bytes_eq y) names ≡ true) w.1 t in cc)
  ]
  | inr v ↦ elim (place_in_longer names name n x f) [
    | inl w ↦ absurd (let t = is_among names x n w in
        let u : list_any (bytes_eq name) names ≡ true = subst (λ y. list_any (bytes_eq y) names ≡ true) v.1 t in cc)
    | inr w ↦ v.0 ∙ sym w.0
  ]
]

fold-distinct : (more names : List (List ℕ)) → AreDistinct names → AreDistinct (fold with_name names more)
fold-distinct [] names h = h
fold-distinct (name ∷ more) names h =
    fold-distinct more (with_name names name) (with_name-distinct names name (list_any (bytes_eq name) names) refl h)

pub mentions_distinct : (names : List (List ℕ)) → AreDistinct (first_mentions names)
mentions_distinct names = fold-distinct names [] (λ m n x e f. absurd cc)

-- Each name that is mentioned is among the names

abbrev is_in : List ℕ → List (List ℕ) → Bool
is_in name = list_any (bytes_eq name)

in_from_place : (names more : List (List ℕ)) (name : List ℕ) → NamesKept names more
    → is_in name names ≡ true → is_in name more ≡ true
in_from_place names more name kept h = let w = has_place names name h in is_among more name w.0 (kept w.0 name w.1)

with_name-in : (names : List (List ℕ)) (name : List ℕ) (b : Bool) → is_in name names ≡ b
    → is_in name (cond b names (names ++ name ∷ [])) ≡ true
with_name-in names name true e = e
with_name-in names name false e =
    is_among (names ++ name ∷ []) name (length names) (at_end names name (length names) refl)

mentioned : (more names : List (List ℕ)) (name : List ℕ) (n : ℕ) → slice_get more n ≡ Some name
    → is_in name (fold with_name names more) ≡ true
mentioned [] names name n e = absurd cc
mentioned (x ∷ more) names name zero e =
    let same : x ≡ name = some_same x name e in
    in_from_place (with_name names x) (fold with_name (with_name names x) more) name
    (names_kept more (with_name names x))
    (subst (λ y. is_in y (with_name names x) ≡ true) same (with_name-in names x (is_in x names) refl))
mentioned (x ∷ more) names name (suc n) e = mentioned more (with_name names x) name n e

-- Several names in turn

pub mentions_none : (rules : Draft) → Mentions rules rules []
mentions_none rules = record { names = refl; candidates = λ goal. refl; questions = refl }

pub mentions_more : (old mid new : Draft) (some more : List (List ℕ)) → Mentions old mid some
    → Mentions mid new more → Mentions old new (some ++ more)
mentions_more old mid new some more h g = record {
  names =
      g.names ∙ ap (λ names. fold with_name names more) h.names ∙ sym (fold-append with_name (names_of old) some more);
  candidates = λ goal. g.candidates goal ∙ h.candidates goal;
  questions = g.questions ∙ h.questions;
}

-- a goal keeps its name
pub name_kept : (old new : Draft) (more : List (List ℕ)) (goal : Goal) (x : List ℕ) → Mentions old new more
    → name_of old goal ≡ Some x → name_of new goal ≡ Some x
name_kept old new more goal x h e = subst (λ names. slice_get names (number_of goal) ≡ Some x) (sym h.names)
    (names_kept more (names_of old) (number_of goal) x e)

-- Askings are only added

asked_before : (askings more : List Asking) (row : Row) → row.first + row.count ≤ length askings
    → candidate_with (askings ++ more) row ≡ candidate_with askings row
asked_before askings more row l =
    let shorter : length (drop row.first askings) ≡ length askings - row.first = length-drop row.first askings in
    ap (λ qs. record { is_marked = row.is_marked; questions = qs })
    (ap (take row.count) (drop-append-le row.first askings more (omega arith))
    ∙ take-append-le row.count (drop row.first askings) more (omega (arith, shorter)))

-- more askings change no candidate
asked_both : (askings more : List Asking) (rule : DraftRule) (rules : List DraftRule) (b : Bool) →
    rule.row.first + rule.row.count ≤ length askings →
    map (λ r. candidate_with (askings ++ more) r.row) rules ≡ map (λ r. candidate_with askings r.row) rules →
    map (λ r. candidate_with (askings ++ more) r.row) (cond b (rule ∷ rules) rules)
    ≡ map (λ r. candidate_with askings r.row) (cond b (rule ∷ rules) rules)
asked_both askings more rule rules true l e = ap₂ (λ c cs. c ∷ cs) (asked_before askings more rule.row l) e
asked_both askings more rule rules false l e = e

pub candidates_asked : (askings more : List Asking) (n : ℕ) (rules : List DraftRule) →
    All (EndsWithin (length askings)) rules →
    map (λ r. candidate_with (askings ++ more) r.row) (rules_of n rules)
    ≡ map (λ r. candidate_with askings r.row) (rules_of n rules)
candidates_asked askings more n [] h = refl
candidates_asked askings more n (rule ∷ rules) h =
    asked_both askings more rule (rules_of n rules) (is_of n rule) (All-head (EndsWithin (length askings)) rule rules h)
    (candidates_asked askings more n rules (All-tail (EndsWithin (length askings)) rule rules h))

-- a draft with one more asking has the same names, candidates and questions
pub mentions_asked : (mid new : Draft) (asking : Asking) → new.names ≡ mid.names → new.rules ≡ mid.rules
    → new.questions ≡ mid.questions → new.askings.items ≡ mid.askings.items ++ asking ∷ [] → Mentions mid new []
mentions_asked mid new asking names rules questions pushed = record {
  names = names;
  candidates =
      λ goal. ap₂ (λ askings all. map (λ r. candidate_with askings r.row) (rules_of (number_of goal) all.items)) pushed
      rules ∙ candidates_asked mid.askings.items (asking ∷ []) (number_of goal) mid.rules.items mid.within;
  questions = ap (λ all. all.items) questions;
}

-- no question so far
pub asked_none : (draft : Draft) → HasAsked draft draft []
asked_none draft =
    record { mentions = mentions_none draft; more = []; askings = sym (append-nil draft.askings.items); asked = tt }

-- one question more
pub asked_more : (old mid named_in new : Draft) (asking : Asking) (questions : List Question) (i : ℕ) (d : Question) →
    i < length questions →
    HasAsked old mid (take i questions) → Mentions mid named_in ((get_or questions i d).name.now ∷ []) →
    named_in.askings ≡ mid.askings → Mentions named_in new [] → new.names ≡ named_in.names →
    IsAsked (names_of named_in) asking (named (get_or questions i d)) →
    new.askings.items ≡ named_in.askings.items ++ asking ∷ [] → HasAsked old new (take (i + 1) questions)
asked_more old mid named_in new asking questions i d l so_far more same unchanged names asked pushed =
    let longer = take_more questions i d l in
    let kept : NamesKept (names_of mid) (names_of named_in) = subst (NamesKept (names_of mid)) (sym more.names)
    (names_kept ((get_or questions i d).name.now ∷ []) (names_of mid)) in
    let all : AreAsked (names_of named_in) (so_far.more ++ asking ∷ [])
    (map named (take i questions) ++ named (get_or questions i d) ∷ []) =
    AllZip-append_one (IsAsked (names_of named_in)) so_far.more (map named (take i questions)) asking
    (named (get_or questions i d)) (asked_kept (names_of mid) (names_of named_in) kept _ _ so_far.asked) asked in
    record {
      mentions = rw (longer, map-append)
          (mentions_more old mid new _ _ so_far.mentions (mentions_more mid named_in new _ _ more unchanged));
      more = so_far.more ++ asking ∷ [];
      askings =
          pushed ∙ ap (λ all. all.items ++ asking ∷ []) same ∙ ap (λ askings. askings ++ asking ∷ []) so_far.askings
          ∙ append_assoc old.askings.items so_far.more (asking ∷ []);
      asked = rw (longer, map-append, names) all;
    }

-- A name that no statement mentions has no rules

or_false : (a b : Bool) → (a || b) ≡ false → (a ≡ false) × (b ≡ false)
or_false true b e = absurd cc
or_false false b e = (refl, e)

unmentioned : (xs : List (List ℕ)) (name : List ℕ) → is_in name (first_mentions xs) ≡ false → is_in name xs ≡ false
unmentioned xs name e = elim (cases_Bool (is_in name xs)) [
  | inl w ↦ absurd (let p = has_place xs name w in let f = mentioned xs [] name p.0 p.1 in cc)
  | inr w ↦ w
]

rule_of_other : (b is_marked : Bool) (head name : List ℕ) (questions : List NamedQuestion) → bytes_eq head name ≡ b
    → is_in name (head ∷ map (λ q. q.name) questions) ≡ false → candidate_in name (Rule is_marked head questions) ≡ None
rule_of_other false is_marked head name questions e h = rw e refl
rule_of_other true is_marked head name questions e h =
    absurd (let same : head ≡ name = (bytes_eq-Decides head name).0 e in
    let f : is_in name (head ∷ map (λ q. q.name) questions) ≡ true =
    is_among (head ∷ map (λ q. q.name) questions) name 0 (ap Some same) in cc)

no_rules : (ss : List Statement) (name : List ℕ) → is_in name (flat_map names_in ss) ≡ false
    → filter_map (candidate_in name) ss ≡ []
no_rules [] name h = refl
no_rules (Nothing ∷ ss) name h = no_rules ss name h
no_rules (Rule is_marked head questions ∷ ss) name h =
    let p = or_false _ _
    (sym (list_any-append (bytes_eq name) (head ∷ map (λ q. q.name) questions) (flat_map names_in ss)) ∙ h) in
    rw (rule_of_other (bytes_eq head name) is_marked head name questions refl p.0) (no_rules ss name p.1)
no_rules (Ask depth asked ∷ ss) name h =
    no_rules ss name (or_false _ _ (sym (list_any-append (bytes_eq name) (asked ∷ []) (flat_map names_in ss)) ∙ h)).1

-- A table whose names grew

-- the statements make the table, but for names that are to be mentioned next
pub record IsGrown (ss : List Statement) (more : List (List ℕ)) (rules : Draft) : Type 0 where
  pub names : names_of rules ≡ first_mentions (flat_map names_in ss ++ more)
  pub distinct : AreDistinct (names_of rules)
  pub candidates : (goal : Goal) (name : List ℕ) → name_of rules goal ≡ Some name
      → AllZip (IsCandidate (names_of rules)) (candidates_of rules goal) (filter_map (candidate_in name) ss)
  pub questions : AllZip (IsToBeAnswered (names_of rules)) (questions_of rules) (filter_map question_in ss)

none_past : {A : Type 0} (xs : List A) (n : ℕ) → slice_get xs n ≡ None → length xs ≤ n
none_past [] n e = omega arith
none_past (x ∷ xs) zero e = absurd cc
none_past (x ∷ xs) (suc n) e = let h = none_past xs n e in omega arith

-- a goal that is not among those of the rules has none
none_both : (rule : DraftRule) (rules : List DraftRule) (n : ℕ) → number_of rule.goal < n → rules ≡ []
    → cond (is_of n rule) (rule ∷ rules) rules ≡ []
none_both rule rules n l e = elim (eqb_tells (number_of rule.goal) n) [
  | inl w ↦ absurd (let same = w.1 in omega arith)
  | inr w ↦ rw w.0 e
]

rules_none : (count n : ℕ) (rules : List DraftRule) → count ≤ n → All (IsKnown count) rules → rules_of n rules ≡ []
rules_none count n [] l h = refl
rules_none count n (rule ∷ rules) l h =
    let known = All-head (IsKnown count) rule rules h in
    none_both rule (rules_of n rules) n (omega arith)
    (rules_none count n rules l (All-tail (IsKnown count) rule rules h))

-- a goal that the draft doesn't know has no candidates
unknown : (rules : Draft) (goal : Goal) → name_of rules goal ≡ None → candidates_of rules goal ≡ []
unknown rules goal e =
    let l = none_past (names_of rules) (number_of goal) e in
    ap (map (λ r. candidate_with rules.askings.items r.row))
    (rules_none (length (names_of rules)) (number_of goal) rules.rules.items l rules.known)

not_known : (old new : List (List ℕ)) (n : ℕ) (name : List ℕ) → NamesKept old new → AreDistinct new
    → slice_get old n ≡ None → slice_get new n ≡ Some name → is_in name old ≡ false
not_known old new n name kept distinct none e = elim (cases_Bool (is_in name old)) [
  | inl w ↦ absurd (let p = has_place old name w in let same : p.0 ≡ n = distinct p.0 n name (kept p.0 name p.1) e in
      let f : slice_get old n ≡ Some name = subst (λ m. slice_get old m ≡ Some name) same p.1 in cc)
  | inr w ↦ w
]

grown_candidates : (ss : List Statement) (old mid : Draft) (goal : Goal) (name : List ℕ) (o : Option (List ℕ)) →
    IsDraftOf ss old → NamesKept (names_of old) (names_of mid) → AreDistinct (names_of mid) →
    candidates_of mid goal ≡ candidates_of old goal → name_of old goal ≡ o → name_of mid goal ≡ Some name →
    AllZip (IsCandidate (names_of mid)) (candidates_of mid goal) (filter_map (candidate_in name) ss)
grown_candidates ss old mid goal name (Some x) table kept distinct same was e =
    let is : x ≡ name = some_same x name (sym (kept (number_of goal) x was) ∙ e) in
    subst (λ cs. AllZip (IsCandidate (names_of mid)) cs (filter_map (candidate_in name) ss)) (sym same)
    (candidates_kept (names_of old) (names_of mid) kept _ _ (table.candidates goal name (was ∙ ap Some is)))
grown_candidates ss old mid goal name None table kept distinct same was e =
    let none = no_rules ss name (unmentioned (flat_map names_in ss) name (subst (λ ns. is_in name ns ≡ false)
    table.names (not_known (names_of old) (names_of mid) (number_of goal) name kept distinct was e))) in
    rw (same ∙ unknown old goal was, none) tt

pub grown : (ss : List Statement) (old mid : Draft) (more : List (List ℕ)) → IsDraftOf ss old
    → Mentions old mid more → IsGrown ss more mid
grown ss old mid more table mentions =
    let kept : NamesKept (names_of old) (names_of mid) =
    subst (NamesKept (names_of old)) (sym mentions.names) (names_kept more (names_of old)) in
    let names : names_of mid ≡ first_mentions (flat_map names_in ss ++ more) =
    mentions.names ∙ ap (λ ns. fold with_name ns more) table.names
    ∙ sym (fold-append with_name [] (flat_map names_in ss) more) in
    let distinct : AreDistinct (names_of mid) =
    subst AreDistinct (sym names) (mentions_distinct (flat_map names_in ss ++ more)) in
    record {
      names = names;
      distinct = distinct;
      candidates = λ goal name e. grown_candidates ss old mid goal name (name_of old goal) table kept
          distinct (mentions.candidates goal) refl e;
      questions = subst (λ qs. AllZip (IsToBeAnswered (names_of mid)) qs (filter_map question_in ss))
          (sym mentions.questions) (questions_kept (names_of old) (names_of mid) kept _ _ table.questions);
    }
