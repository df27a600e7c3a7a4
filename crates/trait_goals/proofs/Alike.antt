-- Goals that lead to each other ask by one kind exactly where each goal does, and those in its component that it asks.
use Rattle.std.proofs.Common.{◌≡◌, ◌+◌, ◌<◌, ◌↔◌, ℕ, Bool, false, All, List, [], ◌∷◌, ◌++◌, length, Contains}
use Rattle.std.proofs.Common.{Option, None, Some, refl, sym, ap, ◌∙◌, subst, arith, inl, inr, get_or}
use Rattle.std.specs.Global.{Vec}
use Rattle.std.specs.Option.{option_map}
use Rattle.std.specs.Prelude.{is_some, IsTrue, slice_get, slice_index}
use Rattle.std.specs.List.{flat_map}
use Rattle.std.proofs.lemmas.List.Concat.{flat_map-cons}
use Rattle.std.proofs.lemmas.List.Elements.{All-contains, All-contains_itself, All-weaker, Contains-append_cases}
use Rattle.std.proofs.lemmas.List.Elements.{Contains-append_left, Contains-append_right}
use Rattle.std.proofs.lemmas.Option.{get_or_from_slice_get, slice_get-get_or, slice_get-map}
use native.Mathlib.Decide.{dec_lt}
use Rattle.list_lemmas.proofs.Members.{first_or_later}
use Rattle.candidate_lists.specs.Laws.Members.{slice_get-from_Contains}
use Rattle.strong_components.specs.Components.{AreComponents, go, HasStep, Reaches, StaysInside, stay}
use Rattle.strong_components.specs.Components.{successor_lists}
use Rattle.strong_components.proofs.Walks.{falls_along}
use Rattle.trait_rules.proofs.Numbers.{at_before, at_end}
use Rattle.trait_goals.specs.Decided.{AreAlike, AreAllAlike, AreAllDecided, AskByOneKind, AsksGoal, HaveDecidedKinds}
use Rattle.trait_goals.specs.Decided.{here, IsGraphOf, IsGraphTo, LeadsTo, on, questions_at}
use Rattle.trait_goals.specs.Known.{AreRight, candidates_at, IsFirstUnknown, IsKnown, kind_at, Table}
use Rattle.trait_goals.specs.declared.asked.Candidate.{Candidate}
use Rattle.trait_goals.specs.declared.asked.Candidates.{Candidates}
use Rattle.trait_goals.proofs.Clauses.{length_more}
use Rattle.trait_goals.proofs.Decided.{asked_within, known_within}

Contains-flat : {A B : Type 0} (f : A → List B) (xs : List A) (x : A) (y : B) → Contains xs x → Contains (f x) y →
    Contains (flat_map f xs) y
Contains-flat f [] x y h k = absurd (omega (arith, h.1))
Contains-flat f (z ∷ xs) x y h k =
    subst (λ ys. Contains ys y) (sym (flat_map-cons f z xs)) (elim (first_or_later z x xs h) [
      | inl same ↦ Contains-append_left (f z) (flat_map f xs) y (subst (λ t. Contains (f t) y) (sym same) k)
      | inr later ↦ Contains-append_right (f z) (flat_map f xs) y (Contains-flat f xs x y later k)
    ])

flat-Contains : {A B : Type 0} (f : A → List B) (xs : List A) (y : B) → Contains (flat_map f xs) y →
    (x : A) × Contains xs x × Contains (f x) y
flat-Contains f [] y h = absurd (omega (arith, h.1))
flat-Contains {A} f (z ∷ xs) y h =
    elim (Contains-append_cases (f z) (flat_map f xs) y (subst (λ ys. Contains ys y) (flat_map-cons f z xs) h)) [
      | inl now ↦ (z, (0, omega arith, refl), now)
      | inr later ↦ let w = flat-Contains f xs y later in (w.0, Contains-append_right (z ∷ []) xs w.0 w.1, w.2)
    ]

module _ (table : Table) (right : AreRight table) (graph : List (List ℕ)) (is_graph : IsGraphOf table graph) where
  row : (goal : ℕ) → goal < length table.asked → get_or graph goal [] ≡ questions_at (candidates_at table goal)
  row goal less = get_or_from_slice_get graph goal (questions_at (candidates_at table goal)) [] (is_graph.at goal less)

  asks_by : (goal asked : ℕ) (o : Option Candidates) → candidates_at table goal ≡ o → Contains (questions_at o) asked →
      AsksGoal table goal asked
  asks_by goal asked None e h = absurd (omega (arith, h.1))
  asks_by goal asked (Some known) e h =
      let w = flat-Contains (λ (c : Candidate). c.questions.items) known.all.items asked h in
      record { known = known; is_known = e; candidate = w.0; is_candidate = w.1; is_question = w.2 }

  -- a step of the graph is a question,
  pub step_asks : (goal asked : ℕ) → goal < length table.asked → HasStep graph goal asked → AsksGoal table goal asked
  step_asks goal asked less h = asks_by goal asked (candidates_at table goal) refl
      (subst (λ (l : List ℕ). Contains l asked) (row goal less) h)

  -- and a question is a step
  pub asks_step : (goal asked : ℕ) → AsksGoal table goal asked → HasStep graph goal asked
  asks_step goal asked a =
      subst (λ (l : List ℕ). Contains l asked) (sym (row goal (known_within table right goal a.known a.is_known)))
      (subst (λ o. Contains (questions_at o) asked) (sym a.is_known)
      (Contains-flat (λ (c : Candidate). c.questions.items) a.known.all.items a.candidate asked a.is_candidate
      a.is_question))

  inside : (l : List ℕ) → Contains graph l → (b : ℕ) → Contains l b → b < length graph
  inside l has b in_l =
      let at = slice_get-from_Contains graph l has in
      let less : has.0 < length table.asked = let e = is_graph.each in omega (arith, has.1, e) in
      let same : Some l ≡ Some (questions_at (candidates_at table has.0)) = sym at ∙ is_graph.at has.0 less in
      let so : l ≡ questions_at (candidates_at table has.0) = cc in
      let a = asks_by has.0 b (candidates_at table has.0) refl (subst (λ (x : List ℕ). Contains x b) so in_l) in
      let w = asked_within table right has.0 b a in
      let e = is_graph.each in omega (arith, w, e)

  -- no step leads out of the graph
  pub stays : StaysInside graph
  stays = All-weaker (Contains graph) (All (λ b. b < length graph)) (λ l has.
      All-weaker (Contains l) (λ b. b < length graph) (λ b in_l. inside l has b in_l) l (All-contains_itself l))
      graph (All-contains_itself graph)

  leads_then : (a b c : ℕ) → LeadsTo table a b → LeadsTo table b c → LeadsTo table a c
  leads_then a b c here w = w
  leads_then a b c (on {asked = asked} q rest) w = on q (leads_then asked b c rest w)

  leads_reaches : (goal other : ℕ) → LeadsTo table goal other → Reaches graph goal other
  leads_reaches goal other here = stay
  leads_reaches goal other (on {asked = asked} a rest) = go (asks_step goal asked a) (leads_reaches asked other rest)

  reaches_leads : (goal other : ℕ) → goal < length table.asked → Reaches graph goal other → LeadsTo table goal other
  reaches_leads goal other less stay = here
  reaches_leads goal other less (go {b = b} step rest) =
      let a = step_asks goal b less step in
      on a (reaches_leads b other (asked_within table right goal b a) rest)

  module _ (numbers : List ℕ) (are : AreComponents graph numbers) where
    -- the goals of a walk within a component ask by one kind
    alike_along : AreAllAlike table graph numbers → (goal other : ℕ) → LeadsTo table goal other →
        LeadsTo table other goal → kind_at table goal ≡ kind_at table other
    alike_along alike goal other here back = refl
    alike_along alike goal other (on {asked = asked} a rest) back =
        let step = asks_step goal asked a in
        let down = are.falls goal asked step in
        let up = falls_along graph numbers are.falls
        (leads_reaches asked goal (leads_then asked other goal rest back)) in
        let same : slice_index numbers goal ≡ slice_index numbers asked = omega (arith, down, up) in
        let e = is_graph.each in
        let w = known_within table right goal a.known a.is_known in
        let less : goal < length graph = omega (arith, w, e) in
        All-contains (AreAlike table numbers goal) (get_or graph goal []) asked (alike goal less) step same
        ∙ alike_along alike asked other rest (leads_then other goal asked back (on a here))

    pub one_kind_by : AreAllAlike table graph numbers → AskByOneKind table
    one_kind_by alike goal other there back = alike_along alike goal other there back

    alike_at : AskByOneKind table → (goal asked : ℕ) → goal < length graph → HasStep graph goal asked →
        AreAlike table numbers goal asked
    alike_at one goal asked less step same =
        let e = is_graph.each in
        let own : goal < length table.asked = omega (arith, less, e) in
        let a = step_asks goal asked own step in
        let w = asked_within table right goal asked a in
        let within : asked < length graph = omega (arith, w, e) in
        one goal asked (on a here)
        (reaches_leads asked goal w (are.together asked goal within less (sym same)))

    pub alike_by : AskByOneKind table → AreAllAlike table graph numbers
    alike_by one goal less = All-weaker (HasStep graph goal) (AreAlike table numbers goal)
        (λ asked step. alike_at one goal asked less step) (get_or graph goal [])
        (All-contains_itself (get_or graph goal []))

-- what one goal more asks
pub graph_more : (table : Table) (graph more : List (List ℕ)) (count : ℕ) (asked : List ℕ) →
    IsGraphTo table graph count → more ≡ graph ++ asked ∷ [] → asked ≡ questions_at (candidates_at table count) →
    IsGraphTo table more (count + 1)
graph_more table graph more count asked g is asks = record {
  each = ap length is ∙ (length_more graph asked ∙ ap (λ n. n + 1) g.each);
  at = λ goal less. subst (λ (l : List (List ℕ)). slice_get l goal ≡ Some (questions_at (candidates_at table goal)))
      (sym is)
      (elim (dec_lt goal count) [
        | yes h ↦ at_before graph (asked ∷ []) goal (questions_at (candidates_at table goal)) (g.at goal h)
        | no h ↦
            let here : goal ≡ count = omega (arith, h, less) in
            subst (λ n. slice_get (graph ++ asked ∷ []) n ≡ Some (questions_at (candidates_at table n))) (sym here)
            (at_end graph asked count (sym g.each) ∙ ap Some asks)
      ]);
}

-- the list at a place
pub list_at : (graph : List (Vec ℕ)) (goal : ℕ) (asked : Vec ℕ) → goal < length graph →
    asked ≡ get_or graph goal asked → get_or (successor_lists graph) goal [] ≡ asked.items
list_at graph goal asked less is =
    let at : slice_get graph goal ≡ Some asked = slice_get-get_or graph goal asked less ∙ ap Some (sym is) in
    get_or_from_slice_get (successor_lists graph) goal asked.items []
    (slice_get-map (λ (v : Vec ℕ). v.items) graph goal ∙ ap (option_map (λ (v : Vec ℕ). v.items)) at)

module _ (table : Table) (graph : List (List ℕ)) (numbers : List ℕ) (goal : ℕ) (asked : List ℕ) (b : Bool)
    (told : IsTrue b ↔ All (AreAlike table numbers goal) asked) (is : get_or graph goal [] ≡ asked) where
  -- one goal more asks by one kind what is in its component
  pub alike_more : IsTrue b →
      ((other : ℕ) → other < goal → All (AreAlike table numbers other) (get_or graph other [])) →
      (other : ℕ) → other < goal + 1 → All (AreAlike table numbers other) (get_or graph other [])
  alike_more alike before other less = elim (dec_lt other goal) [
    | yes h ↦ before other h
    | no h ↦
        let here : other ≡ goal = omega (arith, h, less) in
        subst (λ n. All (AreAlike table numbers n) (get_or graph n [])) (sym here)
        (subst (All (AreAlike table numbers goal)) (sym is) (told.0 alike))
  ]

  -- one goal asks otherwise
  pub not_alike : (IsTrue b → ⊥) → goal < length graph → IsTrue false ↔ AreAllAlike table graph numbers
  not_alike not less = (
    λ f. absurd cc,
    λ all. absurd (not (told.1 (subst (All (AreAlike table numbers goal)) is (all goal less)))),
  )

-- all goals are known where none is the first that is not
pub all_known : (table : Table) (o : Option ℕ) → IsFirstUnknown table 0 o → is_some o ≡ false → (goal : ℕ) →
    goal < length table.asked → IsKnown table goal
all_known table None h e goal less = h goal (omega arith) less
all_known table (Some first) h e goal less = absurd cc

-- what the test tells
pub decided_if : (table : Table) → AreRight table → (graph : List (List ℕ)) → IsGraphOf table graph →
    (numbers : List ℕ) → AreComponents graph numbers → ((goal : ℕ) → goal < length table.asked → IsKnown table goal) →
    HaveDecidedKinds table → (b : Bool) → IsTrue b ↔ AreAllAlike table graph numbers →
    IsTrue b ↔ AreAllDecided table
decided_if table right graph is_graph numbers are known kinds b told = (
  λ yes. record {
    known = known;
    decided = kinds;
    one_kind = one_kind_by table right graph is_graph numbers are (told.0 yes);
  },
  λ all. told.1 (alike_by table right graph is_graph numbers are all.one_kind),
)
