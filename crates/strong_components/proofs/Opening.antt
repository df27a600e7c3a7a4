-- A new place is put at the end of the path, in a component of its own.
use Rattle.std.proofs.Common.{◌≡◌, ◌≢◌, ℕ, ◌<◌, ◌≤◌, ◌+◌, ◌⊎◌, List, [], ◌∷◌, ◌++◌, length, set, cond, slice_index}
use Rattle.std.proofs.Common.{slice_index_or, arith, ap, sym, ◌∙◌, inl, inr, subst, refl, get_or-set_same}
use Rattle.std.proofs.Common.{get_or-set_other, length-set}
use Rattle.std.specs.List.{Contains}
use Rattle.std.proofs.lemmas.Bool.{cases_eq, cases_lt}
use Rattle.std.proofs.lemmas.List.{get_or_append_left, get_or_push, length_push}
use Rattle.std.proofs.lemmas.List.Elements.{Contains-append_left, Contains-push}
use Rattle.strong_components.specs.Words.{State, New, Open, Closed, Search, HasStep, Reaches, stay, AreLeft, AreOpened}
use Rattle.strong_components.specs.Words.{HasLast, IsFromStart, IsOngoing, IsPath, IsIncreasing, IsSearch, MayStep}
use Rattle.strong_components.specs.Words.{Opens, is_new, state_at}
use Rattle.strong_components.proofs.Counts.{news-set}
use Rattle.strong_components.proofs.Indexes.{at_index, rising_last}
use Rattle.strong_components.proofs.States.{may-step-at, may-step-new, may-step-starts}
use Rattle.strong_components.proofs.Walks.{reaches-trans, reaches-step}

-- a number above all others at the end of a list
push-rises : (xs : List ℕ) (n : ℕ) → IsIncreasing xs
    → ((k : ℕ) → k < length xs → slice_index xs k < n) → IsIncreasing (xs ++ n ∷ [])
push-rises xs n rises below j k lt inside =
    let long = length_push xs n in let at_j = get_or_append_left xs (n ∷ []) 0 j (omega arith) in
    elim (cases_eq k (length xs)) [
      | inl e ↦
          let at_k = get_or_push xs n 0 k (sym e) in let under = below j (omega arith) in omega arith
      | inr ne ↦
          let at_k = get_or_append_left xs (n ∷ []) 0 k (omega arith) in let under = rises j k lt (omega arith) in
          omega arith
    ]

-- what holds of each number of a list and of one more
push_each : (P : ℕ → Type 0) (xs : List ℕ) (n : ℕ) → ((k : ℕ) → k < length xs → P (slice_index xs k)) → P n → (k : ℕ)
    → k < length (xs ++ n ∷ []) → P (slice_index (xs ++ n ∷ []) k)
push_each P xs n each here k inside =
    let long = length_push xs n in
    elim (cases_eq k (length xs)) [
      | inl e ↦ subst P (sym (get_or_push xs n 0 k (sym e))) here
      | inr ne ↦
          let before : k < length xs = omega arith in
          subst P (sym (get_or_append_left xs (n ∷ []) 0 k before)) (each k before)
    ]

-- each start is a position below the count
start_below : (path starts : List ℕ) (n k : ℕ) → IsPath path starts n → k < length starts → slice_index starts k < n
start_below path starts n k is inside =
    let (j, on, same) = at_index path (slice_index starts k) (is.starts_on_path k inside) in
    let below = is.path_inside j on in omega arith

push-path : (path starts : List ℕ) (n : ℕ) → IsPath path starts n → IsPath (path ++ n ∷ []) (starts ++ n ∷ []) (n + 1)
push-path path starts n is = record {
  path_rises = push-rises path n is.path_rises is.path_inside;
  path_inside =
      push_each (λ i. i < n + 1) path n (λ k inside. let i = is.path_inside k inside in omega arith) (omega arith);
  starts_rise = push-rises starts n is.starts_rise (λ k inside. start_below path starts n k is inside);
  starts_on_path = push_each (Contains (path ++ n ∷ [])) starts n
      (λ k inside. Contains-append_left path (n ∷ []) (slice_index starts k) (is.starts_on_path k inside))
      (Contains-push path n);
  first = λ some. elim (cases_eq n 0) [
    | inl e ↦
        let none : length starts ≡ 0 = elim (cases_lt 0 (length starts)) [
          | inl begins ↦ let below = start_below path starts n 0 is begins in absurd (omega arith)
          | inr empty ↦ omega arith
        ] in
        let long = length_push starts n in (omega arith, get_or_push starts n 0 0 none ∙ e)
    | inr ne ↦
        let (begins, zero) = is.first (omega arith) in
        let long = length_push starts n in (omega arith, get_or_append_left starts (n ∷ []) 0 0 begins ∙ zero)
  ];
}

module _ (graph : List (List ℕ)) (states : List State) (left opened starts path : List ℕ) (closed place : ℕ)
    (h : IsOngoing graph states left opened starts path closed)
    (inside : place < length states)
    (was_new : state_at states place ≡ New)
    (reached : (a i : ℕ) → state_at states a ≡ Open i → Reaches graph a place) where
  abbrev after : List State
  after = set states place (Open (length opened))

  here : state_at after place ≡ Open (length opened)
  here = get_or-set_same states place (Open (length opened)) New inside

  elsewhere : (a : ℕ) → a ≢ place → state_at after a ≡ state_at states a
  elsewhere a ne = get_or-set_other states place a (Open (length opened)) New ne

  state_cases : (a : ℕ) (x : State) → state_at after a ≡ x
      → ((a ≡ place) × (x ≡ Open (length opened))) ⊎ (state_at states a ≡ x)
  state_cases a x is = elim (cases_eq a place) [
    | inl e ↦ inl (e, sym is ∙ subst (λ b. state_at after b ≡ Open (length opened)) (sym e) here)
    | inr ne ↦ inr (sym (elsewhere a ne) ∙ is)
  ]

  open_cases : (a i : ℕ) → state_at after a ≡ Open i
      → ((a ≡ place) × (i ≡ length opened)) ⊎ (state_at states a ≡ Open i)
  open_cases a i is =
      elim (state_cases a (Open i) is) [ inl now ↦ let at = now.1 in inl (now.0, cc) | inr old ↦ inr old ]

  was_closed : (a number : ℕ) → state_at after a ≡ Closed number → state_at states a ≡ Closed number
  was_closed a number is = elim (state_cases a (Closed number) is) [ inl now ↦ let at = now.1 in cc | inr old ↦ old ]

  was_new_too : (a : ℕ) → state_at after a ≡ New → state_at states a ≡ New
  was_new_too a is = elim (state_cases a New is) [ inl now ↦ let at = now.1 in cc | inr old ↦ old ]

  still-opened : AreOpened after (opened ++ place ∷ [])
  still-opened = record {
    found = λ a i is. let long = length_push opened place in elim (open_cases a i is) [
      | inl both ↦ let (e, at) = both in (omega arith, get_or_push opened place 0 i (sym at) ∙ sym e)
      | inr old ↦
          let (lt, same) = h.are_opened.found a i old in
          (omega arith, get_or_append_left opened (place ∷ []) 0 i lt ∙ same)
    ];
    placed = λ i lt. let long = length_push opened place in elim (cases_eq i (length opened)) [
      | inl e ↦
          let at = get_or_push opened place 0 i (sym e) in
          subst (λ b. state_at after b ≡ Open i) (sym at) (here ∙ ap Open (sym e))
      | inr ne ↦
          let before : i < length opened = omega arith in
          let at = get_or_append_left opened (place ∷ []) 0 i before in
          let old = h.are_opened.placed i before in
          let other : slice_index opened i ≢ place = λ e. let same = ap (state_at states) e in cc in
          subst (λ b. state_at after b ≡ Open i) (sym at) (elsewhere (slice_index opened i) other ∙ old)
    ];
  }

  still-left : AreLeft graph after left (path ++ length opened ∷ [])
  still-left = record {
    fit = h.are_left.fit;
    inside = h.are_left.inside;
    at_new = λ a is. h.are_left.at_new a (was_new_too a is);
    at_open = λ a i is. elim (open_cases a i is) [
      | inl both ↦ inl (subst (Contains (path ++ length opened ∷ [])) (sym both.1) (Contains-push path (length opened)))
      | inr old ↦ elim (h.are_left.at_open a i old) [
        | inl on ↦ inl (Contains-append_left path (length opened ∷ []) i on)
        | inr none ↦ inr none
      ]
    ];
    at_closed = λ a number is. h.are_left.at_closed a number (was_closed a number is);
  }

  abbrev more : List ℕ
  more = starts ++ length opened ∷ []

  -- the new start is above the positions so far
  from_old : (i j : ℕ) → IsFromStart more i j → IsFromStart starts i j
  from_old i j from k lt low =
      let long = length_push starts (length opened) in
      let at = get_or_append_left starts (length opened ∷ []) 0 k lt in
      let is = from k (omega arith) (omega arith) in omega arith

  from_new : (i j : ℕ) → i < length opened → IsFromStart starts i j → IsFromStart more i j
  from_new i j before from =
      push_each (λ s. s ≤ i → s ≤ j) starts (length opened) (λ k lt low. from k lt low) (λ low. absurd (omega arith))

  start_is_last : (i j : ℕ) → i ≡ length opened → IsFromStart more i j → length opened ≤ j
  start_is_last i j e from =
      let long = length_push starts (length opened) in
      let at = get_or_push starts (length opened) 0 (length starts) refl in
      let is = from (length starts) (omega arith) (omega arith) in omega arith

  open_reaches : (a b i j : ℕ) → state_at after a ≡ Open i → state_at after b ≡ Open j
      → IsFromStart more i j → Reaches graph a b
  open_reaches a b i j is_a is_b from = elim (open_cases b j is_b) [
    | inl to ↦ elim (open_cases a i is_a) [
      | inl at ↦ subst (λ c. Reaches graph a c) (at.0 ∙ sym to.0) stay
      | inr old ↦ subst (λ c. Reaches graph a c) (sym to.0) (reached a i old)
    ]
    | inr old_b ↦ elim (open_cases a i is_a) [
      | inl at ↦
          let (lt, _) = h.are_opened.found b j old_b in
          let last = start_is_last i j at.1 from in absurd (omega arith)
      | inr old_a ↦ h.open_reach a b i j old_a old_b (from_old i j from)
    ]
  ]

  looked : (a k : ℕ) → k < length (slice_index_or graph a []) → slice_index left a ≤ k
      → MayStep more (state_at after a) (state_at after (slice_index (slice_index_or graph a []) k))
  looked a k lt le =
      let b = slice_index (slice_index_or graph a []) k in
      let old = h.looked_at a k lt le in
      elim (cases_eq a place) [
        | inl e ↦
            let all = h.are_left.at_new a (subst (λ c. state_at states c ≡ New) (sym e) was_new) in absurd (omega arith)
        | inr ne ↦ elim (cases_eq b place) [
          | inl e ↦ absurd (may-step-new starts (state_at states a)
              (subst (λ c. MayStep starts (state_at states a) c) (ap (state_at states) e ∙ was_new) old))
          | inr other ↦ may-step-at more _ _ _ _ (elsewhere a ne) (elsewhere b other)
              (may-step-starts starts more (state_at states a) (state_at states b)
              (λ i j is. from_new i j (h.are_opened.found a i is).0) old)
        ]
      ]

  pub open_keeps : IsOngoing graph after left (opened ++ place ∷ []) more (path ++ length opened ∷ []) closed
  open_keeps = record {
    fit = length-set states place (Open (length opened)) ∙ h.fit;
    are_opened = still-opened;
    is_path = subst (IsPath (path ++ length opened ∷ []) more) (sym (length_push opened place))
        (push-path path starts (length opened) h.is_path);
    are_left = still-left;
    open_reach = open_reaches;
    closed_reach =
        λ a b number is_a is_b. h.closed_reach a b number (was_closed a number is_a) (was_closed b number is_b);
    looked_at = looked;
    numbered = λ a number is. h.numbered a number (was_closed a number is);
    used = λ number below.
        let (a, is) = h.used number below in
        (a, elsewhere a (λ e. let new = subst (λ b. state_at states b ≡ New) (sym e) was_new in cc) ∙ is);
    room =
        let news = news-set states place (Open (length opened)) inside in
        let one : ◌≡◌ {A = ℕ} (cond (is_new (state_at states place)) 1 0) 1 = ap (λ x. cond (is_new x) 1 0) was_new in
        let long = length_push starts (length opened) in
        let r = h.room in omega arith;
  }

-- the invariant of lists that are equal
pub same_search : (graph : List (List ℕ)) {states states' : List State}
    {left left' opened opened' starts starts' path path' : List ℕ} {closed closed' : ℕ}
    → states' ≡ states → left' ≡ left → opened' ≡ opened → starts' ≡ starts → path' ≡ path → closed' ≡ closed
    → IsOngoing graph states left opened starts path closed
    → IsOngoing graph states' left' opened' starts' path' closed'
same_search graph e_states e_left e_opened e_starts e_path e_closed h =
    rw (e_states, e_left, e_opened, e_starts, e_path, e_closed) h

-- a place is opened that is a successor of the last one on the path
pub open_along : (graph : List (List ℕ)) (old new : Search) (from place position : ℕ) → IsSearch graph old
    → HasLast old.path.items position → state_at old.states.items from ≡ Open position
    → state_at old.states.items place ≡ New → place < length old.states.items
    → HasStep graph from place → Opens old new place
    → IsSearch graph new × MayStep new.starts.items (Open position) (state_at new.states.items place)
    × (state_at new.states.items from ≡ Open position)
open_along graph old new from place position h ends is_from was_new inside step opens =
    let starts = old.starts.items in let n = length old.opened.items in
    let reached : (a i : ℕ) → state_at old.states.items a ≡ Open i → Reaches graph a place = λ a i is.
    reaches-trans graph (h.open_reach a from i position is is_from
    (λ k lt low. rising_last old.path.items position (slice_index starts k) h.is_path.path_rises
    ends (h.is_path.starts_on_path k lt)))
    (reaches-step graph step) in
    let other : from ≢ place = λ e. let same = ap (state_at old.states.items) e in cc in
    let stays = elsewhere graph old.states.items old.left.items old.opened.items starts old.path.items old.closed place
    h inside was_new reached from other in
    let at = here graph old.states.items old.left.items old.opened.items starts old.path.items
    old.closed place h inside was_new reached in
    let keeps = open_keeps graph old.states.items old.left.items old.opened.items starts old.path.items
    old.closed place h inside was_new reached in
    let before = (h.are_opened.found from position is_from).0 in
    let long = length_push starts n in (
      same_search graph opens.states opens.left opens.opened opens.starts opens.path opens.closed keeps,
      may-step-at new.starts.items _ _ (Open position) (Open n) refl
          (ap (λ states. state_at states place) opens.states ∙ at)
          (subst (λ all. IsFromStart all position n) (sym opens.starts)
          (push_each (λ s. s ≤ position → s ≤ n) starts n (λ k lt low. omega arith) (λ low. omega arith))),
      ap (λ states. state_at states from) opens.states ∙ stays ∙ is_from,
    )
