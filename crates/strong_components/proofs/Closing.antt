-- The last place of the path is left, and the component that starts there is closed.
use Rattle.std.proofs.Common.{◌≡◌, ℕ, ◌<◌, ◌≤◌, ◌+◌, ◌-◌, ◌⊎◌, List, [], length, take, slice_index, slice_index_or}
use Rattle.std.proofs.Common.{arith, ap, sym, ◌∙◌, inl, inr, subst, refl, cond}
use Rattle.std.specs.List.{Contains, count_by}
use Rattle.std.proofs.lemmas.Bool.{cases_eq, cases_lt, lt-ltb, le-ltb}
use Rattle.std.proofs.lemmas.List.{get_or-take, length-take-le}
use Rattle.strong_components.specs.Words.{State, New, Open, Closed, Reaches, AreLeft, AreOpened, HasLast, IsFromStart}
use Rattle.strong_components.specs.Words.{IsOngoing, IsPath, MayStep, closed_from, is_new, state_at}
use Rattle.strong_components.proofs.Indexes.{IsFront, at_index, contains_at, front-below, front-contains}
use Rattle.strong_components.proofs.Indexes.{front-rises, rising_last}
use Rattle.strong_components.proofs.Leaving.{open_left}
use Rattle.strong_components.proofs.Lowering.{top_inside}
use Rattle.strong_components.proofs.States.{may-step-at}

pub closed_from-below : (position number i : ℕ) → i < position → closed_from position number (Open i) ≡ Open i
closed_from-below position number i lt = ap (λ b. cond b (Open i) (Closed number)) (lt-ltb i position lt)

pub closed_from-above : (position number i : ℕ) → position ≤ i → closed_from position number (Open i) ≡ Closed number
closed_from-above position number i le = ap (λ b. cond b (Open i) (Closed number)) (le-ltb i position le)

-- what is open afterwards was open below the position
was_open : (position number : ℕ) (x : State) (i : ℕ)
    → closed_from position number x ≡ Open i → (x ≡ Open i) × (i < position)
was_open position number (Open j) i e = elim (cases_lt j position) [
  | inl lt ↦ let same = closed_from-below position number j lt in let at : j ≡ i = cc in (ap Open at, omega arith)
  | inr le ↦ let same = closed_from-above position number j le in cc
]
was_open position number _ i e = cc

-- what is closed afterwards was closed, or open from the position on
was_closed : (position number : ℕ) (x : State) (n : ℕ) → closed_from position number x ≡ Closed n
    → (x ≡ Closed n) ⊎ ((i : ℕ) × (x ≡ Open i) × (position ≤ i) × (n ≡ number))
was_closed position number New n e = cc
was_closed position number (Closed m) n e = inl e
was_closed position number (Open j) n e = elim (cases_lt j position) [
  | inl lt ↦ let same = closed_from-below position number j lt in cc
  | inr le ↦ let same = closed_from-above position number j le in inr (j, refl, le, cc)
]

was_new : (position number : ℕ) (x : State) → closed_from position number x ≡ New → x ≡ New
was_new position number New e = e
was_new position number (Closed m) e = cc
was_new position number (Open j) e = elim (cases_lt j position) [
  | inl lt ↦ let same = closed_from-below position number j lt in cc
  | inr le ↦ let same = closed_from-above position number j le in cc
]

-- a step that was looked at stays right where the position is the last start, and lower numbers were given before
may-step-closed : (starts front : List ℕ) (position number : ℕ)
    → ((i j : ℕ) → IsFromStart starts i j → IsFromStart front i j)
    → ((i j : ℕ) → IsFromStart starts i j → position ≤ i → position ≤ j) → (x y : State)
    → ((n : ℕ) → y ≡ Closed n → n ≤ number) → MayStep starts x y
    → MayStep front (closed_from position number x) (closed_from position number y)
may-step-closed starts front position number fewer last (Open i) (Open j) low h =
    elim (cases_lt i position) [
      | inl lt ↦ elim (cases_lt j position) [
        | inl below ↦ may-step-at front _ _ (Open i) (Open j) (closed_from-below position number i lt)
            (closed_from-below position number j below) (fewer i j h)
        | inr above ↦ may-step-at front _ _ (Open i) (Closed number) (closed_from-below position number i lt)
            (closed_from-above position number j above) tt
      ]
      | inr le ↦ may-step-at front _ _ (Closed number) (Closed number) (closed_from-above position number i le)
          (closed_from-above position number j (last i j h le)) (omega arith)
    ]
may-step-closed starts front position number fewer last (Open i) (Closed n) low h =
    elim (cases_lt i position) [
      | inl lt ↦ may-step-at front _ _ (Open i) (Closed n) (closed_from-below position number i lt) refl tt
      | inr le ↦
          may-step-at front _ _ (Closed number) (Closed n) (closed_from-above position number i le) refl (low n refl)
    ]
may-step-closed starts front position number fewer last (Closed m) (Closed n) low h = h
may-step-closed starts front position number fewer last _ _ low h = absurd h

module _ (graph : List (List ℕ)) (states after : List State)
    (left opened starts fewer path front : List ℕ) (closed position : ℕ)
    (h : IsOngoing graph states left opened starts path closed)
    (ends : HasLast path position) (pops : IsFront path front)
    (starts_end : HasLast starts position) (pops_start : IsFront starts fewer)
    (done : slice_index left (slice_index opened position) ≡ 0)
    (closes : (a : ℕ) → state_at after a ≡ closed_from position closed (state_at states a))
    (fit : length after ≡ length states) (news : count_by is_new after ≡ count_by is_new states) where
  within : position < length opened
  within = top_inside graph states left opened starts path closed position h ends

  -- a start other than the last one stays, and is below the position
  start_stays : (k : ℕ) → k < length starts → slice_index starts k < position → k < length fewer
  start_stays k inside low = elim (cases_eq k (length starts - 1)) [
    | inl e ↦ let same = ap (slice_index starts) e in let at = starts_end.1 in absurd (omega arith)
    | inr ne ↦ let s = pops_start.shorter in omega arith
  ]

  from-fewer : (i j : ℕ) → IsFromStart starts i j → IsFromStart fewer i j
  from-fewer i j from k inside low =
      let s = pops_start.shorter in let same = pops_start.kept k inside in
      let is = from k (omega arith) (omega arith) in omega arith

  from-more : (i j : ℕ) → i < position → IsFromStart fewer i j → IsFromStart starts i j
  from-more i j low from k inside under =
      let stays = start_stays k inside (omega arith) in let same = pops_start.kept k stays in
      let is = from k stays (omega arith) in omega arith

  from-last : (i j : ℕ) → IsFromStart starts i j → position ≤ i → position ≤ j
  from-last i j from above =
      let some = starts_end.0 in let at = starts_end.1 in
      let is = from (length starts - 1) (omega arith) (omega arith) in omega arith

  below_last : (i j : ℕ) → position ≤ j → IsFromStart starts i j
  below_last i j above k inside low =
      let low = rising_last starts position (slice_index starts k) h.is_path.starts_rise starts_end
      (contains_at starts (slice_index starts k) k inside refl) in
      omega arith

  open_before : (a i : ℕ) → state_at after a ≡ Open i → (state_at states a ≡ Open i) × (i < position)
  open_before a i is = was_open position closed (state_at states a) i (sym (closes a) ∙ is)

  closed_before : (a n : ℕ) → state_at after a ≡ Closed n
      → (state_at states a ≡ Closed n) ⊎ ((i : ℕ) × (state_at states a ≡ Open i) × (position ≤ i) × (n ≡ closed))
  closed_before a n is = was_closed position closed (state_at states a) n (sym (closes a) ∙ is)

  rest-opened : AreOpened after (take position opened)
  rest-opened = record {
    found = λ a i is.
        let (old, low) = open_before a i is in
        let long = length-take-le position opened (let w = within in omega arith) in
        (omega arith, get_or-take position opened i 0 low ∙ (h.are_opened.found a i old).1);
    placed = λ i lt.
        let long = length-take-le position opened (let w = within in omega arith) in
        let low : i < position = omega arith in
        let w = within in
        let old = h.are_opened.placed i (omega arith) in
        subst (λ b. state_at after b ≡ Open i) (sym (get_or-take position opened i 0 low))
        (closes (slice_index opened i) ∙ ap (closed_from position closed) old
        ∙ closed_from-below position closed i low);
  }

  rest-path : IsPath front fewer position
  rest-path = record {
    path_rises = front-rises path front h.is_path.path_rises pops;
    path_inside = λ k inside. front-below path front position k h.is_path.path_rises pops ends inside;
    starts_rise = front-rises starts fewer h.is_path.starts_rise pops_start;
    starts_on_path = λ k inside.
        let s = pops_start.shorter in let same = pops_start.kept k inside in
        let low = front-below starts fewer position k h.is_path.starts_rise pops_start starts_end inside in
        subst (Contains front) (sym same)
        (front-contains path front position (slice_index starts k) pops ends
        (h.is_path.starts_on_path k (omega arith)) (λ e. omega arith));
    first = λ some.
        let w = within in
        let (begins, zero) = h.is_path.first (omega arith) in
        let stays = start_stays 0 begins (omega arith) in
        (omega arith, pops_start.kept 0 stays ∙ zero);
  }

  rest-left : AreLeft graph after left front
  rest-left = record {
    fit = h.are_left.fit;
    inside = h.are_left.inside;
    at_new = λ a is. h.are_left.at_new a (was_new position closed (state_at states a) (sym (closes a) ∙ is));
    at_open = λ a i is. open_left graph states left opened starts path front closed position h ends
        pops done a i (open_before a i is).0;
    at_closed = λ a n is. elim (closed_before a n is) [
      | inl old ↦ h.are_left.at_closed a n old
      | inr now ↦
          let (i, old, above, _) = now in
          elim (open_left graph states left opened starts path front closed position h ends pops done a i old) [
            | inl on ↦
                let (k, inside, same) = at_index front i on in
                let low = front-below path front position k h.is_path.path_rises pops ends inside in
                absurd (omega arith)
            | inr none ↦ none
          ]
    ];
  }

  same_number_reach : (a b n : ℕ) → state_at after a ≡ Closed n → state_at after b ≡ Closed n → Reaches graph a b
  same_number_reach a b n is_a is_b = elim (closed_before a n is_a) [
    | inl old_a ↦ elim (closed_before b n is_b) [
      | inl old_b ↦ h.closed_reach a b n old_a old_b
      | inr now_b ↦ let low = h.numbered a n old_a in let same = now_b.3 in absurd (omega arith)
    ]
    | inr now_a ↦ elim (closed_before b n is_b) [
      | inl old_b ↦ let low = h.numbered b n old_b in let same = now_a.3 in absurd (omega arith)
      | inr now_b ↦ h.open_reach a b now_a.0 now_b.0 now_a.1 now_b.1 (below_last now_a.0 now_b.0 now_b.2)
    ]
  ]

  pub close_keeps : IsOngoing graph after left (take position opened) fewer front (closed + 1)
  close_keeps = record {
    fit = fit ∙ h.fit;
    are_opened = rest-opened;
    is_path =
        subst (IsPath front fewer) (sym (length-take-le position opened (let w = within in omega arith))) rest-path;
    are_left = rest-left;
    open_reach = λ a b i j is_a is_b from.
        let (old_a, low) = open_before a i is_a in
        h.open_reach a b i j old_a (open_before b j is_b).0 (from-more i j low from);
    closed_reach = same_number_reach;
    looked_at = λ a k lt le.
        let b = slice_index (slice_index_or graph a []) k in
        may-step-at fewer _ _ _ _ (closes a) (closes b)
        (may-step-closed starts fewer position closed from-fewer from-last (state_at states a) (state_at states b)
        (λ n is. let low = h.numbered b n is in omega arith) (h.looked_at a k lt le));
    numbered = λ a n is. elim (closed_before a n is) [
      | inl old ↦ let low = h.numbered a n old in omega arith
      | inr now ↦ let same = now.3 in omega arith
    ];
    used = λ number below. elim (cases_lt number closed) [
      | inl old ↦ let (a, is) = h.used number old in (a, closes a ∙ ap (closed_from position closed) is)
      | inr above ↦
          let a = slice_index opened position in
          let same : closed ≡ number = omega arith in
          let now_open = h.are_opened.placed position within in (
            a,
            closes a ∙ ap (closed_from position closed) now_open
                ∙ closed_from-above position closed position (omega arith) ∙ ap Closed same,
          )
    ];
    room = let s = pops_start.shorter in let n = news in let r = h.room in omega arith;
  }
