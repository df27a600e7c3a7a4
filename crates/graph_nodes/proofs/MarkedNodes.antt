-- Marking what is reached: one number after the other, and then what the marked nodes lead to.
use Rattle.std.proofs.Common.{◌≡◌, ◌⊎◌, ℕ, zero, suc, ◌+◌, ◌<◌, ◌≤◌, Bool, true, false, List, [], ◌∷◌, ◌++◌, map, None}
use Rattle.std.proofs.Common.{Option, Some, Result, Ok, Err, OnOk, drop, length, get_or, replicate, take, slice_get}
use Rattle.std.proofs.Common.{slice_set, Contains, refl, sym, ◌∙◌, ap, subst, inl, inr, arith, length-append}
use Rattle.std.specs.List.{refill}
use Rattle.std.proofs.Math.ListN.{length-set}
use Rattle.std.proofs.Math.Seq.{take-append_seam}
use Rattle.std.proofs.lemmas.Bool.{cases_eq, cases_lt}
use Rattle.std.proofs.lemmas.List.{map-append, take_more}
use Rattle.std.proofs.lemmas.List.Elements.{Contains-append_cases, Contains-append_left, Contains-append_right}
use Rattle.std.proofs.lemmas.Option.{get_or_from_slice_get, slice_get-get_or, slice_get_read, slice_get_within}
use Rattle.list_lemmas.proofs.Lists.{get_set_other, get_set_same, mapped_some}
use Rattle.list_lemmas.proofs.Members.{Contains-mapped}
use Rattle.graph_nodes.specs.Words.{Held, AreMarked, AreNone, AreWaiting, HasNumber, IsClosed, IsFound, IsMarked}
use Rattle.graph_nodes.specs.Words.{IsRising, Marks, MarksFrom, slot_at, targets_of, unmarked, with_root, root, next}
use Rattle.search_context.specs.declared.context.NodeId.{NodeId}
use Rattle.graph_nodes.proofs.FoundNodes.{only_number}
use Rattle.graph_nodes.proofs.HeldNodes.{slot_of}

no_contains : {A : Type 0} (x : A) → Contains [] x → ⊥
no_contains x (k, l, e) = absurd (omega arith)

-- marking one place leaves one place less
one_less : (marked : List Bool) (place : ℕ) → slice_get marked place ≡ Some false
    → unmarked (slice_set marked place true) + 1 ≡ unmarked marked
one_less [] place none = absurd cc
one_less (true ∷ marked) zero none = absurd cc
one_less (false ∷ marked) zero none = omega arith
one_less (true ∷ marked) (suc place) none = one_less marked place none
one_less (false ∷ marked) (suc place) none = omega (arith, one_less marked place none)

-- what gives nothing has nothing
pub nothing_left : (n : ℕ) → (0 < n → false ≡ true) → n ≡ 0
nothing_left zero gives = refl
nothing_left (suc n) gives = let never : false ≡ true = gives (omega arith) in absurd cc

-- what is written to the list that was lent stands in the list
pub marked_there : (marked lent : List Bool) (place : ℕ) → lent ≡ marked
    → refill (length marked) marked (slice_set lent place true) ≡ slice_set marked place true
marked_there marked lent place is =
    let set = slice_set lent place true in
    ap (λ n. take n (set ++ drop (length set) marked)) (sym (length-set lent place true ∙ ap length is))
    ∙ (take-append_seam set (drop (length set) marked) ∙ ap (λ l. slice_set l place true) is)

pub numbered : {I R : Type 0} (held : List (Held I R)) (place n : ℕ) → HasNumber held place n
    → (h : Held I R) × (slice_get held place ≡ Some h) × (h.number ≡ n)
numbered held place n has = mapped_some (λ h. h.number) (slice_get held place) n has

module _ {I R : Type 0} (held : List (Held I R)) (rising : IsRising held) where
  one_place : (p q n : ℕ) → HasNumber held p n → HasNumber held q n → p ≡ q
  one_place p q n at there =
      let h = numbered held p n at in
      let k = numbered held q n there in
      elim (cases_lt p q) [
        | inl lt ↦
            let less : h.0.number < k.0.number = rising.rises p q h.0 k.0 lt h.1 k.1 in absurd (omega (arith, h.2, k.2))
        | inr ge ↦ elim (cases_eq p q) [
          | inl e ↦ e
          | inr ne ↦ let less : k.0.number < h.0.number = rising.rises q p k.0 h.0 (omega arith) k.1 h.1 in
              absurd (omega (arith, h.2, k.2))
        ]
      ]

  module _ (number : ℕ) (marked : List Bool) (waiting : List ℕ) where
    -- a number that isn't held
    pub Marks-none : slot_at held number ≡ None → Marks held (number ∷ []) marked marked waiting waiting
    Marks-none none = record {
      each = refl;
      stays = λ p m. m;
      here = λ p n has at.
          let h = numbered held p n at in
          let found : Some h.0.slot ≡ None =
          sym (slot_of held rising p h.0 h.1) ∙ (ap (slot_at held) (h.2 ∙ sym (only_number number n has)) ∙ none) in
          absurd cc;
      only = λ p m. inl m;
      waits = λ p m. inl m;
      still = λ p is. is;
      only_waits = λ p is. inl is;
      fewer = omega arith;
    }

    module _ (place : ℕ) (has : HasNumber held place number) where
      same_place : (p n : ℕ) → Contains (number ∷ []) n → HasNumber held p n → p ≡ place
      same_place p n is at = one_place p place number (subst (HasNumber held p) (sym (only_number number n is)) at) has

      -- a node that is marked
      pub Marks-known : IsMarked marked place → Marks held (number ∷ []) marked marked waiting waiting
      Marks-known known = record {
        each = refl;
        stays = λ p m. m;
        here = λ p n is at. subst (IsMarked marked) (sym (same_place p n is at)) known;
        only = λ p m. inl m;
        waits = λ p m. inl m;
        still = λ p is. is;
        only_waits = λ p is. inl is;
        fewer = omega arith;
      }

      still_marked : slice_get marked place ≡ Some false → (p : ℕ) → IsMarked marked p
          → IsMarked (slice_set marked place true) p
      still_marked none p m = elim (cases_eq p place) [
        | inl e ↦ subst (IsMarked (slice_set marked place true)) (sym e) (get_set_same marked place false true none)
        | inr ne ↦ get_set_other marked place true p ne ∙ m
      ]

      -- a node that isn't
      module _ (none : slice_get marked place ≡ Some false) where
        pub Marks-new : Marks held (number ∷ []) marked (slice_set marked place true) waiting (waiting ++ place ∷ [])
        Marks-new = record {
          each = length-set marked place true;
          stays = still_marked none;
          here = λ p n is at. subst (IsMarked (slice_set marked place true)) (sym (same_place p n is at))
              (get_set_same marked place false true none);
          only = λ p m. elim (cases_eq p place) [
            | inl e ↦ inr (number, (zero, omega arith, refl), subst (λ q. HasNumber held q number) (sym e) has)
            | inr ne ↦ inl (sym (get_set_other marked place true p ne) ∙ m)
          ];
          waits = λ p m. elim (cases_eq p place) [
            | inl e ↦ inr (Contains-append_right waiting (place ∷ []) p (zero, omega arith, sym e))
            | inr ne ↦ inl (sym (get_set_other marked place true p ne) ∙ m)
          ];
          still = λ p is. Contains-append_left waiting (place ∷ []) p is;
          only_waits = λ p is. elim (Contains-append_cases waiting (place ∷ []) p is) [
            | inl old ↦ inl old
            | inr new ↦ inr (
              number,
              (zero, omega arith, refl),
              subst (λ q. HasNumber held q number) (only_number place p new) has,
            )
          ];
          fewer = omega (arith, one_less marked place none, length-append waiting (place ∷ []));
        }

-- what was not marked waits
pub AreWaiting-new : (marked : List Bool) (waiting : List ℕ) (place : ℕ) → slice_get marked place ≡ Some false
    → AreWaiting marked waiting → AreWaiting (slice_set marked place true) (waiting ++ place ∷ [])
AreWaiting-new marked waiting place none w = record {
  marked_there = λ p is. elim (cases_eq p place) [
    | inl e ↦ subst (IsMarked (slice_set marked place true)) (sym e) (get_set_same marked place false true none)
    | inr ne ↦ elim (Contains-append_cases waiting (place ∷ []) p is) [
      | inl old ↦ get_set_other marked place true p ne ∙ w.marked_there p old
      | inr new ↦ absurd (ne (sym (only_number place p new)))
    ]
  ];
}

-- a mark that is read
pub read_mark : (marked : List Bool) (place : ℕ) (m b : Bool) → place < length marked → m ≡ get_or marked place m
    → m ≡ b → slice_get marked place ≡ Some b
read_mark marked place m b lt read is = slice_get_read marked (length marked) place m refl lt read ∙ ap Some is

pub take_all : {A : Type 0} (xs : List A) (i : ℕ) → length xs ≤ i → take i xs ≡ xs
take_all [] zero le = refl
take_all [] (suc i) le = refl
take_all (x ∷ xs) zero le = absurd (omega arith)
take_all (x ∷ xs) (suc i) le = ap (λ l. x ∷ l) (take_all xs i (omega arith))

-- no number, and numbers after others
module _ {I R : Type 0} (held : List (Held I R)) where
  pub Marks-nothing : (marked : List Bool) (waiting : List ℕ) → Marks held [] marked marked waiting waiting
  Marks-nothing marked waiting = record {
    each = refl;
    stays = λ p m. m;
    here = λ p n is at. absurd (no_contains n is);
    only = λ p m. inl m;
    waits = λ p m. inl m;
    still = λ p is. is;
    only_waits = λ p is. inl is;
    fewer = omega arith;
  }

  pub Marks-then : (first second : List ℕ) (m m' m'' : List Bool) (q q' q'' : List ℕ) → Marks held first m m' q q'
      → Marks held second m' m'' q' q'' → Marks held (first ++ second) m m'' q q''
  Marks-then first second m m' m'' q q' q'' a b = record {
    each = b.each ∙ a.each;
    stays = λ p is. b.stays p (a.stays p is);
    here = λ p n has at. elim (Contains-append_cases first second n has) [
      | inl l ↦ b.stays p (a.here p n l at)
      | inr r ↦ b.here p n r at
    ];
    only = λ p is. elim (b.only p is) [
      | inl before ↦ elim (a.only p before) [
        | inl old ↦ inl old
        | inr w ↦ inr (w.0, Contains-append_left first second w.0 w.1, w.2)
      ]
      | inr w ↦ inr (w.0, Contains-append_right first second w.0 w.1, w.2)
    ];
    waits = λ p is. elim (b.waits p is) [
      | inl before ↦ elim (a.waits p before) [
        | inl old ↦ inl old
        | inr waits ↦ inr (b.still p waits)
      ]
      | inr waits ↦ inr waits
    ];
    still = λ p is. b.still p (a.still p is);
    only_waits = λ p is. elim (b.only_waits p is) [
      | inl before ↦ elim (a.only_waits p before) [
        | inl old ↦ inl old
        | inr w ↦ inr (w.0, Contains-append_left first second w.0 w.1, w.2)
      ]
      | inr w ↦ inr (w.0, Contains-append_right first second w.0 w.1, w.2)
    ];
    fewer = omega (arith, a.fewer, b.fewer);
  }

  -- one more of a list
  pub Marks-more : {A : Type 0} (f : A → ℕ) (xs : List A) (i : ℕ) (x d : A) → i < length xs → x ≡ get_or xs i d
      → (m m' m'' : List Bool) (q q' q'' : List ℕ) → Marks held (map f (take i xs)) m m' q q'
      → Marks held (f x ∷ []) m' m'' q' q'' → Marks held (map f (take (i + 1) xs)) m m'' q q''
  Marks-more f xs i x d lt is m m' m'' q q' q'' a b =
      subst (λ l. Marks held l m m'' q q'')
      (sym (map-append f (take i xs) (x ∷ []))
      ∙ ap (map f) (ap (λ y. take i xs ++ y ∷ []) is ∙ sym (take_more xs i d lt)))
      (Marks-then (map f (take i xs)) (f x ∷ []) m m' m'' q q' q'' a b)

  pub Marks-whole : {A : Type 0} (f : A → ℕ) (xs : List A) (i : ℕ) → length xs ≤ i → (m m' : List Bool) (q q' : List ℕ)
      → Marks held (map f (take i xs)) m m' q q' → Marks held (map f xs) m m' q q'
  Marks-whole f xs i le m m' q q' marks = subst (λ l. Marks held (map f l) m m' q q') (take_all xs i le) marks

pub none_of : (count : ℕ) → AreNone count (replicate count false) []
none_of count = record {
  each = long count;
  none_waits = refl;
  none = nothing count;
}
  where
    long : (n : ℕ) → length (replicate n false) ≡ n
    long zero = refl
    long (suc n) = omega (arith, long n)

    nothing : (n p : ℕ) → IsMarked (replicate n false) p → ⊥
    nothing zero p m = absurd cc
    nothing (suc n) zero m = absurd cc
    nothing (suc n) (suc p) m = nothing n p m

-- ---- the walk

-- where nothing waits
pub AreWaiting-none : (marked : List Bool) (waiting : List ℕ) → length waiting ≡ 0 → AreWaiting marked waiting
AreWaiting-none marked waiting none = record { marked_there = λ p is. absurd (omega (arith, is.1, none)) }

-- what is known while what is reached from a node is followed: what each marked node leads to is marked,
-- unless it still waits
pub record IsFollowed {I R : Type 0} (held : List (Held I R)) (number : ℕ)
    (old marked : List Bool) (waiting : List ℕ) : Type 0 where
  pub each : length marked ≡ length held
  pub waiting_are : AreWaiting marked waiting
  pub stays : (place : ℕ) → IsMarked old place → IsMarked marked place
  pub here : (place : ℕ) → HasNumber held place number → IsMarked marked place
  pub behind : (place : ℕ) (h : Held I R) (other n : ℕ) → IsMarked marked place → slice_get held place ≡ Some h
      → Contains (targets_of h.slot) n → HasNumber held other n → Contains waiting place ⊎ IsMarked marked other
  pub found : (place : ℕ) (h : Held I R) → IsMarked marked place → slice_get held place ≡ Some h
      → IsMarked old place ⊎ IsFound held (number ∷ []) h.number
  pub found_waiting : (place : ℕ) (h : Held I R) → Contains waiting place → slice_get held place ≡ Some h
      → IsFound held (number ∷ []) h.number

module _ {I R : Type 0} (held : List (Held I R)) where
  number_there : (place n : ℕ) (h : Held I R) → HasNumber held place n → slice_get held place ≡ Some h → n ≡ h.number
  number_there place n h has is = let w = numbered held place n has in let both : Some w.0 ≡ Some h = sym w.1 ∙ is in
      let one : w.0 ≡ h = cc in sym w.2 ∙ ap (λ x. x.number) one

  module _ (number : ℕ) (old : List Bool) where
    from_number : (p : ℕ) (h : Held I R) → slice_get held p ≡ Some h
        → (n : ℕ) × Contains (number ∷ []) n × HasNumber held p n → IsFound held (number ∷ []) h.number
    from_number p h is w = subst (IsFound held (number ∷ [])) (number_there p w.0 h w.2 is) (root w.0 w.1)

    -- the node is marked
    pub follow_first : (empty : List ℕ) (marked : List Bool) (waiting : List ℕ) → length old ≡ length held
        → length empty ≡ 0 → IsClosed held old → AreWaiting marked waiting
        → Marks held (number ∷ []) old marked empty waiting → IsFollowed held number old marked waiting
    follow_first empty marked waiting each none closed waiting_are marks = record {
      each = marks.each ∙ each;
      waiting_are = waiting_are;
      stays = marks.stays;
      here = λ p has. marks.here p number (zero, omega arith, refl) has;
      behind = λ p h other n m is target has. elim (marks.waits p m) [
        | inl before ↦ inr (marks.stays other (closed p h other n before is target has))
        | inr waits ↦ inl waits
      ];
      found = λ p h m is. elim (marks.only p m) [
        | inl before ↦ inl before
        | inr w ↦ inr (from_number p h is w)
      ];
      found_waiting = λ p h waits is. elim (marks.only_waits p waits) [
        | inl before ↦ absurd (omega (arith, before.1, none))
        | inr w ↦ from_number p h is w
      ];
    }

    module _ (marked : List Bool) (waiting : List ℕ) (f : IsFollowed held number old marked waiting) where
      -- the last one that waits
      module _ (left : List ℕ) (place : ℕ) (last : waiting ≡ left ++ place ∷ []) where
        waits_left : (p : ℕ) → Contains (left ++ place ∷ []) p → Contains waiting p
        waits_left p is = subst (λ l. Contains l p) (sym last) is

        last_waits : Contains waiting place
        last_waits = waits_left place (Contains-append_right left (place ∷ []) place (zero, omega arith, refl))

        -- it is the place of a node
        pub place_within : place < length held
        place_within =
            omega (arith, slice_get_within marked place true (f.waiting_are.marked_there place last_waits), f.each)

        -- the others wait
        pub left_waiting : AreWaiting marked left
        left_waiting = record {
          marked_there =
              λ p is. f.waiting_are.marked_there p (waits_left p (Contains-append_left left (place ∷ []) p is));
        }

        module _ (more : List Bool) (longer : List ℕ) (h : Held I R)
            (marks : Marks held (targets_of h.slot) marked more left longer) where
          -- less is left to do
          pub follow_less : unmarked more + length longer < unmarked marked + length waiting
          follow_less = omega (arith, marks.fewer, ap length last, length-append left (place ∷ []))

          module _ (is : slice_get held place ≡ Some h) where
            from_target : (p : ℕ) (k : Held I R) → slice_get held p ≡ Some k
                → (n : ℕ) × Contains (targets_of h.slot) n × HasNumber held p n → IsFound held (number ∷ []) k.number
            from_target p k node w = subst (IsFound held (number ∷ [])) (number_there p w.0 k w.2 node)
                (next w.0 place h (f.found_waiting place h last_waits is) is w.1)

            pub follow_next : AreWaiting more longer → IsFollowed held number old more longer
            follow_next waiting_are = record {
              each = marks.each ∙ f.each;
              waiting_are = waiting_are;
              stays = λ p m. marks.stays p (f.stays p m);
              here = λ p has. marks.stays p (f.here p has);
              behind = λ p k other n m node target has. elim (marks.waits p m) [
                | inl before ↦ elim (f.behind p k other n before node target has) [
                  | inl waited ↦
                      elim (Contains-append_cases left (place ∷ []) p (subst (λ l. Contains l p) last waited)) [
                        | inl still ↦ inl (marks.still p still)
                        | inr now ↦
                            let nodes : Some h ≡ Some k =
                            sym is ∙ (ap (slice_get held) (only_number place p now) ∙ node) in
                            let one : h ≡ k = cc in
                            inr (marks.here other n (subst (λ x. Contains (targets_of x.slot) n) (sym one) target) has)
                      ]
                  | inr done ↦ inr (marks.stays other done)
                ]
                | inr waits ↦ inl waits
              ];
              found = λ p k m node. elim (marks.only p m) [
                | inl before ↦ f.found p k before node
                | inr w ↦ inr (from_target p k node w)
              ];
              found_waiting = λ p k waits node. elim (marks.only_waits p waits) [
                | inl before ↦ f.found_waiting p k (waits_left p (Contains-append_left left (place ∷ []) p before)) node
                | inr w ↦ from_target p k node w
              ];
            }

      -- nothing waits any more
      module _ (end : length waiting ≡ 0) where
        pub followed_closed : IsClosed held marked
        followed_closed p h other n m is target has = elim (f.behind p h other n m is target has) [
          | inl waited ↦ absurd (omega (arith, waited.1, end))
          | inr done ↦ done
        ]

        pub followed_marks : length old ≡ length held → MarksFrom held number old marked
        followed_marks each = record { each = f.each ∙ sym each; stays = f.stays; here = f.here; found = f.found }

-- what is so where a call was not refused for two things that are so there
pub when_ok : {E P Q S : Type 0} (r : Result (Unit {0}) E) → (P → Q → S) → OnOk r P → OnOk r Q → OnOk r S
when_ok (Ok _) both p q = both p q
when_ok (Err _) both p q = tt

-- ---- one root after the other

-- what is found from one of the roots is found from all of them
found_from : {I R : Type 0} (held : List (Held I R)) (roots : List ℕ) (number : ℕ) → Contains roots number → (n : ℕ)
    → IsFound held (number ∷ []) n → IsFound held roots n
found_from held roots number has _ (root n is) = root n (subst (Contains roots) (only_number number n is) has)
found_from held roots number has _ (next n place h before at target) =
    next n place h (found_from held roots number has h.number before) at target

-- what is known once some of the roots were followed
pub record AreFollowed {I R : Type 0} (held : List (Held I R)) (roots done : List ℕ) (marked : List Bool) : Type 0 where
  pub each : length marked ≡ length held
  pub closed : IsClosed held marked
  pub rooted : (place n : ℕ) → Contains done n → HasNumber held place n → IsMarked marked place
  pub found : (place : ℕ) (h : Held I R) → IsMarked marked place
      → slice_get held place ≡ Some h → IsFound held roots h.number

module _ {I R : Type 0} (held : List (Held I R)) (roots : List ℕ) where
  pub none_followed : (none : List Bool) (waiting : List ℕ)
      → AreNone (length held) none waiting → AreFollowed held roots [] none
  none_followed none waiting start = record {
    each = start.each;
    closed = λ p h other n m. absurd (start.none p m);
    rooted = λ p n is. absurd (no_contains n is);
    found = λ p h m. absurd (start.none p m);
  }

  root_followed : (done : List ℕ) (number : ℕ) (marked more : List Bool) → Contains roots number
      → AreFollowed held roots done marked → IsClosed held more → MarksFrom held number marked more
      → AreFollowed held roots (done ++ number ∷ []) more
  root_followed done number marked more has f closed marks = record {
    each = marks.each ∙ f.each;
    closed = closed;
    rooted = λ p n is at. elim (Contains-append_cases done (number ∷ []) n is) [
      | inl before ↦ marks.stays p (f.rooted p n before at)
      | inr now ↦ marks.here p (subst (HasNumber held p) (sym (only_number number n now)) at)
    ];
    found = λ p h m is. elim (marks.found p h m is) [
      | inl before ↦ f.found p h before is
      | inr from ↦ found_from held roots number has h.number from
    ];
  }

-- the roots are a list of nodes, and the last one, if there is one
abbrev pub numbers_of : List NodeId → List ℕ
numbers_of nodes = map (λ n. n.0) nodes

module _ {I R : Type 0} (held : List (Held I R)) (last : Option NodeId) (roots : List NodeId) (i : ℕ) where
  is_root : (o : Option NodeId) (n : ℕ) → Contains (numbers_of roots) n → Contains (numbers_of (with_root o roots)) n
  is_root None n has = has
  is_root (Some r) n has = subst (λ l. Contains l n) (sym (map-append (λ n. n.0) roots (r ∷ [])))
      (Contains-append_left (numbers_of roots) (r.0 ∷ []) n has)

  pub next_followed : (x d : NodeId) → i < length roots → x ≡ get_or roots i d → (marked more : List Bool)
      → AreFollowed held (numbers_of (with_root last roots)) (numbers_of (take i roots)) marked
      → IsClosed held more → MarksFrom held x.0 marked more
      → AreFollowed held (numbers_of (with_root last roots)) (numbers_of (take (i + 1) roots)) more
  next_followed x d lt is marked more before closed marks =
      let has = Contains-mapped (λ n. n.0) roots x
      (i, lt, get_or_from_slice_get roots i x x (slice_get-get_or roots i d lt ∙ ap Some (sym is))) in
      subst (λ l. AreFollowed held (numbers_of (with_root last roots)) l more)
      (sym (map-append (λ n. n.0) (take i roots) (x ∷ []))
      ∙ ap numbers_of (ap (λ y. take i roots ++ y ∷ []) is ∙ sym (take_more roots i d lt)))
      (root_followed held (numbers_of (with_root last roots)) (numbers_of (take i roots)) x.0 marked more
      (is_root last x.0 has) before closed marks)

-- all were followed, and then the last one
module _ {I R : Type 0} (held : List (Held I R)) (roots : List NodeId) (i : ℕ)
    (end : length roots ≤ i) (marked : List Bool) where
  pub all_followed : (last : Option NodeId) → last ≡ None
      → AreFollowed held (numbers_of (with_root last roots)) (numbers_of (take i roots)) marked
      → AreMarked held (numbers_of (with_root last roots)) marked
  all_followed None none a = record {
    each = a.each;
    rooted = λ p n is. a.rooted p n (subst (λ l. Contains (numbers_of l) n) (sym (take_all roots i end)) is);
    closed = a.closed;
    found = a.found;
  }
  all_followed (Some r) none a = absurd cc

  pub last_followed : (last : Option NodeId) (node : NodeId) → last ≡ Some node
      → AreFollowed held (numbers_of (with_root last roots)) (numbers_of (take i roots)) marked → (more : List Bool)
      → IsClosed held more → MarksFrom held node.0 marked more → AreMarked held (numbers_of (with_root last roots)) more
  last_followed None node is a more closed marks = absurd cc
  last_followed (Some r) node is a more closed marks =
      let all = numbers_of (roots ++ r ∷ []) in
      let one : node.0 ≡ r.0 = cc in
      let whole : numbers_of (take i roots) ++ r.0 ∷ [] ≡ all =
      ap (λ l. numbers_of l ++ r.0 ∷ []) (take_all roots i end) ∙ sym (map-append (λ n. n.0) roots (r ∷ [])) in
      let has : Contains all r.0 = subst (λ l. Contains l r.0) whole
      (Contains-append_right (numbers_of (take i roots)) (r.0 ∷ []) r.0 (zero, omega arith, refl)) in
      let f = root_followed held all (numbers_of (take i roots)) r.0 marked more has a closed
      (subst (λ n. MarksFrom held n marked more) one marks) in
      record {
        each = f.each;
        rooted = λ p n is. f.rooted p n (subst (λ l. Contains l n) (sym whole) is);
        closed = f.closed;
        found = f.found;
      }
