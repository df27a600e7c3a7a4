-- Goals that are found, and followed.
use Rattle.std.proofs.Common.{◌≡◌, ◌≢◌, ◌∙◌, ◌+◌, ◌<◌, ◌≤◌, ◌↔◌, ◌⊎◌, ◌||◌, ℕ, Bool, Contains, List, [], ◌∷◌, ◌++◌}
use Rattle.std.proofs.Common.{Some, ap, arith}
use Rattle.std.proofs.Common.{cond, eq-eqb, ne_eqb, false, get_or, inl, inr, length, nat_eq, not, refl}
use Rattle.std.proofs.Common.{slice_get, subst, sym, true}
use Rattle.std.proofs.Common.{Equal, Greater, Less, nat_cmp, None, Option, Ordering, option_copied, suc, zero}
use Rattle.std.specs.Ordering.{is_le, is_lt, ord_max}
use Rattle.std.specs.HashSet.{contains}
use Rattle.std.specs.List.{list_any}
use Rattle.std.proofs.lemmas.Bool.{cases_eq}
use Rattle.std.proofs.lemmas.List.Elements.{Contains-push, Contains-push_cases}
use Rattle.std.proofs.lemmas.List.Folds.{list_any-append}
use Rattle.std.proofs.lemmas.Map.Keys.{ge_from_not_lt, le_from_is_le}
use Rattle.std.proofs.lemmas.Map.Views.{Contains-from_any, exact_unsigned_eq}
use Rattle.std.proofs.lemmas.Option.{slice_get-get_or, slice_get_past, slice_get_read, slice_get_within}
use Rattle.std.specs.Slice.{IsItemAt}
use denote.Bor.{Bor}
use Rattle.candidate_lists.specs.Laws.Members.{Contains-from_slice_get, slice_get-from_Contains}
use Rattle.list_lemmas.proofs.Lists.{get_left}
use Rattle.rule_arrays.specs.Askers.{AreChains, HasAsker, IsInChain, earlier, here, last_of}
use Rattle.rule_arrays.specs.Found.{AreListed, Finds, FollowsAll, IsFound, IsReached, asker, there}
use Rattle.rule_arrays.specs.declared.changes.askers.Askers.{Askers}
use Rattle.rule_arrays.specs.declared.changes.askers.Link.{Link}
use Rattle.rule_arrays.specs.declared.changes.found.Found.{Found}
use Rattle.rule_arrays.proofs.Chains.{begins, chain_on}

pub found_still : (IsNew : ℕ → Type 0) (old new : Found) → Finds IsNew old new → (goal : ℕ) → IsFound old goal
    → IsFound new goal
found_still IsNew old new finds goal it =
    Contains-from_slice_get new.goals.items it.0 goal
    (finds.places it.0 goal (slice_get-from_Contains old.goals.items goal it))

-- ---- one goal

or_last : (a : Bool) → (a || (true || false)) ≡ true
or_last true = refl
or_last false = refl

or_none : (a : Bool) → (a || (false || false)) ≡ a
or_none true = refl
or_none false = refl

listed_more : (goals : List ℕ) (goal q : ℕ) (is_in : Bool) → is_in ≡ list_any (nat_eq q) goals
    → cond (nat_eq goal q) true is_in ≡ list_any (nat_eq q) (goals ++ goal ∷ [])
listed_more goals goal q is_in is = elim (cases_eq goal q) [
  | inl same ↦ ap (λ b. cond b true is_in) (eq-eqb goal q same)
      ∙ sym (list_any-append (nat_eq q) goals (goal ∷ [])
      ∙ ap (λ b. list_any (nat_eq q) goals || (b || false)) (eq-eqb q goal (sym same))
      ∙ or_last (list_any (nat_eq q) goals))
  | inr apart ↦ ap (λ b. cond b true is_in) (ne_eqb goal q apart) ∙ is
      ∙ sym (list_any-append (nat_eq q) goals (goal ∷ [])
      ∙ ap (λ b. list_any (nat_eq q) goals || (b || false)) (ne_eqb q goal (λ e. apart (sym e)))
      ∙ or_none (list_any (nat_eq q) goals))
]

listed_still : (old : Found) (goal q : ℕ) → AreListed old → contains nat_eq old.all goal ≡ true
    → cond (nat_eq goal q) true (contains nat_eq old.all q) ≡ list_any (nat_eq q) old.goals.items
listed_still old goal q listed has = elim (cases_eq goal q) [
  | inl same ↦ ap (λ b. cond b true (contains nat_eq old.all q)) (eq-eqb goal q same)
      ∙ sym (subst (λ x. contains nat_eq old.all x ≡ true) same has) ∙ listed q
  | inr apart ↦ ap (λ b. cond b true (contains nat_eq old.all q)) (ne_eqb goal q apart) ∙ listed q
]

pub not_false : (a b : Bool) → a ≡ not b → a ≡ false → b ≡ true
not_false a true is never = refl
not_false a false is never = sym never ∙ is

-- it was not found before
pub noted_first : (old new : Found) (goal : ℕ) → AreListed old → new.goals.items ≡ old.goals.items ++ goal ∷ []
    → ((q : ℕ) → contains nat_eq new.all q ≡ cond (nat_eq goal q) true (contains nat_eq old.all q))
    → Finds (λ other. other ≡ goal) old new
noted_first old new goal listed goals all = record {
  listed = λ q. all q ∙ listed_more old.goals.items goal q (contains nat_eq old.all q) (listed q)
      ∙ ap (list_any (nat_eq q)) (sym goals);
  places = λ at other is. ap (λ l. slice_get l at) goals ∙ get_left old.goals.items (goal ∷ []) at other is;
  found = λ other is. subst (λ l. Contains l other) (sym goals)
      (subst (Contains (old.goals.items ++ goal ∷ [])) (sym is) (Contains-push old.goals.items goal));
  only = λ other it.
      elim (Contains-push_cases old.goals.items goal other (subst (λ l. Contains l other) goals it)) [
        | inl before ↦ inl before
        | inr now ↦ inr (sym now)
      ];
}

-- it was
pub noted_again : (old new : Found) (goal : ℕ) → AreListed old → contains nat_eq old.all goal ≡ true
    → new.goals.items ≡ old.goals.items
    → ((q : ℕ) → contains nat_eq new.all q ≡ cond (nat_eq goal q) true (contains nat_eq old.all q))
    → Finds (λ other. other ≡ goal) old new
noted_again old new goal listed has goals all = record {
  listed = λ q. all q ∙ listed_still old goal q listed has ∙ ap (list_any (nat_eq q)) (sym goals);
  places = λ at other is. ap (λ l. slice_get l at) goals ∙ is;
  found = λ other is. subst (λ l. Contains l other) (sym goals) (subst (Contains old.goals.items) (sym is)
      (Contains-from_any exact_unsigned_eq goal old.goals.items (sym (listed goal) ∙ has)));
  only = λ other it. inl (subst (λ l. Contains l other) goals it);
}

-- ---- all that ask a goal

-- Each asker of the goal is found, or comes further on in its chain.
pub record IsFollowing (askers : Askers) (goal : ℕ) (first now : Found) (at : ℕ) : Type 0 where
  pub within : at ≤ length askers.links.items
  pub listed : AreListed now
  pub places : (place other : ℕ) → slice_get first.goals.items place ≡ Some other
      → slice_get now.goals.items place ≡ Some other
  pub found : (other : ℕ) → HasAsker askers goal other → IsFound now other ⊎ IsInChain askers.links.items other at
  pub further : (other : ℕ) → IsInChain askers.links.items other at → HasAsker askers goal other
  pub only : (other : ℕ) → IsFound now other → IsFound first other ⊎ HasAsker askers goal other

pub none_followed : (askers : Askers) (goal : ℕ) (first : Found) → AreChains askers → AreListed first
    → IsFollowing askers goal first first (last_of askers goal)
none_followed askers goal first chains listed = record {
  within = chains.within goal;
  listed = listed;
  places = λ place other is. is;
  found = λ other has. inr has;
  further = λ other has. has;
  only = λ other it. inl it;
}

pub one_followed : (askers : Askers) (goal : ℕ) (first now new : Found) (at place : ℕ) (link : Link)
    → AreChains askers → IsFollowing askers goal first now at → at ≡ place + 1
    → slice_get askers.links.items place ≡ Some link → Finds (λ other. other ≡ link.asker) now new
    → IsFollowing askers goal first new link.earlier
one_followed askers goal first now new at place link chains so_far begin is finds = record {
  within = omega (arith, chains.back place link is, slice_get_within askers.links.items place link is);
  listed = finds.listed;
  places = λ k other was. finds.places k other (so_far.places k other was);
  found = λ other has. elim (so_far.found other has) [
    | inl before ↦ inl (found_still (λ it. it ≡ link.asker) now new finds other before)
    | inr chain ↦ elim (chain_on askers.links.items other at place link chain begin is) [
      | inl same ↦ inl (finds.found other (sym same))
      | inr next ↦ inr next
    ]
  ];
  further = λ other chain. so_far.further other (earlier at place link begin is chain);
  only = λ other it. elim (finds.only other it) [
    | inl before ↦ so_far.only other before
    | inr same ↦ inr (subst (HasAsker askers goal) (sym same)
        (so_far.further link.asker (here at place link begin is refl)))
  ];
}

pub chain_followed : (askers : Askers) (goal : ℕ) (first now : Found) (at : ℕ) → at ≡ 0
    → IsFollowing askers goal first now at → Finds (HasAsker askers goal) first now
chain_followed askers goal first now at end all = record {
  listed = all.listed;
  places = all.places;
  found = λ other has. elim (all.found other has) [
    | inl it ↦ it
    | inr chain ↦ absurd (omega (arith, begins askers.links.items other at chain, end))
  ];
  only = all.only;
}

-- ---- all goals

-- who asks one of the first so many goals is found
pub record AreFollowed (askers : Askers) (first now : Found) (count : ℕ) : Type 0 where
  pub listed : AreListed now
  pub kept : (goal : ℕ) → IsFound first goal → IsFound now goal
  pub followed : (at goal other : ℕ) → at < count → slice_get now.goals.items at ≡ Some goal
      → HasAsker askers goal other → IsFound now other
  pub only : (goal : ℕ) → IsFound now goal → IsReached askers first goal

pub no_goal_followed : (askers : Askers) (first : Found) → AreListed first → AreFollowed askers first first 0
no_goal_followed askers first listed = record {
  listed = listed;
  kept = λ goal it. it;
  followed = λ at goal other none. absurd (omega (arith, none));
  only = λ goal it. there goal it;
}

-- what is read at a place
item_copied : (goals : List ℕ) (place : ℕ) (got : Option (Bor ℕ)) → IsItemAt goals place got
    → option_copied got ≡ slice_get goals place
item_copied goals place None is = sym (slice_get_past goals place is.3)
item_copied goals place (Some x) is = sym (slice_get_read goals (length goals) place x.now refl is.3.0 is.1)

pub place_read : (goals read : List ℕ) (place : ℕ) (got : Option (Bor ℕ)) (copied : Option ℕ) → read ≡ goals
    → IsItemAt read place got → copied ≡ option_copied got → slice_get goals place ≡ copied
place_read goals read place got copied same at is =
    ap (λ xs. slice_get xs place) (sym same) ∙ sym (item_copied read place got at) ∙ sym is

-- nothing stands from here on
pub past_all : (goals : List ℕ) (place : ℕ) → slice_get goals place ≡ None → length goals ≤ place
past_all [] place none = omega arith
past_all (goal ∷ goals) zero none = absurd cc
past_all (goal ∷ goals) (suc place) none = let l = past_all goals place none in omega (arith, l)

-- what stands at an earlier place stood there
stood : (old new : List ℕ) (at goal place last : ℕ)
    → ((k other : ℕ) → slice_get old k ≡ Some other → slice_get new k ≡ Some other)
    → slice_get old place ≡ Some last → at ≤ place → slice_get new at ≡ Some goal → slice_get old at ≡ Some goal
stood old new at goal place last places is less now =
    let within : at < length old = omega (arith, less, slice_get_within old place last is) in
    let was = slice_get-get_or old at 0 within in
    was ∙ sym (places at (get_or old at 0) was) ∙ now

pub goal_followed : (askers : Askers) (first now new : Found) (place goal : ℕ)
    → AreFollowed askers first now place → slice_get now.goals.items place ≡ Some goal
    → Finds (HasAsker askers goal) now new → AreFollowed askers first new (place + 1)
goal_followed askers first now new place goal so_far is finds = record {
  listed = finds.listed;
  kept = λ other it. found_still (HasAsker askers goal) now new finds other (so_far.kept other it);
  followed = λ at one other less stands has.
      let was = stood now.goals.items new.goals.items at one place goal finds.places is (omega (arith, less)) stands in
      elim (cases_eq at place) [
        | inl same ↦
            let here_is : Some one ≡ Some goal = sym was ∙ ap (slice_get now.goals.items) same ∙ is in
            let one_is : one ≡ goal = cc in
            finds.found other (subst (λ g. HasAsker askers g other) one_is has)
        | inr apart ↦
            let other_place : at ≢ place = apart in
            found_still (HasAsker askers goal) now new finds other
            (so_far.followed at one other (omega (arith, less)) was has)
      ];
  only = λ other it. elim (finds.only other it) [
    | inl before ↦ so_far.only other before
    | inr has ↦ asker other goal has
        (so_far.only goal (Contains-from_slice_get now.goals.items place goal is))
  ];
}

pub all_goals_followed : (askers : Askers) (first now : Found) (count : ℕ) → length now.goals.items ≤ count
    → AreFollowed askers first now count → FollowsAll askers first now
all_goals_followed askers first now count past all = record {
  listed = all.listed;
  kept = all.kept;
  closed = λ goal other it has. all.followed it.0 goal other (omega (arith, it.1, past))
      (slice_get-from_Contains now.goals.items goal it) has;
  only = all.only;
}

-- ---- goals that are found as they are passed

module _ (IsNew : ℕ → Type 0) where
  -- of the first so many goals all that are new are found, and no others
  abbrev pub IsExact : Found → ℕ → Type 0
  IsExact found count = (goal : ℕ) → IsFound found goal ↔ ((goal < count) × IsNew goal)

  pub one_more_found : (old new : Found) (place : ℕ) → IsExact old place → IsNew place
      → Finds (λ other. other ≡ place) old new → IsExact new (place + 1)
  one_more_found old new place exact is finds goal = (
    (λ it. elim (finds.only goal it) [
      | inl before ↦ let was = (exact goal).0 before in (omega (arith, was.0), was.1)
      | inr same ↦ (omega (arith, same), subst IsNew (sym same) is)
    ]),
    (λ it. elim (cases_eq goal place) [
      | inl same ↦ finds.found goal same
      | inr apart ↦ let other : goal ≢ place = apart in
          found_still (λ other. other ≡ place) old new finds goal ((exact goal).1 (omega (arith, it.0), it.1))
    ]),
  )

  pub one_more_passed : (found : Found) (place : ℕ) → IsExact found place → (IsNew place → ⊥)
      → IsExact found (place + 1)
  one_more_passed found place exact never goal = (
    (λ it. let was = (exact goal).0 it in (omega (arith, was.0), was.1)),
    (λ it. elim (cases_eq goal place) [
      | inl same ↦ absurd (never (subst IsNew same it.1))
      | inr apart ↦ let other : goal ≢ place = apart in (exact goal).1 (omega (arith, it.0), it.1)
    ]),
  )

lt_is_le : (o : Ordering) → is_lt o ≡ true → is_le o ≡ true
lt_is_le Less is = refl
lt_is_le Equal is = refl
lt_is_le Greater is = is

-- the greater one of two
pub greatest : (a b most : ℕ) → most ≡ ord_max nat_cmp a b → (a ≤ most) × (b ≤ most)
greatest a b most is = by (is_lt (nat_cmp b a)) refl is
  where
    by : (less : Bool) → is_lt (nat_cmp b a) ≡ less → most ≡ cond less a b → (a ≤ most) × (b ≤ most)
    by true e same =
        let l = le_from_is_le b a (lt_is_le (nat_cmp b a) e) in (omega (arith, same), omega (arith, same, l))
    by false e same = let l = ge_from_not_lt b a e in (omega (arith, same, l), omega (arith, same))
