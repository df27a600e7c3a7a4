-- Goals that are found are followed: all that ask them are found.
use Rattle.std.proofs.Common.{◌≡◌, ◌≢◌, ◌∙◌, ◌+◌, ◌<◌, ◌≤◌, ◌⊎◌, ◌↔◌, ℕ, zero, suc, Bool, true, Contains, List, [], ◌∷◌}
use Rattle.std.proofs.Common.{None, Option, Some, ap, arith, get_or, inl, inr, length, option_copied, refl}
use Rattle.std.proofs.Common.{slice_get, subst, sym}
use Rattle.std.proofs.lemmas.Bool.{cases_eq}
use Rattle.std.proofs.lemmas.Option.{slice_get-get_or, slice_get-map, slice_get_past, slice_get_read, slice_get_within}
use Rattle.std.specs.Slice.{IsItemAt}
use denote.Bor.{Bor}
use Rattle.list_lemmas.proofs.Lists.{mapped_some}
use Rattle.askers.specs.Concerned.{IsConcerned}
use Rattle.askers.specs.Concerned as concerned
use Rattle.askers.specs.Found.{AreListed, Finds, FollowsAll, IsFound, IsReached, asker, there}
use Rattle.askers.specs.Told.{AreIndexed, IsAskerAt, IsInChain, counts, earlier, first_of, here, last_of, pair_of}
use Rattle.askers.specs.Told.{pairs_of, told_of}
use Rattle.askers.specs.declared.found.Found.{Found}
use Rattle.askers.specs.declared.told.Link.{Link}
use Rattle.askers.specs.declared.told.Told.{Told}
use Rattle.askers.proofs.Chains.{chain_on}
use Rattle.askers.proofs.Counting.{at_counted, counted_at}
use Rattle.askers.proofs.Finding.{found_still}
use Rattle.askers.proofs.Members.{at_member, member_at}

module _ {I : Type 0} (same : I → I → Bool) where
  -- ---- all that ask a goal

  module _ (told : Told I) (goal : I) where
    -- a link of this asker, which counts, comes in the chain that begins here
    pub record IsAhead (other : I) (at : ℕ) : Type 0 where
      pub place : ℕ
      pub chain : IsInChain told.links.items place at
      pub asks : IsAskerAt same told place other

    -- Each asker of the goal is found, or comes further on in its chain.
    pub record IsFollowing (first now : Found I) (at : ℕ) : Type 0 where
      pub within : at ≤ length told.links.items
      pub listed : AreListed same now
      pub places : (place : ℕ) (other : I) → slice_get first.goals.items place ≡ Some other
          → slice_get now.goals.items place ≡ Some other
      pub found : (other : I) → Contains (told_of same told) (other, goal) → IsFound now other ⊎ IsAhead other at
      pub further : (place : ℕ) → IsInChain told.links.items place at
          → IsInChain told.links.items place (last_of same told goal)
      pub only : (other : I) → IsFound now other → IsFound first other ⊎ Contains (told_of same told) (other, goal)

    module _ (indexed : AreIndexed same told) where
      asker_ahead : (other : I) → Contains (told_of same told) (other, goal) → IsAhead other (last_of same told goal)
      asker_ahead other has =
          let it = counted_at (first_of same told) 0 (pairs_of told.links.items) (other, goal) has in
          let found = mapped_some pair_of (slice_get told.links.items it.before) (other, goal)
          (sym (slice_get-map pair_of told.links.items it.before) ∙ it.is_at) in
          let is_asker : found.0.asker ≡ other = ap (λ p. p.0) found.2 in
          let is_asked : found.0.asked ≡ goal = ap (λ p. p.1) found.2 in
          let where_it_is : it.place ≡ it.before = omega (arith, it.is_place) in
          record {
            place = it.before;
            chain = subst (λ g. IsInChain told.links.items it.before (last_of same told g)) is_asked
                (indexed.index.found it.before found.0 found.1);
            asks = record {
              link = found.0;
              is_at = found.1;
              same_asker = is_asker;
              is_counted = subst (λ x. counts (first_of same told) it.before x ≡ true) (sym is_asker)
                  (subst (λ n. counts (first_of same told) n other ≡ true) where_it_is it.is_counted);
            };
          }

      ahead_asks : (other : I) (place : ℕ) → IsInChain told.links.items place (last_of same told goal)
          → IsAskerAt same told place other → Contains (told_of same told) (other, goal)
      ahead_asks other place chain asks =
          let is_asked : asks.link.asked ≡ goal = indexed.index.only goal place asks.link chain asks.is_at in
          let pair_is : pair_of asks.link ≡ (other, goal) =
          ap (λ a. (a, asks.link.asked)) asks.same_asker ∙ ap (λ a. (other, a)) is_asked in
          at_counted (first_of same told) 0 place place (pairs_of told.links.items) (other, goal) (omega arith)
          (slice_get-map pair_of told.links.items place ∙ ap (λ o. option_mapped o) asks.is_at ∙ ap Some pair_is)
          (subst (λ x. counts (first_of same told) place x ≡ true) asks.same_asker asks.is_counted)
        where
          option_mapped : Option (Link I) → Option (I × I)
          option_mapped None = None
          option_mapped (Some link) = Some (pair_of link)

      pub none_followed : (first : Found I) → AreListed same first → IsFollowing first first (last_of same told goal)
      none_followed first listed = record {
        within = indexed.index.within goal;
        listed = listed;
        places = λ place other is. is;
        found = λ other has. inr (asker_ahead other has);
        further = λ place chain. chain;
        only = λ other it. inl it;
      }

      pub one_followed : (first now new : Found I) (at place next : ℕ) (link : Link I) → IsFollowing first now at
          → at ≡ place + 1 → slice_get told.links.items place ≡ Some link → next ≡ link.earlier
          → Finds same (IsAskerAt same told place) now new → IsFollowing first new next
      one_followed first now new at place next link so_far begin is is_next finds = record {
        within = omega (
          arith,
          is_next,
          indexed.index.back place link is,
          slice_get_within told.links.items place link is,
        );
        listed = finds.listed;
        places = λ k other was. finds.places k other (so_far.places k other was);
        found = λ other has. elim (so_far.found other has) [
          | inl before ↦ inl (found_still same (IsAskerAt same told place) now new finds other before)
          | inr ahead ↦ elim (chain_on told.links.items ahead.place at place link ahead.chain begin is) [
            | inl same_place ↦ inl (finds.found other (subst (λ k. IsAskerAt same told k other) same_place ahead.asks))
            | inr chain ↦ inr (record {
              place = ahead.place;
              chain = subst (IsInChain told.links.items ahead.place) (sym is_next) chain;
              asks = ahead.asks;
            })
          ]
        ];
        further = λ k chain. so_far.further k (earlier at place link begin is
            (subst (IsInChain told.links.items k) is_next chain));
        only = λ other it. elim (finds.only other it) [
          | inl before ↦ so_far.only other before
          | inr asks ↦ inr (ahead_asks other place (so_far.further place (here at begin)) asks)
        ];
      }

      no_chain : (place at : ℕ) → at ≡ 0 → IsInChain told.links.items place at → ⊥
      no_chain place at end (here _ is) = absurd (omega (arith, is, end))
      no_chain place at end (earlier _ other link is found next) = absurd (omega (arith, is, end))

      pub chain_followed : (first now : Found I) (at : ℕ) → at ≡ 0 → IsFollowing first now at
          → Finds same (λ other. Contains (told_of same told) (other, goal)) first now
      chain_followed first now at end all = record {
        listed = all.listed;
        places = all.places;
        found = λ other has. elim (all.found other has) [
          | inl it ↦ it
          | inr ahead ↦ absurd (no_chain ahead.place at end ahead.chain)
        ];
        only = all.only;
      }

  -- ---- all goals

  module _ (asks : List (I × I)) where
    -- who asks one of the first so many goals is found
    pub record AreFollowed (first now : Found I) (count : ℕ) : Type 0 where
      pub listed : AreListed same now
      pub kept : (goal : I) → IsFound first goal → IsFound now goal
      pub followed : (at : ℕ) (goal other : I) → at < count → slice_get now.goals.items at ≡ Some goal
          → Contains asks (other, goal) → IsFound now other
      pub only : (goal : I) → IsFound now goal → IsReached asks first goal

    pub no_goal_followed : (first : Found I) → AreListed same first → AreFollowed first first 0
    no_goal_followed first listed = record {
      listed = listed;
      kept = λ goal it. it;
      followed = λ at goal other none. absurd (omega (arith, none));
      only = λ goal it. there goal it;
    }

    -- what stands at an earlier place stood there
    stood : (old new : List I) (at place : ℕ) (goal last : I)
        → ((k : ℕ) (other : I) → slice_get old k ≡ Some other → slice_get new k ≡ Some other)
        → slice_get old place ≡ Some last → at ≤ place → slice_get new at ≡ Some goal → slice_get old at ≡ Some goal
    stood old new at place goal last places is less now =
        let within : at < length old = omega (arith, less, slice_get_within old place last is) in
        let was = slice_get-get_or old at last within in
        was ∙ sym (places at (get_or old at last) was) ∙ now

    pub goal_followed : (first now new : Found I) (place : ℕ) (goal : I) → AreFollowed first now place
        → slice_get now.goals.items place ≡ Some goal
        → Finds same (λ other. Contains asks (other, goal)) now new → AreFollowed first new (place + 1)
    goal_followed first now new place goal so_far is finds = record {
      listed = finds.listed;
      kept = λ other it. found_still same (λ x. Contains asks (x, goal)) now new finds other (so_far.kept other it);
      followed = λ at one other less stands has.
          let was = stood now.goals.items new.goals.items at place one goal finds.places is (omega (arith, less))
          stands in
          elim (cases_eq at place) [
            | inl same_place ↦
                let here_is : Some one ≡ Some goal = sym was ∙ ap (slice_get now.goals.items) same_place ∙ is in
                let one_is : one ≡ goal = cc in
                finds.found other (subst (λ g. Contains asks (other, g)) one_is has)
            | inr apart ↦
                let other_place : at ≢ place = apart in
                found_still same (λ x. Contains asks (x, goal)) now new finds other
                (so_far.followed at one other (omega (arith, less)) was has)
          ];
      only = λ other it. elim (finds.only other it) [
        | inl before ↦ so_far.only other before
        | inr has ↦ asker other goal has (so_far.only goal (at_member now.goals.items place goal is))
      ];
    }

    pub all_goals_followed : (first now : Found I) (count : ℕ) → length now.goals.items ≤ count
        → AreFollowed first now count → FollowsAll same asks first now
    all_goals_followed first now count past all = record {
      listed = all.listed;
      kept = all.kept;
      closed = λ goal other it has. all.followed it.0 goal other (omega (arith, it.1, past))
          (member_at now.goals.items goal it) has;
      only = all.only;
    }

    -- what is reached from these goals alone is concerned
    module _ (changed : List I) (empty first now : Found I) (none : empty.goals.items ≡ [])
        (noted : Finds same (λ other. Contains changed other) empty first) (all : FollowsAll same asks first now) where
      first_changed : (goal : I) → IsFound first goal → Contains changed goal
      first_changed goal it = elim (noted.only goal it) [
        | inl before ↦ let has = subst (λ l. Contains l goal) none before in absurd (omega (arith, has.1))
        | inr is ↦ is
      ]

      reached_concerned : (goal : I) → IsReached asks first goal → IsConcerned asks changed goal
      reached_concerned goal (there _ it) = concerned.itself goal (first_changed goal it)
      reached_concerned goal (asker _ asked has next) =
          concerned.asker goal asked has (reached_concerned asked next)

      concerned_found : (goal : I) → IsConcerned asks changed goal → IsFound now goal
      concerned_found goal (concerned.itself _ it) = all.kept goal (noted.found goal it)
      concerned_found goal (concerned.asker _ asked has next) =
          all.closed asked goal (concerned_found asked next) has

      pub all_found : (goal : I) → IsFound now goal ↔ IsConcerned asks changed goal
      all_found goal = (λ it. reached_concerned goal (all.only goal it), concerned_found goal)

-- ---- what is read at a place

item_copied : {I : Type 0} (goals : List I) (place : ℕ) (got : Option (Bor I)) → IsItemAt goals place got
    → option_copied got ≡ slice_get goals place
item_copied goals place None is = sym (slice_get_past goals place is.3)
item_copied goals place (Some x) is = sym (slice_get_read goals (length goals) place x.now refl is.3.0 is.1)

pub place_read : {I : Type 0} (goals read : List I) (place : ℕ) (got : Option (Bor I)) (copied : Option I)
    → read ≡ goals → IsItemAt read place got → copied ≡ option_copied got → slice_get goals place ≡ copied
place_read goals read place got copied same at is =
    ap (λ xs. slice_get xs place) (sym same) ∙ sym (item_copied read place got at) ∙ sym is

-- nothing stands from here on
pub past_all : {I : Type 0} (goals : List I) (place : ℕ) → slice_get goals place ≡ None → length goals ≤ place
past_all [] place none = omega arith
past_all (goal ∷ goals) zero none = absurd cc
past_all (goal ∷ goals) (suc place) none = let l = past_all goals place none in omega (arith, l)
