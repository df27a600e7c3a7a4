-- A search that has found nothing yet.
use Rattle.std.proofs.Common.{◌≡◌, ℕ, zero, suc, ◌≤◌, List, [], ◌∷◌, length, map, slice_index, slice_index_or}
use Rattle.std.proofs.Common.{replicate, refl, sym, ap, ◌∙◌, subst, arith}
use Rattle.std.proofs.lemmas.List.{length-map}
use Rattle.std.proofs.lemmas.List.Sums.{count_by-le-length}
use Rattle.std.specs.Global.{Vec}
use Rattle.std.specs.List.{count_by}
use Rattle.std.specs.Vec.{vec_len}
use Rattle.strong_components.specs.Words.{State, New, IsOngoing, is_new, state_at, successor_lists}

all_new : (n a : ℕ) → state_at (replicate n New) a ≡ New
all_new zero a = refl
all_new (suc n) zero = refl
all_new (suc n) (suc a) = all_new n a

as_many : (n : ℕ) → length (replicate n New) ≡ n
as_many zero = refl
as_many (suc n) = ap suc (as_many n)

new_counted : (n : ℕ) → count_by is_new (replicate n New) ≤ n
new_counted n =
    subst (λ most. count_by is_new (replicate n New) ≤ most) (as_many n) (count_by-le-length is_new (replicate n New))

lengths_at : (graph : List (List ℕ)) (a : ℕ) → slice_index (map length graph) a ≡ length (slice_index_or graph a [])
lengths_at [] a = refl
lengths_at (l ∷ ls) zero = refl
lengths_at (l ∷ ls) (suc a) = lengths_at ls a

-- the lengths that the lists tell are those of their items
pub told_lengths : (graph : List (Vec ℕ)) → map vec_len graph ≡ map length (successor_lists graph)
told_lengths [] = refl
told_lengths (l ∷ ls) =
    let ok = l.ok in
    let told : vec_len l ≡ length l.items = omega arith in
    ap (λ n. n ∷ map vec_len ls) told ∙ ap (λ list. length l.items ∷ list) (told_lengths ls)

-- and there are as many of them
pub told_states : (graph : List (Vec ℕ)) (states : List State) → states ≡ replicate (length graph) New
    → states ≡ replicate (length (successor_lists graph)) New
told_states graph states new =
    new ∙ ap (λ n. replicate n New) (sym (length-map graph (λ (successors : Vec ℕ). successors.items)))

-- no place is found, and all successors are left
nothing_found : (graph : List (List ℕ)) → IsOngoing graph (replicate (length graph) New) (map length graph) [] [] [] 0
nothing_found graph =
    let new = all_new (length graph) in
    let at = lengths_at graph in
    record {
      fit = as_many (length graph);
      are_opened = record { found = λ a i is. let same = new a in cc; placed = λ i lt. absurd (omega arith) };
      is_path = record {
        path_rises = λ j k lt within. absurd (omega arith);
        path_inside = λ k lt. absurd (omega arith);
        starts_rise = λ j k lt within. absurd (omega arith);
        starts_on_path = λ k lt. absurd (omega arith);
        first = λ lt. absurd (omega arith);
      };
      are_left = record {
        fit = length-map graph length;
        inside = λ a. omega (arith, at a);
        at_new = λ a is. omega (arith, at a);
        at_open = λ a i is. let same = new a in cc;
        at_closed = λ a number is. let same = new a in cc;
      };
      open_reach = λ a b i j is other from. let same = new a in cc;
      closed_reach = λ a b number is other. let same = new a in cc;
      looked_at = λ a k within seen. absurd (omega (arith, at a));
      numbered = λ a number is. let same = new a in cc;
      used = λ number below. absurd (omega arith);
      room = omega (arith, new_counted (length graph));
    }

pub starts_as : (graph : List (List ℕ)) (states : List State) (left opened starts path : List ℕ)
    → states ≡ replicate (length graph) New → left ≡ map length graph → opened ≡ [] → starts ≡ [] → path ≡ []
    → IsOngoing graph states left opened starts path 0
starts_as graph states left opened starts path new all none_opened none_started no_path =
    subst (λ list. IsOngoing graph list left opened starts path 0) (sym new)
    (subst (λ list. IsOngoing graph (replicate (length graph) New) list opened starts path 0) (sym all)
    (subst (λ list. IsOngoing graph (replicate (length graph) New) (map length graph) list starts path 0)
    (sym none_opened)
    (subst (λ list. IsOngoing graph (replicate (length graph) New) (map length graph) [] list path 0) (sym none_started)
    (subst (λ list. IsOngoing graph (replicate (length graph) New) (map length graph) [] [] list 0)
    (sym no_path) (nothing_found graph)))))
