-- Values that are spelled one after the other.
use Rattle.std.proofs.Common.{◌≡◌, ◌∙◌, ◌+◌, ◌<◌, ◌≤◌, ap, append_assoc, drop, get_or, length, List, [], ◌∷◌, ◌++◌}
use Rattle.std.proofs.Common.{map, refl, sym, take, ℕ, arith}
use Rattle.std.proofs.lemmas.List.{append-nil, drop_all, length-append, map-append, take_all, take_more}
use Rattle.graph_words.specs.Words.{PutsWords, list_words}

-- ---- what is written

-- nothing is appended yet
pub puts_none : (words : List ℕ) → PutsWords words words (λ rest. rest)
puts_none words = λ rest. refl

-- and then one word
pub puts_word : (old mid new : List ℕ) (word wanted : ℕ) (spelled : List ℕ → List ℕ) → PutsWords old mid spelled
    → new ≡ mid ++ word ∷ [] → word ≡ wanted → PutsWords old new (λ rest. spelled (wanted ∷ rest))
puts_word old mid new word wanted spelled so_far one same = λ rest.
    ap (λ ws. ws ++ rest) (one ∙ ap (λ w. mid ++ w ∷ []) same) ∙ append_assoc mid (wanted ∷ []) rest
    ∙ so_far (wanted ∷ rest)

-- or several
pub puts_all : (old mid new : List ℕ) (first second : List ℕ → List ℕ) → PutsWords old mid first
    → PutsWords mid new second → PutsWords old new (λ rest. first (second rest))
puts_all old mid new first second so_far more = λ rest. more rest ∙ so_far (second rest)

-- one value more of the first ones of a list, as `view` sees them
pub taken_more : {A B : Type 0} (view : B → A) (xs : List B) (i : ℕ) (x d : B) → i < length xs → x ≡ get_or xs i d
    → map view (take (i + 1) xs) ≡ map view (take i xs) ++ view x ∷ []
taken_more view xs i x d below is = ap (map view) (take_more xs i d below)
    ∙ map-append view (take i xs) (get_or xs i d ∷ []) ∙ ap (λ y. map view (take i xs) ++ view y ∷ []) (sym is)

module _ {A : Type 0} (spelled : A → List ℕ → List ℕ) where
  pub list_words-push : (xs : List A) (x : A) (rest : List ℕ)
      → list_words spelled (xs ++ x ∷ []) rest ≡ list_words spelled xs (spelled x rest)
  list_words-push [] x rest = refl
  list_words-push (first ∷ xs) x rest = ap (spelled first) (list_words-push xs x rest)

  -- one value more of a list
  pub list_pushed : (old mid new : List ℕ) (before : List ℕ → List ℕ) (xs ys : List A) (x : A)
      → ys ≡ xs ++ x ∷ [] → PutsWords old mid (λ rest. before (list_words spelled xs rest))
      → PutsWords mid new (spelled x) → PutsWords old new (λ rest. before (list_words spelled ys rest))
  list_pushed old mid new before xs ys x more so_far one = λ rest.
      one rest ∙ so_far (spelled x rest)
      ∙ ap (λ ws. old ++ before ws)
      (sym (ap (λ zs. list_words spelled zs rest) more ∙ list_words-push xs x rest))

  -- the same of the next one in a list
  pub list_more : (old mid new : List ℕ) (before : List ℕ → List ℕ) (xs : List A) (i : ℕ) (x d : A)
      → i < length xs → x ≡ get_or xs i d
      → PutsWords old mid (λ rest. before (list_words spelled (take i xs) rest)) → PutsWords mid new (spelled x)
      → PutsWords old new (λ rest. before (list_words spelled (take (i + 1) xs) rest))
  list_more old mid new before xs i x d below is so_far one =
      list_pushed old mid new before (take i xs) (take (i + 1) xs) x
      (take_more xs i d below ∙ ap (λ y. take i xs ++ y ∷ []) (sym is)) so_far one

  -- ---- what is read

  -- one value more is read
  pub read_more : (before : List ℕ → List ℕ) (xs ys : List A) (x : A) (whole left after : List ℕ)
      → whole ≡ before (list_words spelled xs left) → left ≡ spelled x after → ys ≡ xs ++ x ∷ []
      → whole ≡ before (list_words spelled ys after)
  read_more before xs ys x whole left after so_far one same =
      so_far ∙ ap (λ words. before (list_words spelled xs words)) one
      ∙ sym (ap (λ zs. before (list_words spelled zs after)) same ∙ ap before (list_words-push xs x after))

pub length-pushed : {A : Type 0} (xs ys : List A) (x : A) (n : ℕ) → ys ≡ xs ++ x ∷ [] → length xs ≡ n
    → length ys ≡ n + 1
length-pushed xs ys x n same before = let more = simp length-append at (ap length same) in omega (arith, more, before)

pub mapped_pushed : {A B : Type 0} (view : B → A) (xs ys : List B) (x : B) → ys ≡ xs ++ x ∷ []
    → map view ys ≡ map view xs ++ view x ∷ []
mapped_pushed view xs ys x same = ap (map view) same ∙ map-append view xs (x ∷ [])

-- a loop that writes f x over each element x of a list has come to its end
pub map_finished : {A : Type 0} (f : A → A) (xs ys : List A) (i : ℕ) → length xs ≤ i
    → ys ≡ map f (take i xs) ++ drop i xs → ys ≡ map f xs
map_finished f xs ys i past so_far =
    so_far ∙ ap (λ zs. map f zs ++ drop i xs) (take_all i xs past)
    ∙ ap (λ zs. map f xs ++ zs) (drop_all i xs past) ∙ append-nil (map f xs)

-- what is written to all elements of a vector is what it has then
pub written_back : {A : Type 0} (new old : List A) (len : ℕ) → len ≡ length old → length new ≡ length old
    → take len (new ++ drop (length new) old) ≡ new
written_back new old len all same =
    let past : length old ≤ length new = omega arith in
    let enough : length new ≤ len = omega arith in
    ap (λ zs. take len (new ++ zs)) (drop_all (length new) old past) ∙ ap (take len) (append-nil new)
    ∙ take_all len new enough
