-- Path kinds from the entries of a stack.
use Rattle.std.proofs.Common.{◌≡◌, ℕ, zero, suc, ◌<◌, ◌≤◌, max, List, [], ◌∷◌, ◌++◌, length, take, drop, arith, refl}
use Rattle.std.proofs.Common.{ap, sym, ◌∙◌}
use Rattle.std.proofs.lemmas.List.{take-append-le}
use Rattle.open_graphs.specs.Words.{Entry, greatest, path_kind, path_through}

pub greatest_max : (a b : ℕ) (es : List Entry) → greatest (max a b) es ≡ max a (greatest b es)
greatest_max a b [] = refl
greatest_max a b (e ∷ es) = let h : greatest (max a b) es ≡ max a (greatest b es) = greatest_max a b es in omega arith

pub greatest_end : (k : ℕ) (es : List Entry) (top : Entry) → greatest k (es ++ top ∷ []) ≡ max k (greatest top.step es)
greatest_end k [] top = omega arith
greatest_end k (e ∷ es) top =
    let h : greatest k (es ++ top ∷ []) ≡ max k (greatest top.step es) = greatest_end k es top in omega arith

pub greatest_split : (n k : ℕ) (es : List Entry) → greatest (greatest k (drop n es)) (take n es) ≡ greatest k es
greatest_split zero k es = refl
greatest_split (suc n) k [] = refl
greatest_split (suc n) k (e ∷ es) = ap (λ x. max e.step x) (greatest_split n k es)

pub step_le : (k : ℕ) (es : List Entry) → k ≤ greatest k es
step_le k [] = omega arith
step_le k (e ∷ es) = let h : k ≤ greatest k es = step_le k es in omega arith

-- the path kind from an entry below the top is that through the top's step; from the top it is the step
pub path_kind_below : (below : List Entry) (top : Entry) (k depth : ℕ) → depth < length below
    → path_kind (below ++ top ∷ []) k depth ≡ max k (path_kind below top.step depth)
path_kind_below [] top k depth h = omega arith
path_kind_below (e ∷ es) top k zero h = greatest_end k es top
path_kind_below (e ∷ es) top k (suc depth) h = path_kind_below es top k depth (omega arith)

pub path_kind_top : (below : List Entry) (top : Entry) (k : ℕ) → path_kind (below ++ top ∷ []) k (length below) ≡ k
path_kind_top [] top k = refl
path_kind_top (e ∷ es) top k = path_kind_top es top k

pub through_step : (stack : List Entry) (highest k depth : ℕ) → depth ≤ highest
    → path_through stack highest (path_kind stack k highest) depth ≡ path_kind stack k depth
through_step [] highest k depth h = refl
through_step (e ∷ es) zero k zero h = refl
through_step (e ∷ es) zero k (suc depth) h = absurd (omega arith)
through_step (e ∷ es) (suc highest) k zero h = greatest_split (suc highest) k es
through_step (e ∷ es) (suc highest) k (suc depth) h = through_step es highest k depth (omega arith)

-- a push, and another top of the same step, change no path kind through a lower entry
pub through_push : (stack : List Entry) (top : Entry) (highest k depth : ℕ) → highest < length stack
    → path_through (stack ++ top ∷ []) highest k depth ≡ path_through stack highest k depth
through_push [] top highest k depth h = absurd (omega arith)
through_push (e ∷ es) top zero k zero h = refl
through_push (e ∷ es) top zero k (suc depth) h = refl
through_push (e ∷ es) top (suc highest) k zero h =
    ap (greatest k) (take-append-le (suc highest) es (top ∷ []) (omega arith))
through_push (e ∷ es) top (suc highest) k (suc depth) h = through_push es top highest k depth (omega arith)

pub greatest_same : (es : List Entry) (top again : Entry) (n k : ℕ) → again.step ≡ top.step
    → greatest k (take n (es ++ top ∷ [])) ≡ greatest k (take n (es ++ again ∷ []))
greatest_same es top again zero k e = refl
greatest_same [] top again (suc zero) k e = omega arith
greatest_same [] top again (suc (suc n)) k e = omega arith
greatest_same (x ∷ es) top again (suc n) k e = ap (λ r. max x.step r) (greatest_same es top again n k e)

pub through_same : (below : List Entry) (top again : Entry) (highest k depth : ℕ) → again.step ≡ top.step
    → path_through (below ++ top ∷ []) highest k depth ≡ path_through (below ++ again ∷ []) highest k depth
through_same [] top again zero k zero e = refl
through_same [] top again zero k (suc depth) e = refl
through_same [] top again (suc highest) k zero e = refl
through_same [] top again (suc highest) k (suc depth) e = refl
through_same (x ∷ es) top again zero k zero e = refl
through_same (x ∷ es) top again zero k (suc depth) e = refl
through_same (x ∷ es) top again (suc highest) k zero e = greatest_same es top again (suc highest) k e
through_same (x ∷ es) top again (suc highest) k (suc depth) e = through_same es top again highest k depth e

-- the path kind on record at the top is that through it, and after the top is popped that through its new highest head
pub through_top : (below : List Entry) (top : Entry) (path depth : ℕ) → depth ≤ length below
    → path_through (below ++ top ∷ []) (length below) path depth ≡ path_kind (below ++ top ∷ []) path depth
through_top below top path depth h =
    ap (λ x. path_through (below ++ top ∷ []) (length below) x depth) (sym (path_kind_top below top path))
    ∙ through_step (below ++ top ∷ []) (length below) path depth h

pub through_popped : (below : List Entry) (step path highest depth : ℕ) → depth ≤ highest
    → path_through below highest (max path (path_kind below step highest)) depth ≡ max path (path_kind below step depth)
through_popped below step path highest depth h =
    greatest_max path (path_kind below step highest) (drop (suc depth) (take (suc highest) below))
    ∙ ap (λ x. max path x) (through_step below highest step depth h)
