-- Finished nodes, as a test and by their edges.
use Rattle.std.proofs.Common.{◌≡◌, ℕ, List, Option, Some, None, slice_get, IsTrue, refl, ap, ◌∙◌}
use Rattle.open_graphs.specs.Words.{Verdict, Yes, No, Neither, Node, Unfinished, Finished, IsFinished}
use Rattle.open_graphs.specs.Words.{same_verdict, has_verdict}

pub same : (verdict other : Verdict) → IsTrue (same_verdict verdict other) → other ≡ verdict
same Yes Yes h = refl
same No No h = refl
same Neither Neither h = refl
same _ _ h = absurd (cc)

self : (verdict : Verdict) → IsTrue (same_verdict verdict verdict)
self Yes = refl
self No = refl
self Neither = refl

at_option : (nodes : List Node) (verdict : Verdict) (a : ℕ) (o : Option Node) → slice_get nodes a ≡ o
    → IsTrue (has_verdict verdict o) → IsFinished nodes verdict a
at_option nodes verdict a None e h = absurd (cc)
at_option nodes verdict a (Some Unfinished) e h = absurd (cc)
at_option nodes verdict a (Some (Finished other edges)) e h =
    (edges, e ∙ ap (λ v. Some (Finished v edges)) (same verdict other h))

pub edges_of : (nodes : List Node) (verdict : Verdict) (a : ℕ)
    → IsTrue (has_verdict verdict (slice_get nodes a)) → IsFinished nodes verdict a
edges_of nodes verdict a h = at_option nodes verdict a (slice_get nodes a) refl h

pub is_finished : (nodes : List Node) (verdict : Verdict) (a : ℕ) → IsFinished nodes verdict a
    → IsTrue (has_verdict verdict (slice_get nodes a))
is_finished nodes verdict a f = ap (has_verdict verdict) f.1 ∙ self verdict
