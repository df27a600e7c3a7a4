-- Which kinds the sets have that `iter_paths` and `extend_with_paths` give.
use Rattle.std.proofs.Common.{[], ◌∷◌, ◌++◌, Contains, IsTrue, ◌↔◌, if◌then◌else◌, refl, sym, ◌∙◌, inl, inr, arith}
use Rattle.std.proofs.lemmas.Bool.{false≢true}
use Rattle.std.proofs.lemmas.List.Elements.{Contains-append_right}
use Rattle.path_kinds.specs.Words.{PathKind, Inductive, Unknown, Coinductive, ForcedAmbiguity, PathsToNested}
use Rattle.path_kinds.specs.Words.{greater_kind, extended, extended_by_each, has_empty, has_kind, kinds_in, no_paths}
use Rattle.list_lemmas.proofs.Members.{Contains-filtered, Contains-mapped, filtered_member}
use Rattle.path_kinds.proofs.PathLaws.{each_set, extended-kinds, has_kind-none, some_set}
use Rattle.path_kinds.proofs.PathRanks.{each_kind}

among_all : (kind : PathKind) → Contains (Inductive ∷ Unknown ∷ Coinductive ∷ ForcedAmbiguity ∷ []) kind
among_all = each_kind (Contains (Inductive ∷ Unknown ∷ Coinductive ∷ ForcedAmbiguity ∷ [])) (0, omega arith, refl)
    (1, omega arith, refl) (2, omega arith, refl) (3, omega arith, refl)

-- `iter_paths` gives exactly the kinds of the set
pub kinds_in-has : (paths : PathsToNested) (kind : PathKind)
    → Contains (kinds_in paths) kind ↔ IsTrue (has_kind paths kind)
kinds_in-has paths kind =
    let all = Inductive ∷ Unknown ∷ Coinductive ∷ ForcedAmbiguity ∷ [] in (
      λ there. (filtered_member (has_kind paths) all kind there).1,
      Contains-filtered (has_kind paths) all kind (among_all kind),
    )

-- a path of the set is in the set after a step, with the greater kind
pub extended-has : (paths : PathsToNested) (step kind : PathKind)
    → IsTrue (has_kind paths kind) → IsTrue (has_kind (extended paths step) (greater_kind step kind))
extended-has paths step kind there =
    let none = if has_empty paths then Inductive ∷ [] else [] in
    (extended-kinds paths step (greater_kind step kind)).1
    (Contains-mapped (greater_kind step) (none ++ kinds_in paths) kind
    (Contains-append_right none (kinds_in paths) kind ((kinds_in-has paths kind).1 there)))

-- the sets after each path of another set have together the kinds that one of them has
pub extended_by_each-kinds : (paths more : PathsToNested) (kind : PathKind)
    → IsTrue (has_kind (extended_by_each paths more) kind)
    ↔ ((step : PathKind) × IsTrue (has_kind more step) × IsTrue (has_kind (extended paths step) kind))
extended_by_each-kinds paths more kind = (
  λ h. elim (some_set (extended paths) (kinds_in more) no_paths kind h) [
    | inl none ↦ absurd (false≢true (sym (has_kind-none kind) ∙ none))
    | inr some ↦ (some.0, (kinds_in-has more some.0).0 some.1, some.2)
  ],
  λ some. each_set (extended paths) (kinds_in more) no_paths kind some.0 ((kinds_in-has more some.0).1 some.1) some.2,
)
