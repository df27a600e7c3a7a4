-- Edges that lead to a node of the same number.
use Rattle.std.proofs.Common.{◌≡◌, ℕ, Bool, true, ◌&&◌, ◌==◌, nat_le, List, slice_index, Contains, sym, subst}
use Rattle.std.proofs.lemmas.Bool.{and_from, and_parts, eq-eqb, eqb-true, le-leb, leb-true}
use Rattle.std.proofs.lemmas.List.Folds.{Any-from_list_any, list_any_at}
use Rattle.std.specs.List.{list_any}
use Rattle.graph_check.specs.Below.{PathKind, rank_of, Edge}
use Rattle.graph_check.specs.Words.{IsBetween, leads_to}

module _ {I : Type 0} (numbers : List ℕ) (number : ℕ) (least most : PathKind) where
  abbrev test : Edge I → Bool
  test = leads_to numbers number least most

  -- an edge that leads to the number
  pub record Leading (edges : List (Edge I)) : Type 0 where
    pub edge : Edge I
    pub has : Contains edges edge
    pub kind : IsBetween least most edge.kind
    pub same : slice_index numbers edge.target ≡ number

  passed : (edges : List (Edge I)) (e : Edge I) → Contains edges e → test e ≡ true → Leading edges
  passed edges e has pass =
      let both = and_parts (nat_le (rank_of least) (rank_of e.kind) && nat_le (rank_of e.kind) (rank_of most))
      (slice_index numbers e.target == number) pass in
      let kinds = and_parts (nat_le (rank_of least) (rank_of e.kind)) (nat_le (rank_of e.kind) (rank_of most)) both.0 in
      record {
        edge = e;
        has = has;
        kind = record {
          from_least = leb-true (rank_of least) (rank_of e.kind) kinds.0;
          to_most = leb-true (rank_of e.kind) (rank_of most) kinds.1;
        };
        same = eqb-true (slice_index numbers e.target) number both.1;
      }

  pub leading_of : (edges : List (Edge I)) → list_any test edges ≡ true → Leading edges
  leading_of edges h =
      let a = Any-from_list_any test edges h in
      passed edges a.1 (a.0, a.2, a.3) a.4

  pub leading_passes : (edges : List (Edge I)) → Leading edges → list_any test edges ≡ true
  leading_passes edges w =
      let e = w.edge in
      let kinds = and_from (nat_le (rank_of least) (rank_of e.kind)) (nat_le (rank_of e.kind) (rank_of most))
      (le-leb (rank_of least) (rank_of e.kind) w.kind.from_least)
      (le-leb (rank_of e.kind) (rank_of most) w.kind.to_most) in
      let pass : test e ≡ true =
      and_from (nat_le (rank_of least) (rank_of e.kind) && nat_le (rank_of e.kind) (rank_of most))
      (slice_index numbers e.target == number) kinds
      (eq-eqb (slice_index numbers e.target) number w.same) in
      list_any_at test edges w.has.0 e w.has.1 (subst (λ (x : Edge I). test x ≡ true) (sym w.has.2) pass)
