-- Path kinds and their ranks.
use Rattle.std.proofs.Common.{◌≡◌, ℕ, max, nat_eq, if◌then◌else◌, refl, sym, ◌∙◌, ap}
use Rattle.path_kinds.specs.Words.{PathKind, Inductive, Unknown, Coinductive, ForcedAmbiguity, rank_of, greater_kind}

-- what holds of the four kinds holds of each
pub each_kind : (P : PathKind → Type 0) → P Inductive → P Unknown → P Coinductive
    → P ForcedAmbiguity → (kind : PathKind) → P kind
each_kind P i u c f Inductive = i
each_kind P i u c f Unknown = u
each_kind P i u c f Coinductive = c
each_kind P i u c f ForcedAmbiguity = f

kind_of_rank : ℕ → PathKind
kind_of_rank n = if nat_eq n 0 then Inductive
    else if nat_eq n 1 then Unknown else if nat_eq n 2 then Coinductive else ForcedAmbiguity

-- the rank tells the kind
kind_back : (k : PathKind) → kind_of_rank (rank_of k) ≡ k
unfolding kind_of_rank
kind_back = each_kind (λ k. kind_of_rank (rank_of k) ≡ k) refl refl refl refl

-- kinds of one rank are the same
pub same_kind : (k l : PathKind) → rank_of k ≡ rank_of l → k ≡ l
same_kind k l e = sym (kind_back k) ∙ (ap kind_of_rank e ∙ kind_back l)

-- the rank of the greater kind is the greater rank
pub greater_rank : (k l : PathKind) → max (rank_of k) (rank_of l) ≡ rank_of (greater_kind k l)
greater_rank k l =
    let holds = λ (k l : PathKind). max (rank_of k) (rank_of l) ≡ rank_of (greater_kind k l) in
    each_kind (λ k. holds k l) (each_kind (holds Inductive) refl refl refl refl l)
    (each_kind (holds Unknown) refl refl refl refl l)
    (each_kind (holds Coinductive) refl refl refl refl l) (each_kind (holds ForcedAmbiguity) refl refl refl refl l) k
