-- Calls on a handle that is open, and what is handed out by them.
use Rattle.std.proofs.Common.{◌≡◌, ℕ, List, Option, Some, IfSome, MatchOption, subst, sym}
use Rattle.std.specs.Option.{IsSomeAnd}
use Rattle.mirfodwel.specs.Handed.{IsHandedOut, IsThis}

pub on_open : {A : Type 0} (P : Type 0) (Q : A → Type 0) (o : Option A) (x : A) → o ≡ Some x → Q x → MatchOption o P Q
on_open {A} P Q o x is q = subst (λ (it : Option A). MatchOption it P Q) (sym is) q

-- what holds of a value that is there
pub held_of : {A : Type 0} (o : Option A) (x : A) → o ≡ Some x → (P : A → Type 0) → IfSome o P → P x
held_of {A} o x is P h = subst (λ (it : Option A). IfSome it P) is h

pub known_of : {A : Type 0} (o : Option A) (x : A) → o ≡ Some x → (P : A → Type 0) → IsSomeAnd o P → P x
known_of {A} o x is P h = subst (λ (it : Option A). IsSomeAnd it P) is h

pub given : {A : Type 0} {P : List A → Type 0} {all old new : List A} {used status : ℕ}
    → IsHandedOut (IsThis 0 all) old new used status → P all
    → IsHandedOut (λ own its. (own ≡ 0) × P its) old new used status
given {A} {P} h p = record {
  own_status = h.own_status;
  all = h.all;
  came = (h.came.0, subst P (sym h.came.1) p);
  count = h.count;
  fits = h.fits;
  no_room = h.no_room;
}
