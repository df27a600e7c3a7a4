-- The machine values of an address. Assumes `Logic`.
--     Session            the box that an address leads to
--     word               an address as it is stored
--     some_of            what an option holds, where it holds something
--     address_in         an address is made of what it leads to
--     address_out        and is that, with the pointer for its word
use Rattle.std.proofs.Common.{◌≡◌, Bool, true, false, List, [], ◌∷◌, ◌++◌, refl, subst}
use seplogic.Ra.Ura.{Ura}
use mir.Syntax.{impl, tnil, dnil}
use mir.Val.{Val, vstruct, vcons, vnil, of_list}
use types.Logic.{Logic}
use types.Kit.{Item, Goal, Seq, Step, step, ‵, ◌$◌, drop, fsplit, fjoin, fpick, fpack, feq_i, feq_l}
use denote.RattleType.{Valss}
use denote.Builtin.{RawPtr}
use denote.RawPtr.{Ptr, ptr_val}
use denote.Steps.{nothing}
use denote.Struct.Struct.{within}
use denote.Struct.Owning.{shape}
use Rattle.std.specs.Prelude.{Option, None, Some, IsSome}
use Rattle.std.specs.contracts.alloc.Global as heap
use Rattle.std.specs.contracts.impls.GlobalAllocator.TheImpl.{ghosts}
use Rattle.std.proofs.alloc.Global.TheLaws as heap_laws
use Rattle.std_alloc.proofs.BoxSteps.Form.{Bx}
use Rattle.mirfodwel.specs.Held.{held}
use Rattle.mirfodwel.specs.declared.inside.Inside.{Inside}
use Rattle.mirfodwel.specs.contracts.inside.Inside as inside
use Rattle.mirfodwel.proofs.inside.Inside.TheLaws as inside_laws
use Rattle.mirfodwel.specs.contracts.address.Address as address

-- no step asks for the allocator's functions, so that none are given
abbrev pub Session : Bx
Session = record {
  row = inside.the_row;
  laws = inside_laws.the_row_laws;
  al = record {
    row = heap.the_row;
    laws = heap_laws.the_row_laws;
    g = ghosts;
    d = impl [] tnil dnil;
    drops = impl [] tnil dnil;
  };
}

abbrev pub word : Ptr → Val
word p = vstruct (vcons (ptr_val p) vnil)

abbrev is_none : Bool → Type 0
is_none true = ⊥
is_none false = Unit {0}

pub some_of : (o : Option Inside) → IsSome o → (x : Inside) × (o ≡ Some x)
some_of None some = absurd (subst is_none some tt)
some_of (Some x) some = (x, refl)

module _ {M : Type 1} {𝓤 : Ura M} {𝓛 : Logic 𝓤} {K : Type 0} {Γ : List (Item 𝓤)} {G : Goal 𝓤 𝓛.H} where
  pub address_in : K → (p : Ptr) (o : Option Inside)
      → Step K 𝓛 (‵ (address.the_row.own_val (record { at = p; inside = o }) (word p ∷ [])) ∷ Γ) G (‵ (held o p) ∷ Γ) G
  address_in t p o = step (λ s.
      -- what the field owns, which is a fact, and then the struct around it
      nothing t $ feq_i t (List Val) (ptr_val p ∷ []) (ptr_val p ∷ []) refl $ fjoin t $
      feq_i t (List Val) (word p ∷ []) (word p ∷ []) refl $ fjoin t $
      fpack t (Valss (RawPtr ∷ [])) (within (shape address.the_type) (p, tt) (word p ∷ [])) (ptr_val p ∷ [], tt) $
      fjoin t $ s)

  pub address_out : K → (d : address.the_row.Denot) (vs : List Val)
      → (vs ≡ word d.at ∷ [] → Seq K 𝓛 (‵ (held d.inside d.at) ∷ Γ) G)
      → Seq K 𝓛 (‵ (address.the_row.own_val d vs) ∷ Γ) G
  address_out t d vs next =
      fsplit t $ fpick t (λ fields. fsplit t $ feq_l t (λ struct_is. fsplit t $ feq_l t (λ field_is. drop t $
      next (subst (λ (ps : List Val). vs ≡ vstruct (of_list (ps ++ [])) ∷ []) field_is struct_is))))
