-- The parts of a box are the box under another name. Assumes `Logic`.
--     Parts, parts      the parts as a row, at the parameters of a box; those of the box of x in a block
--     boxed             the box that has the parts
--     Lies, Handle      x lies in its block, which the allocator can free; what the allocator owns
--     boxes, unboxes    what owns the one owns the other, at the same machine value
--     taken, packs      the parts by value are a value in its block and an allocator; and the way back
use mathlib.Core.Path.{◌≡◌, refl}
use Prim.Native.Nat.{ℕ}
use mathlib.Core.List.{List, [], ◌∷◌}
use seplogic.Ra.Ura.{Ura}
use mir.Val.{Val}
use types.Logic.{Logic}
use types.Kit.{Goal, Seq, Step, step, Item, ‵, ◌$◌, fsplit, fjoin}
use denote.RattleType.{RattleType}
use denote.RawPtr.{Ptr, block_ptr}
use Rattle.core.proofs.alloc.Calls.{token, Fits}
use Rattle.std_alloc.specs.Box.Ownership.{box_owns}
use Rattle.std_alloc.proofs.BoxSteps.Form.{Bx, X, R, P, B, D, word, handle}
use Rattle.std_alloc.proofs.BoxSteps.Steps.{box_out, box_in}
use Rattle.unboxed.specs.contracts.Unboxed as unboxed

module _ (E : Bx) where
  abbrev pub Parts : RattleType
  Parts = unboxed.the_row (R E) (P E) E.al.g

  abbrev pub parts : E.al.row.Denot → X E → ℕ → ℕ → Parts.Denot
  parts alloc x b o = record { address = block_ptr b o; alloc = alloc; value = x }

  abbrev pub boxed : Parts.Denot → D E
  boxed u = record { ptr = u.address; alloc = u.alloc; value = u.value }

  module _ {M : Type 1} {𝓤 : Ura M} where
    abbrev pub Lies : E.al.row.Denot → X E → Ptr → Item 𝓤
    Lies alloc x p = ‵ (box_owns (token E.al alloc) (R E) p x)

    abbrev pub Handle : E.al.row.Denot → Val → Item 𝓤
    Handle alloc hv = ‵ (handle E alloc hv)

  module _ {M : Type 1} {𝓤 : Ura M} {𝓛 : Logic 𝓤} {K : Type 0} {Γ : List (Item 𝓤)} {G : Goal 𝓤 𝓛.H} where
    pub boxes : K → (u : Parts.Denot) (vs : List Val)
        → Step K 𝓛 (‵ ((B E).own_val (boxed u) vs) ∷ Γ) G (‵ (Parts.own_val u vs) ∷ Γ) G
    boxes t u vs = step (λ s. s)

    pub unboxes : K → (u : Parts.Denot) (vs : List Val)
        → Step K 𝓛 (‵ (Parts.own_val u vs) ∷ Γ) G (‵ ((B E).own_val (boxed u) vs) ∷ Γ) G
    unboxes t u vs = step (λ s. s)

  module _ {M : Type 1} {𝓤 : Ura M} {𝓛 : Logic 𝓤} {K : Type 0} {Γ : List (Item 𝓤)} {G : Goal 𝓤 𝓛.H} where
    pub taken : K → (u : Parts.Denot) (vs : List Val)
        → ((b o : ℕ) (hv : Val) → u.address ≡ block_ptr b o → vs ≡ word E hv b o ∷ [] → Fits E.al hv
        → Seq K 𝓛 (Lies u.alloc u.value (block_ptr b o) ∷ Handle u.alloc hv ∷ Γ) G)
        → Seq K 𝓛 (‵ (Parts.own_val u vs) ∷ Γ) G
    taken t u vs next = boxes t u vs $ box_out E t (boxed u) vs (λ b o hv in_block stored fits.
        fjoin t $ next b o hv in_block stored fits)

    pub packs : K → (alloc : E.al.row.Denot) (x : X E) (b o : ℕ) (hv : Val)
        → Step K 𝓛 (‵ (Parts.own_val (parts alloc x b o) (word E hv b o ∷ [])) ∷ Γ) G
        (Lies alloc x (block_ptr b o) ∷ Handle alloc hv ∷ Γ) G
    packs t alloc x b o hv = step (λ s. let u = parts alloc x b o in
        fsplit t $ box_in E t (boxed u) b o x refl refl $ unboxes t u (word E hv b o ∷ []) $ s)
