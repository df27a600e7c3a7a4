-- The two functions of a box that are called here, each as what it is given and what it gives back. Assumes `Logic`.
--     passed            what stands for the type parameters, and for their methods and drops
--     alive             the tokens of the type parameters' lifetimes, which a call is lent
--     outlived          that the types live as long as those
--     Opening           the triple of `into_raw_with_allocator`, and `to_open` what its caller picks
--     opened            it gives back the value in its block, at an address that is not null, and the allocator
--     Closing           the triple of `from_raw`, and `to_close` what its caller picks
--     closes            it is given the value in its block, and the allocator
--     closed            it gives back a box of that value, which is stored as a box is
use mathlib.Core.Path.{◌≡◌, refl, sym, ap, subst, ◌∙◌}
use Prim.Native.Nat.{ℕ}
use mathlib.Core.List.{List, [], ◌∷◌, ◌++◌}
use lib.Dec.{T}
use seplogic.Ra.Ura.{Ura}
use base.Fml.{ftrue, flft}
use base.Logic.{never, fst∗, id⊢}
use mir.Raw.{raw as bare}
use mir.Syntax.{Args, Dict, a_type, dcons, dnil}
use mir.Val.{Val, vptr, vstruct, of_list, has_ty, WT}
use prog.Model.{Model}
use types.Logic.{Logic, sem}
use types.Kit.{Goal, Soaks, Seq, Step, Item, step, ‵, raw, ◌⊛◌, some, later, ◌$◌, move, drop, use1, split, split3, join}
use types.Kit.{fsplit, fjoin, fpick, pick, await, rewrite, feq_i, feq_l}
use contract.BorrowLft.{◌⊑◌}
use contract.Lifetimes.{Lfts, Shares}
use contract.Monad.{fact}
use contract.Running.{Running}
use denote.Builtin.{RawPtr}
use denote.Param.{bounded}
use denote.RawPtr.{Ptr, block_ptr, null_ptr, ptr_val, in_a_block}
use denote.Steps.{nothing, heard, only}
use denote.Struct.Tuple.{Tuple}
use denote.Triple.Clauses.{Ended, Lasts, lasts}
use denote.Triple.Spec.{triple_of}
use denote.Triple.Statement.{Contract}
use Rattle.core.proofs.alloc.Calls.{token, Fits, handle_tells}
use Rattle.std_alloc.specs.Box.Ownership.{box_owns}
use Rattle.std_alloc.specs.contracts.boxed.Box.from_raw as from_raw
use Rattle.std_alloc.specs.contracts.boxed.Box.into_raw_with_allocator as into_raw
use Rattle.std_alloc.proofs.BoxSteps.Form.{Bx, X, D, τ, R, P, B, box_ty, word, box_typed}
use Rattle.std_alloc.proofs.BoxSteps.Steps.{box_out, box_in}
use Rattle.unboxed.proofs.Values.{Lies, Handle}

abbrev pub passed : Bx → Dict → Args
passed E dx = bounded (a_type ∷ a_type ∷ []) (E.row, (E.al.row, tt)) (dcons E.al.d (dcons dx (dcons E.al.drops dnil)))

module _ (E : Bx) {M : Type 1} {𝓤 : Ura M} where
  abbrev pub alive : Lfts 2 → Shares 2 → Item 𝓤
  alive κs qs = ‵ (flft κs.0 qs.0) ⊛ ‵ (flft κs.1.0 qs.1.0) ⊛ ‵ ftrue

  abbrev pub outlived : Lfts 2 → Item 𝓤
  outlived κs = raw (fact 𝓤 (κs.0 ⊑ E.row.lives)) ⊛ raw (fact 𝓤 (κs.1.0 ⊑ E.al.row.lives)) ⊛ ‵ ftrue

module _ (E : Bx) (dx : Dict) {M : Type 1} {𝓤 : Ura M} (𝓛 : Logic 𝓤) (𝓜 : Model 𝓤 𝓛.H) (𝓡 : Running 𝓤 𝓛.H 𝓜) where
  abbrev opens : Ended
  opens = into_raw.ended E.row E.al.row E.al.g E.al.d E.al.drops dx

  abbrev pub Opening : Contract 𝓤
  Opening = triple_of 𝓛 opens.signature
      (into_raw.spec E.row E.al.row E.al.g E.al.d E.al.drops dx 𝓛 𝓜.mem 𝓡.returns)

  abbrev pub to_open : Lfts 2 → Shares 2 → D E → Val → Opening.Ghost
  to_open κs qs box w = ((κs, qs, tt, (box, tt), (w ∷ [], tt)), tt)

  module _ {K : Type 0} {Γ : List (Item 𝓤)} {G : Goal 𝓤 𝓛.H} where
    pub opened : K → Soaks G → (κs : Lfts 2) (qs : Shares 2) (box : D E) (w v : Val)
        → ((b o : ℕ) (hv : Val) → v ≡ word E hv b o → Fits E.al hv
        → Seq K 𝓛 (Lies E box.alloc box.value (block_ptr b o) ∷ Handle E box.alloc hv ∷ alive E κs qs ∷ Γ) G)
        → Seq K 𝓛 (raw (Opening.post (to_open κs qs box w) v) ∷ Γ) G
    opened t z κs qs box w v next =
        use1 𝓛 (later (some (λ (pair : Ptr × E.al.row.Denot).
        (alive E κs qs ⊛ ‵ ((Tuple (RawPtr ∷ P E ∷ [])).own_val pair (v ∷ [])))
        ⊛ some (λ (ls : Lasts opens κs (box, tt)). ‵ (lasts opens κs (box, tt) ls)
        ⊛ (raw (fact 𝓤 (pair.1 ≡ box.alloc)) ⊛ Lies E box.alloc box.value pair.0))))) (id⊢ 𝓤 _) $
        await t z $ pick t (λ pair. split t $ move t (1 ∷ []) $ pick t (λ _. split3 t $ drop t $
        heard t (pair.1 ≡ box.alloc) (λ same_alloc.
        -- no value lies at null
        in_a_block t pair.0 (λ p. box_owns (token E.al box.alloc) (R E) p box.value)
        (fst∗ 𝓤 (never 𝓤) (sem 𝓛 (token E.al box.alloc (bare (τ E)) null_ptr))) (λ b o in_block.
        -- [the value in its block; the tokens and the pair], and the pair is its two fields
        move t (1 ∷ []) $ split t $ move t (1 ∷ []) $
        fpick t (λ fields. fsplit t $ feq_l t (λ stored. fsplit t $ feq_l t (λ first_stored. fsplit t $
        rewrite t 0 (λ (a : E.al.row.Denot). ‵ (E.al.row.own_val a fields.1.0)) same_alloc refl $
        handle_tells E.al t box.alloc fields.1.0 (λ hv second_stored fits.
        let first_is : fields.0 ≡ vptr b o ∷ [] = first_stored ∙ ap (λ (p : Ptr). ptr_val p ∷ []) in_block in
        -- [the allocator; no third field; the tokens; the value in its block]
        move t (1 ∷ []) $ drop t $ move t (2 ∷ 0 ∷ []) $ next b o hv
        (ap only (stored ∙ (λ i. vstruct (of_list (first_is i ++ (second_stored i ++ []))) ∷ []))) fits))))))))

module _ (E : Bx) {M : Type 1} {𝓤 : Ura M} (𝓛 : Logic 𝓤) (𝓜 : Model 𝓤 𝓛.H) (𝓡 : Running 𝓤 𝓛.H 𝓜) where
  abbrev shuts : Ended
  shuts = from_raw.ended E.row E.al.row E.al.g E.al.d E.al.drops

  abbrev pub Closing : Contract 𝓤
  Closing = triple_of 𝓛 shuts.signature
      (from_raw.spec E.row E.al.row E.al.g E.al.d E.al.drops 𝓛 𝓜.mem 𝓡.returns)

  module _ (κs : Lfts 2) (qs : Shares 2) (alloc : E.al.row.Denot) (hv : Val) (b o : ℕ) (x : X E) where
    abbrev pub to_close : Closing.Ghost
    to_close = ((κs, qs, tt, (alloc, (block_ptr b o, tt)), (hv ∷ [], (vptr b o ∷ [], tt))), x)

    module _ {K : Type 0} {Γ : List (Item 𝓤)} {G : Goal 𝓤 𝓛.H} where
      pub closes : K → Step K 𝓛 (raw (Closing.pre to_close) ∷ Γ) G
          (Lies E alloc x (block_ptr b o) ∷ Handle E alloc hv ∷ alive E κs qs ∷ outlived E κs ∷ Γ) G
      closes t = step (λ s.
          -- the `requires`, from its end
          move t (3 ∷ []) $ split3 t $ move t (2 ∷ []) $ drop t $
          move t (1 ∷ 2 ∷ []) $ join t $ move t (1 ∷ 0 ∷ []) $ join t $
          -- [the `requires`; the allocator; the tokens], and then the arguments, from their end
          nothing t $ feq_i t (List Val) (vptr b o ∷ []) (vptr b o ∷ []) refl $ fjoin t $
          move t (2 ∷ 0 ∷ []) $ fjoin t $ move t (2 ∷ 0 ∷ []) $ join t $ join t $
          use1 𝓛 (raw (Closing.pre to_close)) (id⊢ 𝓤 _) $ s)

      pub closed : K → Soaks G → (v : Val)
          → ((made : D E) → made.value ≡ x → T (has_ty (box_ty E) v) × WT v
          → Seq K 𝓛 (‵ ((B E).own_val made (v ∷ [])) ∷ alive E κs qs ∷ Γ) G)
          → Seq K 𝓛 (raw (Closing.post to_close v) ∷ Γ) G
      closed t z v next =
          use1 𝓛 (later (some (λ (made : D E). (alive E κs qs ⊛ ‵ ((B E).own_val made (v ∷ [])))
          ⊛ some (λ (ls : Lasts shuts κs to_close.0.3). ‵ (lasts shuts κs to_close.0.3 ls)
          ⊛ (raw (fact 𝓤 (made.value ≡ x)) ⊛ raw (fact 𝓤 (made.alloc ≡ alloc))))))) (id⊢ 𝓤 _) $
          await t z $ pick t (λ made. split t $ move t (1 ∷ []) $ pick t (λ _. split3 t $ drop t $
          heard t (made.value ≡ x) (λ same_value. drop t $ split t $ move t (1 ∷ []) $
          -- the box is opened for what it is stored as, and shut
          box_out E t made (v ∷ []) (λ b' o' hv' in_block stored fits. box_in E t made b' o' made.value in_block refl $
          rewrite t 0 (λ (vs : List Val). ‵ ((B E).own_val made vs)) (sym stored) refl $
          next made same_value (subst (λ (w : Val). T (has_ty (box_ty E) w) × WT w) (sym (ap only stored))
          (box_typed E hv' b' o' fits))))))
