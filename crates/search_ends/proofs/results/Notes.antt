-- What is noted as an answer is stored.
use Rattle.std.proofs.Common.{◌≡◌, ◌≢◌, if◌then◌else◌, Bool, true, false, None, Option, option_map, Some, Result, Ok}
use Rattle.std.proofs.Common.{Err, IfErr, OnErr, OnOk, ap, refl, subst, sym}
use Rattle.std.specs.Result.{IsErrAnd}
use Rattle.global_cache.specs.Store.{AnswersStoring, Puts}
use Rattle.search_context.specs.Verdicts.{Verdicts}
use Rattle.search_context.specs.declared.context.Fault.TheVariants.{Conflict, Protocol, Validation}
use Rattle.search_ends.specs.Below.{Cache, Fault, HasGraph, Memory, Place, stored_at, StoredResult}
use Rattle.search_ends.specs.Storing.{IsStoredOrTold, Notes, NotesMore, NotesNone, NotesOne}
use Rattle.search_state.proofs.nodes.Noting.{noted_more, noted_same, noted_storing, noted_then}
use Rattle.search_state.specs.Drafts.{noted}
use Rattle.search_state.specs.declared.drafts.Drafts.{Drafts}

module _ {B C I R T : Type 0} (says : Verdicts R) (same : I → I → Bool) (result : Result B (Fault I R)) where
  -- the drafts stay, and so do stored results
  pub notes_same : (old new : Cache C I R T) (drafts : Drafts) → new.results ≡ old.results
      → Notes says same old drafts result new drafts
  notes_same old new drafts results =
      record { keeps = noted_same same old new drafts drafts refl results; more = NotesNone refl }

  -- no node is noted
  pub notes_none : (cache : Cache C I R T) (before after : Drafts) → after.first ≡ before.first
      → after.stored.items ≡ before.stored.items → Notes says same cache before result cache after
  notes_none cache before after first items =
      record { keeps = noted_more same cache before after first None items; more = NotesNone items }

  -- nothing was stored before
  pub notes_after : (old mid new : Cache C I R T) (before after : Drafts) → mid.results ≡ old.results
      → Notes says same mid before result new after → Notes says same old before result new after
  notes_after old mid new before after results h = record {
    keeps =
        noted_then same old mid new before before after (noted_same same old mid before before refl results) h.keeps;
    more = h.more;
  }

-- the same of another answer, and of the same fault
pub notes_ok : {B E C I R T : Type 0} (says : Verdicts R) (same : I → I → Bool) (old new : Cache C I R T)
    (before after : Drafts) (first : B) (next : E)
    → Notes says same old before (Ok first) new after → Notes says same old before (Ok next) new after
notes_ok says same old new before after first next h = record { keeps = h.keeps; more = as_ok h.more }
  where
    as_ok : NotesMore says same before.stored.items (Ok first) new after.stored.items
        → NotesMore says same before.stored.items (Ok next) new after.stored.items
    as_ok (NotesNone is) = NotesNone is
    as_ok (NotesOne goal r node is graph stored) = NotesOne goal r node is graph stored

pub notes_err : {B E C I R T : Type 0} (says : Verdicts R) (same : I → I → Bool) (old new : Cache C I R T)
    (before after : Drafts) (fault : Fault I R) (result : Result E (Fault I R)) → IsErrAnd result (λ e. e ≡ fault)
    → Notes {B = B} says same old before (Err fault) new after → Notes says same old before result new after
notes_err says same old new before after fault (Ok answer) is h = absurd is
notes_err {B} {E} {I = I} {R = R} says same old new before after fault (Err e) is h =
    subst (λ f. Notes {B = E} says same old before (Err f) new after) (sym is)
    (record { keeps = h.keeps; more = as_err fault h.more })
  where
    told_as : (f : Fault I R) (goal : I) (r : R) → IsStoredOrTold {B = B} same new.results goal r (Err f)
        → IsStoredOrTold {B = E} same new.results goal r (Err f)
    told_as f goal r told = elim f [
      | Memory ↦ told
      | Protocol number ↦ told
      | Conflict other stored found ↦ told
      | Validation other stored found ↦ told
    ]

    as_err : (f : Fault I R) → NotesMore {B = B} says same before.stored.items (Err f) new after.stored.items
        → NotesMore {B = E} says same before.stored.items (Err f) new after.stored.items
    as_err f (NotesNone is) = NotesNone is
    as_err f (NotesOne goal r node is graph told) = NotesOne goal r node is graph (told_as f goal r told)

-- memory was out, and the node is forgotten
pub notes_unstored :
    {C I R T : Type 0} (says : Verdicts R) (same : I → I → Bool) (old new : Cache C I R T) (before after : Drafts)
    → after.first ≡ before.first → after.stored.items ≡ before.stored.items → (result : Result (Unit {0}) (Fault I R))
    → result ≡ Err Memory → OnErr result (new ≡ old) → Notes says same old before result new after
notes_unstored says same old new before after first items (Ok u) is err = absurd cc
notes_unstored says same old new before after first items (Err fault) is err =
    subst (λ cache. Notes {B = Unit {0}} says same old before (Err fault) cache after) (sym err)
    (notes_none says same (Err fault) old before after first items)

-- a fault that is not want of memory
pub never_memory : {I R : Type 0} (result : Result (Unit {0}) (Fault I R)) → IfErr result (λ fault. fault ≢ Memory)
    → OnErr result (result ≡ Err Memory → ⊥)
never_memory (Ok u) other = tt
never_memory (Err fault) other = λ is. let one : fault ≡ Memory = cc in other one

-- a result was stored, or another one is
module _ {C I R T : Type 0} (says : Verdicts R) (same : I → I → Bool) (old new : Cache C I R T)
    (by_value : (x y : I) → same x y ≡ true → x ≡ y) (goal : I) (place : Place)
    (stored : StoredResult I R T) (equal : R → R → Bool) where
  told_by : (o : Option (StoredResult I R T)) (result : Result (Unit {0}) (Fault I R))
      → AnswersStoring equal goal o stored.result.result result
      → OnOk result (Puts same old.results new.results goal place stored) → OnErr result (result ≡ Err Memory → ⊥)
      → IsStoredOrTold same new.results goal stored.result.result result
  told_by None (Ok u) answers puts other =
      (place, ap (option_map (λ (s : StoredResult I R T). s.result.result)) puts.here)
  told_by None (Err fault) answers puts other = absurd (other (ap Err answers))
  told_by (Some s) result answers puts other = by (equal s.result.result stored.result.result) answers
    where
      by : (b : Bool) → result ≡ (if b then Ok tt else Err (Conflict goal s.result.result stored.result.result))
          → IsStoredOrTold same new.results goal stored.result.result result
      by true is =
          subst (λ r. OnOk r (Puts same old.results new.results goal place stored)
          → IsStoredOrTold same new.results goal stored.result.result r) (sym is)
          (λ put. (place, ap (option_map (λ (t : StoredResult I R T). t.result.result)) put.here)) puts
      by false is = subst (IsStoredOrTold same new.results goal stored.result.result) (sym is) (refl, refl)

  pub notes_stored :
      (before after : Drafts) → after.first ≡ before.first → after.stored.items ≡ noted stored.node before.stored.items
      → HasGraph says new.nodes goal stored.result.result stored.node
      → (result : Result (Unit {0}) (Fault I R))
      → AnswersStoring equal goal (stored_at same old.results goal place) stored.result.result result
      → OnOk result (Puts same old.results new.results goal place stored) → OnErr result (new ≡ old)
      → OnErr result (result ≡ Err Memory → ⊥)
      → Notes says same old before result new after
  notes_stored before after first items graph result answers puts unchanged other = record {
    keeps = noted_storing same old new by_value goal place stored before after first items result puts unchanged;
    more = NotesOne goal stored.result.result stored.node items graph
        (told_by (stored_at same old.results goal place) result answers puts other);
  }
