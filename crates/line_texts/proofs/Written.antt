-- What was written of lines, and what waits.
use Rattle.std.proofs.Common.{◌≡◌, ◌∙◌, ℕ, ◌+◌, List, ◌++◌, Option, Some, None, Result, Ok, Err, ap, append_assoc}
use Rattle.std.proofs.Common.{length, refl, subst, sym, take}
use Rattle.std.specs.Prelude.{OnErr}
use Rattle.std.proofs.KnownBytes.{Appends-trans}
use Rattle.std.proofs.Math.Seq.{take-append-add, take-length}
use Rattle.std.specs.Borrow.{Bor}
use Rattle.std.specs.Io.KnownBytes.{Appends}
use Rattle.std.specs.Option.{option_copied, unwrap_or}
use Rattle.line_texts.specs.Writing.{AppendsBeginning, Passes}

-- the bytes behind a reference, if there is one
pub copied_or : (o : Option (Bor (List ℕ))) (d : Bor (List ℕ)) → (unwrap_or o d).now ≡ unwrap_or (option_copied o) d.now
copied_or None d = refl
copied_or (Some x) d = refl

pub on_err : {T E P : Type 0} (r : Result T E) → P → OnErr r P
on_err (Ok x) p = tt
on_err (Err e) p = p

-- all of it is a beginning of it
pub whole_begins : (old new : Option (List ℕ)) (bytes : List ℕ) → Appends old new bytes → AppendsBeginning old new bytes
whole_begins old new bytes h = (length bytes, subst (λ all. Appends old new all) (sym (take-length bytes)) h)

-- one line more waits
pub waits_more : (old new : Option (List ℕ)) (lines waits line : List ℕ) → Passes old new lines waits
    → Passes old new (lines ++ line) (waits ++ line)
waits_more old new lines waits line h = record {
  bytes = h.bytes;
  written = h.written;
  others = ap (λ w. w ++ line) h.others ∙ append_assoc h.bytes waits line;
}

module _ (old mid new : Option (List ℕ)) (lines waits : List ℕ) (so_far : Passes old mid lines waits) where
  -- some more was written
  pub passes_more : (left : List ℕ) → Passes mid new waits left → Passes old new lines left
  passes_more left more = record {
    bytes = so_far.bytes ++ more.bytes;
    written = Appends-trans old mid new so_far.bytes more.bytes so_far.written more.written;
    others = so_far.others ∙ ap (λ w. so_far.bytes ++ w) more.others ∙ sym (append_assoc so_far.bytes more.bytes left);
  }

  -- a beginning of what waited was written
  pub begins_more : AppendsBeginning mid new waits → AppendsBeginning old new lines
  begins_more more =
      let front : take (length so_far.bytes + more.0) lines ≡ so_far.bytes ++ take more.0 waits =
      ap (take (length so_far.bytes + more.0)) so_far.others ∙ take-append-add so_far.bytes waits more.0 in (
        length so_far.bytes + more.0,
        subst (λ bytes. Appends old new bytes) (sym front)
            (Appends-trans old mid new so_far.bytes (take more.0 waits) so_far.written more.1),
      )

  -- all that waited was written
  pub all_written : Appends mid new waits → Appends old new lines
  all_written h = subst (λ bytes. Appends old new bytes) (sym so_far.others)
      (Appends-trans old mid new so_far.bytes waits so_far.written h)
