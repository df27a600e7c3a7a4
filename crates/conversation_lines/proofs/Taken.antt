-- Lines that are taken off what a reader has left.
use Rattle.std.proofs.Common.{◌≡◌, ◌∙◌, ℕ, ◌+◌, ◌-◌, Bool, true, false, List, [], ◌∷◌}
use Rattle.std.proofs.Common.{◌++◌, length, take, drop, Option, None}
use Rattle.std.proofs.Common.{Some, IfSome, ap, refl, subst, sym, append_assoc, append-nil, All, arith}
use Rattle.std.specs.Prelude.{◌==◌, ◌&&◌, ◌<◌, ◌≤◌, ◌≢◌, if◌then◌else◌, nat_lt, not, slice_index}
use Rattle.std.specs.Io.{StopsAt}
use Rattle.std.specs.List.{onto_first, slice_split}
use Rattle.std.specs.Io.BufRead.{drop_through, ends_with_byte, strip_last, take_through}
use Rattle.std.specs.Io.KnownBytes.{Consumes, IsAtEnd, Keeps}
use Rattle.std.proofs.KnownBytes.{Consumes-kept, Consumes-nil, Consumes-trans}
use Rattle.std.proofs.lemmas.List.Elements.{All-append, All-cons, All-head, All-nil, All-tail, All-weaker}
use Rattle.std.proofs.lemmas.Bool.{eq-eqb, eqb-true, false≢true, ltb-false, ltb-true}
use Rattle.std.proofs.lemmas.List.{take_all, take_more}
use Rattle.std.proofs.lemmas.List.Splits.{slice_split-cons_no, slice_split-cons_yes, slice_split_at, slice_split_none}
use Rattle.line_texts.specs.Lines.{lines_of}
use Rattle.conversation_lines.specs.Taken.{end_of_line, PassesLine, TakesLine}

-- ---- passing over bytes

unequal : (x : ℕ) (b : Bool) → (x == 10) ≡ b → x ≢ 10 → b ≡ false
unequal x true is other = absurd (other (eqb-true x 10 is))
unequal x false is other = refl

-- so far known bytes lost these, none of which is a newline
pub record HasPassed (old new : Option (List ℕ)) : Type 0 where
  pub bytes : List ℕ
  pub within : All (λ byte. (byte == 10) ≡ false) bytes
  pub passed : Consumes old new bytes

pub none_passed : (known : Option (List ℕ)) → HasPassed known known
none_passed known = record {
  bytes = [];
  within = All-nil (λ byte. (byte == 10) ≡ false);
  passed = Consumes-nil known;
}

module _ (old mid new : Option (List ℕ)) (so_far : HasPassed old mid) where
  -- one byte more, that is no newline
  pub passed_more : (byte : ℕ) → (byte == 10) ≡ false → Consumes mid new (byte ∷ []) → HasPassed old new
  passed_more byte other more = record {
    bytes = so_far.bytes ++ byte ∷ [];
    within = All-append (λ b. (b == 10) ≡ false) so_far.bytes (byte ∷ []) so_far.within
        (All-cons (λ b. (b == 10) ≡ false) byte [] other (All-nil (λ b. (b == 10) ≡ false)));
    passed = Consumes-trans old mid new so_far.bytes (byte ∷ []) so_far.passed more;
  }

  -- nothing more, and that is the end
  pub passed_end : Consumes mid new [] → IsAtEnd new → PassesLine old new true
  passed_end none end = record {
    bytes = so_far.bytes;
    within = so_far.within;
    passed = Consumes-trans old mid new so_far.bytes [] so_far.passed none;
    end = λ is. end;
  }

  -- a newline
  pub passed_line : (byte : ℕ) → (byte == 10) ≡ true → Consumes mid new (byte ∷ []) → PassesLine old new false
  passed_line byte is more = record {
    bytes = so_far.bytes;
    within = so_far.within;
    passed = Consumes-trans old mid new so_far.bytes (10 ∷ []) so_far.passed
        (subst (λ b. Consumes mid new (b ∷ [])) (eqb-true byte 10 is) more);
    end = λ is. absurd cc;
  }

  -- the rest of a line
  pub passed_rest : (is_last : Bool) → PassesLine mid new is_last → PassesLine old new is_last
  passed_rest is_last rest = record {
    bytes = so_far.bytes ++ rest.bytes;
    within = All-append (λ b. (b == 10) ≡ false) so_far.bytes rest.bytes so_far.within rest.within;
    passed = subst (Consumes old new) (sym (append_assoc so_far.bytes rest.bytes (end_of_line is_last)))
        (Consumes-trans old mid new so_far.bytes (rest.bytes ++ end_of_line is_last) so_far.passed rest.passed);
    end = rest.end;
  }

-- ---- reading a byte at a time

one_byte : (buf : List ℕ) (n : ℕ) → length buf ≡ 1 → n ≤ length buf → n ≢ 0 → take n buf ≡ slice_index buf 0 ∷ []
one_byte [] n one within some = absurd (omega arith)
one_byte (byte ∷ []) n one within some = take_all n (byte ∷ []) (omega arith)
one_byte (byte ∷ other ∷ rest) n one within some = absurd (omega arith)

module _ (old mid new : Option (List ℕ)) (so_far : HasPassed old mid) (buf : List ℕ) (room : length buf ≡ 1) (n : ℕ)
    (read : Consumes mid new (take n buf) × (n ≡ 0 → 0 < length buf → IsAtEnd new)) where
  pub read_end : n ≡ 0 → PassesLine old new true
  read_end none = passed_end old mid new so_far (subst (λ k. Consumes mid new (take k buf)) none read.0)
      (read.1 none (omega arith))

  module _ (within : n ≤ length buf) (some : n ≢ 0) where
    pub read_newline : slice_index buf 0 ≡ 10 → PassesLine old new false
    read_newline is = passed_line old mid new so_far (slice_index buf 0) (eq-eqb (slice_index buf 0) 10 is)
        (subst (Consumes mid new) (one_byte buf n room within some) read.0)

    pub read_other : slice_index buf 0 ≢ 10 → HasPassed old new
    read_other other = passed_more old mid new so_far (slice_index buf 0)
        (unequal (slice_index buf 0) (slice_index buf 0 == 10) refl other)
        (subst (Consumes mid new) (one_byte buf n room within some) read.0)

pub passed_kept : (old mid new : Option (List ℕ)) → HasPassed old mid → Keeps mid new → HasPassed old new
passed_kept old mid new so_far keeps = record {
  bytes = so_far.bytes;
  within = so_far.within;
  passed = Consumes-kept old mid new so_far.bytes so_far.passed keeps;
}

-- ---- the lines

-- what was passed over is the first line
pub takes_line : (old new : Option (List ℕ)) (is_last : Bool) (p : PassesLine old new is_last)
    → TakesLine old new p.bytes is_last
takes_line None new is_last p = tt
takes_line (Some xs) None true p = absurd p.passed
takes_line (Some xs) None false p = absurd p.passed
takes_line (Some xs) (Some rest) true p =
    let whole : xs ≡ p.bytes = p.passed ∙ ap (λ l. (p.bytes ++ []) ++ l) (p.end refl) ∙ append-nil (p.bytes ++ [])
    ∙ append-nil p.bytes in
    ap lines_of whole ∙ slice_split_none (λ byte. byte == 10) p.bytes p.within
takes_line (Some xs) (Some rest) false p =
    ap lines_of (p.passed ∙ append_assoc p.bytes (10 ∷ []) rest)
    ∙ slice_split_at (λ byte. byte == 10) p.bytes 10 rest p.within refl

-- ---- bytes that were read up to a newline

no_newline : (bytes : List ℕ) → All (λ x. x ≢ 10) bytes → All (λ byte. (byte == 10) ≡ false) bytes
no_newline bytes all = All-weaker (λ x. x ≢ 10) (λ x. (x == 10) ≡ false) (λ x other. unequal x (x == 10) refl other)
    bytes all

-- all but the last byte, and that
last_of : (bytes : List ℕ) → 0 < length bytes
    → bytes ≡ take (length bytes - 1) bytes ++ slice_index bytes (length bytes - 1) ∷ []
last_of bytes some =
    let more = take_more bytes (length bytes - 1) 0 (omega arith) in
    sym (take_all (length bytes - 1 + 1) bytes (omega arith)) ∙ more

-- the bytes are a line and its newline, or the line alone
pub record Through (bytes line : List ℕ) (has_newline : Bool) : Type 0 where
  pub within : All (λ byte. (byte == 10) ≡ false) line
  pub whole : bytes ≡ line ++ end_of_line (not has_newline)

by_parts : (bytes : List ℕ) → StopsAt bytes 10 → (some is : Bool) → nat_lt 0 (length bytes) ≡ some
    → (slice_index bytes (length bytes - 1) == 10) ≡ is
    → Through bytes (if some && is then take (length bytes - 1) bytes else bytes) (some && is)
by_parts bytes stops true true l e = record {
  within = no_newline (take (length bytes - 1) bytes) stops;
  whole = last_of bytes (ltb-true 0 (length bytes) l)
      ∙ ap (λ byte. take (length bytes - 1) bytes ++ byte ∷ []) (eqb-true (slice_index bytes (length bytes - 1)) 10 e);
}
by_parts bytes stops true false l e = record {
  within = subst (All (λ byte. (byte == 10) ≡ false)) (sym (last_of bytes (ltb-true 0 (length bytes) l)))
      (All-append (λ byte. (byte == 10) ≡ false) (take (length bytes - 1) bytes)
      (slice_index bytes (length bytes - 1) ∷ []) (no_newline (take (length bytes - 1) bytes) stops)
      (All-cons (λ byte. (byte == 10) ≡ false) (slice_index bytes (length bytes - 1)) [] e
      (All-nil (λ byte. (byte == 10) ≡ false))));
  whole = sym (append-nil bytes);
}
by_parts [] stops false is l e = record { within = All-nil (λ byte. (byte == 10) ≡ false); whole = refl }
by_parts (x ∷ bytes) stops false is l e =
    absurd (let none : length (x ∷ bytes) ≤ 0 = ltb-false 0 (length (x ∷ bytes)) l in omega arith)

pub through : (bytes : List ℕ) → StopsAt bytes 10 → Through bytes (strip_last 10 bytes) (ends_with_byte 10 bytes)
through bytes stops =
    by_parts bytes stops (nat_lt 0 (length bytes)) (slice_index bytes (length bytes - 1) == 10) refl refl

by_first : (x : ℕ) (xs : List ℕ) (is : Bool) → (x == 10) ≡ is
    → (All (λ byte. (byte == 10) ≡ false) (take_through 10 xs) → drop_through 10 xs ≡ [])
    → All (λ byte. (byte == 10) ≡ false) (if is then x ∷ [] else x ∷ take_through 10 xs)
    → (if is then xs else drop_through 10 xs) ≡ []
by_first x xs true is rest all =
    absurd (let other : (x == 10) ≡ false = All-head (λ byte. (byte == 10) ≡ false) x [] all in
    false≢true (sym other ∙ is))
by_first x xs false is rest all = rest (All-tail (λ byte. (byte == 10) ≡ false) x (take_through 10 xs) all)

-- where there is no newline in what goes up to one, nothing is left behind it
nothing_left : (xs : List ℕ) → All (λ byte. (byte == 10) ≡ false) (take_through 10 xs) → drop_through 10 xs ≡ []
nothing_left [] all = refl
nothing_left (x ∷ xs) all = by_first x xs (x == 10) refl (nothing_left xs) all

-- ---- a line that was read

not_last : (b : Bool) → not b ≡ true → b ≡ false
not_last true is = absurd (false≢true is)
not_last false is = refl

-- what was read is the line alone, where no newline follows
alone : (bytes : List ℕ) (has_newline : Bool) → has_newline ≡ false → Through bytes (strip_last 10 bytes) has_newline
    → bytes ≡ strip_last 10 bytes
alone bytes has_newline none t =
    t.whole ∙ ap (λ b. strip_last 10 bytes ++ end_of_line (not b)) none ∙ append-nil (strip_last 10 bytes)

parts_of : (bytes : List ℕ) → StopsAt bytes 10 → (has_newline : Bool) → has_newline ≡ ends_with_byte 10 bytes
    → Through bytes (strip_last 10 bytes) has_newline
parts_of bytes stops has_newline is = subst (Through bytes (strip_last 10 bytes)) (sym is) (through bytes stops)

-- the whole line
pub whole_line : (old new : Option (List ℕ)) (bytes : List ℕ) → StopsAt bytes 10 → Consumes old new bytes
    → (has_newline : Bool) → has_newline ≡ ends_with_byte 10 bytes
    → IfSome old (λ xs. bytes ≡ take_through 10 xs) → IfSome old (λ xs. new ≡ Some (drop_through 10 xs))
    → TakesLine old new (strip_last 10 bytes) (not has_newline)
whole_line None new bytes stops consumed has_newline is reads rest = tt
whole_line (Some xs) new bytes stops consumed has_newline is reads rest =
    let t = parts_of bytes stops has_newline is in
    takes_line (Some xs) new (not has_newline) (record {
      bytes = strip_last 10 bytes;
      within = t.within;
      passed = subst (Consumes (Some xs) new) t.whole consumed;
      end = λ is_last. subst IsAtEnd (sym rest) (nothing_left xs
          (subst (All (λ byte. (byte == 10) ≡ false))
          (sym (alone bytes has_newline (not_last has_newline is_last) t) ∙ reads) t.within));
    })

-- Where memory was refused, it may still have been read to its newline.
pub refused_line : (old new : Option (List ℕ)) (bytes : List ℕ) → StopsAt bytes 10 → Consumes old new bytes
    → (has_newline : Bool) → has_newline ≡ ends_with_byte 10 bytes → has_newline ≡ true
    → TakesLine old new (strip_last 10 bytes) false
refused_line old new bytes stops consumed has_newline is has =
    let t = subst (Through bytes (strip_last 10 bytes)) has (parts_of bytes stops has_newline is) in
    takes_line old new false (record {
      bytes = strip_last 10 bytes;
      within = t.within;
      passed = subst (Consumes old new) t.whole consumed;
      end = λ is. absurd (false≢true is);
    })

-- else its rest was passed over
pub passed_line_over : (old mid new : Option (List ℕ)) (bytes : List ℕ) → StopsAt bytes 10 → Consumes old mid bytes
    → (has_newline : Bool) → has_newline ≡ ends_with_byte 10 bytes → has_newline ≡ false
    → (is_last : Bool) → PassesLine mid new is_last → (line : List ℕ) × TakesLine old new line is_last
passed_line_over old mid new bytes stops consumed has_newline is none is_last rest =
    let t = parts_of bytes stops has_newline is in
    let begun : HasPassed old mid = record {
      bytes = strip_last 10 bytes;
      within = t.within;
      passed = subst (Consumes old mid) (alone bytes has_newline none t) consumed;
    } in
    let all = passed_rest old mid new begun is_last rest in
    (all.bytes, takes_line old new is_last all)
