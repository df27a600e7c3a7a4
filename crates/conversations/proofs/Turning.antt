-- Turns that were taken in turn, what is left to read, and what was written of them.
use Rattle.std.proofs.Common.{◌≡◌, ◌∙◌, ℕ, ◌+◌, Bool, ◌&&◌, true, false, List}
use Rattle.std.proofs.Common.{[], ◌∷◌, ◌++◌, Option, None, Some}
use Rattle.std.proofs.Common.{IfSome, ap, append_assoc, arith}
use Rattle.std.proofs.Common.{inl, inr, length, length-append, map}
use Rattle.std.proofs.Common.{refl, subst, sym, take, append-nil}
use Rattle.std.specs.Prelude.{◌==◌, if◌then◌else◌}
use Rattle.std.specs.Io.Buffered.{reader_buffer, reader_capacity, reader_inner, reader_remaining}
use Rattle.std.specs.Io.KnownBytes.{Appends, Keeps, prepend_known}
use Rattle.std.specs.declared.io.buffered.BufReader.{BufReader}
use Rattle.std.specs.List.{flat_map, list_all}
use Rattle.std.proofs.KnownBytes.{Appends-kept, Appends-nil, Appends-trans, prepend_known-nil}
use Rattle.std.proofs.Math.Bool.{and-true}
use Rattle.std.proofs.Math.Seq.{take-append-add, take-append_seam}
use Rattle.std.proofs.lemmas.Grind.{flat_map-append}
use Rattle.std.proofs.lemmas.List.{length-map, map-append}
use Rattle.line_texts.proofs.Written.{whole_begins}
use Rattle.std.proofs.lemmas.List.Folds.{list_all-append}
use Rattle.conversation_lines.specs.Taken.{TakesLine}
use Rattle.line_texts.specs.Lines.{lines_of}
use Rattle.line_texts.specs.Writing.{AppendsBeginning}
use Rattle.conversations.specs.Below.{Change, IsOpenTableOf, Table}
use Rattle.conversations.specs.Conversation.{Came, changes_by, changes_in, InTurn, is_fine, IsBrokenOff}
use Rattle.conversations.specs.Conversation.{IsHeld, more, none}
use Rattle.conversations.specs.Conversation.{told_of, Turn}
use Rattle.conversations.specs.Known.{Took, Turned, TurnBroke}

-- ---- the reader

by_capacity : (capacity : ℕ) (buffer : List ℕ) (inner : Option (List ℕ)) → capacity ≡ 8192 → buffer ≡ []
    → (if capacity == 0 then None else prepend_known buffer inner) ≡ inner
by_capacity capacity buffer inner room empty =
    ap (λ n. if n == 0 then None else prepend_known buffer inner) room
    ∙ ap (λ b. prepend_known b inner) empty ∙ prepend_known-nil inner

-- nothing was read of a reader with a new buffer
pub unread : {T A : Type 0} (remaining : T → Option (List ℕ)) (r : BufReader T A) (input : T) → reader_inner r ≡ input
    → reader_buffer r ≡ [] → reader_capacity r ≡ 8192 → reader_remaining remaining r ≡ remaining input
unread remaining r input inner buffer room =
    by_capacity (reader_capacity r) (reader_buffer r) (remaining (reader_inner r)) room buffer ∙ ap remaining inner

-- ---- the lines

-- these lines were taken, and what is left now are the others
abbrev pub AreTaken : (known left : Option (List ℕ)) → List (List ℕ) → Type 0
AreTaken None left lines = Unit {0}
AreTaken (Some text) None lines = ⊥
AreTaken (Some text) (Some rest) lines = lines_of text ≡ lines ++ lines_of rest

none_taken : (known left : Option (List ℕ)) → left ≡ known → AreTaken known left []
none_taken None left same = tt
none_taken (Some text) None same = absurd cc
none_taken (Some text) (Some rest) same = let same : text ≡ rest = cc in ap lines_of same

taken_more : (known left leaves : Option (List ℕ)) (lines : List (List ℕ)) (line : List ℕ) → AreTaken known left lines
    → TakesLine left leaves line false → AreTaken known leaves (lines ++ line ∷ [])
taken_more None left leaves lines line so_far takes = tt
taken_more (Some text) None leaves lines line so_far takes = absurd so_far
taken_more (Some text) (Some rest) None lines line so_far takes = absurd takes
taken_more (Some text) (Some rest) (Some others) lines line so_far takes =
    so_far ∙ ap (λ ls. lines ++ ls) takes ∙ sym (append_assoc lines (line ∷ []) (lines_of others))

taken_last : (known left leaves : Option (List ℕ)) (lines : List (List ℕ)) (line : List ℕ) → AreTaken known left lines
    → TakesLine left leaves line true → IfSome known (λ text. lines ++ line ∷ [] ≡ lines_of text)
taken_last None left leaves lines line so_far takes = tt
taken_last (Some text) None leaves lines line so_far takes = absurd so_far
taken_last (Some text) (Some rest) leaves lines line so_far takes = sym (so_far ∙ ap (λ ls. lines ++ ls) takes)

-- lines that were taken are the first ones
first_of : (lines others all : List (List ℕ)) (n : ℕ) → n ≡ length lines → all ≡ lines ++ others → lines ≡ take n all
first_of lines others all n count is =
    sym (ap (take n) is ∙ ap (λ k. take k (lines ++ others)) count ∙ take-append_seam lines others)

begun : (known left : Option (List ℕ)) (lines : List (List ℕ)) (n : ℕ) → n ≡ length lines → AreTaken known left lines
    → IfSome known (λ text. lines ≡ take n (lines_of text))
begun None left lines n count so_far = tt
begun (Some text) None lines n count so_far = absurd so_far
begun (Some text) (Some rest) lines n count so_far = first_of lines (lines_of rest) (lines_of text) n count so_far

begun_more : (known left leaves : Option (List ℕ)) (lines : List (List ℕ)) (line : List ℕ) (is_last : Bool) (n : ℕ)
    → n ≡ length (lines ++ line ∷ []) → AreTaken known left lines
    → TakesLine left leaves line is_last → IfSome known (λ text. lines ++ line ∷ [] ≡ take n (lines_of text))
begun_more None left leaves lines line is_last n count so_far takes = tt
begun_more (Some text) None leaves lines line is_last n count so_far takes = absurd so_far
begun_more (Some text) (Some rest) leaves lines line true n count so_far takes =
    first_of (lines ++ line ∷ []) [] (lines_of text) n count
    (so_far ∙ ap (λ ls. lines ++ ls) takes ∙ sym (append-nil (lines ++ line ∷ [])))
begun_more (Some text) (Some rest) None lines line false n count so_far takes = absurd takes
begun_more (Some text) (Some rest) (Some others) lines line false n count so_far takes =
    first_of (lines ++ line ∷ []) (lines_of others) (lines_of text) n count
    (so_far ∙ ap (λ ls. lines ++ ls) takes ∙ sym (append_assoc lines (line ∷ []) (lines_of others)))

-- ---- what was written

-- some bytes, and then a beginning of others
then_begun : (old mid new : Option (List ℕ)) (bytes rest : List ℕ) → Appends old mid bytes
    → AppendsBeginning mid new rest
    → AppendsBeginning old new (bytes ++ rest)
then_begun old mid new bytes rest first begun = (
  length bytes + begun.0,
  subst (λ all. Appends old new all) (sym (take-append-add bytes rest begun.0))
      (Appends-trans old mid new bytes (take begun.0 rest) first begun.1),
)

nothing_of : (known : Option (List ℕ)) → IfSome known (λ text. [] ≡ take 0 (lines_of text))
nothing_of None = tt
nothing_of (Some text) = refl

-- ---- turns

module _ (MayCome : List Change → List ℕ → Came → Type 0) (known : Option (List ℕ)) where
  -- So many turns were taken, and left this table; all that is told of them was written.
  pub record SoFar (left old now : Option (List ℕ)) (table : Table) (count : ℕ) (all_fine : Bool) : Type 0 where
    pub turns : List Turn
    pub in_turn : InTurn MayCome turns
    pub is_count : count ≡ length turns
    pub is_table : IsOpenTableOf (changes_in turns) table
    pub are_lines : AreTaken known left (map (λ turn. turn.line) turns)
    pub written : Appends old now (flat_map told_of turns)
    pub fine : all_fine ≡ list_all (λ turn. is_fine turn.came) turns

  pub none_so_far : (left old : Option (List ℕ)) (table : Table) → left ≡ known → IsOpenTableOf [] table
      → SoFar left old old table 0 true
  none_so_far left old table same empty = record {
    turns = [];
    in_turn = none;
    is_count = refl;
    is_table = empty;
    are_lines = none_taken known left same;
    written = Appends-nil old;
    fine = refl;
  }

  module _ (left old now : Option (List ℕ)) (table : Table) (count : ℕ) (all_fine : Bool)
      (so_far : SoFar left old now table count all_fine) where
    -- nothing more came of it
    pub broken_before : (new : Option (List ℕ)) → Keeps now new → IsBrokenOff MayCome known old new
    broken_before new keeps = record {
      turns = so_far.turns;
      in_turn = so_far.in_turn;
      are_lines = begun known left (map (λ turn. turn.line) so_far.turns) (length so_far.turns)
          (sym (length-map so_far.turns (λ turn. turn.line))) so_far.are_lines;
      written = whole_begins old new (flat_map told_of so_far.turns)
          (Appends-kept old now new (flat_map told_of so_far.turns) so_far.written keeps);
    }

    module _ (Written : List ℕ → Type 0) (leaves : Option (List ℕ)) (new : Table) (number : ℕ) (fine is_last : Bool)
        (turned : Turned MayCome Written left leaves table new number fine is_last)
        (next : number ≡ count + 1) where
      abbrev taken_turn : Took MayCome (changes_in so_far.turns) new number turned.line turned.words fine
      taken_turn = turned.took (changes_in so_far.turns) so_far.is_table

      abbrev all : List Turn
      all = so_far.turns ++ taken_turn.turn ∷ []

      all_in_turn : InTurn MayCome all
      all_in_turn = more so_far.turns taken_turn.turn so_far.in_turn
          (taken_turn.is_number ∙ next ∙ ap (λ n. n + 1) so_far.is_count) taken_turn.may_come

      all_lines : map (λ (turn : Turn). turn.line) all ≡ map (λ turn. turn.line) so_far.turns ++ turned.line ∷ []
      all_lines = map-append (λ (turn : Turn). turn.line) so_far.turns (taken_turn.turn ∷ [])
          ∙ ap (λ l. map (λ (turn : Turn). turn.line) so_far.turns ++ l ∷ []) taken_turn.is_line

      all_words : flat_map told_of all ≡ flat_map told_of so_far.turns ++ turned.words
      all_words = flat_map-append told_of so_far.turns (taken_turn.turn ∷ [])
          ∙ ap (λ l. flat_map told_of so_far.turns ++ l)
          (append-nil (told_of taken_turn.turn) ∙ sym taken_turn.are_words)

      all_changes : changes_in all ≡ changes_in so_far.turns ++ changes_by taken_turn.turn.came
      all_changes = flat_map-append (λ (turn : Turn). changes_by turn.came) so_far.turns (taken_turn.turn ∷ [])
          ∙ ap (λ l. changes_in so_far.turns ++ l) (append-nil (changes_by taken_turn.turn.came))

      all_are_fine : (both : Bool) → both ≡ (all_fine && fine)
          → both ≡ list_all (λ (turn : Turn). is_fine turn.came) all
      all_are_fine both is = is ∙ ap (λ b. b && fine) so_far.fine
          ∙ ap (λ b. list_all (λ (turn : Turn). is_fine turn.came) so_far.turns && b)
          (taken_turn.is_fine ∙ sym (and-true (is_fine taken_turn.turn.came)))
          ∙ sym (list_all-append (λ (turn : Turn). is_fine turn.came) so_far.turns (taken_turn.turn ∷ []))

      count_all : count + 1 ≡ length all
      count_all = omega (arith, so_far.is_count, length-append so_far.turns (taken_turn.turn ∷ []))

      as_many : length all ≡ length (map (λ (turn : Turn). turn.line) so_far.turns ++ turned.line ∷ [])
      as_many = sym (length-map all (λ (turn : Turn). turn.line)) ∙ ap length all_lines

      -- one turn more, and another line follows
      pub turns_on : (later : Option (List ℕ)) → is_last ≡ false
          → ((words : List ℕ) → Written words → Appends now later words)
          → (both : Bool) → both ≡ (all_fine && fine) → SoFar leaves old later new (count + 1) both
      turns_on later follows written both is = record {
        turns = all;
        in_turn = all_in_turn;
        is_count = count_all;
        is_table = subst (λ changes. IsOpenTableOf changes new) (sym all_changes) taken_turn.is_table;
        are_lines = subst (AreTaken known leaves) (sym all_lines)
            (taken_more known left leaves (map (λ turn. turn.line) so_far.turns) turned.line so_far.are_lines
            (subst (TakesLine left leaves turned.line) follows turned.taken));
        written = subst (Appends old later) (sym all_words)
            (Appends-trans old now later (flat_map told_of so_far.turns) turned.words so_far.written
            (written turned.words turned.written));
        fine = all_are_fine both is;
      }

      -- the last turn
      pub all_held : (later : Option (List ℕ)) → is_last ≡ true
          → ((words : List ℕ) → Written words → Appends now later words)
          → (both : Bool) → both ≡ (all_fine && fine) → IsHeld MayCome known old later both
      all_held later last written both is = record {
        turns = all;
        in_turn = all_in_turn;
        are_lines = subst (λ lines. IfSome known (λ text. lines ≡ lines_of text)) (sym all_lines)
            (taken_last known left leaves (map (λ turn. turn.line) so_far.turns) turned.line so_far.are_lines
            (subst (TakesLine left leaves turned.line) last turned.taken));
        written = subst (Appends old later) (sym all_words)
            (Appends-trans old now later (flat_map told_of so_far.turns) turned.words so_far.written
            (written turned.words turned.written));
        fine = all_are_fine both is;
      }

      -- a turn whose words were not all written
      pub broken_within : (later : Option (List ℕ))
          → ((words : List ℕ) → Written words → AppendsBeginning now later words)
          → IsBrokenOff MayCome known old later
      broken_within later written = record {
        turns = all;
        in_turn = all_in_turn;
        are_lines = subst (λ lines. IfSome known (λ text. lines ≡ take (length all) (lines_of text))) (sym all_lines)
            (begun_more known left leaves (map (λ turn. turn.line) so_far.turns) turned.line is_last (length all)
            as_many so_far.are_lines turned.taken);
        written = subst (AppendsBeginning old later) (sym all_words)
            (then_begun old now later (flat_map told_of so_far.turns) turned.words so_far.written
            (written turned.words turned.written));
      }

    -- what a turn that failed comes to
    pub broken : (later leaves : Option (List ℕ)) (new : Table) (number : ℕ) → number ≡ count + 1
        → TurnBroke MayCome now later left leaves table new number
        → IsBrokenOff MayCome known old later
    broken later leaves new number next (inl keeps) = broken_before later keeps
    broken later leaves new number next (inr (fine, is_last, turned)) =
        broken_within (AppendsBeginning now later) leaves new number fine is_last turned next later
        (λ words begun. begun)

  -- nothing was read
  pub broken_at_once : (old : Option (List ℕ)) → IsBrokenOff MayCome known old old
  broken_at_once old = record {
    turns = [];
    in_turn = none;
    are_lines = nothing_of known;
    written = (0, Appends-nil old);
  }
