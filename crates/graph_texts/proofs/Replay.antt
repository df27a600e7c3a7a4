-- Lines of a text that are read back, one line further.
use Rattle.std.proofs.Common.{◌≡◌, ◌∙◌, ℕ, zero, suc, ◌+◌, List, [], ◌∷◌, ◌++◌, length, map, fold, Option, Some, None}
use Rattle.std.proofs.Common.{option_map, option_and_then, ap, sym, refl, arith, nat_eq, eq-eqb, ◌&&◌}
use Rattle.std.proofs.Common.{if◌then◌else◌, subst}
use Rattle.std.proofs.lemmas.List.{append-nil}
use Rattle.std.proofs.lemmas.List.Sums.{fold-append}
use Rattle.graph_texts.specs.Plan.{all_read, AreWhole, Expects, IsReplayed, level_of, line_read, lines_read, next_line}
use Rattle.graph_texts.specs.Plan.{opened, pending_of, place_of, unread}
use Rattle.search_context.specs.declared.context.Edge.{Edge}
use Rattle.graph_texts.specs.Below.{Goal, Node, Outcome}
use Rattle.graph_texts.specs.declared.plan.Line.{Line}
use Rattle.graph_texts.specs.declared.plan.Open.{Open}

-- nodes that have all their lines are passed over
next_line-all_read : (count place level : ℕ) (pending : List (List ℕ))
    → next_line place level (all_read count ++ pending) ≡ next_line place level pending
next_line-all_read zero place level pending = refl
next_line-all_read (suc count) place level pending = next_line-all_read count place level pending

pub all_read-more : (count : ℕ) (pending : List (List ℕ))
    → all_read count ++ [] ∷ pending ≡ all_read (suc count) ++ pending
all_read-more zero pending = refl
all_read-more (suc count) pending = ap (λ ts. [] ∷ ts) (all_read-more count pending)

and_then_some : {A : Type 0} (o : Option A) → option_and_then Some o ≡ o
and_then_some None = refl
and_then_some (Some x) = refl

module _ (nodes : List (Node Goal Outcome)) where
  -- one line more is read
  lines_read-push : (lines : List Line) (line : Line) (pending : List (List ℕ))
      → lines_read nodes (lines ++ line ∷ []) pending
      ≡ option_and_then (line_read nodes line) (lines_read nodes lines pending)
  lines_read-push [] line pending = and_then_some (line_read nodes line pending)
  lines_read-push (first ∷ lines) line pending =
      elim (line_read nodes first pending) as (λ o. option_and_then (lines_read nodes (lines ++ line ∷ [])) o
      ≡ option_and_then (line_read nodes line) (option_and_then (lines_read nodes lines) o))
      [ None ↦ refl | Some left ↦ lines_read-push lines line left ]

  -- the line of the target that comes next is read
  line_read-expected : (line : Line) (place : ℕ) (targets : List ℕ) (pending : List (List ℕ)) (count : ℕ) →
      place_of line ≡ place → level_of line ≡ length pending →
      line_read nodes line (all_read count ++ (place ∷ targets) ∷ pending)
      ≡ Some (opened nodes line ++ targets ∷ pending)
  line_read-expected line place targets pending count same level =
      ap (option_map (λ left. opened nodes line ++ left))
      (next_line-all_read count (place_of line) (level_of line) ((place ∷ targets) ∷ pending)
      ∙ ap (λ b. if b then Some (targets ∷ pending) else None) (ap (λ b. b && nat_eq (level_of line) (length pending))
      (eq-eqb (place_of line) place same) ∙ eq-eqb (level_of line) (length pending) level))

  pub line_pushed : (lines : List Line) (line : Line) (place : ℕ) (pending : List (List ℕ)) →
      Expects nodes lines place pending → place_of line ≡ place → level_of line + 1 ≡ length pending →
      IsReplayed nodes (lines ++ line ∷ []) (opened nodes line ++ pending)
  line_pushed lines line place [] expected same level = absurd (omega arith)
  line_pushed lines line place (targets ∷ pending) expected same level = (
    0,
    lines_read-push lines line unread ∙ ap (option_and_then (line_read nodes line)) expected.1
        ∙ line_read-expected line place targets pending expected.0 same (omega (arith, level)),
  )

-- the newest open node comes first
pub pending_of-push : (opens : List Open) (o : Open)
    → pending_of (opens ++ o ∷ []) ≡ map (λ e. e.target) o.rest.now ∷ pending_of opens
pending_of-push opens o = fold-append _ _ opens (o ∷ [])

-- and below all of them stands that of the root
length-fold : (opens : List Open) (pending : List (List ℕ))
    → length (fold (λ ts o. map (λ e. e.target) o.rest.now ∷ ts) pending opens) ≡ length pending + length opens
length-fold [] pending = omega arith
length-fold (o ∷ opens) pending = length-fold opens _ ∙ omega arith

pub length-pending_of : (opens : List Open) → length (pending_of opens) ≡ length opens + 1
length-pending_of opens = length-fold opens ([] ∷ []) ∙ omega arith

-- the line that is pushed is the expected one
pub line_met : (nodes : List (Node Goal Outcome)) (lines new : List Line) (line : Line) (place : ℕ)
    (opens more : List Open) → Expects nodes lines place (pending_of opens) →
    place_of line ≡ place → level_of line ≡ length opens → new ≡ lines ++ line ∷ [] →
    pending_of more ≡ opened nodes line ++ pending_of opens → IsReplayed nodes new (pending_of more)
line_met nodes lines new line place opens more expected same level pushed pending =
    subst (λ ls. IsReplayed nodes ls (pending_of more)) (sym pushed)
    (subst (λ ts. IsReplayed nodes (lines ++ line ∷ []) ts) (sym pending)
    (line_pushed nodes lines line place (pending_of opens) expected same
    (ap (λ n. n + 1) level ∙ sym (length-pending_of opens))))

no_targets : (es : List (Edge Goal)) → length es ≡ 0 → map (λ (e : Edge Goal). e.target) es ≡ []
no_targets [] none = refl
no_targets (e ∷ es) none = absurd (omega arith)

-- a node without targets left is passed over from then on
pub node_left : (nodes : List (Node Goal Outcome)) (lines new : List Line) (old opens more : List Open) (o : Open) →
    IsReplayed nodes lines (pending_of old) →
    old ≡ opens ++ o ∷ [] → length o.rest.now ≡ 0 → new ≡ lines → more ≡ opens → IsReplayed nodes new (pending_of more)
node_left nodes lines new old opens more o read popped none same_lines same_opens =
    let pending : pending_of old ≡ [] ∷ pending_of more = ap pending_of popped ∙ pending_of-push opens o
    ∙ ap (λ ts. ts ∷ pending_of opens) (no_targets o.rest.now none)
    ∙ ap (λ os. [] ∷ pending_of os) (sym same_opens) in (
      suc read.0,
      ap (λ ls. lines_read nodes ls unread) same_lines ∙ read.1 ∙ ap (λ ts. Some (all_read read.0 ++ ts)) pending
          ∙ ap Some (all_read-more read.0 (pending_of more)),
    )

-- at the end no node is open
pub walk_ended : (nodes : List (Node Goal Outcome)) (lines : List Line) (opens : List Open)
    → IsReplayed nodes lines (pending_of opens) → opens ≡ [] → AreWhole nodes lines
walk_ended nodes lines opens read none = (
  suc read.0,
  read.1 ∙ ap (λ os. Some (all_read read.0 ++ pending_of os)) none
      ∙ ap Some (all_read-more read.0 [] ∙ append-nil (all_read (suc read.0))),
)
