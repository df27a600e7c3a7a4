use Rattle.std.proofs.Common.{◌∷◌, ◌++◌, [], ◌∙◌, ap, refl, sym, codes}
use Rattle.std.specs.Prelude.{⊤}
use Rattle.graph_data.proofs.Arrays.{array_left, array_more}
use Rattle.graph_data.proofs.Pages.{line_parts, text_more}
use Rattle.graph_data.proofs.Stops.{stops_before}
use Rattle.graph_data.proofs.reading.read_lines.Goals as goal
use Rattle.graph_data.specs.Data.{left_in, string_tokens}

pub loop-init : goal.loop-init
loop-init c = ([], c.new-text.ensures.items, c.in_ok-begin_array_at.ensures.read)

pub loop-preserved : goal.loop-preserved
loop-preserved c =
    let before = c.loop.invariant in (
      before.0 ++ c.in_ok-line.line.now ∷ [],
      text_more before.0 c.in_ok-line.line.now _ _ _ before.1
          (c.in_ok-extend_from_slice.ensures.items ∙ ap (λ bytes. c.loop.text.items ++ bytes) c.as_bytes.ensures.value)
          c.in_ok-push.ensures.items,
      array_more string_tokens (codes "rules") before.0 _ c.in_ok-line.line.now _ _ _ before.2
          (sym c.if-is_end_of_array.ensures.0 ∙ c.in_ok-line.ensures.read) refl,
    )

pub returns-in_err-line-clause-refused : goal.returns-in_err-line-clause-refused
returns-in_err-line-clause-refused c =
    stops_before _ _ (λ all. rw c.if-is_end_of_array.ensures.0
    (array_left string_tokens line_parts (codes "rules") (λ _. ⊤) c.loop.invariant.0 (left_in c.args.source.now) _
    c.loop.invariant.2 c.if-is_end_of_array.ensures.1
    (record { value = all.value; is_right = λ k d below. tt; rest = all.rest; are_its = all.are_its })))
    c.from_residual-in_err-line.ensures.1 c.in_err-line.ensures.refused
