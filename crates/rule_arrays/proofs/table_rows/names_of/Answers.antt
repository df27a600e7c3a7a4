use Rattle.std.proofs.Common.{◌≡◌, [], ◌∷◌, ◌++◌, slice_get, get_or, ap, ◌∙◌, arith}
use Rattle.std.specs.Option.{unwrap_or}
use Rattle.std.proofs.lemmas.Bool.{false≢true}
use Rattle.std.proofs.lemmas.Option.{unwrap_or-slice_get}
use Rattle.line_texts.proofs.Written.{copied_or}
use Rattle.rule_tables.specs.Rules as tables
use Rattle.rule_arrays.proofs.NamesText.{names_more}
use Rattle.rule_arrays.proofs.table_rows.names_of.Goals as goal
use Rattle.rule_arrays.proofs.table_rows.names_of.Goals.{in-Some+in_ok-extend_from_slice+in_ok-push, in_default}

pub loop-number-preserved : goal.loop-number-preserved
loop-number-preserved c = elim c.match-goal_at.branch [
  | in-Some+in_ok-extend_from_slice+in_ok-push w ↦
      let names = tables.names_of c.args.rules.now in
      let name : w.unwrap_or.result.now ≡ get_or names c.loop-number.number [] =
      ap (λ r. r.now) w.unwrap_or.ensures ∙ copied_or w.name.result _
      ∙ ap (λ o. unwrap_or o []) (w.name.ensures ∙ ap (slice_get names) w.in-Some.ensures.number)
      ∙ unwrap_or-slice_get names c.loop-number.number [] in
      ap (λ v. v.items) w.names-is ∙ w.in_ok-push.ensures.items
      ∙ ap (λ xs. xs ++ 10 ∷ []) (w.in_ok-extend_from_slice.ensures.items
      ∙ ap (λ x. c.loop-number.names.items ++ x) name)
      ∙ names_more names c.loop-number.number c.loop-number.names.items (omega (arith, c.count-number-end.ensures))
      c.loop-number.invariant
  | in_default w ↦
      absurd (false≢true (w.in_default.ensures.some.1 (omega (arith, c.count-number-end.ensures))))
]
