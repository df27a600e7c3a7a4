use Rattle.std.proofs.Common.{◌∙◌, eq-eqb, nat_eq, refl, sym}
use Rattle.std.proofs.lemmas.Map.Keys.{any_passes_from_place}
use Rattle.std.proofs.lemmas.Map.Views.{Contains-from_any, exact_unsigned_eq}
use Rattle.candidate_lists.specs.Laws.Members.{slice_get-from_Contains}
use Rattle.rule_arrays.proofs.changes.found.Found.into_goals.Goals as goal

pub returns : goal.returns
returns c = λ one.
    let goals = c.args.self.goals.items in (
      λ has. Contains-from_any exact_unsigned_eq one goals (sym (c.requires.listed one) ∙ has),
      λ it. c.requires.listed one ∙ any_passes_from_place (nat_eq one) goals it.0 one
          (slice_get-from_Contains goals one it) (eq-eqb one one refl),
    )
