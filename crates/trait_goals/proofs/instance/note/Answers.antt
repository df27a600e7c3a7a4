use Rattle.std.proofs.Common.{refl, eq-eqb}
use Rattle.trait_goals.proofs.Matching.{note_new, note_same, read_found}
use Rattle.trait_goals.proofs.instance.note.Goals as goal

pub returns-in-Some-Some : goal.returns-in-Some-Some
returns-in-Some-Some c = λ made types once told stands. (
  eq-eqb c.in-Some-Some.other c.args.number
      (note_same made types c.args.found.now.items c.args.place c.args.number c.in-Some-Some.other once told stands
      (read_found c.args.found.now.items _ c.args.place c.in-Some-Some.other _ c.as_slice.ensures.value
      c.in-Some-Some.ensures
      c.in-Some-Some.field-0-is)),
  told,
)

pub returns-in-Some-None : goal.returns-in-Some-None
returns-in-Some-None c = λ made types once told stands.
    (refl, note_new made types c.args.found.now.items c.args.place c.args.number told stands)
