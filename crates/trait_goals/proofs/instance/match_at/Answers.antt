use Rattle.trait_goals.proofs.Matching.{read_found, read_at}
use Rattle.trait_goals.proofs.instance.match_at.Goals as goal

pub returns-in-Some-Some : goal.returns-in-Some-Some
returns-in-Some-Some c = λ types term told is.
    c.match_shape.ensures types (types c.args.place) told
    (told.told c.args.place c.in-Some-Some.number
    (read_found c.args.found.now.items _ c.args.place c.in-Some-Some.number _ c.as_slice-2.ensures.value
    c.in-Some-Some.ensures
    c.in-Some-Some.field-0-is))
    (is.shaped c.args.place c.in-Some.shape
    (read_at c.args.rule.now.shapes.items _ c.args.place c.in-Some.shape c.as_slice.ensures.value c.in-Some.ensures))
