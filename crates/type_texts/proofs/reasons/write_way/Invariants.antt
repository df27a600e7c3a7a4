use Rattle.std.proofs.Common.{◌≡◌, ◌++◌, take}
use Rattle.std.specs.List.{filter_map}
use Rattle.type_texts.specs.Reasons.{place_words, step_name}
use Rattle.type_texts.proofs.Failing.{mark_after}
use Rattle.type_texts.proofs.reasons.write_way.Given as goal

-- the names of the first steps are written
abbrev pub invariant-loop-step : goal.invariant-loop-step
invariant-loop-step l =
    let names = filter_map (step_name l.table) (take l.step-index l.way) in
    record { written : l.text.items ≡ l.fn.text.items ++ place_words names; mark : l.before ≡ mark_after names }
