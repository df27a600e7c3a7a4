use Rattle.std.proofs.Common.{◌∙◌}
use Rattle.graph_data.proofs.Pages.{lines_left, rules_read, text_reads}
use Rattle.graph_data.proofs.Stops.{stops_before, stops_part}
use Rattle.graph_data.proofs.reading.read_rules.Goals as goal

pub returns-in_err-begin_object-clause-refused : goal.returns-in_err-begin_object-clause-refused
returns-in_err-begin_object-clause-refused c =
    stops_before _ _ (λ all. (_, all.2.are_its)) c.from_residual.ensures.1 c.in_err-begin_object.ensures.refused

pub returns-in_err-text-clause-refused : goal.returns-in_err-text-clause-refused
returns-in_err-text-clause-refused c =
    stops_before _ _ (λ all. lines_left _ _ c.in_ok-begin_object.ensures.read _ _ all.2)
    c.from_residual-in_err-text.ensures.1 c.in_err-text.ensures.refused

pub returns-clause-read : goal.returns-clause-read
returns-clause-read c = rules_read _ _ c.in_ok-begin_object.ensures.read _ _ _ c.in_ok-text.ensures.spelled.2
    (c.as_slice.ensures.value ∙ c.in_ok-text.ensures.spelled.1) c.rules_of.result c.rules_of.ensures.read

pub returns-clause-refused : goal.returns-clause-refused
returns-clause-refused c =
    stops_part _ _ c.rules_of.result (λ all. (
      all.0,
      text_reads _ _ c.in_ok-begin_object.ensures.read _ _ _ c.in_ok-text.ensures.spelled.2
          (c.as_slice.ensures.value ∙ c.in_ok-text.ensures.spelled.1) _ _ all.2,
    )) c.rules_of.ensures.refused
