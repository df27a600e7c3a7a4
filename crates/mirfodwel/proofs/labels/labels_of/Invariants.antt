use Rattle.std.proofs.Common.{◌≡◌, length, map, take}
use Rattle.std.specs.List.{enumerate_from}
use Rattle.line_texts.specs.Lines.{lines_of}
use Rattle.mirfodwel.specs.Labels.{label_of}
use Rattle.mirfodwel.proofs.labels.labels_of.Given as goal

abbrev pub invariant-loop-place : goal.invariant-loop-place
invariant-loop-place l =
    map (λ label. label.items) l.labels.items
    ≡ map (λ line. label_of line.0 line.1) (take (length l.yielded) (enumerate_from 0 (lines_of l.names)))
