use Rattle.std.proofs.Common.{ap, ◌∙◌}
use Rattle.std.specs.Int.{from_le_bytes, w128}
use Rattle.line_texts.proofs.names.name.Name.letters.Goals as goal

pub returns : goal.returns
returns c = c.from_le_bytes.ensures ∙ ap (from_le_bytes w128) c.args.self.now.is_padded
