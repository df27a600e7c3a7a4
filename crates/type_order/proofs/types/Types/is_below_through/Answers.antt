use Rattle.type_order.specs.Subtypes.{forms_of}
use Rattle.type_order.proofs.Transitive.{below_through}
use Rattle.type_order.proofs.types.Types.is_below_through.Goals as goal

pub returns : goal.returns
returns c = below_through (forms_of c.args.self.now) c.requires.contractive c.args.lower c.args.middle
    c.args.upper c.requires.first c.requires.second
