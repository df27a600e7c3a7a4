use Rattle.type_order.specs.Subtypes.{forms_of}
use Rattle.type_order.proofs.Reflexive.{below_itself}
use Rattle.type_order.proofs.types.Types.is_below_itself.Goals as goal

pub returns : goal.returns
returns c = below_itself (forms_of c.args.self.now) c.requires.declared c.args.number c.requires.within
