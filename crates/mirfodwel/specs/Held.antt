-- What a handle owns: nothing, or the block of what it stands for.
use Rattle.std.specs.Prelude.{Option, None, Some}
use base.Fml.{Fml, ftrue}
use denote.RawPtr.{Ptr}
use Rattle.std.specs.contracts.impls.GlobalAllocator.TheImpl.{ghosts}
use Rattle.std_alloc.specs.Box.Ownership.{box_owns}
use Rattle.mirfodwel.specs.declared.inside.Inside.{Inside}
use Rattle.mirfodwel.specs.contracts.inside.Inside.{the_row}

abbrev pub held : Option Inside → Ptr → Fml
held None p = ftrue
held (Some inside) p = box_owns (ghosts.dealloc_token (record { memory = record { seal = tt } })) the_row p inside
