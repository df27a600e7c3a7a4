-- What a subtyping is to those that use it.
use Rattle.std.specs.Prelude.{List}
use Rattle.type_order.specs.declared.types.Types.{Types}
use Rattle.delegate_parts.specs.declared.lends.Lends.{Ghosts as LendsTypesOf}
use Rattle.structural_types.specs.declared.subtyping.Subtyping.{Subtyping}
use Rattle.type_order.specs.Subtypes.{forms_of}
use Rattle.type_order.specs.declared.types.Form.{Form}

-- the types that it is asked about; `types_of` gives those that a lender lends
abbrev pub declared_in : {T : Type 0} {G : LendsTypesOf T Types} → (T → Types) → Subtyping T G → List Form
declared_in types_of subtyping = forms_of (types_of subtyping.cache.cx.0.0.lender)
