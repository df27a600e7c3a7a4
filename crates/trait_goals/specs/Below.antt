-- What the crates below have, from one place.
pub use Rattle.trait_rules.specs.Numbered.{IsOnce, Keeps}
pub use Rattle.trait_rules.specs.Terms.{ArePartsFirst, Stands, Term, constructor_of}
pub use Rattle.trait_rules.specs.Rules.{IsInstance, IsShaped}
pub use Rattle.trait_rules.specs.declared.made.Made.{Made}
pub use Rattle.trait_rules.specs.declared.rules.Rule.{Rule}
pub use Rattle.trait_rules.specs.declared.rules.Rules.{Rules}
pub use Rattle.trait_rules.specs.declared.rules.Shape.{Shape}
