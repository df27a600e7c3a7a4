-- Two lists of one length as a list of pairs, whose newest stands first.
use Rattle.std.specs.Prelude.{List, [], ◌∷◌, Option, Some, None}

-- the pairs of es and fs on top of those below, the last pair first
abbrev pub paired : {E F : Type 0} → List (E × F) → List E → List F → List (E × F)
paired below [] fs = below
paired below (e ∷ es) [] = below
paired below (e ∷ es) (f ∷ fs) = paired ((e, f) ∷ below) es fs

-- the newest, if there is one
abbrev pub newest : {A : Type 0} → List A → Option A
newest [] = None
newest (s ∷ below) = Some s

-- f of the newest, and the others as they are
abbrev pub change_newest : {A : Type 0} → (A → A) → List A → List A
change_newest f [] = []
change_newest f (s ∷ below) = f s ∷ below
