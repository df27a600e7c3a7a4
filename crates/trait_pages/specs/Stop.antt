-- Why a program ended early.
use Rattle.std.specs.Prelude.{ℕ, Bool, true, false, Result, Ok, Err}
use Rattle.trait_pages.specs.declared.stop.Stop.{Stop}
use Rattle.trait_pages.specs.declared.stop.Stop.TheVariants.{BadData, InputOrOutput, Memory, NotOpened, Refused, Usage}

-- the exit status
abbrev pub status_of : Stop → ℕ
status_of (Refused reason) = 2
status_of Usage = 2
status_of (BadData place) = 2
status_of (NotOpened reason) = 3
status_of InputOrOutput = 3
status_of Memory = 4

-- 0 where all is fine, and 1 where something is not
abbrev pub status_after : Result Bool Stop → ℕ
status_after (Ok true) = 0
status_after (Ok false) = 1
status_after (Err stop) = status_of stop
