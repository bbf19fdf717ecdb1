-- What a reference has found, as contracts see it.
use Rattle.scopes.specs.declared.access.Found.{Found}
use Rattle.scopes.specs.Resolution.{Finding}

-- the finding that the program holds
abbrev pub shown : Found → Finding
shown found = record { pos = found.pos; referent = found.ground.now; pattern = found.pattern }
