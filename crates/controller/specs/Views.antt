-- What a controller holds. Assumes nothing.
use Rattle.std.specs.Prelude.{◌≡◌}
use Rattle.model.specs.System.{System}
use Rattle.model.specs.State.{State}
use Rattle.table.specs.SystemOf.{system_of}
use Rattle.controller.specs.Hosted.{hosted}
use Rattle.controller.specs.declared.held.Controller.{Controller}

abbrev pub system_in : Controller → System
system_in c = hosted (system_of c.table.bytes.now)

abbrev pub state_in : Controller → State
state_in c = c.machines

-- a call leaves the table and the capacity
pub record Keeps (c d : Controller) : Type 0 where
  pub table : d.table ≡ c.table
  pub capacity : d.capacity ≡ c.capacity
