-- The numbers of the faults of a control.
use Rattle.std.specs.Prelude.{ℕ}
use Rattle.plan_publish.specs.declared.fault.OpenFault.{OpenFault}
use Rattle.plan_publish.specs.declared.fault.OpenFault.TheVariants.{Lanes, NoMemory, Refused}
use Rattle.plan_publish.specs.declared.fault.ControlFault.{ControlFault}
use Rattle.plan_publish.specs.declared.fault.ControlFault.TheVariants.{Msg, NoMemory as NoRoom}

abbrev pub number_of_open_fault : OpenFault → ℕ
number_of_open_fault (Lanes n) = 1
number_of_open_fault NoMemory = 2
number_of_open_fault Refused = 3

abbrev pub number_of_control_fault : ControlFault → ℕ
number_of_control_fault (Msg fault) = 1
number_of_control_fault NoRoom = 2
