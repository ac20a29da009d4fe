-- The numbers of the faults of a message.
use Rattle.std.specs.Prelude.{ℕ}
use Rattle.omci_msg.specs.declared.fault.MsgFault.{MsgFault}
use Rattle.omci_msg.specs.declared.fault.MsgFault.TheVariants.{Length, Destination, NotRequest, NotReply, Device}

abbrev pub number_of_fault : MsgFault → ℕ
number_of_fault (Length n) = 1
number_of_fault Destination = 2
number_of_fault NotRequest = 3
number_of_fault NotReply = 5
number_of_fault (Device n) = 4
