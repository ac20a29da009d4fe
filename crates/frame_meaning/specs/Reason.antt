-- Why a frame is dropped: the numbers of the reasons, and the reason that a frame's fault is.
use Rattle.std.specs.Prelude.{ℕ}
use Rattle.tag_view.specs.declared.fault.FrameFault.{FrameFault}
use Rattle.tag_view.specs.declared.fault.FrameFault.TheVariants as fault
use Rattle.frame_meaning.specs.declared.reason.Reason.{Reason}
use Rattle.frame_meaning.specs.declared.reason.Reason.TheVariants.{Runt, CutTag, NoRule, RuleDiscard, NoMapper, NullPointer, NoInterwork, NoGem, Direction}

-- the reasons in the order in which they are found
abbrev pub number_of_reason : Reason → ℕ
number_of_reason Runt = 1
number_of_reason CutTag = 2
number_of_reason NoRule = 3
number_of_reason RuleDiscard = 4
number_of_reason NoMapper = 5
number_of_reason NullPointer = 6
number_of_reason NoInterwork = 7
number_of_reason NoGem = 8
number_of_reason Direction = 9

-- how many reasons there are
abbrev pub reason_count : ℕ
reason_count = 9

abbrev pub reason_of_fault : FrameFault → Reason
reason_of_fault fault.Runt = Runt
reason_of_fault fault.CutTag = CutTag
