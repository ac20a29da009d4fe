-- The class of a frame: what the port's table uses for it, and how it ends (ITU-T G.988, clauses 9.3.13, 9.3.10, 9.2.4 and 9.2.3).
use Rattle.std.specs.Prelude.{ℕ, ◌+◌, ◌*◌, ◌^◌, Bool, true, ◌&&◌, List, nat_lt}
use Rattle.mib_state.specs.Entities.{Entities}
use Rattle.frame_meaning.specs.declared.verdict.Verdict.{Verdict}
use Rattle.frame_meaning.specs.declared.verdict.Verdict.TheVariants.{Forward, Drop}
use Rattle.frame_meaning.specs.Meaning.{meaning}
use Rattle.frame_meaning.specs.Reason.{number_of_reason}
use Rattle.frame_rows.specs.declared.class.Use.{Use}
use Rattle.frame_rows.specs.declared.class.Use.TheVariants.{Unread, NoTable, Entry, NoEntry}
use Rattle.frame_rows.specs.declared.class.Ending.{Ending}
use Rattle.frame_rows.specs.declared.class.Ending.TheVariants.{Gem, Dropped}
use Rattle.frame_rows.specs.declared.class.FrameClass.{FrameClass}
use Rattle.frame_rows.specs.Use.{use_of}

-- how a frame ends
abbrev pub ending_by : Verdict → Ending
ending_by (Forward gem frame) = Gem gem
ending_by (Drop reason) = Dropped reason

-- the class of a frame that comes in at a port
unfoldable pub class_of : Entities → ℕ → List ℕ → FrameClass
class_of e port bytes = record { used = use_of e port bytes; ending = ending_by (meaning e port bytes) }

-- ---- their order

-- uses in their order: the numbers of entries have 8 bits
abbrev pub use_number : Use → ℕ
use_number Unread = 0
use_number NoTable = 1
use_number (Entry number) = 2 + number
use_number NoEntry = 2 + 2 ^ 8

-- the number of an entry has 8 bits, and that of a GEM port 16
abbrev pub use_fits : Use → Bool
use_fits Unread = true
use_fits NoTable = true
use_fits (Entry number) = nat_lt number (2 ^ 8)
use_fits NoEntry = true

abbrev pub ending_fits : Ending → Bool
ending_fits (Gem gem) = nat_lt gem (2 ^ 16)
ending_fits (Dropped reason) = true

abbrev pub class_fits : FrameClass → Bool
class_fits class = use_fits class.used && ending_fits class.ending

-- endings in their order: GEM ports, which have 16 bits, and then the reasons to drop
abbrev pub ending_number : Ending → ℕ
ending_number (Gem gem) = gem
ending_number (Dropped reason) = 2 ^ 16 + number_of_reason reason

-- classes in their order: by the use, and within a use by the ending
abbrev pub class_number : FrameClass → ℕ
class_number class = use_number class.used * 2 ^ 17 + ending_number class.ending
