-- What the calls of a reader give.
use Rattle.std.specs.Prelude.{◌≡◌, Option, Some, None, Result, Ok, Err}
use Rattle.bench_pcapng.specs.Captured.{Captured}
use Rattle.bench_pcapng.specs.Reading.{Place, Reading, Step, Passes, Yields, Fails, nothing_left, place_at, stopped, with_packet}
use Rattle.bench_pcapng.specs.declared.fault.PcapngFault.{PcapngFault}
use Rattle.bench_pcapng.specs.declared.fault.PcapngFault.TheVariants.{Header, Link, Torn, TooLong, NoMemory}
use Rattle.bench_pcapng.specs.declared.walk.Walk.{Walk}

-- where a walk stands
abbrev pub place_of : Walk → Place
place_of walk = place_at walk.blocks walk.rest.now

-- what one step of a walk came to, and the place behind it; where memory is wanting, or there is a fault, the place is the same
abbrev pub IsStepped : Step → Place → Result (Option Captured) PcapngFault → Place → Type 0
IsStepped step old (Ok None) new = step ≡ Passes new
IsStepped step old (Ok (Some packet)) new = step ≡ Yields packet new
IsStepped step old (Err NoMemory) new = new ≡ old
IsStepped step old (Err Header) new = (step ≡ Fails Header) × (new ≡ old)
IsStepped step old (Err (Link link)) new = (step ≡ Fails (Link link)) × (new ≡ old)
IsStepped step old (Err (Torn n)) new = (step ≡ Fails (Torn n)) × (new ≡ old)
IsStepped step old (Err (TooLong n)) new = (step ≡ Fails (TooLong n)) × (new ≡ old)

-- what the next call gives, of what was left to be read, and what is left then: the first packet and those behind it; nothing, where no
-- packet and no fault is left; or the fault that is left behind the last packet. Where nothing or a fault comes, as much is left as
-- before, and so it is where memory is wanting.
abbrev pub IsNext : Result (Option Captured) PcapngFault → Reading → Reading → Type 0
IsNext (Ok None) old new = (old ≡ nothing_left) × (new ≡ old)
IsNext (Ok (Some packet)) old new = old ≡ with_packet packet new
IsNext (Err NoMemory) old new = new ≡ old
IsNext (Err Header) old new = (old ≡ stopped Header) × (new ≡ old)
IsNext (Err (Link link)) old new = (old ≡ stopped (Link link)) × (new ≡ old)
IsNext (Err (Torn n)) old new = (old ≡ stopped (Torn n)) × (new ≡ old)
IsNext (Err (TooLong n)) old new = (old ≡ stopped (TooLong n)) × (new ≡ old)

-- what the opening of a file gives, of all that there is to be read: all of it, or that the header is at fault
abbrev pub IsOpened : Reading → Result Reading PcapngFault → Type 0
IsOpened all (Ok left) = left ≡ all
IsOpened all (Err fault) = (fault ≡ Header) × (all ≡ stopped Header)
