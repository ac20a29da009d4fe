-- What a packet block holds. The body of an enhanced one: interface (4 bytes), the high and the low half of the time (4 and 4), how
-- many bytes are stored (4), how many the frame had (4), data, options. That of an obsolete one is the same, but its interface has 2
-- bytes, and behind it stand 2 for the packets that were dropped. That of a simple one: how many bytes the frame had (4), data.
use Rattle.std.specs.Prelude.{ℕ, ◌+◌, ◌*◌, ◌^◌, List, Option, Some, None, Result, Ok, Err, if◌then◌else◌, ◌==◌, nat_lt, min, length, take, drop, slice_get}
use Rattle.bench_pcapng.specs.Captured.{Captured}
use Rattle.bench_pcapng.specs.Numbers.{number_in}
use Rattle.bench_pcapng.specs.Times.{nanoseconds_of}
use Rattle.bench_pcapng.specs.declared.fault.BlockFault.{BlockFault}
use Rattle.bench_pcapng.specs.declared.fault.BlockFault.TheVariants.{Link, Torn, TooLong}
use Rattle.bench_pcapng.specs.declared.interface.Interface.{Interface}
use Rattle.bench_pcapng.specs.declared.order.Order.{Order}
use Rattle.capture.specs.Limits.{ethernet_link, stored_limit}

-- an interface, if it is there and one of Ethernet
abbrev pub checked_of : Option Interface → Result Interface BlockFault
checked_of None = Err Torn
checked_of (Some interface) = if interface.link == ethernet_link then Ok interface else Err (Link interface.link)

-- the packet that stores so many bytes of the data
unfoldable pub stored_of : ℕ → ℕ → ℕ → ℕ → List ℕ → Result Captured BlockFault
stored_of interface time original stored bytes =
    if nat_lt stored_limit stored then Err TooLong
    else (if nat_lt (length bytes) stored then Err Torn
    else Ok (record { interface = interface; time = time; original = original; bytes = take stored bytes }))

-- the ticks that an enhanced or obsolete packet block gives
abbrev pub ticks_of : Order → List ℕ → ℕ
ticks_of order body = number_in 4 order (drop 4 body) * 2 ^ 32 + number_in 4 order (drop 8 body)

-- the packet of such a block, of an interface and its number
abbrev pub timed_by : Result Interface BlockFault → Order → ℕ → List ℕ → Result Captured BlockFault
timed_by (Err fault) order number body = Err fault
timed_by (Ok interface) order number body =
    stored_of number (nanoseconds_of interface.resolution interface.offset (ticks_of order body))
    (number_in 4 order (drop 16 body)) (number_in 4 order (drop 12 body)) (drop 20 body)

unfoldable pub timed_of : Order → List Interface → ℕ → List ℕ → Result Captured BlockFault
timed_of order interfaces number body = timed_by (checked_of (slice_get interfaces number)) order number body

unfoldable pub enhanced_of : Order → List Interface → List ℕ → Result Captured BlockFault
enhanced_of order interfaces body =
    if nat_lt (length body) 20 then Err Torn else timed_of order interfaces (number_in 4 order body) body

unfoldable pub obsolete_of : Order → List Interface → List ℕ → Result Captured BlockFault
obsolete_of order interfaces body =
    if nat_lt (length body) 20 then Err Torn else timed_of order interfaces (number_in 2 order body) body

-- how many bytes a simple packet block stores of a frame: at most the snap length of the interface, where that isn't 0
abbrev pub simple_length : ℕ → ℕ → ℕ
simple_length snap original = if snap == 0 then original else min original snap

-- the packet of a simple packet block, which is of interface 0, at this time
abbrev pub simple_by : Result Interface BlockFault → Order → ℕ → List ℕ → Result Captured BlockFault
simple_by (Err fault) order time body = Err fault
simple_by (Ok interface) order time body =
    stored_of 0 time (number_in 4 order body) (simple_length interface.snap_length (number_in 4 order body)) (drop 4 body)

unfoldable pub simple_of : Order → List Interface → ℕ → List ℕ → Result Captured BlockFault
simple_of order interfaces time body =
    if nat_lt (length body) 4 then Err Torn else simple_by (checked_of (slice_get interfaces 0)) order time body

-- how many bytes of a packet block of this type stand before the packet's own: the type, the length, and what the body begins with
abbrev pub data_start : ℕ → ℕ
data_start kind = if kind == 3 then 12 else 28
