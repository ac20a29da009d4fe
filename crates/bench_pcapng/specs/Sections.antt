-- What a section header block says. Its body: the byte order mark (4 bytes), the version (2 and 2), the length of the section (8), options.
use Rattle.std.specs.Prelude.{ℕ, List, Option, Some, None, if◌then◌else◌, ◌==◌, nat_lt, length, drop}
use Rattle.bench_pcapng.specs.Blocks.{order_by_mark}
use Rattle.bench_pcapng.specs.Numbers.{number_in}
use Rattle.bench_pcapng.specs.declared.order.Order.{Order}
use Rattle.bench_pcapng.specs.declared.order.Order.TheVariants.{HighFirst}

-- the byte order, if the version is 1.x
abbrev pub of_version : Option Order → List ℕ → Option Order
of_version None body = None
of_version (Some order) body = if number_in 2 order (drop 4 body) == 1 then Some order else None

-- the byte order of a section, None where its header is too small, its mark is neither way round, or its version isn't 1.x
unfoldable pub section_of : List ℕ → Option Order
section_of body =
    if nat_lt (length body) 16 then None
    else of_version (order_by_mark (number_in 4 HighFirst body)) body
