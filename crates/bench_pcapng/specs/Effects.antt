-- What a block does, by its type: it begins a section, describes an interface, holds a packet, or is passed over.
use Rattle.std.specs.Prelude.{ℕ, List, Option, Some, None, Result, Ok, Err, if◌then◌else◌, ◌==◌}
use Rattle.bench_pcapng.specs.Blocks.{section_kind}
use Rattle.bench_pcapng.specs.Captured.{Captured}
use Rattle.bench_pcapng.specs.Interfaces.{interface_of}
use Rattle.bench_pcapng.specs.Packets.{enhanced_of, obsolete_of, simple_of}
use Rattle.bench_pcapng.specs.Sections.{section_of}
use Rattle.bench_pcapng.specs.declared.effect.Effect.{Effect}
use Rattle.bench_pcapng.specs.declared.effect.Effect.TheVariants.{Section, Describes, Gives, Nothing}
use Rattle.bench_pcapng.specs.declared.fault.BlockFault.{BlockFault}
use Rattle.bench_pcapng.specs.declared.fault.BlockFault.TheVariants.{Torn}
use Rattle.bench_pcapng.specs.declared.interface.Interface.{Interface}
use Rattle.bench_pcapng.specs.declared.order.Order.{Order}

abbrev pub begins : Option Order → Result Effect BlockFault
begins None = Err Torn
begins (Some order) = Ok (Section order)

abbrev pub describes : Option Interface → Result Effect BlockFault
describes None = Err Torn
describes (Some interface) = Ok (Describes interface)

abbrev pub gives : Result Captured BlockFault → Result Effect BlockFault
gives (Err fault) = Err fault
gives (Ok packet) = Ok (Gives packet)

-- what the block of this type and body does, in a section of this order and these interfaces, behind a packet at this time
unfoldable pub effect_of : Order → List Interface → ℕ → ℕ → List ℕ → Result Effect BlockFault
effect_of order interfaces time kind body =
    if kind == section_kind then begins (section_of body)
    else (if kind == 1 then describes (interface_of order body)
    else (if kind == 6 then gives (enhanced_of order interfaces body)
    else (if kind == 3 then gives (simple_of order interfaces time body)
    else (if kind == 2 then gives (obsolete_of order interfaces body)
    else Ok Nothing))))
