-- What reading one block gives.
use Rattle.std.specs.Prelude.{◌≡◌, ◌≤◌, ◌+◌, ℕ, List, Option, Some, None, Result, Ok, Err, length, take, drop}
use Rattle.bench_pcapng.specs.Captured.{Captured}
use Rattle.bench_pcapng.specs.Reading.{Progress, Step, Passes, Yields, Fails, place_at, step_of, with_effect}
use Rattle.bench_pcapng.specs.declared.blocks.Block.{Block}
use Rattle.bench_pcapng.specs.declared.blocks.Located.{Located}
use Rattle.bench_pcapng.specs.declared.effect.Effect.{Effect}
use Rattle.bench_pcapng.specs.declared.fault.PcapngFault.{PcapngFault}
use Rattle.bench_pcapng.specs.declared.fault.PcapngFault.TheVariants.{Header, Link, Torn, TooLong, NoMemory}

-- what is known behind a block with this effect, and its packet; where memory is wanting, what was known
abbrev pub IsApplied : Progress → Effect → Result (Option Captured) PcapngFault → Progress → Type 0
IsApplied old effect (Ok None) new = (bytes behind : List ℕ) → with_effect (place_at old bytes) behind effect ≡ Passes (place_at new behind)
IsApplied old effect (Ok (Some packet)) new =
    (bytes behind : List ℕ) → with_effect (place_at old bytes) behind effect ≡ Yields packet (place_at new behind)
IsApplied old effect (Err fault) new = (fault ≡ NoMemory) × (new ≡ old)

-- the packet's bytes stand in the block, from its start on
pub record StandsIn (bytes : List ℕ) (located : Located) : Type 0 where
  pub stored : located.packet.bytes ≡ take (length located.packet.bytes) (drop located.start bytes)
  pub within : located.start + length located.packet.bytes ≤ length bytes

-- what a step came to, and what is known behind it
abbrev pub ComesTo : Step → List ℕ → Option Located → List ℕ → Progress → Type 0
ComesTo step bytes None behind new = step ≡ Passes (place_at new behind)
ComesTo step bytes (Some located) behind new = (step ≡ Yields located.packet (place_at new behind)) × StandsIn bytes located

-- the block at the front of the bytes, of which there are at least so many, and what is known behind it
pub record IsBlock (least : ℕ) (step : Step) (bytes : List ℕ) (block : Block) (new : Progress) : Type 0 where
  pub some : least ≤ block.length
  pub within : block.length ≤ length bytes
  pub comes : ComesTo step bytes block.packet (drop block.length bytes) new

-- what reading a block comes to; where it has a fault, or memory is wanting, as much is known as before
abbrev pub Reads : ℕ → Step → Progress → List ℕ → Result Block PcapngFault → Progress → Type 0
Reads least step old bytes (Ok block) new = IsBlock least step bytes block new
Reads least step old bytes (Err NoMemory) new = new ≡ old
Reads least step old bytes (Err Header) new = (step ≡ Fails Header) × (new ≡ old)
Reads least step old bytes (Err (Link link)) new = (step ≡ Fails (Link link)) × (new ≡ old)
Reads least step old bytes (Err (Torn n)) new = (step ≡ Fails (Torn n)) × (new ≡ old)
Reads least step old bytes (Err (TooLong n)) new = (step ≡ Fails (TooLong n)) × (new ≡ old)

-- what reading the first block of these bytes gives
abbrev pub IsRead : Progress → List ℕ → Result Block PcapngFault → Progress → Type 0
IsRead old bytes result new = Reads 12 (step_of (place_at old bytes)) old bytes result new
