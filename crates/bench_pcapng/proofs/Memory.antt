-- Want of memory is no fault of a file.
use Rattle.std.proofs.Common.{◌≡◌, ℕ, zero, suc, ◌==◌, Bool, true, false, List, length, drop, Option, Some, None, ap}
use Rattle.std.specs.Prelude.{Result, Ok, Err, if◌then◌else◌}
use Rattle.bench_pcapng.specs.Blocks.{whole_length}
use Rattle.bench_pcapng.specs.Reading.{Place, Reading, Step, Passes, Yields, Fails, after_step, nothing_left, opened, reading_at, reading_behind, reading_from, reading_of, step_by, step_of, with_effect, with_effect_or_fault}
use Rattle.bench_pcapng.specs.declared.effect.Effect.{Effect}
use Rattle.bench_pcapng.specs.declared.effect.Effect.TheVariants.{Section, Describes, Gives, Nothing}
use Rattle.bench_pcapng.specs.declared.fault.BlockFault.{BlockFault}
use Rattle.bench_pcapng.specs.declared.fault.BlockFault.TheVariants as block_faults
use Rattle.bench_pcapng.specs.declared.fault.PcapngFault.{PcapngFault}
use Rattle.bench_pcapng.specs.declared.fault.PcapngFault.TheVariants as faults

effect_fails : (place : Place) (behind : List ℕ) (effect : Effect) → with_effect place behind effect ≡ Fails faults.NoMemory → ⊥
effect_fails place behind (Section order) is = cc
effect_fails place behind (Describes interface) is = cc
effect_fails place behind (Gives packet) is = cc
effect_fails place behind Nothing is = cc

result_fails : (place : Place) (behind : List ℕ) (result : Result Effect BlockFault) → with_effect_or_fault place behind result ≡ Fails faults.NoMemory → ⊥
result_fails place behind (Err block_faults.Torn) is = cc
result_fails place behind (Err block_faults.TooLong) is = cc
result_fails place behind (Err (block_faults.Link link)) is = cc
result_fails place behind (Ok effect) is = effect_fails place behind effect is

step_fails : (place : Place) → step_of place ≡ Fails faults.NoMemory → ⊥
unfolding step_of
step_fails place is = by_length (whole_length place.order place.bytes) is
  where
    by_length : (found : Option ℕ) → step_by place found ≡ Fails faults.NoMemory → ⊥
    by_length None same = cc
    by_length (Some total) same = result_fails place (drop total place.bytes) _ same

after_fails : (step : Step) (more : Place → Reading) → (step ≡ Fails faults.NoMemory → ⊥) → ((next : Place) → (more next).fault ≡ Some faults.NoMemory → ⊥)
    → (after_step more step).fault ≡ Some faults.NoMemory → ⊥
after_fails (Passes next) more first later is = later next is
after_fails (Yields packet next) more first later is = later next is
after_fails (Fails fault) more first later is = let same : fault ≡ faults.NoMemory = cc in first (ap (λ (f : PcapngFault). Fails f) same)

ends_or : (ends : Bool) (here_is : Reading) → (here_is.fault ≡ Some faults.NoMemory → ⊥) → (if ends then nothing_left else here_is).fault ≡ Some faults.NoMemory → ⊥
ends_or true here_is never is = cc
ends_or false here_is never is = never is

from_fails : (most : ℕ) (place : Place) → (reading_from most place).fault ≡ Some faults.NoMemory → ⊥
from_fails zero place is = cc
from_fails (suc most) place is =
    ends_or (length place.bytes == 0) (after_step (λ next. reading_from most next) (step_of place))
    (after_fails (step_of place) (λ next. reading_from most next) (step_fails place) (λ next. from_fails most next)) is

pub never_memory : (file : List ℕ) → (reading_of file).fault ≡ Some faults.NoMemory → ⊥
unfolding reading_of reading_at
never_memory file is = by_place (opened file) is
  where
    by_place : (place : Option Place) → (reading_behind place).fault ≡ Some faults.NoMemory → ⊥
    by_place None same = cc
    by_place (Some place) same = from_fails (length place.bytes) place same
