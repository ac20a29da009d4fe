-- A frame that leaves fits.
use Rattle.std.proofs.Common.{◌≡◌, ◌≤◌, ◌<◌, ◌^◌, ℕ, List, [], length, Option, Some, None, Result, Ok, Err, refl, sym, ap, arith, length-take}
use Rattle.tag_view.specs.Dscp.{dscp_of}
use Rattle.tag_view.specs.Frame.{Reading, fault_of, frame_of, reading_of}
use Rattle.tag_view.specs.Tag.{TagFields}
use Rattle.tag_view.specs.declared.fault.FrameFault.{FrameFault}
use Rattle.mib_state.specs.Entities.{Entities}
use Rattle.frame_meaning.specs.Meaning.{forwarded_by, found_then, gem_port_at, input_tpid_of, meaning, table_at, tags_at, verdict_of}
use Rattle.frame_meaning.specs.Reason.{reason_of_fault}
use Rattle.frame_meaning.specs.Size.{LeavesLittleMore}
use Rattle.frame_meaning.specs.declared.reason.Reason.{Reason}
use Rattle.frame_meaning.specs.declared.verdict.Verdict.{Verdict}
use Rattle.frame_meaning.specs.declared.verdict.Verdict.TheVariants.{Forward, Drop}
use Rattle.bench_forward.specs.Sizes.{FitsPacket}

abbrev addresses_in : Verdict → List ℕ
addresses_in (Forward gem frame) = frame.addresses
addresses_in (Drop reason) = []

by_gem : (frame : Reading) (tags : List TagFields) (found : Result ℕ Reason) (gem : ℕ) (out : Reading)
    → verdict_of (found_then found (λ gem. Ok (gem, record frame { tags = tags }))) ≡ Forward gem out → frame.addresses ≡ out.addresses
by_gem frame tags (Ok g) gem out is = ap addresses_in is
by_gem frame tags (Err reason) gem out is = absurd (cc)

by_tags : (frame : Reading) (tags : Result (List TagFields) Reason) (port_of : List TagFields → Result ℕ Reason) (gem : ℕ) (out : Reading)
    → verdict_of (found_then tags (λ tags. found_then (port_of tags) (λ gem. Ok (gem, record frame { tags = tags })))) ≡ Forward gem out → frame.addresses ≡ out.addresses
by_tags frame (Ok tags) port_of gem out is = by_gem frame tags (port_of tags) gem out is
by_tags frame (Err reason) port_of gem out is = absurd (cc)

-- it has the addresses of the frame that came, which are twelve bytes at most
addresses_within : (e : Entities) (port : ℕ) (bytes : List ℕ) (gem : ℕ) (out : Reading) → meaning e port bytes ≡ Forward gem out → length out.addresses ≤ 12
unfolding meaning forwarded_by frame_of
addresses_within e port bytes gem out is = by_fault (fault_of input bytes) refl
  where
    input : ℕ
    input = input_tpid_of (table_at e port)

    reading : Reading
    reading = reading_of input bytes

    by_fault : (fault : Option FrameFault) → fault_of input bytes ≡ fault → length out.addresses ≤ 12
    by_fault None none =
        let same = by_tags (reading_of input bytes) (tags_at (table_at e port) (reading_of input bytes)) (λ tags. gem_port_at e port tags (dscp_of (reading_of input bytes).rest)) gem out (rw none at is) in
        omega (arith, ap length same, length-take 12 bytes)
    by_fault (Some fault) some =
        let no : Drop (reason_of_fault fault) ≡ Forward gem out = rw some at is in
        cc

pub fits : (e : Entities) (port : ℕ) (bytes : List ℕ) (verdict : Verdict) → verdict ≡ meaning e port bytes → LeavesLittleMore bytes verdict → length bytes < 2 ^ 63
    → FitsPacket verdict
fits e port bytes (Forward gem frame) is size few = record {
  addresses = addresses_within e port bytes gem frame (sym is);
  few = omega (arith, size.little, few);
}
fits e port bytes (Drop reason) is size few = tt
