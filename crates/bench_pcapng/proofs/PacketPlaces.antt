-- Where a packet's bytes stand in its block.
use Rattle.std.proofs.Common.{◌≡◌, ◌≤◌, ℕ, ◌+◌, ◌-◌, ◌==◌, Bool, true, false, List, length, take, drop, Option, Some, None, arith, refl, sym, ap, ◌∙◌, length-drop, length-take}
use Rattle.std.specs.Prelude.{if◌then◌else◌, Result, Ok, Err, min, slice_get}
use Rattle.std.proofs.lemmas.Bool.{ltb-false, eqb-true}
use Rattle.std.proofs.lemmas.List.{drop-drop, drop-take, length-take-le, take-take}
use Rattle.bench_pcapng.specs.Blocks.{body_of, kind_of, section_kind, whole_length}
use Rattle.bench_pcapng.specs.Captured.{Captured}
use Rattle.bench_pcapng.specs.Effects.{begins, describes, effect_of, gives}
use Rattle.bench_pcapng.specs.Interfaces.{interface_of}
use Rattle.bench_pcapng.specs.Packets.{checked_of, data_start, enhanced_of, obsolete_of, simple_by, simple_of, stored_of, timed_by, timed_of}
use Rattle.bench_pcapng.specs.Read.{StandsIn}
use Rattle.bench_pcapng.specs.Reading.{Place, Progress, Yields, place_at, step_of, with_effect}
use Rattle.bench_pcapng.specs.Sections.{section_of}
use Rattle.bench_pcapng.specs.declared.effect.Effect.{Effect}
use Rattle.bench_pcapng.specs.declared.effect.Effect.TheVariants.{Section, Describes, Gives, Nothing}
use Rattle.bench_pcapng.specs.declared.fault.BlockFault.{BlockFault}
use Rattle.bench_pcapng.specs.declared.interface.Interface.{Interface}
use Rattle.bench_pcapng.specs.declared.order.Order.{Order}

-- the packet's bytes are the front of what is behind so many bytes
pub record IsBehind (skipped : ℕ) (bytes : List ℕ) (packet : Captured) : Type 0 where
  pub stored : packet.bytes ≡ take (length packet.bytes) (drop skipped bytes)
  pub within : skipped + length packet.bytes ≤ length bytes

no_fault : {A B : Type 0} (b : Bool) (fault : B) (x : A) (more : Result A B) → (if b then Err fault else more) ≡ Ok x → (b ≡ false) × (more ≡ Ok x)
no_fault true fault x more is = absurd (cc)
no_fault false fault x more is = (refl, is)

stored_behind : (skipped interface time original stored : ℕ) (bytes : List ℕ) (packet : Captured)
    → skipped ≤ length bytes → stored_of interface time original stored (drop skipped bytes) ≡ Ok packet → IsBehind skipped bytes packet
unfolding stored_of
stored_behind skipped interface time original stored bytes packet long is =
    let a = no_fault _ _ _ _ is in
    let b = no_fault _ _ _ _ a.1 in
    let fits : stored ≤ length (drop skipped bytes) = ltb-false (length (drop skipped bytes)) stored b.0 in
    let same : take stored (drop skipped bytes) ≡ packet.bytes =
    stored_bytes (record { interface = interface; time = time; original = original; bytes = take stored (drop skipped bytes) }) packet _ refl b.1 in
    let size : length (take stored (drop skipped bytes)) ≡ stored = length-take-le stored (drop skipped bytes) fits in
    let size_of : length packet.bytes ≡ stored = ap length (sym same) ∙ size in
    record {
      stored = sym same ∙ ap (λ (n : ℕ). take n (drop skipped bytes)) (sym size_of);
      within = fits_behind (length packet.bytes) stored (length (drop skipped bytes)) skipped (length bytes) size_of fits long (length-drop skipped bytes);
    }
  where
    fits_behind : (count stored left skipped all : ℕ) → count ≡ stored → stored ≤ left → skipped ≤ all → left ≡ all - skipped → skipped + count ≤ all
    fits_behind count stored left skipped all a b d e = omega (arith, a, b, d, e)

    stored_bytes : (one other : Captured) (found : Result Captured BlockFault) → found ≡ Ok one → found ≡ Ok other → one.bytes ≡ other.bytes
    stored_bytes one other found is also = let same : one ≡ other = cc in ap (λ (p : Captured). p.bytes) same

timed_behind : (order : Order) (found : Result Interface BlockFault) (number : ℕ) (body : List ℕ) (packet : Captured)
    → 20 ≤ length body → timed_by found order number body ≡ Ok packet → IsBehind 20 body packet
timed_behind order (Err fault) number body packet long is = absurd (cc)
timed_behind order (Ok interface) number body packet long is = stored_behind 20 _ _ _ _ body packet long is

enhanced_behind : (order : Order) (interfaces : List Interface) (body : List ℕ) (packet : Captured) → enhanced_of order interfaces body ≡ Ok packet → IsBehind 20 body packet
unfolding enhanced_of timed_of
enhanced_behind order interfaces body packet is =
    let whole = no_fault _ _ _ _ is in
    timed_behind order _ _ body packet (ltb-false (length body) 20 whole.0) whole.1

obsolete_behind : (order : Order) (interfaces : List Interface) (body : List ℕ) (packet : Captured) → obsolete_of order interfaces body ≡ Ok packet → IsBehind 20 body packet
unfolding obsolete_of timed_of
obsolete_behind order interfaces body packet is =
    let whole = no_fault _ _ _ _ is in
    timed_behind order _ _ body packet (ltb-false (length body) 20 whole.0) whole.1

simple_behind : (order : Order) (interfaces : List Interface) (time : ℕ) (body : List ℕ) (packet : Captured) → simple_of order interfaces time body ≡ Ok packet → IsBehind 4 body packet
unfolding simple_of
simple_behind order interfaces time body packet is =
    let whole = no_fault _ _ _ _ is in
    by_found (checked_of (slice_get interfaces 0)) (ltb-false (length body) 4 whole.0) whole.1
  where
    by_found : (found : Result Interface BlockFault) → 4 ≤ length body → simple_by found order time body ≡ Ok packet → IsBehind 4 body packet
    by_found (Err fault) long same = absurd (cc)
    by_found (Ok interface) long same = stored_behind 4 _ _ _ _ body packet long same

-- the effect gives a packet only where a packet block does
given : (found : Result Captured BlockFault) (packet : Captured) → gives found ≡ Ok (Gives packet) → found ≡ Ok packet
given (Err fault) packet is = absurd (cc)
given (Ok other) packet is = cc

not_begun : (found : Option Order) (packet : Captured) → begins found ≡ Ok (Gives packet) → ⊥
not_begun None packet is = cc
not_begun (Some order) packet is = cc

pub not_described : (found : Option Interface) (packet : Captured) → describes found ≡ Ok (Gives packet) → ⊥
not_described None packet is = cc
not_described (Some interface) packet is = cc

pub effect_behind : (order : Order) (interfaces : List Interface) (time kind : ℕ) (body : List ℕ) (packet : Captured)
    → effect_of order interfaces time kind body ≡ Ok (Gives packet) → IsBehind (data_start kind - 8) body packet
unfolding effect_of
effect_behind order interfaces time kind body packet is =
    by_section (kind == section_kind) (kind == 1) (kind == 6) (kind == 3) (kind == 2) refl refl refl is
  where
    by_section : (section interface enhanced simple obsolete : Bool) → (kind == 6) ≡ enhanced → (kind == 3) ≡ simple → (kind == 2) ≡ obsolete
        → (if section then begins (section_of body) else (if interface then describes (interface_of order body)
        else (if enhanced then gives (enhanced_of order interfaces body) else (if simple then gives (simple_of order interfaces time body)
        else (if obsolete then gives (obsolete_of order interfaces body) else Ok Nothing))))) ≡ Ok (Gives packet)
        → IsBehind (data_start kind - 8) body packet
    by_section true interface enhanced simple obsolete sixth third second same = absurd (not_begun (section_of body) packet same)
    by_section false true enhanced simple obsolete sixth third second same = absurd (not_described (interface_of order body) packet same)
    by_section false false true simple obsolete sixth third second same =
        rw (eqb-true kind 6 sixth) (enhanced_behind order interfaces body packet (given _ packet same))
    by_section false false false true obsolete sixth third second same =
        rw (eqb-true kind 3 third) (simple_behind order interfaces time body packet (given _ packet same))
    by_section false false false false true sixth third second same =
        rw (eqb-true kind 2 second) (obsolete_behind order interfaces body packet (given _ packet same))
    by_section false false false false false sixth third second same = absurd (cc)

-- ---- a step over a block

-- a step over a whole block is its effect
pub step_given : (known : Progress) (bytes : List ℕ) (total : ℕ) (effect : Effect) → whole_length known.order bytes ≡ Some total
    → effect_of known.order known.interfaces known.time (kind_of known.order bytes) (body_of total bytes) ≡ Ok effect
    → step_of (place_at known bytes) ≡ with_effect (place_at known bytes) (drop total bytes) effect
unfolding step_of
step_given known bytes total effect whole does = rw (whole, does) refl

pub gives_packet : (place next : Place) (behind : List ℕ) (effect : Effect) (packet : Captured) → with_effect place behind effect ≡ Yields packet next → effect ≡ Gives packet
gives_packet place next behind (Section order) packet is = absurd (cc)
gives_packet place next behind (Describes interface) packet is = absurd (cc)
gives_packet place next behind (Gives other) packet is = let same : other ≡ packet = cc in ap (λ (p : Captured). Gives p) same
gives_packet place next behind Nothing packet is = absurd (cc)

-- what is behind so many bytes of a part is what is behind them of the whole
pub part_behind : (skipped size count : ℕ) (bytes : List ℕ) → skipped + count ≤ size → take count (drop skipped (take size bytes)) ≡ take count (drop skipped bytes)
part_behind skipped size count bytes within =
    let split : size ≡ skipped + (size - skipped) = omega (arith, within) in
    ap (λ (n : ℕ). take count (drop skipped (take n bytes))) split
    ∙ ap (λ (left : List ℕ). take count left) (drop-take skipped (size - skipped) bytes)
    ∙ take-take count (size - skipped) (drop skipped bytes) (omega (arith, within))

pub stands_in : (skipped start total : ℕ) (bytes : List ℕ) (packet : Captured) → 8 ≤ length bytes → start ≡ 8 + skipped → IsBehind skipped (body_of total bytes) packet
    → StandsIn bytes (record { packet = packet; start = start })
stands_in skipped start total bytes packet long begins behind =
    let joined : drop skipped (drop 8 bytes) ≡ drop start bytes = drop-drop skipped 8 bytes ∙ ap (λ (n : ℕ). drop n bytes) (sym begins) in
    let body : length (body_of total bytes) ≡ min (total - 12) (length (drop 8 bytes)) = length-take (total - 12) (drop 8 bytes) in
    let past : length (drop 8 bytes) ≡ length bytes - 8 = length-drop 8 bytes in
    record {
      stored = behind.stored ∙ part_behind skipped (total - 12) (length packet.bytes) (drop 8 bytes) (omega (arith, behind.within, body))
          ∙ ap (λ (left : List ℕ). take (length packet.bytes) left) joined;
      within = within_all (length packet.bytes) skipped start (length (body_of total bytes)) (length (drop 8 bytes)) (length bytes) (total - 12) behind.within body past long begins;
    }
  where
    within_all : (count skipped start size left all most : ℕ) → skipped + count ≤ size → size ≡ min most left → left ≡ all - 8 → 8 ≤ all → start ≡ 8 + skipped → start + count ≤ all
    within_all count skipped start size left all most a b d e f = omega (arith, a, b, d, e, f)

eight_behind : (kind : ℕ) → data_start kind ≡ 8 + (data_start kind - 8)
eight_behind kind = elim (kind == 3) as (λ b. (if b then 12 else 28) ≡ 8 + ((if b then 12 else 28) - 8)) [ true ↦ refl | false ↦ refl ]

-- the bytes of the packet that a block gives stand in it
pub given_stands : (known next : Progress) (bytes : List ℕ) (total : ℕ) (effect : Effect) (packet : Captured) → 8 ≤ length bytes
    → effect_of known.order known.interfaces known.time (kind_of known.order bytes) (body_of total bytes) ≡ Ok effect
    → with_effect (place_at known bytes) (drop total bytes) effect ≡ Yields packet (place_at next (drop total bytes))
    → StandsIn bytes (record { packet = packet; start = data_start (kind_of known.order bytes) })
given_stands known next bytes total effect packet long does yields =
    let gives = gives_packet (place_at known bytes) (place_at next (drop total bytes)) (drop total bytes) effect packet yields in
    let kind = kind_of known.order bytes in
    stands_in (data_start kind - 8) (data_start kind) total bytes packet long (eight_behind kind)
    (effect_behind known.order known.interfaces known.time kind (body_of total bytes) packet (does ∙ ap (λ (e : Effect). Ok e) gives))
