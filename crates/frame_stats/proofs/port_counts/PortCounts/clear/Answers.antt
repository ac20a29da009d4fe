use Rattle.std.proofs.Common.{◌≡◌, ℕ, arith, refl}
use Rattle.std.specs.Ordering.{nat_cmp}
use Rattle.std.specs.Prelude.{None}
use Rattle.std.specs.BTreeMap.{BTreeMap, get, IsEmpty}
use Rattle.frame_stats.specs.Ports.{in_map}
use Rattle.frame_stats.proofs.RunSums.{no_frames}
use Rattle.frame_stats.proofs.port_counts.PortCounts.clear.Goals as goal

nothing_found : (m : BTreeMap ℕ ℕ) (q : ℕ) → IsEmpty m → get nat_cmp m q ≡ None
nothing_found m q empty = rw empty refl

nothing_in_map : (m : BTreeMap ℕ ℕ) (q : ℕ) → IsEmpty m → in_map m q ≡ 0
nothing_in_map m q empty = rw (nothing_found m q empty) refl

pub invariant_of-self : goal.invariant_of-self
invariant_of-self c = record {
  no_zeros = λ q found. let none = nothing_found c.clear.new.self q c.clear.ensures.empty in cc;
  fits = λ q. omega (arith, nothing_in_map c.clear.new.self q c.clear.ensures.empty, no_frames q c.end_frames.new.runs c.end_frames.ensures);
  placed = λ k some. absurd (omega (arith, some, c.end_frames.ensures k));
}

pub returns : goal.returns
returns c = λ q. omega (arith, nothing_in_map c.clear.new.self q c.clear.ensures.empty, no_frames q c.end_frames.new.runs c.end_frames.ensures)
