use Rattle.std.proofs.Common.{◌≡◌, ℕ, List, refl, arith, subst, sym}
use Rattle.std.specs.Prelude.{replicate}
use Rattle.frame_stats.specs.Figures.{gem_ports}
use Rattle.bench_forward.specs.Rows.{AreWithin}
use Rattle.bench_forward.proofs.Nothing.{no_drops_within, none_within, nothing_counted}
use Rattle.bench_forward.proofs.totals.Totals.new.Goals as goal

pub invariant_of-result : goal.invariant_of-result
invariant_of-result c =
    let items : c.in_ok-vec.field-0.items ≡ replicate 65536 0 = c.in_ok-vec.ensures.items_if_clones_equal (λ y same. same) in
    record {
      few_forwarded = omega arith;
      few_cut = omega arith;
      few_drops = no_drops_within;
      few_gems = subst (λ (counts : List ℕ). AreWithin gem_ports 0 counts) (sym items) (none_within gem_ports);
    }

pub returns : goal.returns
returns c =
    let items : c.in_ok-vec.field-0.items ≡ replicate 65536 0 = c.in_ok-vec.ensures.items_if_clones_equal (λ y same. same) in
    nothing_counted _ refl refl refl refl refl items
