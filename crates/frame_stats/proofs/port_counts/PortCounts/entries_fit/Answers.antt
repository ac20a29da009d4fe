use Rattle.std.proofs.Common.{◌≡◌, ◌+◌, ◌<◌, ◌^◌, [], ◌∷◌, map, sym, subst, rules}
use Rattle.std.specs.List.{AllByRecursion}
use Rattle.std.specs.Map.Iter.{deref_pair}
use Rattle.std.proofs.lemmas.Map.Iter.{iter_end}
use Rattle.std.proofs.lemmas.List.{map-append}
use Rattle.frame_stats.specs.Figures.{at_port}
use Rattle.frame_stats.proofs.PortSums.{holds_push, found_holds}
use Rattle.frame_stats.proofs.port_counts.PortCounts.entries_fit.Goals as goal

pub returns : goal.returns
returns c = λ q some.
    let whole : map deref_pair c.loop-gem.yielded ≡ c.args.more.now.others.entries = search (rules, iter_end) in
    found_holds (λ p. at_port c.args.self.now p + at_port c.args.more.now p < 2 ^ 64) q c.args.more.now.others.entries
    (subst (λ es. AllByRecursion (λ e. at_port c.args.self.now e.0 + at_port c.args.more.now e.0 < 2 ^ 64) es) whole c.loop-gem.invariant) some

pub loop-gem-preserved : goal.loop-gem-preserved
loop-gem-preserved c =
    subst (λ es. AllByRecursion (λ e. at_port c.args.self.now e.0 + at_port c.args.more.now e.0 < 2 ^ 64) es)
    (sym (map-append deref_pair c.loop-gem.yielded ((c.in-Some.gem, c.in-Some.field-0-1) ∷ [])))
    (holds_push (λ p. at_port c.args.self.now p + at_port c.args.more.now p < 2 ^ 64) (map deref_pair c.loop-gem.yielded) (c.in-Some.gem.now, c.in-Some.field-0-1.now) c.loop-gem.invariant c.if-not-port_fits.ensures)
