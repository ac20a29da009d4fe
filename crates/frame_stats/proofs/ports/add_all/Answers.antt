use Rattle.std.proofs.Common.{◌≡◌, ◌+◌, ◌++◌, ◌∷◌, ◌∙◌, map, ap, sym, arith, rules}
use Rattle.std.specs.Map.Iter.{deref_pair}
use Rattle.std.specs.Map.{keys_of}
use Rattle.std.proofs.lemmas.Map.Iter.{iter_end, rest_so_far, rest_more}
use Rattle.std.specs.List.Sorted.{IsStrictlySortedBy}
use Rattle.std.specs.Ordering.{nat_cmp}
use Rattle.frame_stats.specs.Ports.{in_map}
use Rattle.frame_stats.proofs.PortSums.{entry_part, sum_at, sum_at_entries}
use Rattle.frame_stats.proofs.ports.add_all.Goals as goal

pub returns-clause-added : goal.returns-clause-added
returns-clause-added c = λ q.
    let whole : map deref_pair c.loop-gem.yielded ≡ c.args.others.now.entries = search (rules, iter_end) in
    let ordered : IsStrictlySortedBy nat_cmp (keys_of c.args.others.now.entries) = search rules in
    c.loop-gem.invariant.added q ∙ ap (λ n. in_map c.args.ports.now q + n) (ap (sum_at q) whole ∙ sum_at_entries q c.args.others.now.entries ordered)

pub add_frames-requires : goal.add_frames-requires
add_frames-requires c =
    let ordered : IsStrictlySortedBy nat_cmp (keys_of c.args.others.now.entries) = search rules in
    let start : c.into_iter-gem-iterator.result ≡ c.args.others.now.entries = search rules in
    let all : c.args.others.now.entries ≡ map deref_pair c.loop-gem.yielded ++ (c.in-Some.gem.now, c.in-Some.frames.now) ∷ c.next.new.self =
    sym start ∙ rest_so_far deref_pair c.loop-gem.yielded c.into_iter-gem-iterator.result c.loop-gem.gem-iterator c.loop-gem.yielded_by
    ∙ ap (λ l. map deref_pair c.loop-gem.yielded ++ l) (rest_more deref_pair c.loop-gem.gem-iterator c.next.new.self c.next.result (c.in-Some.gem, c.in-Some.frames) c.in-Some.is c.next.ensures.steps) in
    let part = entry_part c.args.others.now c.in-Some.gem.now c.in-Some.frames.now (map deref_pair c.loop-gem.yielded) c.next.new.self ordered all in
    omega (arith, c.loop-gem.invariant.added c.in-Some.gem.now, part, c.requires c.in-Some.gem.now)
