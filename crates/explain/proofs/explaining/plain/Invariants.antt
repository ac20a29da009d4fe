use Rattle.std.proofs.Common.{◌≡◌, map, take}
use Rattle.explain.specs.declared.outgoing.OutgoingTag.{OutgoingTag}
use Rattle.explain.proofs.explaining.plain.Given as goal

abbrev pub invariant-loop-tag : goal.invariant-loop-tag
invariant-loop-tag l = l.tags.items ≡ map (λ (o : OutgoingTag). o.tag) (take l.tag-index l.tag-items)
