use Rattle.std.proofs.Common.{◌≡◌, ◌++◌, ◌<◌, length}
use Rattle.std.specs.Prelude.{All}
use Rattle.explain.specs.Steps.{mismatch_at, tries, tries_of}
use Rattle.explain.proofs.entries.append_tries.Given as goal

abbrev pub invariant-loop-place : goal.invariant-loop-place
invariant-loop-place l = record {
  told : l.steps.items ++ tries (mismatch_at l.table l.frame) l.place-iterator.rest.now ≡ l.fn.steps.items ++ tries_of l.table l.frame;
  in_range : All (λ place. place < length l.table.entries) l.place-iterator.rest.now;
}
