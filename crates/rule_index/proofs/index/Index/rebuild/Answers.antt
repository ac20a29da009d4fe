-- Bounded, so that a wrong body is refused at once.
use Rattle.std.proofs.Common.{rules}
use Rattle.rule_index.proofs.index.Index.rebuild.Goals as goal

pub compile_from-requires-clause-same : goal.compile_from-requires-clause-same
compile_from-requires-clause-same c = search rules fits 30

pub compile_from-requires-clause-within : goal.compile_from-requires-clause-within
compile_from-requires-clause-within c = search rules fits 30
