-- The bytes that are let go are the first ones.
use Rattle.bench_capture.proofs.Holding.{held_taken}
use Rattle.bench_capture.proofs.window.Window.take.Goals as goal

pub returns-clause-held : goal.returns-clause-held
returns-clause-held c = held_taken c.args.self.now.bytes.items c.args.self.now.start c.args.self.now.end c.args.count c.requires
