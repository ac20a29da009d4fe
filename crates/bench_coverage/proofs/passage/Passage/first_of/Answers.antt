use Rattle.bench_coverage.specs.Passage.{entities_in}
use Rattle.bench_coverage.specs.declared.passage.Passage.{Passage}
use Rattle.bench_coverage.proofs.Ready.{ready_from}
use Rattle.bench_coverage.proofs.Stretched.{begins_itself}
use Rattle.bench_coverage.proofs.passage.Passage.first_of.Goals as goal

pub returns-clause-ready : goal.returns-clause-ready
returns-clause-ready c =
    let passage : Passage = record {
      requests = c.args.requests;
      base = c.args.base;
      port = c.args.port;
      least = c.args.least;
      version = c.args.version;
      first = c.args.version;
      states = c.args.states;
      uses = c.in-Ok.uses;
      rows = c.in-Ok-of.rows;
      known = c.in-Ok-new.known;
    } in
    ready_from passage c.mib.result.now.entities c.mib-2.result.now.entities
    (record {
      inside = begins_itself (entities_in passage) passage.port passage.least passage.version c.requires.begins;
      before = c.requires.before;
      here = c.requires.here;
    })
    c.mib.ensures c.mib-2.ensures c.in-Ok.ensures c.in-Ok-of.ensures.mean (c.in-Ok-new.ensures (entities_in passage passage.version) passage.port)
