use Rattle.std.proofs.Common.{length, refl}
use Rattle.bench_coverage.specs.declared.known.Known.{Known}
use Rattle.bench_coverage.proofs.Kept.{one_more}
use Rattle.bench_coverage.proofs.known.KnownClasses.keep.Goals as goal

pub returns-in-Some-get_mut : goal.returns-in-Some-get_mut
returns-in-Some-get_mut c = λ e port are is.
    let head = c.args.head.now in
    let new : Known = record { front = c.in-Some.front.now; length = length head; class = c.args.class } in
    one_more e port head new refl c.in-Some.ensures.cases.same c.args.self.now _ c.place_of.result are is refl
