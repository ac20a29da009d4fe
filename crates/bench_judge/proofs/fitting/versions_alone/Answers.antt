use Rattle.bench_judge.proofs.Held.{nothing_held}
use Rattle.bench_judge.proofs.Alone.{alone_none, alone_some, alone_within}
use Rattle.bench_judge.proofs.fitting.versions_alone.Goals as goal

pub sweep-requires-clause-within : goal.sweep-requires-clause-within
sweep-requires-clause-within g c =
    let case = c.args.case.now in
    alone_within case.events.now case.requests.now case.frames.now c.in_ok-left.left.items c.deref-2.result.now c.in_ok-found.found.items c.deref.result.now
    c.in_ok-found.ensures.count c.deref.ensures.value c.deref-2.ensures.value c.in_ok-left.ensures.each c.in_ok-left.ensures.count c.requires.within

pub returns-in-Some : goal.returns-in-Some
returns-in-Some g c =
    let case = c.args.case.now in
    alone_some case.events.now case.requests.now case.frames.now c.in_ok-left.left.items c.deref-2.result.now c.in_ok-found.found.items c.deref.result.now
    c.in_ok-found.ensures.count c.deref.ensures.value c.deref-2.ensures.value c.in_ok-left.ensures.each c.in_ok-left.ensures.count
    c.in_ok-others.field-0 c.in-Some.others c.in-Some.is c.in_ok-others.ensures c.in_ok-found.ensures.had
    c.deref-in-Some-2.result.now c.deref-in-Some.result.now c.in_ok-all_versions-in-Some.field-0.items c.deref-in-Some-2.ensures.value c.deref-in-Some.ensures.value
    c.in_ok-all_versions-in-Some.ensures.each c.in_ok-all_versions-in-Some.ensures.count

pub returns : goal.returns
returns g c =
    let case = c.args.case.now in
    alone_none case.events.now case.requests.now case.frames.now c.in_ok-left.left.items c.deref-2.result.now c.in_ok-found.found.items c.deref.result.now
    c.in_ok-found.ensures.count c.deref.ensures.value c.deref-2.ensures.value c.in_ok-left.ensures.each c.in_ok-left.ensures.count
    c.in_ok-others.field-0 c.in-None.is c.in_ok-others.ensures

pub sweep-requires-clause-known : goal.sweep-requires-clause-known
sweep-requires-clause-known g c =
    let case = c.args.case.now in
    nothing_held case.events.now case.requests.now c.deref-2.result.now c.nothing.result c.nothing.ensures
