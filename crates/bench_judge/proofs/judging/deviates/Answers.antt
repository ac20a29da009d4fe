use Rattle.bench_judge.specs.declared.judgement.Wrong.TheVariants.{Frame}
use Rattle.bench_judge.specs.Terms.{terms_of}
use Rattle.bench_judge.proofs.Found.{frame_deviates}
use Rattle.bench_judge.proofs.judging.deviates.Goals as goal

pub returns-clause-found : goal.returns-clause-found
returns-clause-found g c =
    frame_deviates (terms_of c.args.terms.now) c.args.events.now c.args.walk.now c.requires.walked c.in_ok-place.place (Frame c.in_ok-frame.frame)
    c.in_ok-place.ensures.0 c.in_ok-place.ensures.1 c.in_ok-frame.ensures.frame
