use Rattle.bench_history.proofs.Rising.{fewer}
use Rattle.bench_history.proofs.numbers.are_rising.Goals as goal

pub loop-rest-smaller : goal.loop-rest-smaller
loop-rest-smaller c = fewer c.loop-rest.rest c.split_word.result.1 c.in-Some.words c.in-Some.is c.split_word.ensures.shorter
