use Rattle.bench_history.proofs.Rising.{first_word, only_word}
use Rattle.bench_history.proofs.words.split_word.Goals as goal

pub returns-in-Some-clause-words : goal.returns-in-Some-clause-words
returns-in-Some-clause-words c =
    rw (c.split_at.ensures.front, c.split_at-in-Some.ensures.back) (first_word c.args.text.now c.in-Some.space c.in-Some.ensures)

pub returns-in-None-clause-words : goal.returns-in-None-clause-words
returns-in-None-clause-words c = only_word c.args.text.now c.in-None.ensures
