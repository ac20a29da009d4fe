use Rattle.std.proofs.Common.{◌≡◌, ℕ, arith, ap, length, map, take, ◌∙◌}
use Rattle.std.proofs.lemmas.List.{take_all}
use Rattle.tag_view.specs.Word.{tag_of}
use Rattle.frame_rows.specs.Sight.{written}
use Rattle.frame_rows.proofs.Written.{few_words, few_written, fitting, more_words, no_drop, words_written}
use Rattle.frame_rows.proofs.rows.Rows.written.Goals as goal

pub of-requires-clause-fits : goal.of-requires-clause-fits
of-requires-clause-fits c = (fitting c.args.self.now.settings.input_tpid c.args.row.now c.requires).retag

pub of-requires-clause-two : goal.of-requires-clause-two
of-requires-clause-two c = let few = (fitting c.args.self.now.settings.input_tpid c.args.row.now c.requires).few in omega arith

pub returns-in_default-clause-items : goal.returns-in_default-clause-items
returns-in_default-clause-items c =
    absurd (no_drop c.args.row.now.retag c.args.self.now.settings c.from.result (rw (c.in_default.is) at c.of.ensures.treats))

pub push-requires : goal.push-requires
push-requires c = (
  omega arith,
  few_words c.words-words.result c.loop-word.word-index c.count.result c.loop-word.tags.items c.loop-word-test.true c.count.ensures.four
      c.loop-word.invariant,
)

pub loop-word-preserved : goal.loop-word-preserved
loop-word-preserved c =
    more_words (take c.count.result c.words-words.result) c.loop-word.word-index c.loop-word.tags.items c.push.new.self.items c.of_word.result
    c.loop-word-test.true c.loop-word.invariant c.of_word.ensures c.push.ensures.items

all_words : goal.returns-clause-items
all_words c =
    let few = (fitting c.args.self.now.settings.input_tpid c.args.row.now c.requires).few in
    c.loop-word.invariant
    ∙ ap (map tag_of) (take_all c.loop-word.word-index (take c.count.result c.words-words.result) c.loop-word-test.false)
    ∙ ap (λ (n : ℕ). map tag_of (take n c.words-words.result)) c.count.ensures.value
    ∙ words_written c.args.self.now.settings c.args.row.now c.args.values.now c.from.result c.in-Some.treat c.first_word.result c.last_word.result c.marking.result
    c.words-words.result few c.from.ensures c.in-Some.ensures.treats c.first_word.ensures c.last_word.ensures c.marking.ensures
    c.first_word.type_inv c.last_word.type_inv c.words-words.ensures.treated

pub returns-clause-items : goal.returns-clause-items
returns-clause-items c = all_words c

pub returns-clause-few : goal.returns-clause-few
returns-clause-few c =
    let all : length c.loop-word.tags.items ≡ length (written c.args.self.now.settings c.args.row.now c.args.values.now) = ap length (all_words c) in
    let few = few_written c.args.self.now.settings c.args.row.now c.args.values.now in
    omega arith
