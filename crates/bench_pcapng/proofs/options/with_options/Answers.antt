-- Each turn passes one option.
use Rattle.std.proofs.Common.{◌≡◌, None, Some, sym, ap, ◌∙◌, arith}
use Rattle.bench_pcapng.specs.Interfaces.{first_option, options_of}
use Rattle.bench_pcapng.proofs.OptionWalk.{options_none, options_short, options_end, options_broken, options_next}
use Rattle.bench_pcapng.proofs.options.with_options.Goals as goal

pub returns-then-rest-lt-OPTION_HEADER_LEN : goal.returns-then-rest-lt-OPTION_HEADER_LEN
returns-then-rest-lt-OPTION_HEADER_LEN c =
    sym (options_short c.args.order c.loop-rest.interface c.loop-rest.rest.now (λ none. omega (arith, none, c.loop-rest-test.true)) (omega arith)) ∙ c.loop-rest.invariant

pub returns-then-read_u16-eq-END : goal.returns-then-read_u16-eq-END
returns-then-read_u16-eq-END c =
    sym (options_end c.args.order c.loop-rest.interface c.loop-rest.rest.now (omega arith) (omega arith)) ∙ c.loop-rest.invariant

pub returns-in_err-more : goal.returns-in_err-more
returns-in_err-more c =
    let none : first_option c.args.order c.loop-rest.interface c.loop-rest.rest.now ≡ None = grind (arith, c.in_err-more.ensures.interface) in
    let broken : options_of c.args.order c.loop-rest.interface c.loop-rest.rest.now ≡ None =
    options_broken c.args.order c.loop-rest.interface c.loop-rest.rest.now (omega arith) (λ ends. omega (arith, ends)) none in
    grind (arith, broken, c.loop-rest.invariant)

pub loop-rest-preserved : goal.loop-rest-preserved
loop-rest-preserved c =
    let some : first_option c.args.order c.loop-rest.interface c.loop-rest.rest.now ≡ Some c.in_ok-more.more = sym c.in_ok-more.ensures.interface in
    ap (options_of c.args.order c.in_ok-more.more) c.in_ok-more.ensures.behind
    ∙ sym (options_next c.args.order c.loop-rest.interface c.in_ok-more.more c.loop-rest.rest.now (omega arith) (λ ends. omega (arith, ends)) some)
    ∙ c.loop-rest.invariant

pub returns : goal.returns
returns c =
    sym (options_none c.args.order c.loop-rest.interface c.loop-rest.rest.now (omega arith)) ∙ c.loop-rest.invariant
