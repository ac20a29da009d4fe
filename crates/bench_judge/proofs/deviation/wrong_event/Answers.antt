use Rattle.std.proofs.Common.{◌∙◌, Some, ap, refl}
use Rattle.bench_history.specs.declared.event.Event.{Event}
use Rattle.bench_judge.proofs.Wrongs.{event_there, named_within, no_other, one_of_is}
use Rattle.bench_judge.specs.Terms.{terms_of}
use Rattle.bench_judge.proofs.deviation.wrong_event.Goals as goal

pub candidates-requires-clause-known : goal.candidates-requires-clause-known
candidates-requires-clause-known c =
    let one = c.in-LeftOneOf in
    let at = event_there (terms_of c.args.terms.now) c.args.events.now c.args.walk c.requires.walked c.requires.within c.index-events-walk.result c.index-events-walk.is in
    named_within (terms_of c.args.terms.now) c.args.events.now c.args.walk c.requires.walked c.requires.within one.gem one.extent one.among c.requires.sound
    (at ∙ ap (λ (e : Event). Some e) one.is)

pub candidates-requires-clause-walked : goal.candidates-requires-clause-walked
candidates-requires-clause-walked c = ((terms_of c.args.terms.now), c.requires.walked)

pub returns-in-LeftOneOf : goal.returns-in-LeftOneOf
returns-in-LeftOneOf c =
    let one = c.in-LeftOneOf in
    let at = event_there (terms_of c.args.terms.now) c.args.events.now c.args.walk c.requires.walked c.requires.within c.index-events-walk.result c.index-events-walk.is in
    one_of_is (terms_of c.args.terms.now) c.args.events.now c.args.walk c.requires.walked c.requires.within
    (record { gem = one.gem; extent = one.extent; frame = c.frame.result; candidates = c.in_ok-candidates-in-LeftOneOf.field-0 }) one.among
    (at ∙ ap (λ (e : Event). Some e) one.is) c.frame.ensures one.among.numbers refl c.in_ok-candidates-in-LeftOneOf.ensures.numbers
    (c.in_ok-candidates-in-LeftOneOf.ensures.each (terms_of c.args.terms.now) c.requires.walked)

pub unreachable-requires : goal.unreachable-requires
unreachable-requires c =
    no_other (terms_of c.args.terms.now) c.args.events.now c.args.walk c.requires.walked c.requires.within c.index-events-walk.result
    (event_there (terms_of c.args.terms.now) c.args.events.now c.args.walk c.requires.walked c.requires.within c.index-events-walk.result c.index-events-walk.is)
    c.in_default.not-Replied c.in_default.not-LeftOneOf c.in_default.not-Strayed
