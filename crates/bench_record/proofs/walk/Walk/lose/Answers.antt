use Rattle.std.proofs.Common.{◌∙◌, ◌++◌, Option, ℕ, map, ap, sym}
use Rattle.std.proofs.lemmas.List.{append-nil}
use Rattle.std.proofs.lemmas.Result.{IfOk-weaker}
use Rattle.bench_record.specs.Recorded.{losses}
use Rattle.bench_record.specs.Text.{timed_shown}
use Rattle.bench_record.proofs.walk.Walk.lose.Goals as goal

pub returns-in-Some-clause-events : goal.returns-in-Some-clause-events
returns-in-Some-clause-events c = λ captures frames are same doubted.
    IfOk-weaker c.lose_all.result _ _
    (λ done events. events ∙ ap (λ (lost : Option ℕ). map timed_shown c.args.self.now.events.items ++ losses lost captures c.args.self.now.hidden.items frames) (sym c.in-Some.is))
    (c.lose_all.ensures.events captures frames are same doubted)

pub returns-in-None-clause-events : goal.returns-in-None-clause-events
returns-in-None-clause-events c = λ captures frames are same doubted.
    let events = map timed_shown c.args.self.now.events.items in
    sym (append-nil events) ∙ ap (λ (lost : Option ℕ). events ++ losses lost captures c.args.self.now.hidden.items frames) (sym c.in-None.is)
