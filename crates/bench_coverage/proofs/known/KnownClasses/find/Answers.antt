use Rattle.std.proofs.Common.{◌≡◌, ◌∙◌, List, Option, Some, ap, sym}
use Rattle.std.specs.Prelude.{slice_get}
use Rattle.std.proofs.lemmas.Option.{slice_get-get_or}
use Rattle.bench_coverage.specs.declared.known.Known.{Known}
use Rattle.bench_coverage.proofs.Kept.{right_for}
use Rattle.bench_coverage.proofs.known.KnownClasses.find.Goals as goal

pub returns-in-Some-Some : goal.returns-in-Some-Some
returns-in-Some-Some c = λ e port are.
    let place = c.place_of.result in
    let known = c.in-Some-Some.known in
    let looked = c.in-Some-Some.ensures.lookup in
    let alike = c.is_of.ensures c.if-is_of.true in
    let at : slice_get c.args.self.now.places.items place ≡ Some (Some known) =
    ap (λ (l : List (Option Known)). slice_get l place) (sym c.deref.ensures.value)
    ∙ slice_get-get_or c.deref.result.now place c.in-Some-Some.field-0.now looked.3.0 ∙ ap Some (sym looked.1 ∙ c.in-Some-Some.field-0-is) in
    right_for e port c.args.head.now known alike.1 (alike.0 ∙ c.in_ok-front.ensures.cases.same) (are.each place known at)
