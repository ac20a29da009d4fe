use Rattle.std.proofs.Common.{◌≡◌, ◌<◌, ◌∙◌, ℕ, List, Some, ap, get_or, length, sym}
use Rattle.omci_msg.specs.declared.request.Request.{Request}
use Rattle.std.specs.Prelude.{slice_get}
use Rattle.std.proofs.lemmas.Option.{slice_get-get_or}
use Rattle.bench_coverage.proofs.Ready.{begins_there, left_there}
use Rattle.bench_coverage.proofs.passage.Passage.begun.Goals as goal

-- the request that leads to the version
at : (requests : List Request) (place : ℕ) (q : Request) → place < length requests → q ≡ get_or requests place q → slice_get requests place ≡ Some q
at requests place q within is = slice_get-get_or requests place q within ∙ ap Some (sym is)

pub first_of-requires-clause-before : goal.first_of-requires-clause-before
first_of-requires-clause-before c =
    left_there c.args.requests.now c.args.base c.args.version c.in-Some.place c.in-Some-get.request.now c.in-Some.ensures.0 c.in-Some.ensures.1
    (at c.args.requests.now c.in-Some.place c.in-Some-get.request.now c.in-Some-get.ensures.lookup.3.0 c.in-Some-get.ensures.lookup.1) c.in_ok-states.states.before.entities _ c.in_ok-states.ensures.before c.in_ok-go_on.ensures.before

pub first_of-requires-clause-here : goal.first_of-requires-clause-here
first_of-requires-clause-here c =
    left_there c.args.requests.now c.args.base c.args.version c.in-Some.place c.in-Some-get.request.now c.in-Some.ensures.0 c.in-Some.ensures.1
    (at c.args.requests.now c.in-Some.place c.in-Some-get.request.now c.in-Some-get.ensures.lookup.3.0 c.in-Some-get.ensures.lookup.1) c.in_ok-states.states.here _ c.in_ok-states.ensures.here c.in_ok-go_on.ensures.here

pub first_of-requires-clause-begins : goal.first_of-requires-clause-begins
first_of-requires-clause-begins c =
    begins_there c.args.requests.now c.args.base c.args.version c.in-Some.place c.in-Some-get.request.now c.in-Some.ensures.0 c.in-Some.ensures.1
    (at c.args.requests.now c.in-Some.place c.in-Some-get.request.now c.in-Some-get.ensures.lookup.3.0 c.in-Some-get.ensures.lookup.1) c.args.port c.args.least c.in_ok-states.states.before.entities c.in_ok-states.states.here c.in_ok-go_on.field-0
    c.in_ok-states.ensures.before c.in_ok-states.ensures.here c.in_ok-go_on.ensures.same c.if-branch.false
