use Rattle.std.proofs.Common.{◌≡◌, ℕ, List, get_or, set, slice_get, Some, ap, ap₂, ◌∙◌}
use Rattle.std.proofs.lemmas.Option.{get_or_from_slice_get}
use Rattle.bench_judge.specs.declared.frame.Frame.{Frame}
use Rattle.bench_judge.proofs.Held.{nothing_held}
use Rattle.bench_judge.proofs.Raised.{raised_decides}
use Rattle.bench_judge.proofs.halving.fits_from.Goals as goal

-- what is read of a list that is another
read_of : (xs ys : List Frame) (n : ℕ) (x y d : Frame) → xs ≡ ys → x ≡ get_or xs n d → slice_get ys n ≡ Some y → x ≡ y
read_of xs ys n x y d same read at = read ∙ ap (λ l. get_or l n d) same ∙ get_or_from_slice_get ys n y d at

pub returns : goal.returns
returns c =
    let case = c.args.case.now in
    let held = c.requires.held in
    let same : c.in_ok-frames.frames.items ≡ case.frames.now = c.in_ok-frames.ensures.items_if_clones_equal (λ x y is. is) in
    let read : c.index_mut.result.now ≡ held.0 = read_of c.in_ok-frames.frames.items case.frames.now c.args.number c.index_mut.result.now held.0 _ same c.index_mut.ensures.value held.1 in
    raised_decides case.padded case.unordered case.events.now case.requests.now case.frames.now c.args.number held.0 held.1 held.2 c.args.from held.3
    c.deref.result.now c.in_ok-sweep.field-0 c.is_some.result
    (c.deref.ensures.value ∙ ap₂ (λ xs (f : Frame). set xs c.args.number (record f { least = c.args.from })) same read) c.in_ok-sweep.ensures c.is_some.ensures

pub sweep-requires-clause-known : goal.sweep-requires-clause-known
sweep-requires-clause-known c =
    let case = c.args.case.now in
    nothing_held case.events.now case.requests.now c.deref.result.now c.nothing.result c.nothing.ensures
