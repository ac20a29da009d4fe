use Rattle.std.proofs.Common.{◌≡◌, ◌∙◌, ◌<◌, ℕ, List, [], get_or, length, arith, sym}
use Rattle.std.specs.Prelude.{slice_get}
use Rattle.std.proofs.lemmas.List.{take_more_same}
use Rattle.std.proofs.lemmas.Option.{get_or_from_slice_get, slice_get-get_or}
use Rattle.migration_check.proofs.same.are_entries_same.Goals as goal

at : (xs ys : List (List ℕ)) (i : ℕ) (d : List ℕ) → i < length ys → slice_get xs i ≡ slice_get ys i → get_or xs i d ≡ get_or ys i d
at xs ys i d within alike = get_or_from_slice_get xs i (get_or ys i d) d (alike ∙ slice_get-get_or ys i d within)

pub loop-place-preserved : goal.loop-place-preserved
loop-place-preserved c =
    let one = c.args.one.now in
    let other = c.args.other.now in
    let i = c.loop-place.place in
    let lengths = c.len-count.ensures.value in
    let others = c.len.ensures.value in
    let alike = sym c.entry.ensures ∙ (c.is_entry_same.ensures c.if-not-is_entry_same.false ∙ c.entry-in-loop-place.ensures) in
    take_more_same one other i [] (omega (arith, lengths)) (omega (arith, lengths, others)) c.loop-place.invariant (at one other i [] (omega (arith, lengths, others)) alike)
