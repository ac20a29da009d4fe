-- The law, beside the worked examples, which are checked where they are cited.
use Rattle.frame_rows.proofs.Examples.{added, dropped, empty, kept, ordered, unmatched}
use Rattle.frame_rows.proofs.Uses.{numbers_the_chosen}
use Rattle.frame_rows.proofs.laws.law_of_uses.Goals as goal

pub returns : goal.returns
returns c =
    let first = empty in let second = kept in let third = added in let fourth = dropped in let fifth = unmatched in let sixth = ordered in
    numbers_the_chosen
