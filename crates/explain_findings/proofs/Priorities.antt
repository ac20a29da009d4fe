-- The eight priorities.
use Rattle.std.proofs.Common.{◌≡◌, ℕ, zero, suc, ◌<◌, Bool, true, refl, arith}
use Rattle.std.specs.List.{list_all}
use Rattle.std.proofs.lemmas.Bool.{and_parts}
use Rattle.explain_findings.specs.Reach.{priorities}
use Rattle.explain_findings.proofs.Lists.{has}

-- what all priorities pass
pub at_priority : (test : ℕ → Bool) (p : ℕ) → p < 8 → list_all test priorities ≡ true → test p ≡ true
at_priority test p small all =
    let first = and_parts (test 0) _ all in
    let second = and_parts (test 1) _ first.1 in
    let third = and_parts (test 2) _ second.1 in
    let fourth = and_parts (test 3) _ third.1 in
    let fifth = and_parts (test 4) _ fourth.1 in
    let sixth = and_parts (test 5) _ fifth.1 in
    let seventh = and_parts (test 6) _ sixth.1 in
    let eighth = and_parts (test 7) true seventh.1 in
    by_number p small first.0 second.0 third.0 fourth.0 fifth.0 sixth.0 seventh.0 eighth.0
  where
    by_number : (p : ℕ) → p < 8 → test 0 ≡ true → test 1 ≡ true → test 2 ≡ true → test 3 ≡ true → test 4 ≡ true → test 5 ≡ true → test 6 ≡ true → test 7 ≡ true → test p ≡ true
    by_number zero small a b c d e f g h = a
    by_number (suc zero) small a b c d e f g h = b
    by_number (suc (suc zero)) small a b c d e f g h = c
    by_number (suc (suc (suc zero))) small a b c d e f g h = d
    by_number (suc (suc (suc (suc zero)))) small a b c d e f g h = e
    by_number (suc (suc (suc (suc (suc zero))))) small a b c d e f g h = f
    by_number (suc (suc (suc (suc (suc (suc zero)))))) small a b c d e f g h = g
    by_number (suc (suc (suc (suc (suc (suc (suc zero))))))) small a b c d e f g h = h
    by_number (suc (suc (suc (suc (suc (suc (suc (suc p)))))))) small a b c d e f g h = absurd (omega arith)

pub has_priority : (p : ℕ) → p < 8 → has priorities p ≡ true
has_priority p small = at_priority (has priorities) p small refl
