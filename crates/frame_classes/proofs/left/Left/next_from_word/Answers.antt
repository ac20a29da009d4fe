use Rattle.std.proofs.Common.{◌≡◌, ◌+◌, ◌*◌, ◌≤◌, ℕ, List, [], ◌∷◌, arith, get_or, refl, rules, subst, w64, ◌∙◌}
use Rattle.std.specs.Int.{trailing_zeros}
use Rattle.std.specs.Prelude.{filter, nat_le}
use Rattle.frame_classes.proofs.WordPlaces.{none_from, whole_below, whole_empty, whole_first}
use Rattle.frame_classes.proofs.left.Left.next_from_word.Goals as goal

pub loop-word-preserved : goal.loop-word-preserved
loop-word-preserved c =
    let word = c.loop-word.word in
    let bits = get_or c.self.inside.words word 0 in
    c.loop-word.invariant
    ∙ subst (λ (ks : List ℕ). filter (nat_le (word * 64)) ks ≡ filter (nat_le ((word + 1) * 64)) ks) c.self.view_is
    (whole_empty c.self.inside.words word bits 448 refl (omega arith))

pub returns-then-bits-ne0-clause-within : goal.returns-then-bits-ne0-clause-within
returns-then-bits-ne0-clause-within c =
    let word = c.loop-word.word in
    let bits = get_or c.self.inside.words word 0 in
    let test = c.loop-word-test.true in
    whole_below c.self.inside.words word bits 448 refl (omega arith) (search rules) (omega (arith, test))

pub returns-then-bits-ne0-clause-first : goal.returns-then-bits-ne0-clause-first
returns-then-bits-ne0-clause-first c =
    let word = c.loop-word.word in
    let bits = get_or c.self.inside.words word 0 in
    let place = word * 64 + trailing_zeros w64 bits in
    let test = c.loop-word-test.true in
    c.loop-word.invariant
    ∙ subst (λ (ks : List ℕ). filter (nat_le (word * 64)) ks ≡ place ∷ filter (nat_le (place + 1)) ks) c.self.view_is
    (whole_first c.self.inside.words word bits 448 refl (omega arith) (search rules) (omega (arith, test)))

pub returns-clause-none : goal.returns-clause-none
returns-clause-none c =
    let past : 7 ≤ c.loop-word.word = omega arith in
    c.loop-word.invariant
    ∙ subst (λ (ks : List ℕ). filter (nat_le (c.loop-word.word * 64)) ks ≡ []) c.self.view_is
    (none_from 448 (c.loop-word.word * 64) c.self.inside.words (λ k from less. absurd (omega (arith, past, from, less))))
