use Rattle.std.proofs.Common.{◌≡◌, ◌+◌, ◌*◌, ◌/◌, ◌%◌, ◌≤◌, ◌^◌, ℕ, List, [], ◌∷◌, arith, get_or, refl, rules, subst, sym, w64}
use Rattle.std.specs.Int.{trailing_zeros}
use Rattle.std.specs.Prelude.{IfNone, IfSome, filter, nat_le}
use Rattle.frame_classes.proofs.WordPlaces.{lowest_below, lowest_first, next_word, none_from}
use Rattle.frame_classes.proofs.left.Left.next.Goals as goal

pub returns-then-from-ge-END-clause-none : goal.returns-then-from-ge-END-clause-none
returns-then-from-ge-END-clause-none c =
    let past : 448 ≤ c.args.from = omega arith in
    subst (λ (ks : List ℕ). filter (nat_le c.args.from) ks ≡ []) c.self.view_is
    (none_from 448 c.args.from c.self.inside.words (λ k from less. absurd (omega (arith, past, from, less))))

pub returns-then-bits-ne0-clause-within : goal.returns-then-bits-ne0-clause-within
returns-then-bits-ne0-clause-within c =
    let from = c.args.from in
    let bits = get_or c.self.inside.words (from / 64) 0 / 2 ^ (from % 64) in
    lowest_below c.self.inside.words from bits refl 448 (omega arith) (search rules) (omega arith)

pub returns-then-bits-ne0-clause-first : goal.returns-then-bits-ne0-clause-first
returns-then-bits-ne0-clause-first c =
    let from = c.args.from in
    let bits = get_or c.self.inside.words (from / 64) 0 / 2 ^ (from % 64) in
    let place = from + trailing_zeros w64 bits in
    subst (λ (ks : List ℕ). filter (nat_le from) ks ≡ place ∷ filter (nat_le (place + 1)) ks) c.self.view_is
    (lowest_first c.self.inside.words from bits refl 448 (omega arith) (search rules) (omega arith))

pub returns-clause-first : goal.returns-clause-first
returns-clause-first c =
    let from = c.args.from in
    let bits = get_or c.self.inside.words (from / 64) 0 / 2 ^ (from % 64) in
    let same = subst (λ (ks : List ℕ). filter (nat_le from) ks ≡ filter (nat_le ((from / 64 + 1) * 64)) ks) c.self.view_is
    (next_word c.self.inside.words from bits 448 refl (omega arith)) in
    subst (λ (ks : List ℕ). IfSome c.next_from_word.result (λ place. ks ≡ place ∷ filter (nat_le (place + 1)) c.args.self.now)) (sym same)
    c.next_from_word.ensures.first

pub returns-clause-none : goal.returns-clause-none
returns-clause-none c =
    let from = c.args.from in
    let bits = get_or c.self.inside.words (from / 64) 0 / 2 ^ (from % 64) in
    let same = subst (λ (ks : List ℕ). filter (nat_le from) ks ≡ filter (nat_le ((from / 64 + 1) * 64)) ks) c.self.view_is
    (next_word c.self.inside.words from bits 448 refl (omega arith)) in
    subst (λ (ks : List ℕ). IfNone c.next_from_word.result (ks ≡ [])) (sym same) c.next_from_word.ensures.none
