-- The place that is chosen is the one that is computed.
use Rattle.std.proofs.Common.{◌≡◌, ◌≢◌, ◌==◌, ℕ, ◌<◌, List, [], Bool, true, false, ◌&&◌, ◌||◌, Option, Some, None, length, refl, ap, sym, ◌∙◌, arith, nat_lt}
use Rattle.std.specs.List.{position_or_len}
use Rattle.std.proofs.Math.Bool.{and-false}
use Rattle.std.proofs.lemmas.Bool.{le-ltb, lt-ltb, ne_eqb, true≢false}
use Rattle.std.proofs.lemmas.Bool.Decides.{nat_tests}
use Rattle.std.proofs.lemmas.List.Sums.{position_or_len_is}
use Rattle.vlan_rule.specs.declared.rank.Rank.{Rank}
use Rattle.vlan_rule.specs.declared.rank.Rank.TheVariants.{Ordinary, Default, Predefined}
use Rattle.vlan_rule.specs.Meaning.{rank_number, rank_of}
use Rattle.vlan_rule.specs.Choice.{choice, entry_at, first_of, rank_at, IsChoice}

-- an entry passes the test and has the rank
abbrev is_of : Rank → (List ℕ → Bool) → List ℕ → Bool
is_of rank test e = rank_number (rank_of e) == rank_number rank && test e

-- an entry of another rank, where it passes
other : (rank : Rank) (test : List ℕ → Bool) (e : List ℕ) → (test e ≡ true → rank_number (rank_of e) ≢ rank_number rank) → is_of rank test e ≡ false
other rank test e none = by_case (test e) refl
  where
    by_case : (b : Bool) → test e ≡ b → is_of rank test e ≡ false
    by_case true t = rw (ne_eqb _ _ (none t)) refl
    by_case false t = rw t (and-false (rank_number (rank_of e) == rank_number rank))

-- no entry of a rank passes
none_of : (test : List ℕ → Bool) (entries : List (List ℕ)) (rank : Rank)
    → ((j : ℕ) → j < length entries → test (entry_at entries j) ≡ true → rank_at entries j ≢ rank_number rank)
    → first_of rank test entries ≡ None
none_of test entries rank none =
    let at : position_or_len (is_of rank test) entries ≡ length entries =
    position_or_len_is (is_of rank test) entries (length entries) [] (omega arith) (λ k h. other rank test (entry_at entries k) (none k h)) (λ h. absurd (omega (arith, h))) in
    let past = le-ltb (length entries) (length entries) (omega arith) in
    rw (at, past) refl

same : (n : ℕ) → (n == n) ≡ true
same n = grind (arith, nat_tests)

-- the first entry of its rank that passes
first_is : (test : List ℕ → Bool) (entries : List (List ℕ)) (rank : Rank) (i : ℕ) → i < length entries → test (entry_at entries i) ≡ true
    → rank_at entries i ≡ rank_number rank
    → ((j : ℕ) → j < i → test (entry_at entries j) ≡ true → rank_at entries j ≢ rank_number rank)
    → first_of rank test entries ≡ Some i
first_is test entries rank i within passes has none =
    let here : is_of rank test (entry_at entries i) ≡ true = rw (has, passes, same (rank_number rank)) refl in
    let at : position_or_len (is_of rank test) entries ≡ i =
    position_or_len_is (is_of rank test) entries i [] (omega (arith, within)) (λ k h. other rank test (entry_at entries k) (none k h)) (λ h. here) in
    let inside = lt-ltb i (length entries) within in
    rw (at, inside) refl

-- what isn't before an entry has no smaller rank
not_less : (a b i j : ℕ) → (nat_lt a b || (a == b && nat_lt j i)) ≡ false → (r : ℕ) → r < b → a ≢ r
not_less a b i j is r less = grind (arith, nat_tests)

-- and at an earlier place another rank
not_same : (a b i j : ℕ) → (nat_lt a b || (a == b && nat_lt j i)) ≡ false → j < i → a ≢ b
not_same a b i j is earlier = grind (arith, nat_tests)

-- what is chosen is what is computed
pub is_computed : (test : List ℕ → Bool) (entries : List (List ℕ)) (place : Option ℕ) → IsChoice test entries place → place ≡ choice test entries
unfolding choice
is_computed test entries None is =
    let none : (rank : Rank) → first_of rank test entries ≡ None =
    λ rank. none_of test entries rank (λ j h passes. absurd (true≢false (sym passes ∙ is j h))) in
    rw (none Ordinary, none Default, none Predefined) refl
is_computed test entries (Some i) is = by_rank (rank_of (entry_at entries i)) refl
  where
    none : (rank rank' : Rank) → rank_of (entry_at entries i) ≡ rank' → rank_number rank < rank_number rank' → first_of rank test entries ≡ None
    none rank rank' has less =
        none_of test entries rank (λ j h passes. not_less (rank_at entries j) (rank_at entries i) i j (is.least j h passes) (rank_number rank) (rw has less))

    first : (rank : Rank) → rank_of (entry_at entries i) ≡ rank → first_of rank test entries ≡ Some i
    first rank has =
        let number : rank_at entries i ≡ rank_number rank = ap rank_number has in
        first_is test entries rank i is.in_range is.passes number (λ j h passes same. not_same (rank_at entries j) (rank_at entries i) i j (is.least j (omega (arith, h, is.in_range)) passes) h (same ∙ sym number))

    by_rank : (rank : Rank) → rank_of (entry_at entries i) ≡ rank → Some i ≡ choice test entries
    by_rank Ordinary has = rw (first Ordinary has) refl
    by_rank Default has = rw (none Ordinary Default has (omega arith), first Default has) refl
    by_rank Predefined has = rw (none Ordinary Predefined has (omega arith), none Default Predefined has (omega arith), first Predefined has) refl
