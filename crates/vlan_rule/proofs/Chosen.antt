-- The chosen place is one, and is found step by step.
use Rattle.std.proofs.Common.{◌≡◌, ◌==◌, ℕ, suc, zero, ◌+◌, ◌<◌, ◌≤◌, List, Bool, true, false, ◌&&◌, ◌||◌, Option, Some, None, length, refl, ap, sym, subst, ◌∙◌, arith, below_more, nat_lt, if◌then◌else◌}
use Rattle.std.proofs.lemmas.Bool.{ltb-false, ltb-true, true≢false}
use Rattle.std.proofs.lemmas.Bool.Decides.{nat_tests}
use Rattle.vlan_rule.specs.declared.filter.EthertypeFilter.{EthertypeFilter}
use Rattle.vlan_rule.specs.declared.filter.Filter.{Filter}
use Rattle.vlan_rule.specs.declared.rule.Rule.{Rule}
use Rattle.vlan_rule.specs.Meaning.{ethertype_of}
use Rattle.vlan_rule.specs.Rule.{IsRuleOf}
use Rattle.tag_view.specs.Tag.{TagFields}
use Rattle.vlan_rule.specs.Best.{better, is_less, IsBest, IsLeast}
use Rattle.vlan_rule.specs.Choice.{are_tags, entry_at, has_type, choice, is_before, matches, rank_at, ChosenOnce, IsChoice, IsChosen}
use Rattle.vlan_rule.proofs.Computed.{is_computed}

-- two pairs of which neither is smaller have one place
same_place : (a b i j : ℕ) → (nat_lt a b || (a == b && nat_lt i j)) ≡ false → (nat_lt b a || (b == a && nat_lt j i)) ≡ false → i ≡ j
same_place a b i j first second = grind (arith, nat_tests)

at_most_one : (test : List ℕ → Bool) (entries : List (List ℕ)) (i j : ℕ) → IsChosen test entries i → IsChosen test entries j → i ≡ j
at_most_one test entries i j first second =
    same_place (rank_at entries i) (rank_at entries j) i j (second.least i first.in_range first.passes) (first.least j second.in_range second.passes)

-- ---- one entry more

-- the pair at a later place isn't smaller where its rank isn't less
not_before : (a b i j : ℕ) → b ≤ a → j < i → (nat_lt a b || (a == b && nat_lt i j)) ≡ false
not_before a b i j rank place = grind (arith, nat_tests)

-- the pair at an earlier place isn't smaller where its rank is greater
not_before_less : (a b i j : ℕ) → b < a → (nat_lt a b || (a == b && nat_lt i j)) ≡ false
not_before_less a b i j rank = grind (arith, nat_tests)

not_before_self : (a i : ℕ) → (nat_lt a a || (a == a && nat_lt i i)) ≡ false
not_before_self a i = grind (arith, nat_tests)

-- not smaller than what isn't smaller than a third
not_before_through : (a b c i j k : ℕ) → (nat_lt a b || (a == b && nat_lt i j)) ≡ false → c < b → (nat_lt a c || (a == c && nat_lt i k)) ≡ false
not_before_through a b c i j k first rank = grind (arith, nat_tests)

-- the next entry doesn't pass the test
step-fails : (test : List ℕ → Bool) (entries : List (List ℕ)) (n : ℕ) (best : Option (ℕ × ℕ)) → IsBest test entries n best → test (entry_at entries n) ≡ false → IsBest test entries (n + 1) best
step-fails test entries n None is fails = below_more (λ (j : ℕ). test (entry_at entries j) ≡ false) n is fails
step-fails test entries n (Some best) is fails =
    record {
      in_range = omega (arith, is.in_range);
      rank = is.rank;
      passes = is.passes;
      least = below_more (λ (j : ℕ). test (entry_at entries j) ≡ true → is_before entries j best.1 ≡ false) n is.least (λ passes. absurd (true≢false (sym passes ∙ fails)));
    }

-- the next entry passes it, and its rank is less
step-takes : (test : List ℕ → Bool) (entries : List (List ℕ)) (n : ℕ) (best : Option (ℕ × ℕ)) → IsBest test entries n best → test (entry_at entries n) ≡ true → is_less (rank_at entries n) best ≡ true → IsBest test entries (n + 1) (Some (rank_at entries n, n))
step-takes test entries n None is passes less =
    record {
      in_range = omega arith;
      rank = refl;
      passes = passes;
      least = below_more (λ (j : ℕ). test (entry_at entries j) ≡ true → is_before entries j n ≡ false) n (λ j h p. absurd (true≢false (sym p ∙ is j h))) (λ p. not_before_self (rank_at entries n) n);
    }
step-takes test entries n (Some best) is passes less =
    let below = ltb-true (rank_at entries n) best.0 less in
    let rank = is.rank in
    record {
      in_range = omega arith;
      rank = refl;
      passes = passes;
      least = below_more (λ (j : ℕ). test (entry_at entries j) ≡ true → is_before entries j n ≡ false) n (λ j h p. not_before_through (rank_at entries j) (rank_at entries best.1) (rank_at entries n) j best.1 n (is.least j h p) (omega arith)) (λ p. not_before_self (rank_at entries n) n);
    }

-- the next entry's rank isn't less
step-keeps : (test : List ℕ → Bool) (entries : List (List ℕ)) (n : ℕ) (best : Option (ℕ × ℕ)) → IsBest test entries n best → is_less (rank_at entries n) best ≡ false → IsBest test entries (n + 1) best
step-keeps test entries n None is less = absurd (true≢false less)
step-keeps test entries n (Some best) is less =
    let above = ltb-false (rank_at entries n) best.0 less in
    let rank = is.rank in
    let place = is.in_range in
    record {
      in_range = omega arith;
      rank = is.rank;
      passes = is.passes;
      least = below_more (λ (j : ℕ). test (entry_at entries j) ≡ true → is_before entries j best.1 ≡ false) n is.least (λ p. not_before (rank_at entries n) (rank_at entries best.1) n best.1 (omega arith) (omega arith));
    }

pub step : (test : List ℕ → Bool) (entries : List (List ℕ)) (n : ℕ) (best : Option (ℕ × ℕ)) (passes : Bool) (rank : ℕ) → IsBest test entries n best → test (entry_at entries n) ≡ passes → rank_at entries n ≡ rank → IsBest test entries (n + 1) (better passes rank n best)
step test entries n best false rank is fails at = step-fails test entries n best is fails
step test entries n best true rank is passes at = by_case (is_less rank best) refl
  where
    by_case : (less : Bool) → is_less rank best ≡ less → IsBest test entries (n + 1) (if less then Some (rank, n) else best)
    by_case true less = rw (sym at) (step-takes test entries n best is passes (ap (λ (r : ℕ). is_less r best) at ∙ less))
    by_case false less = step-keeps test entries n best is (ap (λ (r : ℕ). is_less r best) at ∙ less)

-- ---- all entries

-- the best of all entries is chosen
pub chosen : (test : List ℕ → Bool) (entries : List (List ℕ)) (best : ℕ × ℕ) → IsLeast test entries (length entries) best → IsChosen test entries best.1
chosen test entries best is = record { in_range = is.in_range; passes = is.passes; least = is.least }

-- there is a best of the first n
best_of : (test : List ℕ → Bool) (entries : List (List ℕ)) (n : ℕ) → (best : Option (ℕ × ℕ)) × IsBest test entries n best
best_of test entries zero = (None, λ j h. absurd (omega arith))
best_of test entries (suc n) =
    let before = best_of test entries n in
    let passes = test (entry_at entries n) in
    let next : n + 1 ≡ suc n = omega arith in (
      better passes (rank_at entries n) n before.0,
      rw (sym next) (step test entries n before.0 passes (rank_at entries n) before.1 refl refl),
    )

one : (test : List ℕ → Bool) (entries : List (List ℕ)) (i : ℕ) → i < length entries → test (entry_at entries i) ≡ true → (k : ℕ) × IsChosen test entries k
one test entries i within passes = by_case (best_of test entries (length entries)).0 (best_of test entries (length entries)).1
  where
    by_case : (best : Option (ℕ × ℕ)) → IsBest test entries (length entries) best → (k : ℕ) × IsChosen test entries k
    by_case None is = absurd (true≢false (sym passes ∙ is i within))
    by_case (Some best) is = (best.1, chosen test entries best is)

-- what is computed is chosen
choice_is : (test : List ℕ → Bool) (entries : List (List ℕ)) → IsChoice test entries (choice test entries)
choice_is test entries = by_case (best_of test entries (length entries)).0 (best_of test entries (length entries)).1
  where
    if_chosen : (place : Option ℕ) → IsChoice test entries place → IsChoice test entries (choice test entries)
    if_chosen place is = subst (IsChoice test entries) (is_computed test entries place is) is

    by_case : (best : Option (ℕ × ℕ)) → IsBest test entries (length entries) best → IsChoice test entries (choice test entries)
    by_case None is = if_chosen None is
    by_case (Some best) is = if_chosen (Some best.1) (chosen test entries best is)

pub chosen_once : ChosenOnce
chosen_once = record {
  at_most_one = λ input tags type. at_most_one (matches input tags type);
  one = λ input tags type. one (matches input tags type);
  none = λ input tags type entries i fail chosen. true≢false (sym chosen.passes ∙ fail i chosen.in_range);
  computed = λ input tags type. choice_is (matches input tags type);
}

-- the rule of an entry is for the frames that the entry matches
pub rule_matches : (entry : List ℕ) (rule : Rule) (input : ℕ) (tags : List TagFields) (type : ℕ) → IsRuleOf entry rule → matches input tags type entry ≡ (are_tags input rule.filter tags && has_type rule.ethertype type)
unfolding matches
rule_matches entry rule input tags type is =
    ap (λ (f : Filter). are_tags input f tags && has_type (ethertype_of entry) type) (sym is.filter)
    ∙ ap (λ (e : EthertypeFilter). are_tags input rule.filter tags && has_type e type) (sym is.ethertype)
