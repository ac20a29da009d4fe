-- The numbers of the entries that are used.
use Rattle.std.proofs.Common.{◌≡◌, ◌↔◌, ℕ, Bool, List, Option, Some, None, IsSome, subst, sym}
use Rattle.std.proofs.lemmas.Bool.{true≢false}
use Rattle.std.specs.Option.{option_and_then}
use Rattle.vlan_rule.specs.Choice.{IsChoice, choice, matches}
use Rattle.vlan_rule.proofs.Chosen.{chosen_once}
use Rattle.explain.specs.Order.{number_of}
use Rattle.explain.proofs.Orders.{number_found}
use Rattle.frame_rows.specs.Use.{NumbersTheChosen}

numbered : (test : List ℕ → Bool) (entries : List (List ℕ)) (chosen : Option ℕ) → IsChoice test entries chosen
    → (option_and_then (number_of entries) chosen ≡ None) ↔ (chosen ≡ None)
numbered test entries None h = (λ e. e, λ e. e)
numbered test entries (Some place) h =
    (λ e. absurd (true≢false (sym (subst IsSome e (number_found entries place h.in_range)))), λ e. absurd (some_not_none e))
  where
    some_not_none : Some place ≡ None → ⊥
    some_not_none e = cc

-- a number is there exactly where an entry is chosen
pub numbers_the_chosen : NumbersTheChosen
numbers_the_chosen =
    record {
      chosen = λ table tags type.
          let test = matches table.settings.input_tpid tags type in
          numbered test table.entries (choice test table.entries) (chosen_once.computed table.settings.input_tpid tags type table.entries);
    }
