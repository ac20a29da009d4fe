-- The treatments of a table with one entry more or less: those behind it are moved by one place.
use Rattle.std.proofs.Common.{◌≡◌, ◌⊎◌, ℕ, zero, suc, ◌-◌, ◌<◌, ◌≤◌, Bool, true, false, ◌||◌, List, [], ◌∷◌, ◌++◌, length, Option, Some, None, refl, ap, sym, subst, ◌∙◌, arith, inl, inr}
use Rattle.std.specs.Prelude.{slice_get}
use Rattle.std.specs.List.{insert, remove}
use Rattle.std.specs.Option.{option_map, option_map_or}
use Rattle.std.proofs.lemmas.Bool.{cases_lt, cases_order, or_cases, or_parts, true≢false}
use Rattle.std.proofs.lemmas.List.{length-map}
use Rattle.std.proofs.lemmas.List.Edits.{length-insert, length-remove}
use Rattle.std.proofs.lemmas.Option.{none-some, same_Some, slice_get-get_or, slice_get-map, slice_get_within}
use Rattle.std.proofs.Math.ListN.{get_or}
use Rattle.vlan_rule.specs.declared.rule.Rule.{Rule}
use Rattle.vlan_rule.specs.declared.settings.TableSettings.{TableSettings}
use Rattle.vlan_rule.specs.Choice.{entry_at}
use Rattle.vlan_rule.specs.Rule.{IsRuleOf}
use Rattle.rule_index.specs.Filters.{tags_in}
use Rattle.rule_index.specs.Followed.{ranked, IsOneMore}
use Rattle.rule_index.specs.Order.{order_of}
use Rattle.treatment.specs.Compiled.{Compiled, Treats, asks_dscp}
use Rattle.port_plan.specs.CompiledTable.{AreTreats, IsTreatIn, NoneAsks, SomeAsks}
use Rattle.port_plan.proofs.CompiledTables.{of_rule}

-- ---- lists

held-below : {A : Type 0} (xs : List A) (i : ℕ) (y : A) (k : ℕ) → k < i → i ≤ length xs → slice_get (insert xs i y) k ≡ slice_get xs k
held-below xs zero y k below within = absurd (omega arith)
held-below [] (suc i) y k below within = absurd (omega arith)
held-below (x ∷ xs) (suc i) y zero below within = refl
held-below (x ∷ xs) (suc i) y (suc k) below within = held-below xs i y k (omega arith) (omega arith)

held-at : {A : Type 0} (xs : List A) (i : ℕ) (y : A) → i ≤ length xs → slice_get (insert xs i y) i ≡ Some y
held-at xs zero y within = refl
held-at [] (suc i) y within = absurd (omega arith)
held-at (x ∷ xs) (suc i) y within = held-at xs i y (omega arith)

held-above : {A : Type 0} (xs : List A) (i : ℕ) (y : A) (k : ℕ) → i ≤ k → i ≤ length xs → slice_get (insert xs i y) (suc k) ≡ slice_get xs k
held-above xs zero y k above within = refl
held-above [] (suc i) y k above within = absurd (omega arith)
held-above (x ∷ xs) (suc i) y zero above within = absurd (omega arith)
held-above (x ∷ xs) (suc i) y (suc k) above within = held-above xs i y k (omega arith) (omega arith)

left-below : {A : Type 0} (xs : List A) (i k : ℕ) → k < i → slice_get (remove xs i) k ≡ slice_get xs k
left-below xs zero k below = absurd (omega arith)
left-below [] (suc i) k below = refl
left-below (x ∷ xs) (suc i) zero below = refl
left-below (x ∷ xs) (suc i) (suc k) below = left-below xs i k (omega arith)

left-above : {A : Type 0} (xs : List A) (i k : ℕ) → i ≤ k → slice_get (remove xs i) k ≡ slice_get xs (suc k)
left-above [] zero k above = refl
left-above [] (suc i) k above = refl
left-above (x ∷ xs) zero k above = refl
left-above (x ∷ xs) (suc i) zero above = absurd (omega arith)
left-above (x ∷ xs) (suc i) (suc k) above = left-above xs i k (omega arith)

-- what is inserted behind all others is the last
pub inserted-last : {A : Type 0} (xs : List A) (y : A) → insert xs (length xs) y ≡ xs ++ y ∷ []
inserted-last [] y = refl
inserted-last (x ∷ xs) y = ap (λ l. x ∷ l) (inserted-last xs y)

-- ---- treatments by number

ranked-at : (entries : List (List ℕ)) (k place : ℕ) → slice_get (order_of entries) k ≡ Some place → slice_get (ranked entries) k ≡ Some (entry_at entries place)
ranked-at entries k place held =
    let at : ℕ → List ℕ = λ p. entry_at entries p in
    slice_get-map at (order_of entries) k ∙ ap (λ (o : Option ℕ). option_map at o) held

ranked-length : (entries : List (List ℕ)) → length (ranked entries) ≡ length (order_of entries)
ranked-length entries = length-map (order_of entries) (λ place. entry_at entries place)

by-number : (settings : TableSettings) (entries : List (List ℕ)) (treats : List (Option Compiled)) → AreTreats settings entries treats
    → (k : ℕ) (e : List ℕ) → slice_get (ranked entries) k ≡ Some e → IsTreatIn settings treats k e
by-number settings entries treats are k e held = by_case (slice_get (order_of entries) k) refl (sym (slice_get-map at (order_of entries) k) ∙ held)
  where
    at : ℕ → List ℕ
    at p = entry_at entries p

    by_case : (o : Option ℕ) → slice_get (order_of entries) k ≡ o → option_map at o ≡ Some e → IsTreatIn settings treats k e
    by_case None is none = absurd (none-some e none)
    by_case (Some p) is same =
        let P : List ℕ → Type 0 = λ e. IsTreatIn settings treats k e in
        subst P (same_Some _ _ same) (are.each k p is)

-- the treatments are as many as the numbers at least
pub number-within : (settings : TableSettings) (fewer : List (List ℕ)) (treats : List (Option Compiled)) (number : ℕ)
    → number ≤ length (ranked fewer) → AreTreats settings fewer treats → number ≤ length treats
number-within settings fewer treats zero most are = omega arith
number-within settings fewer treats (suc n) most are =
    let order = order_of fewer in
    let within : n < length order = omega (arith, most, length-map order (λ p. entry_at fewer p)) in
    let was = are.each n (get_or order n 0) (slice_get-get_or order n 0 within) in
    omega (arith, slice_get_within treats n was.treat was.held)

pub there-within : (settings : TableSettings) (fewer more : List (List ℕ)) (treats : List (Option Compiled)) (place number : ℕ)
    → IsOneMore fewer more place number → AreTreats settings more treats → number < length treats
there-within settings fewer more treats place number is are =
    let was = are.each number place is.there in
    slice_get_within treats number was.treat was.held

-- ---- an entry more

pub treats-inserted : (settings : TableSettings) (old new : List (List ℕ)) (treats : List (Option Compiled)) (place number at : ℕ) (rule : Rule) (treat : Option Compiled)
    → Some at ≡ slice_get (order_of new) number → IsRuleOf (entry_at new at) rule → Treats rule.treatment settings (tags_in rule.filter) treat
    → length treats < 128 → IsOneMore old new place number → AreTreats settings old treats → AreTreats settings new (insert treats number treat)
treats-inserted settings old new treats place number at rule treat here is_rule right few is are = record {
  few = omega (arith, length-insert treats number treat within, few);
  no_more = omega (
    arith,
    length-insert treats number treat within,
    are.no_more,
    ranked-length old,
    ranked-length new,
    ap (λ (es : List (List ℕ)). length es) is.others,
    length-insert (ranked old) number is.entry is.within,
  );
  each = each;
}
  where
    within : number ≤ length treats
    within = number-within settings old treats number is.within are

    held : (k p : ℕ) → slice_get (order_of new) k ≡ Some p → slice_get (insert (ranked old) number is.entry) k ≡ Some (entry_at new p)
    held k p in_order = ap (λ (es : List (List ℕ)). slice_get es k) (sym is.others) ∙ ranked-at new k p in_order

    each : (k p : ℕ) → slice_get (order_of new) k ≡ Some p → IsTreatIn settings (insert treats number treat) k (entry_at new p)
    each k p in_order = elim (cases_order k number) [
      | inl same ↦
          let there : slice_get (order_of new) number ≡ Some p = rw same at in_order in
          let it : at ≡ p = same_Some _ _ (here ∙ there) in
          let set : slice_get (insert treats number treat) k ≡ Some treat = rw same (held-at treats number treat within) in
          record { treat = treat; held = set; right = rw (← it) (of_rule settings (entry_at new at) rule treat is_rule right) }
      | inr (inl below) ↦
          let was = by-number settings old treats are k (entry_at new p) (sym (held-below (ranked old) number is.entry k below is.within) ∙ held k p in_order) in
          record { treat = was.treat; held = held-below treats number treat k below within ∙ was.held; right = was.right }
      | inr (inr above) ↦
          let j = k - 1 in
          let next : suc j ≡ k = omega arith in
          let moved : slice_get (insert (ranked old) number is.entry) (suc j) ≡ Some (entry_at new p) =
          ap (λ i. slice_get (insert (ranked old) number is.entry) i) next ∙ held k p in_order in
          let was = by-number settings old treats are j (entry_at new p) (sym (held-above (ranked old) number is.entry j (omega arith) is.within) ∙ moved) in
          record {
            treat = was.treat;
            held = ap (λ i. slice_get (insert treats number treat) i) (sym next) ∙ held-above treats number treat j (omega arith) within ∙ was.held;
            right = was.right;
          }
    ]

-- what an inserted treatment leaves was there or is it
Among : List (Option Compiled) → Option Compiled → Option Compiled → Type 0
Among treats treat x = ((place : ℕ) × (slice_get treats place ≡ Some x)) ⊎ (treat ≡ x)

among : (treats : List (Option Compiled)) (number : ℕ) (treat x : Option Compiled) (k : ℕ) → number ≤ length treats → slice_get (insert treats number treat) k ≡ Some x → Among treats treat x
unfolding Among
among treats number treat x k within held = elim (cases_order k number) [
  | inl same ↦ inr (same_Some _ _ (sym (held-at treats number treat within) ∙ rw same at held))
  | inr (inl below) ↦ inl (k, sym (held-below treats number treat k below within) ∙ held)
  | inr (inr above) ↦
      let j = k - 1 in
      let next : suc j ≡ k = omega arith in
      inl (j, sym (held-above treats number treat j (omega arith) within) ∙ ap (λ i. slice_get (insert treats number treat) i) next ∙ held)
]

pub none-asks-inserted : (treats : List (Option Compiled)) (number : ℕ) (treat : Option Compiled) (asked asks : Bool) → number ≤ length treats
    → asks ≡ option_map_or asks_dscp treat false → (asked ≡ false → NoneAsks treats) → (asked || asks) ≡ false → NoneAsks (insert treats number treat)
unfolding Among
none-asks-inserted treats number treat asked asks within is before neither k compiled held =
    let parts = or_parts asked asks neither in
    elim (among treats number treat (Some compiled) k within held) [
      | inl there ↦ before parts.0 there.0 compiled there.1
      | inr it ↦
          let unasked : option_map_or asks_dscp treat false ≡ false = sym is ∙ parts.1 in
          let said : option_map_or asks_dscp (Some compiled) false ≡ false = rw it at unasked in
          said
    ]

pub some-asks-inserted : (treats : List (Option Compiled)) (number : ℕ) (treat : Option Compiled) (asked asks : Bool) → number ≤ length treats
    → asks ≡ option_map_or asks_dscp treat false → (asked ≡ true → SomeAsks treats) → (asked || asks) ≡ true → SomeAsks (insert treats number treat)
some-asks-inserted treats number treat asked asks within is before either = elim (or_cases asked asks either) [
  | inl old ↦ kept (before old)
  | inr new ↦ here treat refl (sym is ∙ new)
]
  where
    kept : SomeAsks treats → SomeAsks (insert treats number treat)
    kept some = elim (cases_lt some.0 number) [
      | inl below ↦ (some.0, some.1, held-below treats number treat some.0 below within ∙ some.2, some.3)
      | inr above ↦ (suc some.0, some.1, held-above treats number treat some.0 above within ∙ some.2, some.3)
    ]

    here : (x : Option Compiled) → treat ≡ x → option_map_or asks_dscp x false ≡ true → SomeAsks (insert treats number treat)
    here None same asks = absurd (true≢false (sym asks))
    here (Some compiled) same asks = (number, compiled, held-at treats number treat within ∙ ap Some same, asks)

-- ---- an entry less

pub treats-removed : (settings : TableSettings) (old new : List (List ℕ)) (treats : List (Option Compiled)) (place number : ℕ)
    → IsOneMore new old place number → AreTreats settings old treats → AreTreats settings new (remove treats number)
treats-removed settings old new treats place number is are = record {
  few = omega (arith, are.few, length-remove treats number (there-within settings new old treats place number is are));
  no_more = omega (
    arith,
    are.no_more,
    length-remove treats number (there-within settings new old treats place number is are),
    ranked-length old,
    ranked-length new,
    ap (λ (es : List (List ℕ)). length es) is.others,
    length-insert (ranked new) number is.entry is.within,
  );
  each = each;
}
  where
    each : (k p : ℕ) → slice_get (order_of new) k ≡ Some p → IsTreatIn settings (remove treats number) k (entry_at new p)
    each k p in_order = elim (cases_lt k number) [
      | inl below ↦
          let was = by-number settings old treats are k (entry_at new p)
          (ap (λ (es : List (List ℕ)). slice_get es k) is.others ∙ held-below (ranked new) number is.entry k below is.within ∙ ranked-at new k p in_order) in
          record { treat = was.treat; held = left-below treats number k below ∙ was.held; right = was.right }
      | inr above ↦
          let was = by-number settings old treats are (suc k) (entry_at new p)
          (ap (λ (es : List (List ℕ)). slice_get es (suc k)) is.others ∙ held-above (ranked new) number is.entry k above is.within ∙ ranked-at new k p in_order) in
          record { treat = was.treat; held = left-above treats number k above ∙ was.held; right = was.right }
    ]

pub none-asks-removed : (treats : List (Option Compiled)) (number : ℕ) → NoneAsks treats → NoneAsks (remove treats number)
none-asks-removed treats number before k compiled held = elim (cases_lt k number) [
  | inl below ↦ before k compiled (sym (left-below treats number k below) ∙ held)
  | inr above ↦ before (suc k) compiled (sym (left-above treats number k above) ∙ held)
]
