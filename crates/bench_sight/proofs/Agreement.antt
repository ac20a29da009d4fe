-- What leaves and what was seen agree where their lengths do, what both have is the same, and what stands behind is padding.
use Rattle.std.proofs.Common.{◌≡◌, ◌≤◌, ◌<◌, ◌⊎◌, ℕ, ◌+◌, ◌-◌, min, Bool, true, false, List, ◌++◌, length, take, drop, replicate, inl, inr, refl, sym, ap, subst, ◌∙◌, arith, length-append, length-drop}
use Rattle.std.specs.Prelude.{Decides}
use Rattle.std.specs.Io.{StartsWith}
use Rattle.std.proofs.lemmas.Bool.{and_parts, cases_lt, le-leb, leb-true, lt-ltb, ltb-true}
use Rattle.std.proofs.lemmas.Bool.Decides.{Decides-and, Decides-ltb, Decides-or}
use Rattle.std.proofs.lemmas.List.{append-nil, length-replicate, length-take-le, take_all}
use Rattle.bench_history.specs.declared.extent.Extent.{Extent}
use Rattle.bench_history.specs.declared.extent.Extent.TheVariants.{Whole, Front}
use Rattle.bench_sight.specs.Parts.{IsPadding, lengths_agree, most_length}
use Rattle.bench_sight.specs.Sight.{agree, most_of}
use Rattle.bench_sight.proofs.Prefixes.{Decides-begins, are_zeros, parts_are, parts_of, same, shorter, zeros_begin}

-- the most that may be seen
record IsMost (padded : Bool) (leaves : List ℕ) : Type 0 where
  m : ℕ
  is : most_of padded leaves ≡ leaves ++ replicate m 0
  long : length leaves + m ≡ most_length padded (length leaves)

most : (padded : Bool) (leaves : List ℕ) → IsMost padded leaves
most true leaves = record { m = 68 - length leaves; is = refl; long = omega arith }
most false leaves = record { m = 0; is = sym (append-nil leaves); long = omega arith }

most_long : (padded : Bool) (leaves : List ℕ) → length (most_of padded leaves) ≡ most_length padded (length leaves)
most_long padded leaves =
    let m = most padded leaves in
    ap (λ (l : List ℕ). length l) m.is ∙ omega (arith, length-append leaves (replicate m.m 0), length-replicate {A = ℕ} m.m 0, m.long)

module _ (padded : Bool) (leaves seen : List ℕ) (k : ℕ) (least : k ≡ min (length seen) (length leaves)) where
  -- what was seen is a front of the most
  of_most : StartsWith (most_of padded leaves) seen → StartsWith leaves (take k seen) × (drop k seen ≡ replicate (length (drop k seen)) 0)
  of_most begins =
      let m = most padded leaves in
      let parts = parts_of leaves (replicate m.m 0) seen k least (subst (λ (l : List ℕ). StartsWith l seen) m.is begins) in
      (parts.0, are_zeros m.m (drop k seen) parts.1)

  in_most : length seen ≤ most_length padded (length leaves) → drop k seen ≡ replicate (length (drop k seen)) 0 → StartsWith leaves (take k seen)
      → StartsWith (most_of padded leaves) seen
  in_most within zeros front =
      let m = most padded leaves in
      let behind : length (drop k seen) ≤ m.m = omega (arith, within, m.long, length-drop k seen) in
      subst (λ (l : List ℕ). StartsWith l seen) (sym m.is) (parts_are leaves (replicate m.m 0) seen k least front (zeros_begin m.m (drop k seen) behind zeros))

  -- where all that leaves was seen, what was seen begins with it
  all_seen : length leaves ≤ length seen → StartsWith leaves (take k seen) → StartsWith seen leaves
  all_seen long front =
      let at : k ≡ length leaves = omega arith in
      sym (same leaves (take k seen) (omega (arith, length-take-le k seen (omega arith))) front ∙ ap (λ (n : ℕ). take n seen) at)

  front_seen : StartsWith seen leaves → StartsWith leaves (take k seen)
  front_seen begins =
      let at : k ≡ length leaves = omega (arith, shorter seen leaves begins) in
      let whole : take k seen ≡ leaves = ap (λ (n : ℕ). take n seen) at ∙ begins in
      subst (λ (l : List ℕ). StartsWith leaves l) (sym whole) (take_all (length leaves) leaves (omega arith))

  -- ---- what agrees

  Decides-agree-whole : Decides (agree padded Whole leaves Whole seen) (StartsWith (most_of padded leaves) seen × StartsWith seen leaves)
  Decides-agree-whole = Decides-and _ _ (Decides-begins (most_of padded leaves) seen) (Decides-begins seen leaves)

  Decides-agree-seen_front : Decides (agree padded Whole leaves Front seen) (StartsWith (most_of padded leaves) seen × (length seen < length (most_of padded leaves)))
  Decides-agree-seen_front = Decides-and _ _ (Decides-begins (most_of padded leaves) seen) (Decides-ltb (length seen) (length (most_of padded leaves)))

  Decides-agree-sent_front : Decides (agree padded Front leaves Whole seen) (StartsWith seen leaves × (length leaves < length seen))
  Decides-agree-sent_front = Decides-and _ _ (Decides-begins seen leaves) (Decides-ltb (length leaves) (length seen))

  Decides-agree-fronts : Decides (agree padded Front leaves Front seen) (StartsWith leaves seen ⊎ StartsWith seen leaves)
  Decides-agree-fronts = Decides-or _ _ (Decides-begins leaves seen) (Decides-begins seen leaves)

  front_begins : StartsWith leaves seen → StartsWith leaves (take k seen)
  front_begins begins =
      let all : take k seen ≡ seen = take_all k seen (omega (arith, shorter leaves seen begins)) in subst (λ (l : List ℕ). StartsWith leaves l) (sym all) begins

  -- what agrees is the same as far as both go
  pub same_front : (extent seen_extent : Extent) → agree padded extent leaves seen_extent seen ≡ true → StartsWith leaves (take k seen)
  same_front Whole Whole agrees = (of_most (Decides-agree-whole.0 agrees).0).0
  same_front Whole Front agrees = (of_most (Decides-agree-seen_front.0 agrees).0).0
  same_front Front Whole agrees = front_seen (Decides-agree-sent_front.0 agrees).0
  same_front Front Front agrees =
      elim (Decides-agree-fronts.0 agrees) [
        | inl begins ↦ front_begins begins
        | inr begins ↦ front_seen begins
      ]

  -- behind a whole frame there is padding
  pub padding_behind : (extent seen_extent : Extent) → agree padded extent leaves seen_extent seen ≡ true → IsPadding extent (drop k seen)
  padding_behind Whole Whole agrees = (of_most (Decides-agree-whole.0 agrees).0).1
  padding_behind Whole Front agrees = (of_most (Decides-agree-seen_front.0 agrees).0).1
  padding_behind Front Whole agrees = tt
  padding_behind Front Front agrees = tt

  -- and the lengths agree
  pub same_lengths : (extent seen_extent : Extent) → agree padded extent leaves seen_extent seen ≡ true
      → lengths_agree padded extent (length leaves) seen_extent (length seen) ≡ true
  same_lengths Whole Whole agrees =
      let both = Decides-agree-whole.0 agrees in
      let less = le-leb (length leaves) (length seen) (shorter seen leaves both.1) in
      let few = le-leb (length seen) (most_length padded (length leaves)) (omega (arith, shorter (most_of padded leaves) seen both.0, most_long padded leaves)) in
      rw (less, few) refl
  same_lengths Whole Front agrees =
      lt-ltb (length seen) (most_length padded (length leaves)) (omega (arith, (Decides-agree-seen_front.0 agrees).1, most_long padded leaves))
  same_lengths Front Whole agrees = lt-ltb (length leaves) (length seen) (Decides-agree-sent_front.0 agrees).1
  same_lengths Front Front agrees = refl

  -- all of this together is enough
  pub agrees_by : (extent seen_extent : Extent) → lengths_agree padded extent (length leaves) seen_extent (length seen) ≡ true → IsPadding extent (drop k seen)
      → StartsWith leaves (take k seen) → agree padded extent leaves seen_extent seen ≡ true
  agrees_by Whole Whole lengths padding front =
      let both = and_parts _ _ lengths in
      Decides-agree-whole.1 (
        in_most (leb-true (length seen) (most_length padded (length leaves)) both.1) padding front,
        all_seen (leb-true (length leaves) (length seen) both.0) front,
      )
  agrees_by Whole Front lengths padding front =
      let less = ltb-true (length seen) (most_length padded (length leaves)) lengths in
      Decides-agree-seen_front.1 (in_most (omega (arith, less)) padding front, omega (arith, less, most_long padded leaves))
  agrees_by Front Whole lengths padding front =
      let less = ltb-true (length leaves) (length seen) lengths in
      Decides-agree-sent_front.1 (all_seen (omega (arith, less)) front, less)
  agrees_by Front Front lengths padding front =
      Decides-agree-fronts.1
      (elim (cases_lt (length leaves) (length seen)) [
        | inl less ↦ inr (all_seen (omega (arith, less)) front)
        | inr most ↦ inl (subst (λ (l : List ℕ). StartsWith leaves l) (take_all k seen (omega arith)) front)
      ])
