-- Two lists of rows say whether two configurations are the same for every frame.
use Rattle.std.proofs.Common.{◌≡◌, ◌<◌, ◌==◌, ℕ, Bool, true, false, List, [], ◌∷◌, Option, Some, None, arith, refl, ap, sym, get_or, length, ◌∙◌}
use Rattle.std.specs.Prelude.{All, Contains, map}
use Rattle.std.specs.List.{list_all}
use Rattle.std.specs.Option.{option_map}
use Rattle.std.proofs.lemmas.Bool.{eq-eqb, eqb-true, true≢false}
use Rattle.std.proofs.lemmas.List.Folds.{list_all-map, list_all_at}
use Rattle.std.proofs.lemmas.List.Elements.{All-head, All-tail}
use Rattle.mib_state.specs.Entities.{Entities}
use Rattle.frame_meaning.specs.declared.verdict.Verdict.{Verdict}
use Rattle.frame_meaning.specs.declared.verdict.Verdict.TheVariants.{Forward, Drop}
use Rattle.frame_meaning.specs.Meaning.{meaning}
use Rattle.frame_rows.specs.declared.class.Ending.TheVariants.{Gem, Dropped}
use Rattle.frame_rows.specs.declared.class.FrameClass.{FrameClass}
use Rattle.frame_rows.specs.declared.class.Use.{Use}
use Rattle.frame_rows.specs.declared.row.Row.{Row}
use Rattle.frame_rows.specs.Class.{class_of, ending_by}
use Rattle.frame_rows.specs.Field.{values_of}
use Rattle.frame_rows.specs.Row.{class_by, class_of_row, first_row}
use Rattle.frame_rows.specs.Sight.{AreSeenApart, IsSide, Leaves, Lost, Side, seen_apart, sight_by, sight_by_row, sight_of}
use Rattle.frame_rows.proofs.Means.{found_has}
use Rattle.frame_rows.proofs.SeenApart.{values_tell_apart}
use Rattle.frame_classes.specs.Classes.{IsFrame}
use Rattle.frame_classes.specs.Differences.{AreApartBy}
use Rattle.frame_sameness.specs.Same.{AreSame}
use Rattle.frame_sameness.specs.UseRows.{use_code, use_row, use_side}
use Rattle.frame_sameness.proofs.UseRows.{IsPlain, code_tells, first_use, use_apart, used_kept}

-- ---- endings by sights

gem_same : (g g' : ℕ) (b b' : List ℕ) → Leaves g b ≡ Leaves g' b' → g ≡ g'
gem_same g g' b b' e = cc

leaves_lost : (g : ℕ) (b : List ℕ) (r : _) → Leaves g b ≡ Lost r → ⊥
leaves_lost g b r e = cc

lost_same : (r r' : _) → Lost r ≡ Lost r' → r ≡ r'
lost_same r r' e = cc

ending_same : (v v' : Verdict) → sight_by v ≡ sight_by v' → ending_by v ≡ ending_by v'
ending_same (Forward gem frame) (Forward gem' frame') e = ap (λ (g : ℕ). Gem g) (gem_same gem gem' _ _ e)
ending_same (Forward gem frame) (Drop reason) e = absurd (leaves_lost gem _ reason e)
ending_same (Drop reason) (Forward gem frame) e = absurd (leaves_lost gem _ reason (sym e))
ending_same (Drop reason) (Drop reason') e = ap (λ (r : _). Dropped r) (lost_same reason reason' e)

ending_by_sight : (e f : Entities) (port : ℕ) (bytes : List ℕ) → sight_of e port bytes ≡ sight_of f port bytes
    → (class_of e port bytes).ending ≡ (class_of f port bytes).ending
unfolding sight_of class_of
ending_by_sight e f port bytes same = ending_same (meaning e port bytes) (meaning f port bytes) same

-- ---- the row of a frame

row_of : (o : Option Row) (give : Row → FrameClass) (class : FrameClass) → option_map give o ≡ Some class → (row : Row) × ((o ≡ Some row) × (give row ≡ class))
row_of None give class is = absurd (none_class is)
  where
    none_class : None ≡ Some class → ⊥
    none_class e = cc
row_of (Some row) give class is = (row, (refl, some_class is))
  where
    some_class : Some (give row) ≡ Some class → give row ≡ class
    some_class e = cc

-- it has the use of the frame, and is one of the port's
pub record IsRowOf (e : Entities) (port : ℕ) (side : Side) (bytes : List ℕ) (row : Row) : Type 0 where
  pub first : first_row side.rows (values_of bytes) ≡ Some row
  pub used : row.used ≡ (class_of e port bytes).used
  pub plain : IsPlain row

row_at : (e : Entities) (port least : ℕ) (side : Side) → IsSide e port side → All IsPlain side.rows → (bytes : List ℕ) → IsFrame least bytes
    → (row : Row) × IsRowOf e port side bytes row
row_at e port least side is plain bytes frame =
    let found = row_of (first_row side.rows (values_of bytes)) (λ row. class_of_row side.endings row (values_of bytes)) (class_of e port bytes)
    (is.mean.class bytes frame.bytes_fit) in (
      found.0,
      record {
        first = found.1.0;
        used = ap (λ (c : FrameClass). c.used) found.1.1;
        plain = found_has IsPlain _ side.rows found.0 plain found.1.0;
      },
    )

-- its class by the tag of its use
use_class : (e : Entities) (port : ℕ) (side : Side) (bytes : List ℕ) (row : Row) → IsRowOf e port side bytes row
    → class_by (use_side side).endings (use_side side).rows (values_of bytes) ≡ Some (class_of_row (use_side side).endings (use_row row) (values_of bytes))
use_class e port side bytes row is =
    ap (option_map (λ (r : Row). class_of_row (use_side side).endings r (values_of bytes)))
    (first_use side.rows (values_of bytes) ∙ ap (option_map use_row) is.first)

use_of_class : (e : Entities) (port : ℕ) (side : Side) (bytes : List ℕ) (row : Row) (class : FrameClass) → IsRowOf e port side bytes row
    → class_by (use_side side).endings (use_side side).rows (values_of bytes) ≡ Some class → class.used ≡ (class_of e port bytes).used
use_of_class e port side bytes row class is by =
    ap (λ (c : FrameClass). c.used) (sym (same (class_of_row (use_side side).endings (use_row row) (values_of bytes)) class (sym (use_class e port side bytes row is) ∙ by)))
    ∙ used_kept row ∙ is.used
  where
    same : (c d : FrameClass) → Some c ≡ Some d → c ≡ d
    same c d e = cc

-- ---- the same, or not

none_there : {X : Type 0} (x : X) → Contains [] x → ⊥
none_there x (k, within, is) = omega arith

abbrev pub are_alike : ((FrameClass × FrameClass) × List ℕ) → Bool
are_alike pair = use_code pair.0.0.used == use_code pair.0.1.used

-- by the same rows every frame is the same
pub same_rows : (e f : Entities) (port least : ℕ) (one other : Side) → IsSide e port one → IsSide f port other → one ≡ other → AreSame e f port least
same_rows e f port least one other is is' same =
    record {
      class = λ bytes frame.
          same_class (class_of e port bytes) (class_of f port bytes)
          (sym (is.mean.class bytes frame.bytes_fit) ∙ ap (λ (s : Side). class_by s.endings s.rows (values_of bytes)) same ∙ is'.mean.class bytes frame.bytes_fit);
      sight = λ bytes frame.
          is.seen.sight bytes frame.bytes_fit ∙ ap (λ (s : Side). sight_by_row s (first_row s.rows (values_of bytes)) bytes) same
          ∙ sym (is'.seen.sight bytes frame.bytes_fit);
    }
  where
    same_class : (c d : FrameClass) → Some c ≡ Some d → c ≡ d
    same_class c d e = cc

module _ (e f : Entities) (port least : ℕ) (one other : Side) (is : IsSide e port one) (is' : IsSide f port other)
    (plain : All IsPlain one.rows) (plain' : All IsPlain other.rows) where
  tell : AreSeenApart e f port one other
  tell = values_tell_apart.tell e f port one other is is'

  -- where nothing is seen otherwise, and no use is another
  pub same_by : (pairs : List ((FrameClass × FrameClass) × List ℕ)) → AreApartBy one other least []
      → AreApartBy (use_side one) (use_side other) least pairs → list_all are_alike pairs ≡ true → AreSame e f port least
  same_by pairs apart uses alike =
      record {
        class = λ bytes frame.
            class_parts (class_of e port bytes) (class_of f port bytes) (used bytes frame)
            (ending_by_sight e f port bytes (sight bytes frame));
        sight = sight;
      }
    where
      class_parts : (c d : FrameClass) → c.used ≡ d.used → c.ending ≡ d.ending → c ≡ d
      class_parts c d p q = rw (p, q) refl

      sight : (bytes : List ℕ) → IsFrame least bytes → sight_of e port bytes ≡ sight_of f port bytes
      sight bytes frame = by_apart (seen_apart true one other (values_of bytes)) refl
        where
          by_apart : (b : Bool) → seen_apart true one other (values_of bytes) ≡ b → sight_of e port bytes ≡ sight_of f port bytes
          by_apart false p = tell.same bytes frame.bytes_fit p
          by_apart true p =
              absurd (none_there _ (apart.every bytes (class_of e port bytes) (class_of f port bytes) frame (is.mean.class bytes frame.bytes_fit)
              (is'.mean.class bytes frame.bytes_fit) p))

      used : (bytes : List ℕ) → IsFrame least bytes → (class_of e port bytes).used ≡ (class_of f port bytes).used
      used bytes frame =
          let here = row_at e port least one is plain bytes frame in
          let there = row_at f port least other is' plain' bytes frame in
          sym here.1.used ∙ by_rows here.0 there.0 here.1 there.1 (use_code here.0.used == use_code there.0.used) refl ∙ there.1.used
        where
          by_rows : (row row' : Row) → IsRowOf e port one bytes row → IsRowOf f port other bytes row' → (b : Bool)
              → (use_code row.used == use_code row'.used) ≡ b → row.used ≡ row'.used
          by_rows row row' at at' true p = code_tells row.used row'.used (eqb-true (use_code row.used) (use_code row'.used) p)
          by_rows row row' at at' false p =
              let there = uses.every bytes (class_of_row (use_side one).endings (use_row row) (values_of bytes))
              (class_of_row (use_side other).endings (use_row row') (values_of bytes)) frame (use_class e port one bytes row at)
              (use_class f port other bytes row' at') (use_apart one other (values_of bytes) row row' at.plain at'.plain at.first at'.first p) in
              absurd (true≢false (sym alike ∙ not_alike there))
            where
              classes : FrameClass × FrameClass
              classes = (class_of_row (use_side one).endings (use_row row) (values_of bytes), class_of_row (use_side other).endings (use_row row') (values_of bytes))

              not_alike : Contains (map (λ (d : (FrameClass × FrameClass) × List ℕ). d.0) pairs) classes → list_all are_alike pairs ≡ false
              not_alike (k, within, at_k) =
                  sym (list_all-map (λ (c : FrameClass × FrameClass). use_code c.0.used == use_code c.1.used) (λ (d : (FrameClass × FrameClass) × List ℕ). d.0) pairs)
                  ∙ list_all_at (λ (c : FrameClass × FrameClass). use_code c.0.used == use_code c.1.used) (map (λ (d : (FrameClass × FrameClass) × List ℕ). d.0) pairs) k classes within
                  (ap (λ (c : FrameClass × FrameClass). use_code c.0.used == use_code c.1.used) at_k
                  ∙ ap (λ (u : Use). use_code u == use_code (use_row row').used) (used_kept row) ∙ ap (λ (u : Use). use_code row.used == use_code u) (used_kept row') ∙ p)

  -- a frame that is seen otherwise
  pub differ_by : (list : List ((FrameClass × FrameClass) × List ℕ)) → AreApartBy one other least list → 0 < length list → AreSame e f port least → ⊥
  differ_by [] by_rows some same = omega arith
  differ_by (pair ∷ rest) by_rows some same =
      let first = by_rows.each 0 pair some in
      tell.apart pair.1 first.frame.bytes_fit first.apart (same.sight pair.1 first.frame)

  -- or used otherwise
  pub alike_by : (pairs : List ((FrameClass × FrameClass) × List ℕ)) → AreApartBy (use_side one) (use_side other) least pairs → AreSame e f port least
      → list_all are_alike pairs ≡ true
  alike_by pairs uses same = by_all pairs (λ k d h. alike_at (get_or pairs k d) (uses.each k d h).frame (uses.each k d h).before (uses.each k d h).after)
    where
      alike_at : (pair : (FrameClass × FrameClass) × List ℕ) → IsFrame least pair.1
          → class_by (use_side one).endings (use_side one).rows (values_of pair.1) ≡ Some pair.0.0
          → class_by (use_side other).endings (use_side other).rows (values_of pair.1) ≡ Some pair.0.1 → are_alike pair ≡ true
      alike_at pair frame before after =
          let here = row_at e port least one is plain pair.1 frame in
          let there = row_at f port least other is' plain' pair.1 frame in
          eq-eqb (use_code pair.0.0.used) (use_code pair.0.1.used)
          (ap use_code (use_of_class e port one pair.1 here.0 pair.0.0 here.1 before ∙ ap (λ (c : FrameClass). c.used) (same.class pair.1 frame)
          ∙ sym (use_of_class f port other pair.1 there.0 pair.0.1 there.1 after)))

      by_all : (xs : List ((FrameClass × FrameClass) × List ℕ)) → All (λ pair. are_alike pair ≡ true) xs → list_all are_alike xs ≡ true
      by_all [] h = refl
      by_all (x ∷ xs) h =
          let first = All-head (λ pair. are_alike pair ≡ true) x xs h in
          let later = by_all xs (All-tail (λ pair. are_alike pair ≡ true) x xs h) in
          rw (first, later) refl
