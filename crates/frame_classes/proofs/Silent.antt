-- Where the first rows of two sides see frames alike, nothing is told of them.
use Rattle.std.proofs.Common.{rules, ◌≡◌, ◌≤◌, ◌&&◌, inl, inr, ℕ, Bool, true, false, not, List, [], ◌∷◌, ◌++◌, Option, Some, None, arith, refl, ap, sym, get_or, drop, length, map, max, take, ◌∙◌}
use Rattle.std.specs.Prelude.{IfSome, slice_get}
use lib.Pointwise.{pointwise}
use Rattle.std.proofs.lemmas.Bool.{and_parts, eq-eqb, true≢false}
use Rattle.frame_rows.specs.contracts.class.EndingPartialEq.TheImpl as EndingPartialEq
use Rattle.std.proofs.lemmas.List.{append-nil}
use Rattle.frame_rows.specs.declared.class.Ending.{Ending}
use Rattle.frame_rows.specs.declared.class.Ending.TheVariants.{Gem, Dropped}
use Rattle.frame_rows.specs.declared.field.Field.{Field}
use Rattle.frame_rows.specs.declared.field.Values.{Values}
use Rattle.frame_rows.specs.declared.row.Row.{Row}
use Rattle.frame_rows.specs.declared.rows.Rows.{Rows}
use Rattle.vlan_rule.specs.declared.settings.TableSettings.{TableSettings}
use Rattle.vlan_rule.specs.declared.treatment.Retag.{Retag}
use Rattle.frame_meaning.specs.Reason.{number_of_reason}
use Rattle.treatment.specs.Treatment.{additions_from, left_of}
use Rattle.tag_view.specs.Tag.{TagFields}
use Rattle.frame_rows.specs.Field.{fields, place_of}
use Rattle.frame_rows.specs.Row.{ending_of, first_row}
use Rattle.frame_rows.specs.Sight.{Side, endings_apart, leaving, rows_apart, seen_apart, slots, tags_apart}
use Rattle.frame_rows.specs.Source.{dscp_behind}
use Rattle.frame_rows.specs.declared.class.Use.{Use}
use Rattle.frame_classes.specs.declared.found.Sample.{Sample}
use Rattle.frame_classes.specs.declared.told.Told.{Told}
use Rattle.frame_classes.specs.Left.{AreLeftOf, first_left, rows_of_side}
use Rattle.frame_classes.specs.Settled.{asks_nothing}
use Rattle.frame_classes.specs.Silent.{AreFirstAlike, AreSeenAlike, IsSilent}
use Rattle.frame_classes.specs.Splitting.{Agree, AreAllFound}
use Rattle.frame_classes.specs.Told.{is_shown, side_by, told_by}
use Rattle.frame_classes.proofs.FirstRows.{at_get, if_some}
use Rattle.frame_classes.proofs.Kept.{left_find}
use Rattle.frame_classes.proofs.Levels.{earlier}
use Rattle.frame_classes.proofs.SameTags.{tags_match}
use Rattle.frame_classes.proofs.Staying.{settled_first}

-- ---- by two rows

leaving_by : TableSettings → ℕ → ℕ → Retag → Values → List TagFields
leaving_by settings count tags retag values =
    (additions_from retag settings (slots tags values) (dscp_behind tags values) ++ left_of retag.remove (slots tags values)) ++ drop tags (slots count values)

ending_self : (reasons : Bool) (ending : Ending) → endings_apart reasons ending ending false ≡ false
ending_self reasons (Gem gem) = let same = eq-eqb gem gem refl in rw same refl
ending_self true (Dropped reason) = let same = eq-eqb (number_of_reason reason) (number_of_reason reason) refl in rw same refl
ending_self false (Dropped reason) = refl

leave_alike : (one other : TableSettings) (count : ℕ) (row row' : Row) (values : Values) → one ≡ other → row.tags ≡ row'.tags → row.retag ≡ row'.retag
    → leaving one count row values ≡ leaving other count row' values
unfolding leaving_by
leave_alike one other count row row' values settings tags retag =
    ap (λ (s : TableSettings). leaving_by s count row.tags row.retag values) settings
    ∙ ap (λ (n : ℕ). leaving_by other count n row.retag values) tags
    ∙ ap (λ (r : Retag). leaving_by other count row'.tags r values) retag

pub alike_apart : (reasons : Bool) (one other : Side) (row row' : Row) (values : Values) → AreSeenAlike one other row row'
    → rows_apart reasons one other values (Some row) (Some row') ≡ false
alike_apart reasons one other row row' values alike =
    ap (λ (t : Bool). endings_apart reasons (ending_of one.endings row.ends values) (ending_of other.endings row'.ends values) t) same_leaving
    ∙ ap (λ (e : Ending). endings_apart reasons e (ending_of other.endings row'.ends values) false) (alike.ends values)
    ∙ ending_self reasons (ending_of other.endings row'.ends values)
  where
    same_leaving : tags_apart one other values row row' ≡ false
    same_leaving =
        ap not (tags_match (leaving one.settings (max row.tags row'.tags) row values) (leaving other.settings (max row.tags row'.tags) row' values)
        (leave_alike one.settings other.settings (max row.tags row'.tags) row row' values alike.settings alike.tags alike.retag))

-- ---- by the first rows that are left

pub chosen : (sides : List Side) (field : Field) (values others : Values) (places : List ℕ) (n : ℕ) (side : Side) (row : Row)
    → AreLeftOf sides (take (place_of field) fields) values places → Agree (place_of field) values others → rows_of_side sides n ≡ side.rows
    → first_left sides places n ≡ Some row → asks_nothing row field ≡ true → first_row side.rows others ≡ Some row
chosen sides field values others places n side row left agree at there nothing =
    settled_first side.rows field values others row (earlier (place_of field)) agree
    (sym (left_find sides field values places n side.rows left at) ∙ there) nothing

apart_by : (reasons : Bool) (sides : List Side) (field : Field) (values others : Values) (places : List ℕ) (m n : ℕ) (one other : Side)
    → AreLeftOf sides (take (place_of field) fields) values places → Agree (place_of field) values others
    → rows_of_side sides m ≡ one.rows → rows_of_side sides n ≡ other.rows
    → AreFirstAlike field one other (first_left sides places m) (first_left sides places n) → seen_apart reasons one other others ≡ false
apart_by reasons sides field values others places m n one other left agree at at' alike =
    ap (λ (o : Option Row). rows_apart reasons one other others o (first_row other.rows others))
    (chosen sides field values others places m one alike.r left agree at alike.first alike.nothing)
    ∙ ap (rows_apart reasons one other others (Some alike.r)) (chosen sides field values others places n other alike.r' left agree at' alike.first' alike.nothing')
    ∙ alike_apart reasons one other alike.r alike.r' others alike.seen

not_shown : (sides : List Side) (field : Field) (values others : Values) (places : List ℕ) → length sides ≤ 3
    → AreLeftOf sides (take (place_of field) fields) values places → Agree (place_of field) values others → IsSilent sides places field
    → is_shown sides others ≡ false
not_shown [] field values others places three left agree silent = absurd silent
not_shown (a ∷ []) field values others places three left agree silent = absurd silent
not_shown (a ∷ b ∷ []) field values others places three left agree silent =
    apart_by true (a ∷ b ∷ []) field values others places 0 1 a b left agree (append-nil a.rows) (append-nil b.rows) silent
not_shown (a ∷ b ∷ c ∷ []) field values others places three left agree (inl alike) =
    let same = apart_by false (a ∷ b ∷ c ∷ []) field values others places 1 0 b a left agree (append-nil b.rows) (append-nil a.rows) alike in
    rw same refl
not_shown (a ∷ b ∷ c ∷ []) field values others places three left agree (inr alike) =
    let same = apart_by false (a ∷ b ∷ c ∷ []) field values others places 1 2 b c left agree (append-nil b.rows) (append-nil c.rows) alike in
    neither (seen_apart false b a others) (seen_apart false b c others) same
  where
    neither : (x y : Bool) → y ≡ false → (x && y) ≡ false
    neither true y h = h
    neither false y h = refl
not_shown (a ∷ b ∷ c ∷ d ∷ rest) field values others places three left agree silent = absurd (omega arith)

-- so everything that is told is there
pub silent_found : (sides : List Side) (wanted : Option Use) (least : ℕ) (field : Field) (level : ℕ) (values : Values) (places : List ℕ) (samples : List Sample) → length sides ≤ 3
    → place_of field ≡ level → AreLeftOf sides (take (place_of field) fields) values places → IsSilent sides places field
    → AreAllFound sides wanted least level values samples
silent_found sides wanted least field level values places samples three at left silent =
    record {
      found = λ others told of agree tells looked.
          absurd (none_told others told (not_shown sides field values others places three left (rw at agree) silent) tells);
    }
  where
    none_told : (others : Values) (told : Told) → is_shown sides others ≡ false → told_by sides others ≡ Some told → ⊥
    none_told others told hidden tells = none_some told (sym (rw hidden refl) ∙ tells)
      where
        none_some : (t : Told) → None ≡ Some t → ⊥
        none_some t e = cc

-- ---- by what code compares

-- two sides by their places
pub silent_two : (sides : List Rows) (field : Field) (places : List ℕ) → length sides ≡ 2
    → IfSome (slice_get sides 0) (λ s. IfSome (slice_get sides 1) (λ t.
    AreFirstAlike field (side_by s) (side_by t) (first_left (map side_by sides) places 0) (first_left (map side_by sides) places 1)))
    → IsSilent (map side_by sides) places field
silent_two [] field places two h = absurd (omega arith)
silent_two (a ∷ []) field places two h = absurd (omega arith)
silent_two (a ∷ b ∷ []) field places two h = h
silent_two (a ∷ b ∷ c ∷ rest) field places two h = absurd (omega arith)

-- and three
pub silent_before : (sides : List Rows) (field : Field) (places : List ℕ) → length sides ≡ 3
    → IfSome (slice_get sides 1) (λ s. IfSome (slice_get sides 0) (λ t.
    AreFirstAlike field (side_by s) (side_by t) (first_left (map side_by sides) places 1) (first_left (map side_by sides) places 0)))
    → IsSilent (map side_by sides) places field
silent_before [] field places three h = absurd (omega arith)
silent_before (a ∷ []) field places three h = absurd (omega arith)
silent_before (a ∷ b ∷ []) field places three h = absurd (omega arith)
silent_before (a ∷ b ∷ c ∷ rest) field places three h = inl h

pub silent_after : (sides : List Rows) (field : Field) (places : List ℕ) → length sides ≡ 3
    → IfSome (slice_get sides 1) (λ s. IfSome (slice_get sides 2) (λ t.
    AreFirstAlike field (side_by s) (side_by t) (first_left (map side_by sides) places 1) (first_left (map side_by sides) places 2)))
    → IsSilent (map side_by sides) places field
silent_after [] field places three h = absurd (omega arith)
silent_after (a ∷ []) field places three h = absurd (omega arith)
silent_after (a ∷ b ∷ []) field places three h = absurd (omega arith)
silent_after (a ∷ b ∷ c ∷ rest) field places three h = inr h

-- endings that a derived comparison says are the same
pub ending_is : (one other : Ending) → (EndingPartialEq.eq-value).it one other ≡ true → one ≡ other
ending_is (Gem gem) (Gem gem') h = search rules
ending_is (Gem gem) (Dropped reason) h = absurd (true≢false (sym h))
ending_is (Dropped reason) (Gem gem) h = absurd (true≢false (sym h))
ending_is (Dropped reason) (Dropped reason') h = search rules

pub endings_are : (one other : List Ending) → pointwise (EndingPartialEq.eq-value).it one other ≡ true → one ≡ other
endings_are [] [] h = refl
endings_are [] (y ∷ ys) h = absurd (true≢false (sym h))
endings_are (x ∷ xs) [] h = absurd (true≢false (sym h))
endings_are (x ∷ xs) (y ∷ ys) h =
    let parts = and_parts ((EndingPartialEq.eq-value).it x y) (pointwise (EndingPartialEq.eq-value).it xs ys) h in
    rw (ending_is x y parts.0, endings_are xs ys parts.1) refl

-- by the first rows of two sides
pub alike_along : (sides : List Rows) (m n : ℕ) (x y : Rows) (places : List ℕ) (field : Field) (first second : Option Row)
    → ((d : Rows) → x ≡ get_or sides m d) → ((d : Rows) → y ≡ get_or sides n d)
    → first ≡ first_left (map side_by sides) places m → second ≡ first_left (map side_by sides) places n
    → AreFirstAlike field (side_by x) (side_by y) first second
    → IfSome (slice_get sides m) (λ s. IfSome (slice_get sides n) (λ t.
    AreFirstAlike field (side_by s) (side_by t) (first_left (map side_by sides) places m) (first_left (map side_by sides) places n)))
alike_along sides m n x y places field first second is is' at at' alike =
    if_some (λ (s : Rows). IfSome (slice_get sides n) (λ t.
    AreFirstAlike field (side_by s) (side_by t) (first_left (map side_by sides) places m) (first_left (map side_by sides) places n))) (slice_get sides m) (λ s there.
    if_some (λ (t : Rows).
    AreFirstAlike field (side_by s) (side_by t) (first_left (map side_by sides) places m) (first_left (map side_by sides) places n)) (slice_get sides n) (λ t there'.
    along x s y t first (first_left (map side_by sides) places m) second (first_left (map side_by sides) places n) (is s ∙ at_get sides m s there) (is' t ∙ at_get sides n t there') at at' alike))
  where
    along : (x s y t : Rows) (p p' q q' : Option Row) → x ≡ s → y ≡ t → p ≡ p' → q ≡ q' → AreFirstAlike field (side_by x) (side_by y) p q
        → AreFirstAlike field (side_by s) (side_by t) p' q'
    along x s y t p p' q q' e e' f f' h = rw (← e, ← e', ← f, ← f') h
