-- Frames of two rows that leave with the same tags for some values of a part of a tag leave with the same tags for each.
use Rattle.std.proofs.Common.{◌≡◌, ◌≢◌, ◌<◌, ◌&&◌, ◌==◌, ◌++◌, ℕ, Bool, true, List, [], ◌∷◌, Option, Some, None, arith, refl, ap, sym, drop, length, map, min, ◌∙◌}
use Rattle.std.proofs.lemmas.Bool.{and_parts, eqb-true, true≢false}
use Rattle.std.proofs.lemmas.List.{drop-map, length-map, map-append}
use Rattle.tag_view.specs.Tag.{TagFields}
use Rattle.vlan_rule.specs.declared.settings.TableSettings.{TableSettings}
use Rattle.vlan_rule.specs.declared.treatment.AddedTag.{AddedTag}
use Rattle.vlan_rule.specs.declared.treatment.PrioritySource.{PrioritySource}
use Rattle.vlan_rule.specs.declared.treatment.PrioritySource.TheVariants as priority
use Rattle.vlan_rule.specs.declared.treatment.EligibleSource.{EligibleSource}
use Rattle.vlan_rule.specs.declared.treatment.EligibleSource.TheVariants as eligible
use Rattle.treatment.specs.Treatment.{addition_from, additions_from, left_of}
use Rattle.frame_rows.specs.declared.field.Field.{Field}
use Rattle.frame_rows.specs.declared.field.Field.TheVariants.{Length, FirstType, SecondType, ThirdType, FirstVid, SecondVid, ThirdVid, FirstPriority, SecondPriority, FirstEligible, SecondEligible}
use Rattle.frame_rows.specs.declared.field.Values.{Values}
use Rattle.frame_rows.specs.declared.row.Row.{Row}
use Rattle.frame_rows.specs.Field.{place_of, with_value}
use Rattle.frame_rows.specs.Sight.{same_tags, slots}
use Rattle.frame_rows.specs.Words.{limit_of}
use Rattle.frame_classes.specs.Settled.{are_added_alike, copy_alike, is_eligible_alike, is_part_alike, is_priority_alike}
use Rattle.frame_classes.proofs.Frozen.{frozen}
use Rattle.frame_classes.proofs.Lines.{Line, Part, at, part_limit, points, settled}
use Rattle.frame_classes.proofs.FieldLines.{added_moves, addition_is, addition_lines, eligible_moves, inner_line, outer_line, part_of, priority_moves, slot_lines, slots_are}
use Rattle.frame_classes.proofs.SameTags.{tags_are, tags_match}

-- ---- the tags with which frames leave

abbrev written_lines : Part → TableSettings → Row → Option ℕ → List Line → List Line
written_lines part settings row d lines =
    (addition_lines part row.retag.outer settings d lines ++ addition_lines part row.retag.inner settings d lines)
    ++ drop (min row.retag.remove (length lines)) lines

abbrev frozen_lines : Field → TableSettings → ℕ → Row → Option ℕ → Values → List Line
frozen_lines field settings count row d others =
    written_lines (part_of field) settings row d (slot_lines field row.tags others) ++ drop row.tags (slot_lines field count others)

-- tags that are written of lines are lines
written_are : (part : Part) (x : ℕ) (settings : TableSettings) (row : Row) (d : Option ℕ) (lines : List Line)
    → additions_from row.retag settings (map (at part x) lines) d ++ left_of row.retag.remove (map (at part x) lines)
    ≡ map (at part x) (written_lines part settings row d lines)
written_are part x settings row d lines =
    let outer = addition_lines part row.retag.outer settings d lines in
    let inner = addition_lines part row.retag.inner settings d lines in
    let left = drop (min row.retag.remove (length lines)) lines in
    let kept : left_of row.retag.remove (map (at part x) lines) ≡ map (at part x) left =
    ap (λ (n : ℕ). drop (min row.retag.remove n) (map (at part x) lines)) (length-map lines (at part x))
    ∙ drop-map (at part x) (min row.retag.remove (length lines)) lines in
    let added : additions_from row.retag settings (map (at part x) lines) d ≡ map (at part x) (outer ++ inner) =
    ap (λ (tags : List TagFields). tags ++ addition_from row.retag.inner settings (map (at part x) lines) d)
    (addition_is part row.retag.outer settings d x lines)
    ∙ ap (λ (tags : List TagFields). map (at part x) outer ++ tags) (addition_is part row.retag.inner settings d x lines)
    ∙ sym (map-append (at part x) outer inner) in
    ap (λ (tags : List TagFields). tags ++ left_of row.retag.remove (map (at part x) lines)) added
    ∙ ap (λ (tags : List TagFields). map (at part x) (outer ++ inner) ++ tags) kept
    ∙ sym (map-append (at part x) (outer ++ inner) left)

frozen_are : (field : Field) (x : ℕ) (settings : TableSettings) (count : ℕ) (row : Row) (d : Option ℕ) (others : Values) → 3 < place_of field
    → length others.values ≡ 11
    → frozen settings count row d (with_value field x others) ≡ map (at (part_of field) x) (frozen_lines field settings count row d others)
frozen_are field x settings count row d others late eleven =
    let part = part_of field in
    let lines = slot_lines field row.tags others in
    let looked = slot_lines field count others in
    let read : slots row.tags (with_value field x others) ≡ map (at part x) lines = slots_are field row.tags x others late eleven in
    let behind : drop row.tags (slots count (with_value field x others)) ≡ map (at part x) (drop row.tags looked) =
    ap (drop row.tags) (slots_are field count x others late eleven) ∙ drop-map (at part x) row.tags looked in
    ap
    (λ (tags : List TagFields). (additions_from row.retag settings tags d ++ left_of row.retag.remove tags)
    ++ drop row.tags (slots count (with_value field x others)))
    read
    ∙ ap (λ (tags : List TagFields). tags ++ drop row.tags (slots count (with_value field x others))) (written_are part x settings row d lines)
    ∙ ap (λ (tags : List TagFields). map (at part x) (written_lines part settings row d lines) ++ tags) behind
    ∙ sym (map-append (at part x) (written_lines part settings row d lines) (drop row.tags looked))

-- the tags of two rows are the same where their lines meet
meet : (s t : TableSettings) (row row' : Row) (count count' : ℕ) (d e : Option ℕ) (field : Field) (others : Values) (x : ℕ) → 3 < place_of field
    → length others.values ≡ 11
    → same_tags (frozen s count row d (with_value field x others)) (frozen t count' row' e (with_value field x others)) ≡ true
    → map (at (part_of field) x) (frozen_lines field s count row d others) ≡ map (at (part_of field) x) (frozen_lines field t count' row' e others)
meet s t row row' count count' d e field others x late eleven same =
    sym (frozen_are field x s count row d others late eleven)
    ∙ tags_are (frozen s count row d (with_value field x others)) (frozen t count' row' e (with_value field x others)) same
    ∙ frozen_are field x t count' row' e others late eleven

met : (s t : TableSettings) (row row' : Row) (count count' : ℕ) (d e : Option ℕ) (field : Field) (others : Values) (x : ℕ) → 3 < place_of field
    → length others.values ≡ 11
    → map (at (part_of field) x) (frozen_lines field s count row d others) ≡ map (at (part_of field) x) (frozen_lines field t count' row' e others)
    → same_tags (frozen s count row d (with_value field x others)) (frozen t count' row' e (with_value field x others)) ≡ true
met s t row row' count count' d e field others x late eleven same =
    tags_match (frozen s count row d (with_value field x others)) (frozen t count' row' e (with_value field x others))
    (frozen_are field x s count row d others late eleven ∙ same ∙ sym (frozen_are field x t count' row' e others late eleven))

-- ---- two values stand for all

limit_is : (field : Field) → 3 < place_of field → limit_of field ≡ part_limit (part_of field)
limit_is Length late = absurd (omega arith)
limit_is FirstType late = absurd (omega arith)
limit_is SecondType late = absurd (omega arith)
limit_is ThirdType late = absurd (omega arith)
limit_is FirstVid late = refl
limit_is SecondVid late = refl
limit_is ThirdVid late = refl
limit_is FirstPriority late = refl
limit_is SecondPriority late = refl
limit_is FirstEligible late = refl
limit_is SecondEligible late = refl

-- if they do for two, they do for each
pub two_points : (s t : TableSettings) (row row' : Row) (count : ℕ) (d e : Option ℕ) (field : Field) (others : Values) (x y z : ℕ) → 3 < place_of field
    → length others.values ≡ 11 → x < limit_of field → y < limit_of field → x ≢ y
    → same_tags (frozen s count row d (with_value field x others)) (frozen t count row' e (with_value field x others)) ≡ true
    → same_tags (frozen s count row d (with_value field y others)) (frozen t count row' e (with_value field y others)) ≡ true
    → same_tags (frozen s count row d (with_value field z others)) (frozen t count row' e (with_value field z others)) ≡ true
two_points s t row row' count d e field others x y z late eleven less less' apart here there =
    let limit : limit_of field ≡ part_limit (part_of field) = limit_is field late in
    let below : x < part_limit (part_of field) = rw (← limit) less in
    let below' : y < part_limit (part_of field) = rw (← limit) less' in
    met s t row row' count count d e field others z late eleven
    (points (part_of field) x y z (frozen_lines field s count row d others) (frozen_lines field t count row' e others) below below' apart
    (meet s t row row' count count d e field others x late eleven here) (meet s t row row' count count d e field others y late eleven there))

-- ---- one value stands for all

priority_alike : (one other : PrioritySource) (outer inner : Bool) → is_priority_alike one other ≡ true
    → priority_moves one outer inner ≡ priority_moves other outer inner
priority_alike (priority.Fixed p) (priority.Fixed q) outer inner h = refl
priority_alike priority.Inner priority.Inner outer inner h = refl
priority_alike priority.Outer priority.Outer outer inner h = refl
priority_alike _ _ outer inner h = absurd (true≢false (sym h))

eligible_alike : (one other : EligibleSource) (outer inner : Bool) → is_eligible_alike one other ≡ true
    → eligible_moves one outer inner ≡ eligible_moves other outer inner
eligible_alike eligible.Inner eligible.Inner outer inner h = refl
eligible_alike eligible.Outer eligible.Outer outer inner h = refl
eligible_alike eligible.Clear eligible.Clear outer inner h = refl
eligible_alike eligible.Set eligible.Set outer inner h = refl
eligible_alike _ _ outer inner h = absurd (true≢false (sym h))

part_alike : (field : Field) (one other : AddedTag) (outer inner : Bool) → 6 < place_of field → is_part_alike field one other ≡ true
    → added_moves (part_of field) one outer inner ≡ added_moves (part_of field) other outer inner
part_alike Length one other outer inner late h = absurd (omega arith)
part_alike FirstType one other outer inner late h = absurd (omega arith)
part_alike SecondType one other outer inner late h = absurd (omega arith)
part_alike ThirdType one other outer inner late h = absurd (omega arith)
part_alike FirstVid one other outer inner late h = absurd (omega arith)
part_alike SecondVid one other outer inner late h = absurd (omega arith)
part_alike ThirdVid one other outer inner late h = absurd (omega arith)
part_alike FirstPriority one other outer inner late h = priority_alike one.priority other.priority outer inner h
part_alike SecondPriority one other outer inner late h = priority_alike one.priority other.priority outer inner h
part_alike FirstEligible one other outer inner late h = eligible_alike one.eligible other.eligible outer inner h
part_alike SecondEligible one other outer inner late h = eligible_alike one.eligible other.eligible outer inner h

abbrev moves_of : List Line → List Bool
moves_of lines = map (λ (line : Line). line.moves) lines

additions_alike : (field : Field) (one other : Option AddedTag) (s t : TableSettings) (d e : Option ℕ) (lines : List Line) → 6 < place_of field
    → are_added_alike field one other ≡ true
    → moves_of (addition_lines (part_of field) one s d lines) ≡ moves_of (addition_lines (part_of field) other t e lines)
additions_alike field None None s t d e lines late h = refl
additions_alike field None (Some other) s t d e lines late h = absurd (true≢false (sym h))
additions_alike field (Some one) None s t d e lines late h = absurd (true≢false (sym h))
additions_alike field (Some one) (Some other) s t d e lines late h =
    ap (λ (moves : Bool). moves ∷ []) (part_alike field one other (outer_line lines).moves (inner_line lines).moves late h)

-- the same lines of both rows move
moves_alike : (s t : TableSettings) (row row' : Row) (d e : Option ℕ) (field : Field) (others : Values) → 6 < place_of field
    → copy_alike field row row' ≡ true
    → moves_of (frozen_lines field s row.tags row d others) ≡ moves_of (frozen_lines field t row'.tags row' e others)
moves_alike s t row row' d e field others late alike =
    let part = part_of field in
    let all = and_parts (row.tags == row'.tags && row.retag.remove == row'.retag.remove)
    (are_added_alike field row.retag.outer row'.retag.outer && are_added_alike field row.retag.inner row'.retag.inner) alike in
    let counts = and_parts (row.tags == row'.tags) (row.retag.remove == row'.retag.remove) all.0 in
    let added = and_parts (are_added_alike field row.retag.outer row'.retag.outer) (are_added_alike field row.retag.inner row'.retag.inner) all.1 in
    let tags : row.tags ≡ row'.tags = eqb-true row.tags row'.tags counts.0 in
    let remove : row.retag.remove ≡ row'.retag.remove = eqb-true row.retag.remove row'.retag.remove counts.1 in
    let lines = slot_lines field row.tags others in
    let outer = addition_lines part row.retag.outer s d lines in
    let inner = addition_lines part row.retag.inner s d lines in
    let outer' = addition_lines part row'.retag.outer t e lines in
    let inner' = addition_lines part row'.retag.inner t e lines in
    let left = drop (min row.retag.remove (length lines)) lines in
    let left' = drop (min row'.retag.remove (length lines)) lines in
    let behind = drop row.tags lines in
    four_moves outer inner left behind
    ∙ ap (λ (moves : List Bool). ((moves ++ moves_of inner) ++ moves_of left) ++ moves_of behind)
    (additions_alike field row.retag.outer row'.retag.outer s t d e lines late added.0)
    ∙ ap (λ (moves : List Bool). ((moves_of outer' ++ moves) ++ moves_of left) ++ moves_of behind)
    (additions_alike field row.retag.inner row'.retag.inner s t d e lines late added.1)
    ∙ ap (λ (n : ℕ). ((moves_of outer' ++ moves_of inner') ++ moves_of (drop (min n (length lines)) lines)) ++ moves_of behind) remove
    ∙ sym (four_moves outer' inner' left' behind)
    ∙ ap (λ (n : ℕ). moves_of (written_lines part t row' e (slot_lines field n others) ++ drop n (slot_lines field n others))) tags
  where
    four_moves : (a b c d : List Line) → moves_of (((a ++ b) ++ c) ++ d) ≡ ((moves_of a ++ moves_of b) ++ moves_of c) ++ moves_of d
    four_moves a b c d = simp map-append

-- if they do for one, and both rows copy the part alike, they do for each
pub settled_points : (s t : TableSettings) (row row' : Row) (d e : Option ℕ) (field : Field) (others : Values) (x y : ℕ) → 6 < place_of field
    → length others.values ≡ 11 → copy_alike field row row' ≡ true
    → same_tags (frozen s row.tags row d (with_value field x others)) (frozen t row'.tags row' e (with_value field x others)) ≡ true
    → same_tags (frozen s row.tags row d (with_value field y others)) (frozen t row'.tags row' e (with_value field y others)) ≡ true
settled_points s t row row' d e field others x y late eleven alike here =
    let behind : 3 < place_of field = omega arith in
    met s t row row' row.tags row'.tags d e field others y behind eleven
    (settled (part_of field) x y (frozen_lines field s row.tags row d others) (frozen_lines field t row'.tags row' e others)
    (moves_alike s t row row' d e field others late alike) (meet s t row row' row.tags row'.tags d e field others x behind eleven here))
