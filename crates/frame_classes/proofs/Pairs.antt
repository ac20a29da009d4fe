-- What two sides see of frames, where one field has another value.
use Rattle.std.proofs.Common.{◌≡◌, ℕ, Bool, true, false, not, List, [], ◌∷◌, Option, Some, None, refl, ap, sym, length, max, ◌∙◌}
use Rattle.std.specs.Prelude.{All, IsTrue}
use Rattle.std.proofs.lemmas.List.Elements.{All-head, All-tail}
use Rattle.vlan_rule.specs.declared.settings.TableSettings.{TableSettings}
use Rattle.vlan_rule.specs.declared.treatment.Treatment.TheVariants as treatment
use Rattle.treatment.specs.Compiled.{takes_dscp}
use Rattle.frame_rows.specs.declared.class.Ending.{Ending}
use Rattle.frame_rows.specs.declared.field.Field.{Field}
use Rattle.frame_rows.specs.declared.field.Values.{Values}
use Rattle.frame_rows.specs.declared.source.DscpSource.{DscpSource}
use Rattle.frame_rows.specs.declared.row.Row.{Row}
use Rattle.frame_rows.specs.Field.{fields, value_at, vid_behind, with_value}
use Rattle.frame_rows.specs.Fits.{row_fits}
use Rattle.frame_rows.specs.Source.{dscp_behind, mapped}
use Rattle.frame_rows.specs.Row.{ending_of, first_row, marking_reads, passes, row_marks, row_reads}
use Rattle.frame_rows.specs.Rows.{IsMarked}
use Rattle.frame_rows.specs.Sight.{Side, endings_apart, leaving, rows_apart, same_tags, seen_apart, tags_apart}
use Rattle.frame_rows.proofs.ChosenRows.{find_passes}
use Rattle.frame_rows.proofs.Means.{found_has}
use Rattle.frame_classes.specs.Splitting.{IsNear}
use Rattle.frame_classes.proofs.Freezing.{frozen_same}
use Rattle.frame_classes.proofs.Frozen.{frozen}
use Rattle.frame_classes.proofs.Leaves.{at_field, ending_same, reads_vid, with_itself}

-- ---- the first rows

pub first_same : (rows : List Row) (one other : Values) → All (λ row. passes fields row one ≡ passes fields row other) rows
    → first_row rows one ≡ first_row rows other
first_same [] one other alike = refl
first_same (row ∷ rest) one other alike =
    let here = All-head (λ row. passes fields row one ≡ passes fields row other) row rest alike in
    let later = first_same rest one other (All-tail (λ row. passes fields row one ≡ passes fields row other) row rest alike) in
    rw (here, later) refl

-- they end alike
ending_near : (side : Side) (one other : Values) (row : Row) → IsNear side.rows fields one other → first_row side.rows one ≡ Some row
    → ending_of side.endings row.ends one ≡ ending_of side.endings row.ends other
ending_near side one other row near is =
    ending_same side.endings row.ends one other
    (at_field (λ field. row_reads row one field (value_at field one) ≡ row_reads row other field (value_at field other))
    (found_has (λ row. passes fields row one ≡ true
    → All (λ field. row_reads row one field (value_at field one) ≡ row_reads row other field (value_at field other)) fields)
    (λ row. passes fields row one) side.rows row near.read_alike is (find_passes (λ row. passes fields row one) side.rows row is)))

-- and their added tags have one priority
marking_near : (side : Side) (one other : Values) (row : Row) (source : DscpSource) → IsNear side.rows fields one other → first_row side.rows one ≡ Some row
    → row.marking ≡ Some source → mapped source (dscp_behind source.tags one) ≡ mapped source (dscp_behind source.tags other)
marking_near side one other row source near is at =
    sym (reads_vid source one)
    ∙ ap (λ (m : Option DscpSource). marking_reads m one (vid_behind source.tags) (value_at (vid_behind source.tags) one)) (sym at)
    ∙ at_field (λ field. row_marks row one field (value_at field one) ≡ row_marks row other field (value_at field other))
    (found_has (λ row. passes fields row one ≡ true
    → All (λ field. row_marks row one field (value_at field one) ≡ row_marks row other field (value_at field other)) fields)
    (λ row. passes fields row one) side.rows row near.marked_alike is (find_passes (λ row. passes fields row one) side.rows row is)) (vid_behind source.tags)
    ∙ ap (λ (m : Option DscpSource). marking_reads m other (vid_behind source.tags) (value_at (vid_behind source.tags) other)) at
    ∙ reads_vid source other

-- the DSCP behind as many tags as the row reads
marking_tags : (settings : TableSettings) (row : Row) (source : DscpSource) → IsMarked settings row → row.marking ≡ Some source → source.tags ≡ row.tags
marking_tags settings row source marked at = by_takes (takes_dscp (treatment.Retag row.retag)) refl
  where
    none_some : None ≡ Some source → ⊥
    none_some e = cc

    some_same : (x y : DscpSource) → Some x ≡ Some y → x ≡ y
    some_same x y e = cc

    by_takes : (b : Bool) → takes_dscp (treatment.Retag row.retag) ≡ b → source.tags ≡ row.tags
    by_takes true is = ap (λ (s : DscpSource). s.tags) (sym (some_same _ source ((rw is at (sym marked)) ∙ at)))
    by_takes false is = absurd (none_some ((rw is at (sym marked)) ∙ at))

-- tags that leave, with others' DSCP
frozen_near : (side : Side) (count : ℕ) (one other : Values) (row : Row) → IsMarked side.settings row → IsNear side.rows fields one other
    → first_row side.rows one ≡ Some row → leaving side.settings count row one ≡ frozen side.settings count row (dscp_behind row.tags other) one
frozen_near side count one other row marked near is =
    frozen_same side.settings count row (dscp_behind row.tags one) (dscp_behind row.tags other) one marked (λ source at.
    ap (λ (tags : ℕ). mapped source (dscp_behind tags one)) (sym (marking_tags side.settings row source marked at))
    ∙ marking_near side one other row source near is at
    ∙ ap (λ (tags : ℕ). mapped source (dscp_behind tags other)) (marking_tags side.settings row source marked at))

-- ---- two sides

-- the first rows of two sides for others, and what is known of them
pub record IsPair (one other : Side) (others : Values) (row row' : Row) : Type 0 where
  pub eleven : length others.values ≡ 11
  pub first : first_row one.rows others ≡ Some row
  pub second : first_row other.rows others ≡ Some row'
  pub fit : IsTrue (row_fits one.settings.input_tpid row)
  pub fit' : IsTrue (row_fits other.settings.input_tpid row')
  pub marked : IsMarked one.settings row
  pub marked' : IsMarked other.settings row'

-- with a value of a field, and others' DSCP, frames leave both with the same tags
abbrev pub agree_at : Side → Side → Field → Values → Row → Row → ℕ → Bool
agree_at one other field others row row' x =
    same_tags (frozen one.settings (max row.tags row'.tags) row (dscp_behind row.tags others) (with_value field x others))
    (frozen other.settings (max row.tags row'.tags) row' (dscp_behind row'.tags others) (with_value field x others))

-- what both see, by that
abbrev pub seen_if : Bool → Side → Side → Values → Row → Row → Bool → Bool
seen_if reasons one other others row row' agree =
    endings_apart reasons (ending_of one.endings row.ends others) (ending_of other.endings row'.ends others) (not agree)

pub seen_changed : (reasons : Bool) (one other : Side) (field : Field) (others : Values) (row row' : Row) (c : ℕ) → IsPair one other others row row'
    → IsNear one.rows fields (with_value field c others) others → IsNear other.rows fields (with_value field c others) others
    → seen_apart reasons one other (with_value field c others) ≡ seen_if reasons one other others row row' (agree_at one other field others row row' c)
seen_changed reasons one other field others row row' c pair near near' =
    ap (λ (o : Option Row). rows_apart reasons one other changed o (first_row other.rows changed)) first
    ∙ ap (rows_apart reasons one other changed (Some row)) second
    ∙ ap (λ (e : Ending). endings_apart reasons e (ending_of other.endings row'.ends changed) (tags_apart one other changed row row')) (ending_near one changed others row near first)
    ∙ ap (λ (e : Ending). endings_apart reasons (ending_of one.endings row.ends others) e (tags_apart one other changed row row')) (ending_near other changed others row' near' second)
    ∙ ap (λ (tags : Bool). endings_apart reasons (ending_of one.endings row.ends others) (ending_of other.endings row'.ends others) tags) tags
  where
    changed : Values
    changed = with_value field c others

    first : first_row one.rows changed ≡ Some row
    first = first_same one.rows changed others near.alike ∙ pair.first

    second : first_row other.rows changed ≡ Some row'
    second = first_same other.rows changed others near'.alike ∙ pair.second

    tags : tags_apart one other changed row row' ≡ not (agree_at one other field others row row' c)
    tags =
        rw (frozen_near one (max row.tags row'.tags) changed others row pair.marked near first, frozen_near other (max row.tags row'.tags) changed others row' pair.marked' near' second) refl

pub seen_others : (reasons : Bool) (one other : Side) (field : Field) (others : Values) (row row' : Row) → IsPair one other others row row'
    → seen_apart reasons one other others ≡ seen_if reasons one other others row row' (agree_at one other field others row row' (value_at field others))
seen_others reasons one other field others row row' pair =
    ap (λ (o : Option Row). rows_apart reasons one other others o (first_row other.rows others)) pair.first
    ∙ ap (rows_apart reasons one other others (Some row)) pair.second
    ∙ ap (λ (v : Values). endings_apart reasons (ending_of one.endings row.ends others) (ending_of other.endings row'.ends others)
    (not (same_tags (frozen one.settings (max row.tags row'.tags) row (dscp_behind row.tags others) v)
    (frozen other.settings (max row.tags row'.tags) row' (dscp_behind row'.tags others) v)))) (sym (with_itself field others))
