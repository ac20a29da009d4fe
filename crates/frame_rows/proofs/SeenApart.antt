-- Two configurations' sights of a frame differ where its values say so.
use Rattle.std.proofs.Common.{◌≡◌, ◌<◌, ◌≤◌, ◌+◌, ◌*◌, ◌^◌, ◌==◌, ℕ, Bool, true, false, not, ◌||◌, List, [], ◌∷◌, ◌++◌, Option, Some, None, append_assoc, arith, refl, ap, sym, length, drop, max, min, take, if◌then◌else◌, ◌∙◌}
use Rattle.std.specs.Prelude.{All, IsTrue}
use Rattle.std.specs.List.{flat_map}
use Rattle.std.specs.Option.{option_map}
use Rattle.std.proofs.lemmas.Bool.{and_parts, eq-eqb, eqb-true, leb-true, ltb-true, or_parts, true≢false}
use Rattle.std.proofs.lemmas.Grind.{flat_map-append}
use Rattle.std.proofs.lemmas.List.{append_cancel_left}
use Rattle.std.proofs.lemmas.List.Elements.{All-append, All-cons, All-drop, All-head, All-nil, All-tail}
use Rattle.tag_view.specs.Tag.{IsInRange, TagFields, missing_tag, tag_bytes}
use Rattle.tag_view.specs.Dscp.{group_of}
use Rattle.vlan_rule.specs.declared.settings.TableSettings.{TableSettings}
use Rattle.vlan_rule.specs.declared.treatment.AddedTag.{AddedTag}
use Rattle.vlan_rule.specs.declared.treatment.PrioritySource.{PrioritySource}
use Rattle.vlan_rule.specs.declared.treatment.PrioritySource.TheVariants as from_priority
use Rattle.vlan_rule.specs.declared.treatment.TpidSource.{TpidSource}
use Rattle.vlan_rule.specs.declared.treatment.TpidSource.TheVariants as from_tpid
use Rattle.vlan_rule.specs.declared.treatment.VidSource.{VidSource}
use Rattle.vlan_rule.specs.declared.treatment.VidSource.TheVariants as from_vid
use Rattle.vlan_rule.specs.Meaning.{addition_fits, priority_fits, vid_fits}
use Rattle.treatment.specs.Treatment.{addition_from, additions_from, dscp_priority, inner_of, left_of, outer_of, priority_from, tpid_from, vid_from}
use Rattle.mib_state.specs.Entities.{Entities}
use Rattle.frame_meaning.specs.declared.reason.Reason.{Reason}
use Rattle.frame_meaning.specs.declared.reason.Reason.TheVariants.{Runt, CutTag, NoRule, RuleDiscard, NoMapper, NullPointer, NoInterwork, NoGem, Direction}
use Rattle.frame_meaning.specs.Reason.{number_of_reason}
use Rattle.frame_rows.specs.declared.ask.Ask.{Ask}
use Rattle.frame_rows.specs.declared.ask.Ask.TheVariants.{Any, Exactly, Between, TagType, NoTagType, Ethertype}
use Rattle.frame_rows.specs.declared.class.Ending.{Ending}
use Rattle.frame_rows.specs.declared.class.Ending.TheVariants.{Gem, Dropped}
use Rattle.frame_rows.specs.declared.field.Field.TheVariants.{Length}
use Rattle.frame_rows.specs.declared.field.Values.{Values}
use Rattle.frame_rows.specs.declared.row.Ends.{Ends}
use Rattle.frame_rows.specs.declared.row.Ends.TheVariants as ends
use Rattle.frame_rows.specs.declared.row.Row.{Row}
use Rattle.frame_rows.specs.Ask.{admits}
use Rattle.frame_rows.specs.Class.{class_of}
use Rattle.frame_rows.specs.Field.{fields, values_of}
use Rattle.frame_rows.specs.Fits.{length_fits, row_fits}
use Rattle.frame_rows.specs.Row.{ask_at, class_of_row, ending_of, first_row, passes}
use Rattle.frame_rows.specs.Rows.{Mean}
use Rattle.frame_rows.specs.Sight.{AreSeen, AreSeenApart, IsLike, Leaves, Lost, Side, ValuesTellApart, endings_apart, leaving, same_tags, seen_apart, sent_by, sight_by_ending, sight_by_row, sight_of, slots, tags_apart, written}
use Rattle.frame_rows.specs.Source.{dscp_behind}
use Rattle.frame_rows.proofs.ChosenRows.{find_passes}
use Rattle.frame_rows.proofs.Means.{found_has}
use Rattle.frame_rows.proofs.Slots.{slots_in_range, slots_spelled}
use Rattle.frame_rows.proofs.TagLists.{Tells, tags_by_bytes, tags_tell}
use Rattle.frame_rows.proofs.Written.{IsFitting, fitting}

-- ---- tags that leave have fields that fit

missing_in_range : IsInRange missing_tag
missing_in_range = record { tpid = omega arith; pcp = omega arith; vid = omega arith }

outer_in_range : (tags : List TagFields) → All IsInRange tags → IsInRange (outer_of tags)
outer_in_range [] h = missing_in_range
outer_in_range (tag ∷ rest) h = All-head IsInRange tag rest h

inner_in_range : (tags : List TagFields) → All IsInRange tags → IsInRange (inner_of tags)
inner_in_range [] h = missing_in_range
inner_in_range (tag ∷ []) h = All-head IsInRange tag [] h
inner_in_range (tag ∷ next ∷ rest) h = inner_in_range (next ∷ rest) (All-tail IsInRange tag (next ∷ rest) h)

tpid_in_range : (source : TpidSource) (settings : TableSettings) (tags : List TagFields) → settings.output_tpid < 2 ^ 16 → All IsInRange tags
    → tpid_from source settings tags < 2 ^ 16
tpid_in_range from_tpid.Inner settings tags output h = (inner_in_range tags h).tpid
tpid_in_range from_tpid.Outer settings tags output h = (outer_in_range tags h).tpid
tpid_in_range from_tpid.Output settings tags output h = output
tpid_in_range from_tpid.Standard settings tags output h = omega arith

small_dscp : (map : List ℕ) (dscp : Option ℕ) → dscp_priority map dscp < 2 ^ 3
unfolding group_of
small_dscp map None = omega arith
small_dscp map (Some dscp) = omega arith

priority_in_range : (source : PrioritySource) (settings : TableSettings) (tags : List TagFields) (dscp : Option ℕ) → priority_fits source ≡ true
    → All IsInRange tags → priority_from source settings tags dscp < 2 ^ 3
priority_in_range (from_priority.Fixed priority) settings tags dscp fits h = ltb-true priority 8 fits
priority_in_range from_priority.Inner settings tags dscp fits h = (inner_in_range tags h).pcp
priority_in_range from_priority.Outer settings tags dscp fits h = (outer_in_range tags h).pcp
priority_in_range from_priority.Dscp settings tags dscp fits h = small_dscp settings.dscp_map.0 dscp

vid_in_range : (source : VidSource) (tags : List TagFields) → vid_fits source ≡ true → All IsInRange tags → vid_from source tags < 2 ^ 12
vid_in_range (from_vid.Fixed vid) tags fits h = let below : vid < 4095 = ltb-true vid 4095 fits in omega arith
vid_in_range from_vid.Inner tags fits h = (inner_in_range tags h).vid
vid_in_range from_vid.Outer tags fits h = (outer_in_range tags h).vid

addition_in_range : (added : Option AddedTag) (settings : TableSettings) (tags : List TagFields) (dscp : Option ℕ) → addition_fits added ≡ true
    → settings.output_tpid < 2 ^ 16 → All IsInRange tags → All IsInRange (addition_from added settings tags dscp)
addition_in_range None settings tags dscp fits output h = All-nil IsInRange
addition_in_range (Some added) settings tags dscp fits output h =
    let parts = and_parts (priority_fits added.priority) (vid_fits added.vid) fits in
    All-cons IsInRange _ [] (record {
      tpid = tpid_in_range added.tpid settings tags output h;
      pcp = priority_in_range added.priority settings tags dscp parts.0 h;
      vid = vid_in_range added.vid tags parts.1 h;
    }) (All-nil IsInRange)

leaving_in_range : (settings : TableSettings) (count : ℕ) (row : Row) (bytes : List ℕ) → IsFitting row → settings.output_tpid < 2 ^ 16
    → All (λ b. b < 2 ^ 8) bytes → All IsInRange (leaving settings count row (values_of bytes))
leaving_in_range settings count row bytes fit output fits =
    let tags = slots row.tags (values_of bytes) in
    let dscp = dscp_behind row.tags (values_of bytes) in
    let read = slots_in_range row.tags bytes fits in
    let adds = and_parts (addition_fits row.retag.outer) (addition_fits row.retag.inner) (and_parts _ _ fit.retag).1 in
    All-append IsInRange (written settings row (values_of bytes)) (drop row.tags (slots count (values_of bytes)))
    (All-append IsInRange (additions_from row.retag settings tags dscp) (left_of row.retag.remove tags)
    (All-append IsInRange (addition_from row.retag.outer settings tags dscp) (addition_from row.retag.inner settings tags dscp)
    (addition_in_range row.retag.outer settings tags dscp adds.0 output read) (addition_in_range row.retag.inner settings tags dscp adds.1 output read))
    (All-drop IsInRange (min row.retag.remove (length tags)) tags read))
    (All-drop IsInRange row.tags (slots count (values_of bytes)) (slots_in_range count bytes fits))

-- ---- the bytes that leave

-- with the slots behind the tags that are read
sent_with : (settings : TableSettings) (row : Row) (count : ℕ) (bytes : List ℕ) → row.tags ≤ count → count ≤ 2 → 12 + 4 * count ≤ length bytes
    → All (λ b. b < 2 ^ 8) bytes
    → sent_by settings row bytes ≡ take 12 bytes ++ (flat_map tag_bytes (leaving settings count row (values_of bytes)) ++ drop (12 + 4 * count) bytes)
sent_with settings row count bytes most two long fits =
    ap (λ (x : List ℕ). take 12 bytes ++ x)
    (ap (λ (x : List ℕ). flat_map tag_bytes out ++ x) (sym (slots_spelled row.tags count bytes most two long fits))
    ∙ sym (append_assoc (flat_map tag_bytes out) (flat_map tag_bytes behind) (drop (12 + 4 * count) bytes))
    ∙ ap (λ (x : List ℕ). x ++ drop (12 + 4 * count) bytes) (sym (flat_map-append tag_bytes out behind)))
  where
    out : List TagFields
    out = written settings row (values_of bytes)

    behind : List TagFields
    behind = drop row.tags (slots count (values_of bytes))

-- they differ where the tags do
pub sent_tells : (one other : Side) (row row' : Row) (bytes : List ℕ) → IsFitting row → IsFitting row' → one.settings.output_tpid < 2 ^ 16
    → other.settings.output_tpid < 2 ^ 16 → 14 + 4 * row.tags ≤ length bytes → 14 + 4 * row'.tags ≤ length bytes → All (λ b. b < 2 ^ 8) bytes
    → Tells (tags_apart one other (values_of bytes) row row') (sent_by one.settings row bytes ≡ sent_by other.settings row' bytes)
sent_tells one other row row' bytes fit fit' output output' long long' fits =
    record { same = λ h. is ∙ ap bytes_of (tell.same h) ∙ sym is'; differs = λ h e. tell.differs h (by_bytes (sym is ∙ e ∙ is')) }
  where
    count : ℕ
    count = max row.tags row'.tags

    tags : List TagFields
    tags = leaving one.settings count row (values_of bytes)

    tags' : List TagFields
    tags' = leaving other.settings count row' (values_of bytes)

    bytes_of : List TagFields → List ℕ
    bytes_of leave = take 12 bytes ++ (flat_map tag_bytes leave ++ drop (12 + 4 * count) bytes)

    tell : Tells (not (same_tags tags tags')) (tags ≡ tags')
    tell = tags_tell tags tags'

    is : sent_by one.settings row bytes ≡ bytes_of tags
    is = sent_with one.settings row count bytes (omega arith) (let a = fit.few in let b = fit'.few in omega arith) (omega arith) fits

    is' : sent_by other.settings row' bytes ≡ bytes_of tags'
    is' = sent_with other.settings row' count bytes (omega arith) (let a = fit.few in let b = fit'.few in omega arith) (omega arith) fits

    by_bytes : bytes_of tags ≡ bytes_of tags' → tags ≡ tags'
    by_bytes e =
        tags_by_bytes tags tags' (drop (12 + 4 * count) bytes) (leaving_in_range one.settings count row bytes fit output fits)
        (leaving_in_range other.settings count row' bytes fit' output' fits)
        (append_cancel_left (take 12 bytes) (flat_map tag_bytes tags ++ drop (12 + 4 * count) bytes) (flat_map tag_bytes tags' ++ drop (12 + 4 * count) bytes) e)

-- ---- endings

-- the reason of a number
reason_at : ℕ → Reason
reason_at n =
    if n == 1 then Runt
    else (if n == 2 then CutTag
    else (if n == 3 then NoRule
    else (if n == 4 then RuleDiscard
    else (if n == 5 then NoMapper
    else (if n == 6 then NullPointer
    else (if n == 7 then NoInterwork
    else (if n == 8 then NoGem
    else Direction)))))))

reason_back : (reason : Reason) → reason_at (number_of_reason reason) ≡ reason
unfolding reason_at
reason_back Runt = refl
reason_back CutTag = refl
reason_back NoRule = refl
reason_back RuleDiscard = refl
reason_back NoMapper = refl
reason_back NullPointer = refl
reason_back NoInterwork = refl
reason_back NoGem = refl
reason_back Direction = refl

unnot : (b : Bool) → not b ≡ false → b ≡ true
unnot true h = refl
unnot false h = absurd (true≢false h)

numbers_tell : (one other : ℕ) → Tells (not (one == other)) (one ≡ other)
numbers_tell one other =
    record {
      same = λ h. eqb-true one other (unnot (one == other) h);
      differs = λ h e. true≢false (sym h ∙ ap not (eq-eqb one other e));
    }

reasons_tell : (one other : Reason) → Tells (not (number_of_reason one == number_of_reason other)) (one ≡ other)
reasons_tell one other =
    let tell = numbers_tell (number_of_reason one) (number_of_reason other) in
    record {
      same = λ h. sym (reason_back one) ∙ ap reason_at (tell.same h) ∙ reason_back other;
      differs = λ h e. tell.differs h (ap number_of_reason e);
    }

-- where both leave, by GEM ports and bytes
leave_tells : (gem gem' : ℕ) (sent sent' : List ℕ) (apart : Bool) → Tells apart (sent ≡ sent')
    → Tells (not (gem == gem') || apart) ((gem ≡ gem') × (sent ≡ sent'))
leave_tells gem gem' sent sent' apart tell = record { same = same; differs = differs }
  where
    gems : Tells (not (gem == gem')) (gem ≡ gem')
    gems = numbers_tell gem gem'

    same : (not (gem == gem') || apart) ≡ false → (gem ≡ gem') × (sent ≡ sent')
    same h = let parts = or_parts (not (gem == gem')) apart h in (gems.same parts.0, tell.same parts.1)

    either : (b : Bool) → not (gem == gem') ≡ b → (b || apart) ≡ true → gem ≡ gem' → sent ≡ sent' → ⊥
    either true is h p q = gems.differs is p
    either false is h p q = tell.differs h q

    differs : (not (gem == gem') || apart) ≡ true → (gem ≡ gem') × (sent ≡ sent') → ⊥
    differs h parts = either (not (gem == gem')) refl h parts.0 parts.1

-- what two endings and the bytes that leave tell, where bytes count only if both leave
abbrev BytesTell : Ending → Ending → Bool → List ℕ → List ℕ → Type 0
BytesTell ending ending' apart sent sent' = (gem gem' : ℕ) → ending ≡ Gem gem → ending' ≡ Gem gem' → Tells apart (sent ≡ sent')

sights_tell : (ending ending' : Ending) (apart : Bool) (sent sent' : List ℕ) → BytesTell ending ending' apart sent sent'
    → Tells (endings_apart true ending ending' apart) (sight_by_ending ending sent ≡ sight_by_ending ending' sent')
sights_tell (Gem gem) (Gem gem') apart sent sent' tells =
    let tell = leave_tells gem gem' sent sent' apart (tells gem gem' refl refl) in
    record { same = λ h. let parts = tell.same h in rw (parts.0, parts.1) refl; differs = λ h e. tell.differs h (gems gem gem' e, bytes gem gem' e) }
  where
    gems : (g g' : ℕ) → Leaves g sent ≡ Leaves g' sent' → g ≡ g'
    gems g g' e = cc

    bytes : (g g' : ℕ) → Leaves g sent ≡ Leaves g' sent' → sent ≡ sent'
    bytes g g' e = cc
sights_tell (Gem gem) (Dropped reason) apart sent sent' tells = record { same = λ h. absurd (true≢false h); differs = λ h e. cc }
sights_tell (Dropped reason) (Gem gem) apart sent sent' tells = record { same = λ h. absurd (true≢false h); differs = λ h e. cc }
sights_tell (Dropped reason) (Dropped reason') apart sent sent' tells =
    let tell = reasons_tell reason reason' in
    record { same = λ h. ap Lost (tell.same h); differs = λ h e. tell.differs h (reasons e) }
  where
    reasons : Lost reason ≡ Lost reason' → reason ≡ reason'
    reasons e = cc

likes_tell : (ending ending' : Ending) (apart : Bool) (sent sent' : List ℕ) → BytesTell ending ending' apart sent sent'
    → Tells (endings_apart false ending ending' apart) (IsLike (sight_by_ending ending sent) (sight_by_ending ending' sent'))
likes_tell (Gem gem) (Gem gem') apart sent sent' tells = leave_tells gem gem' sent sent' apart (tells gem gem' refl refl)
likes_tell (Gem gem) (Dropped reason) apart sent sent' tells = record { same = λ h. absurd (true≢false h); differs = λ h like. like }
likes_tell (Dropped reason) (Gem gem) apart sent sent' tells = record { same = λ h. absurd (true≢false h); differs = λ h like. like }
likes_tell (Dropped reason) (Dropped reason') apart sent sent' tells = record { same = λ h. tt; differs = λ h like. true≢false (sym h) }

-- ---- the first rows

-- frames that leave by a row that passes have its tags and a type
long_by : (how : Ends) (tags : ℕ) (ask : Ask) (length : ℕ) (endings : List Ending) (values : Values) (gem : ℕ) → length_fits how tags ask ≡ true
    → admits ask length ≡ true → ending_of endings how values ≡ Gem gem → 14 + 4 * tags ≤ length
long_by (ends.Dropped reason) tags ask length endings values gem fits passes is = absurd (never is)
  where
    never : Dropped reason ≡ Gem gem → ⊥
    never e = cc
long_by (ends.ByPriority source) tags Any length endings values gem fits passes is = absurd (true≢false (sym fits))
long_by (ends.ByPriority source) tags (Exactly value) length endings values gem fits passes is = absurd (true≢false (sym fits))
long_by (ends.ByPriority source) tags (Between least most) length endings values gem fits passes is =
    let asked : 14 + 4 * tags ≤ least = leb-true (14 + 4 * tags) least fits in
    let there : least ≤ length = leb-true least length (and_parts _ _ passes).0 in
    omega arith
long_by (ends.ByPriority source) tags (TagType input filter) length endings values gem fits passes is = absurd (true≢false (sym fits))
long_by (ends.ByPriority source) tags (NoTagType input filter) length endings values gem fits passes is = absurd (true≢false (sym fits))
long_by (ends.ByPriority source) tags (Ethertype filter) length endings values gem fits passes is = absurd (true≢false (sym fits))

-- the first row of a frame
pub record FirstRow (side : Side) (bytes : List ℕ) : Type 0 where
  pub row : Row
  pub is_first : first_row side.rows (values_of bytes) ≡ Some row
  pub fit : IsFitting row
  pub long : (gem : ℕ) → ending_of side.endings row.ends (values_of bytes) ≡ Gem gem → 14 + 4 * row.tags ≤ length bytes

pub row_is : (side : Side) (bytes : List ℕ) (row : Row) → All (λ row. IsTrue (row_fits side.settings.input_tpid row)) side.rows
    → first_row side.rows (values_of bytes) ≡ Some row → FirstRow side bytes
unfolding values_of
row_is side bytes row all is =
    let fit = fitting side.settings.input_tpid row
    (found_has (λ row. IsTrue (row_fits side.settings.input_tpid row)) (λ row. passes fields row (values_of bytes)) side.rows row all is) in
    let pass = find_passes (λ row. passes fields row (values_of bytes)) side.rows row is in
    let length_asked : admits (ask_at row Length) (min 24 (length bytes)) ≡ true = (and_parts _ _ pass).0 in
    record {
      row = row;
      is_first = is;
      fit = fit;
      long = λ gem leaves.
          let enough : 14 + 4 * row.tags ≤ min 24 (length bytes) =
          long_by row.ends row.tags (ask_at row Length) (min 24 (length bytes)) side.endings (values_of bytes) gem fit.long length_asked leaves in
          omega arith;
    }

pub first_there : (e : Entities) (port : ℕ) (side : Side) (bytes : List ℕ) → Mean e port side.endings side.rows
    → All (λ row. IsTrue (row_fits side.settings.input_tpid row)) side.rows → All (λ b. b < 2 ^ 8) bytes → FirstRow side bytes
first_there e port side bytes mean all fits = by_first (first_row side.rows (values_of bytes)) refl (mean.class bytes fits)
  where
    by_first : (first : Option Row) → first_row side.rows (values_of bytes) ≡ first
        → option_map (λ row. class_of_row side.endings row (values_of bytes)) first ≡ Some (class_of e port bytes) → FirstRow side bytes
    by_first None is class = absurd (never class)
      where
        never : None ≡ Some (class_of e port bytes) → ⊥
        never e = cc
    by_first (Some row) is class = row_is side bytes row all is

-- what is seen of a frame, by its first row
pub seen_by : (e : Entities) (port : ℕ) (side : Side) (bytes : List ℕ) (first : FirstRow side bytes) → AreSeen e port side → All (λ b. b < 2 ^ 8) bytes
    → sight_of e port bytes ≡ sight_by_ending (ending_of side.endings first.row.ends (values_of bytes)) (sent_by side.settings first.row bytes)
seen_by e port side bytes first seen fits = seen.sight bytes fits ∙ ap (λ (row : Option Row). sight_by_row side row bytes) first.is_first

-- ---- two sides

pub seen_apart_holds : (e f : Entities) (port : ℕ) (one other : Side) → AreSeen e port one → AreSeen f port other
    → Mean e port one.endings one.rows → Mean f port other.endings other.rows
    → All (λ row. IsTrue (row_fits one.settings.input_tpid row)) one.rows → All (λ row. IsTrue (row_fits other.settings.input_tpid row)) other.rows
    → one.settings.output_tpid < 2 ^ 16 → other.settings.output_tpid < 2 ^ 16 → AreSeenApart e f port one other
seen_apart_holds e f port one other seen seen' mean mean' all all' output output' =
    record {
      same = λ bytes fits. (sights bytes fits).same;
      apart = λ bytes fits. (sights bytes fits).differs;
      like = λ bytes fits. (likes bytes fits).same;
      unlike = λ bytes fits. (likes bytes fits).differs;
    }
  where
    first : (bytes : List ℕ) → All (λ b. b < 2 ^ 8) bytes → FirstRow one bytes
    first bytes fits = first_there e port one bytes mean all fits

    first' : (bytes : List ℕ) → All (λ b. b < 2 ^ 8) bytes → FirstRow other bytes
    first' bytes fits = first_there f port other bytes mean' all' fits

    bytes_tell : (bytes : List ℕ) (row : FirstRow one bytes) (row' : FirstRow other bytes) → All (λ b. b < 2 ^ 8) bytes
        → BytesTell (ending_of one.endings row.row.ends (values_of bytes)) (ending_of other.endings row'.row.ends (values_of bytes))
        (tags_apart one other (values_of bytes) row.row row'.row) (sent_by one.settings row.row bytes) (sent_by other.settings row'.row bytes)
    bytes_tell bytes row row' fits gem gem' p q =
        sent_tells one other row.row row'.row bytes row.fit row'.fit output output' (row.long gem p) (row'.long gem' q) fits

    sights : (bytes : List ℕ) → All (λ b. b < 2 ^ 8) bytes
        → Tells (seen_apart true one other (values_of bytes)) (sight_of e port bytes ≡ sight_of f port bytes)
    sights bytes fits =
        let row = first bytes fits in
        let row' = first' bytes fits in
        rw (row.is_first, row'.is_first, seen_by e port one bytes row seen fits, seen_by f port other bytes row' seen' fits)
        (sights_tell (ending_of one.endings row.row.ends (values_of bytes)) (ending_of other.endings row'.row.ends (values_of bytes))
        (tags_apart one other (values_of bytes) row.row row'.row) (sent_by one.settings row.row bytes) (sent_by other.settings row'.row bytes)
        (bytes_tell bytes row row' fits))

    likes : (bytes : List ℕ) → All (λ b. b < 2 ^ 8) bytes
        → Tells (seen_apart false one other (values_of bytes)) (IsLike (sight_of e port bytes) (sight_of f port bytes))
    likes bytes fits =
        let row = first bytes fits in
        let row' = first' bytes fits in
        rw (row.is_first, row'.is_first, seen_by e port one bytes row seen fits, seen_by f port other bytes row' seen' fits)
        (likes_tell (ending_of one.endings row.row.ends (values_of bytes)) (ending_of other.endings row'.row.ends (values_of bytes))
        (tags_apart one other (values_of bytes) row.row row'.row) (sent_by one.settings row.row bytes) (sent_by other.settings row'.row bytes)
        (bytes_tell bytes row row' fits))

-- for sides of two configurations
pub values_tell_apart : ValuesTellApart
values_tell_apart =
    record {
      tell = λ e f port one other is is'.
          seen_apart_holds e f port one other is.seen is'.seen is.mean is'.mean is.fit is'.fit is.output is'.output;
    }
