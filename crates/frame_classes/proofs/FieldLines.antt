-- Tags as lines: the slots of a frame, by the value of a field behind its types, and the tags that are added by them.
use Rattle.std.proofs.Common.{◌≡◌, ◌<◌, ◌==◌, ◌^◌, ◌%◌, ℕ, zero, suc, Bool, true, false, List, [], ◌∷◌, Option, Some, None, arith, refl, ap, length, map, take}
use Rattle.tag_view.specs.Tag.{TagFields, missing_tag}
use Rattle.tag_view.proofs.Tags.{same_fields}
use Rattle.vlan_rule.specs.declared.settings.TableSettings.{TableSettings}
use Rattle.vlan_rule.specs.declared.treatment.AddedTag.{AddedTag}
use Rattle.vlan_rule.specs.declared.treatment.PrioritySource.{PrioritySource}
use Rattle.vlan_rule.specs.declared.treatment.PrioritySource.TheVariants as priority
use Rattle.vlan_rule.specs.declared.treatment.VidSource.{VidSource}
use Rattle.vlan_rule.specs.declared.treatment.VidSource.TheVariants as vid
use Rattle.vlan_rule.specs.declared.treatment.TpidSource.{TpidSource}
use Rattle.vlan_rule.specs.declared.treatment.TpidSource.TheVariants as tpid
use Rattle.vlan_rule.specs.declared.treatment.EligibleSource.{EligibleSource}
use Rattle.vlan_rule.specs.declared.treatment.EligibleSource.TheVariants as eligible
use Rattle.treatment.specs.Treatment.{addition_from, eligible_from, inner_of, outer_of, priority_from, tag_from, tpid_from, vid_from}
use Rattle.frame_rows.specs.declared.field.Field.{Field}
use Rattle.frame_rows.specs.declared.field.Field.TheVariants.{Length, FirstType, SecondType, ThirdType, FirstVid, SecondVid, ThirdVid, FirstPriority, SecondPriority, FirstEligible, SecondEligible}
use Rattle.frame_rows.specs.declared.field.Values.{Values}
use Rattle.frame_rows.specs.Field.{place_of, with_value}
use Rattle.frame_rows.specs.Sight.{first_slot, second_slot, slots}
use Rattle.frame_classes.proofs.Lines.{Dei, Pcp, Vid}
use Rattle.frame_classes.proofs.Lines.{Line, Part, at, pick}

-- ---- the slots

-- the part of a tag that a field behind the types is
abbrev pub part_of : Field → Part
part_of Length = Vid
part_of FirstType = Vid
part_of SecondType = Vid
part_of ThirdType = Vid
part_of FirstVid = Vid
part_of SecondVid = Vid
part_of ThirdVid = Vid
part_of FirstPriority = Pcp
part_of SecondPriority = Pcp
part_of FirstEligible = Dei
part_of SecondEligible = Dei

-- a field is a part of the first slot, or of the second
abbrev pub in_first : Field → Bool
in_first Length = false
in_first FirstType = false
in_first SecondType = false
in_first ThirdType = false
in_first FirstVid = true
in_first SecondVid = false
in_first ThirdVid = false
in_first FirstPriority = true
in_first SecondPriority = false
in_first FirstEligible = true
in_first SecondEligible = false

abbrev pub in_second : Field → Bool
in_second Length = false
in_second FirstType = false
in_second SecondType = false
in_second ThirdType = false
in_second FirstVid = false
in_second SecondVid = true
in_second ThirdVid = false
in_second FirstPriority = false
in_second SecondPriority = true
in_second FirstEligible = false
in_second SecondEligible = true

-- so many slots, as lines
abbrev pub slot_lines : Field → ℕ → Values → List Line
slot_lines field count values =
    take count (record { moves = in_first field; tag = first_slot values } ∷ record { moves = in_second field; tag = second_slot values } ∷ [])

-- a list of eleven has them
by_eleven : (P : List ℕ → Type 0) (xs : List ℕ) → length xs ≡ 11 → ((a b c d e f g h i j k : ℕ) → P (a ∷ b ∷ c ∷ d ∷ e ∷ f ∷ g ∷ h ∷ i ∷ j ∷ k ∷ []))
    → P xs
by_eleven P [] is each = absurd (omega arith)
by_eleven P (a ∷ []) is each = absurd (omega arith)
by_eleven P (a ∷ b ∷ []) is each = absurd (omega arith)
by_eleven P (a ∷ b ∷ c ∷ []) is each = absurd (omega arith)
by_eleven P (a ∷ b ∷ c ∷ d ∷ []) is each = absurd (omega arith)
by_eleven P (a ∷ b ∷ c ∷ d ∷ e ∷ []) is each = absurd (omega arith)
by_eleven P (a ∷ b ∷ c ∷ d ∷ e ∷ f ∷ []) is each = absurd (omega arith)
by_eleven P (a ∷ b ∷ c ∷ d ∷ e ∷ f ∷ g ∷ []) is each = absurd (omega arith)
by_eleven P (a ∷ b ∷ c ∷ d ∷ e ∷ f ∷ g ∷ h ∷ []) is each = absurd (omega arith)
by_eleven P (a ∷ b ∷ c ∷ d ∷ e ∷ f ∷ g ∷ h ∷ i ∷ []) is each = absurd (omega arith)
by_eleven P (a ∷ b ∷ c ∷ d ∷ e ∷ f ∷ g ∷ h ∷ i ∷ j ∷ []) is each = absurd (omega arith)
by_eleven P (a ∷ b ∷ c ∷ d ∷ e ∷ f ∷ g ∷ h ∷ i ∷ j ∷ k ∷ []) is each = each a b c d e f g h i j k
by_eleven P (a ∷ b ∷ c ∷ d ∷ e ∷ f ∷ g ∷ h ∷ i ∷ j ∷ k ∷ l ∷ rest) is each = absurd (omega arith)

-- both slots are lines
SlotsMove : Field → ℕ → List ℕ → Type 0
SlotsMove field x values =
    (first_slot (with_value field x (record { values = values }))
    ≡ at (part_of field) x (record { moves = in_first field; tag = first_slot (record { values = values }) }))
    × (second_slot (with_value field x (record { values = values }))
    ≡ at (part_of field) x (record { moves = in_second field; tag = second_slot (record { values = values }) }))

slots_move : (field : Field) (x : ℕ) (values : List ℕ) → 3 < place_of field → length values ≡ 11 → SlotsMove field x values
unfolding SlotsMove
slots_move Length x values late is = absurd (omega arith)
slots_move FirstType x values late is = absurd (omega arith)
slots_move SecondType x values late is = absurd (omega arith)
slots_move ThirdType x values late is = absurd (omega arith)
slots_move FirstVid x values late is = by_eleven (SlotsMove FirstVid x) values is (λ a b c d e f g h i j k. (refl, refl))
slots_move SecondVid x values late is = by_eleven (SlotsMove SecondVid x) values is (λ a b c d e f g h i j k. (refl, refl))
slots_move ThirdVid x values late is = by_eleven (SlotsMove ThirdVid x) values is (λ a b c d e f g h i j k. (refl, refl))
slots_move FirstPriority x values late is = by_eleven (SlotsMove FirstPriority x) values is (λ a b c d e f g h i j k. (refl, refl))
slots_move SecondPriority x values late is = by_eleven (SlotsMove SecondPriority x) values is (λ a b c d e f g h i j k. (refl, refl))
slots_move FirstEligible x values late is = by_eleven (SlotsMove FirstEligible x) values is (λ a b c d e f g h i j k. (refl, refl))
slots_move SecondEligible x values late is = by_eleven (SlotsMove SecondEligible x) values is (λ a b c d e f g h i j k. (refl, refl))

two_same : (a b c d : TagFields) → a ≡ c → b ≡ d → a ∷ b ∷ [] ≡ c ∷ d ∷ []
two_same a b c d p q = cc

-- so many slots are lines
pub slots_are : (field : Field) (count x : ℕ) (others : Values) → 3 < place_of field → length others.values ≡ 11
    → slots count (with_value field x others) ≡ map (at (part_of field) x) (slot_lines field count others)
unfolding SlotsMove
slots_are field zero x others late eleven = refl
slots_are field (suc zero) x others late eleven = ap (λ (tag : TagFields). tag ∷ []) (slots_move field x others.values late eleven).0
slots_are field (suc (suc zero)) x others late eleven =
    let both = slots_move field x others.values late eleven in
    two_same (first_slot (with_value field x others)) (second_slot (with_value field x others))
    (at (part_of field) x (record { moves = in_first field; tag = first_slot others }))
    (at (part_of field) x (record { moves = in_second field; tag = second_slot others })) both.0 both.1
slots_are field (suc (suc (suc n))) x others late eleven =
    let both = slots_move field x others.values late eleven in
    two_same (first_slot (with_value field x others)) (second_slot (with_value field x others))
    (at (part_of field) x (record { moves = in_first field; tag = first_slot others }))
    (at (part_of field) x (record { moves = in_second field; tag = second_slot others })) both.0 both.1

-- ---- tags that are added

-- the first, and the last
abbrev pub outer_line : List Line → Line
outer_line [] = record { moves = false; tag = missing_tag }
outer_line (line ∷ rest) = line

abbrev pub inner_line : List Line → Line
inner_line [] = record { moves = false; tag = missing_tag }
inner_line (line ∷ []) = line
inner_line (line ∷ next ∷ rest) = inner_line (next ∷ rest)

missing_is : (part : Part) (x : ℕ) → missing_tag ≡ at part x (record { moves = false; tag = missing_tag })
missing_is Vid x = refl
missing_is Pcp x = refl
missing_is Dei x = refl

outer_is : (part : Part) (x : ℕ) (lines : List Line) → outer_of (map (at part x) lines) ≡ at part x (outer_line lines)
outer_is part x [] = missing_is part x
outer_is part x (line ∷ rest) = refl

inner_is : (part : Part) (x : ℕ) (lines : List Line) → inner_of (map (at part x) lines) ≡ at part x (inner_line lines)
inner_is part x [] = missing_is part x
inner_is part x (line ∷ []) = refl
inner_is part x (line ∷ next ∷ rest) = inner_is part x (next ∷ rest)

-- what comes from a tag moves with its part
abbrev pub priority_moves : PrioritySource → Bool → Bool → Bool
priority_moves (priority.Fixed p) outer inner = false
priority_moves priority.Inner outer inner = inner
priority_moves priority.Outer outer inner = outer
priority_moves priority.Dscp outer inner = false

abbrev pub vid_moves : VidSource → Bool → Bool → Bool
vid_moves (vid.Fixed v) outer inner = false
vid_moves vid.Inner outer inner = inner
vid_moves vid.Outer outer inner = outer

abbrev pub eligible_moves : EligibleSource → Bool → Bool → Bool
eligible_moves eligible.Inner outer inner = inner
eligible_moves eligible.Outer outer inner = outer
eligible_moves eligible.Clear outer inner = false
eligible_moves eligible.Set outer inner = false

-- the part of an added tag moves with that of the tag from which it comes
abbrev pub added_moves : Part → AddedTag → Bool → Bool → Bool
added_moves Vid added outer inner = vid_moves added.vid outer inner
added_moves Pcp added outer inner = priority_moves added.priority outer inner
added_moves Dei added outer inner = eligible_moves added.eligible outer inner

abbrev pub added_line : Part → AddedTag → TableSettings → Option ℕ → Line → Line → Line
added_line part added settings dscp outer inner =
    record {
      moves = added_moves part added outer.moves inner.moves;
      tag = tag_from added settings (outer.tag ∷ inner.tag ∷ []) dscp;
    }

-- ---- the parts of an added tag, by those of the first and the last

tpid_by : (from : TpidSource) (settings : TableSettings) (tags tags' : List TagFields) → (outer_of tags).tpid ≡ (outer_of tags').tpid
    → (inner_of tags).tpid ≡ (inner_of tags').tpid → tpid_from from settings tags ≡ tpid_from from settings tags'
tpid_by tpid.Inner settings tags tags' p q = q
tpid_by tpid.Outer settings tags tags' p q = p
tpid_by tpid.Output settings tags tags' p q = refl
tpid_by tpid.Standard settings tags tags' p q = refl

pcp_by : (from : PrioritySource) (settings : TableSettings) (tags tags' : List TagFields) (d : Option ℕ) → (outer_of tags).pcp ≡ (outer_of tags').pcp
    → (inner_of tags).pcp ≡ (inner_of tags').pcp → priority_from from settings tags d ≡ priority_from from settings tags' d
pcp_by (priority.Fixed n) settings tags tags' d p q = refl
pcp_by priority.Inner settings tags tags' d p q = q
pcp_by priority.Outer settings tags tags' d p q = p
pcp_by priority.Dscp settings tags tags' d p q = refl

dei_by : (from : EligibleSource) (tags tags' : List TagFields) → (outer_of tags).dei ≡ (outer_of tags').dei
    → (inner_of tags).dei ≡ (inner_of tags').dei → eligible_from from tags ≡ eligible_from from tags'
dei_by eligible.Inner tags tags' p q = q
dei_by eligible.Outer tags tags' p q = p
dei_by eligible.Clear tags tags' p q = refl
dei_by eligible.Set tags tags' p q = refl

vid_by : (from : VidSource) (tags tags' : List TagFields) → (outer_of tags).vid ≡ (outer_of tags').vid
    → (inner_of tags).vid ≡ (inner_of tags').vid → vid_from from tags ≡ vid_from from tags'
vid_by (vid.Fixed n) tags tags' p q = refl
vid_by vid.Inner tags tags' p q = q
vid_by vid.Outer tags tags' p q = p

-- and of the part that moves
pcp_moved : (from : PrioritySource) (settings : TableSettings) (d : Option ℕ) (x : ℕ) (tags : List TagFields) (outer inner : Line)
    → (outer_of tags).pcp ≡ pick outer.moves (x % 2 ^ 3) outer.tag.pcp → (inner_of tags).pcp ≡ pick inner.moves (x % 2 ^ 3) inner.tag.pcp
    → priority_from from settings tags d
    ≡ pick (priority_moves from outer.moves inner.moves) (x % 2 ^ 3) (priority_from from settings (outer.tag ∷ inner.tag ∷ []) d)
pcp_moved (priority.Fixed n) settings d x tags outer inner p q = refl
pcp_moved priority.Inner settings d x tags outer inner p q = q
pcp_moved priority.Outer settings d x tags outer inner p q = p
pcp_moved priority.Dscp settings d x tags outer inner p q = refl

vid_moved : (from : VidSource) (x : ℕ) (tags : List TagFields) (outer inner : Line)
    → (outer_of tags).vid ≡ pick outer.moves (x % 2 ^ 12) outer.tag.vid → (inner_of tags).vid ≡ pick inner.moves (x % 2 ^ 12) inner.tag.vid
    → vid_from from tags ≡ pick (vid_moves from outer.moves inner.moves) (x % 2 ^ 12) (vid_from from (outer.tag ∷ inner.tag ∷ []))
vid_moved (vid.Fixed n) x tags outer inner p q = refl
vid_moved vid.Inner x tags outer inner p q = q
vid_moved vid.Outer x tags outer inner p q = p

dei_moved : (from : EligibleSource) (x : ℕ) (tags : List TagFields) (outer inner : Line)
    → (outer_of tags).dei ≡ pick outer.moves (x == 1) outer.tag.dei → (inner_of tags).dei ≡ pick inner.moves (x == 1) inner.tag.dei
    → eligible_from from tags ≡ pick (eligible_moves from outer.moves inner.moves) (x == 1) (eligible_from from (outer.tag ∷ inner.tag ∷ []))
dei_moved eligible.Inner x tags outer inner p q = q
dei_moved eligible.Outer x tags outer inner p q = p
dei_moved eligible.Clear x tags outer inner p q = refl
dei_moved eligible.Set x tags outer inner p q = refl

-- an added tag is a line, where the first and the last are
added_is : (part : Part) (added : AddedTag) (settings : TableSettings) (d : Option ℕ) (x : ℕ) (tags : List TagFields) (outer inner : Line)
    → outer_of tags ≡ at part x outer → inner_of tags ≡ at part x inner
    → tag_from added settings tags d ≡ at part x (added_line part added settings d outer inner)
added_is Vid added settings d x tags outer inner p q =
    let both = outer.tag ∷ inner.tag ∷ [] in
    same_fields _ _ _ _ _ _ _ _ (tpid_by added.tpid settings tags both (ap (λ (t : TagFields). t.tpid) p) (ap (λ (t : TagFields). t.tpid) q))
    (pcp_by added.priority settings tags both d (ap (λ (t : TagFields). t.pcp) p) (ap (λ (t : TagFields). t.pcp) q))
    (dei_by added.eligible tags both (ap (λ (t : TagFields). t.dei) p) (ap (λ (t : TagFields). t.dei) q))
    (vid_moved added.vid x tags outer inner (ap (λ (t : TagFields). t.vid) p) (ap (λ (t : TagFields). t.vid) q))
added_is Pcp added settings d x tags outer inner p q =
    let both = outer.tag ∷ inner.tag ∷ [] in
    same_fields _ _ _ _ _ _ _ _ (tpid_by added.tpid settings tags both (ap (λ (t : TagFields). t.tpid) p) (ap (λ (t : TagFields). t.tpid) q))
    (pcp_moved added.priority settings d x tags outer inner (ap (λ (t : TagFields). t.pcp) p) (ap (λ (t : TagFields). t.pcp) q))
    (dei_by added.eligible tags both (ap (λ (t : TagFields). t.dei) p) (ap (λ (t : TagFields). t.dei) q))
    (vid_by added.vid tags both (ap (λ (t : TagFields). t.vid) p) (ap (λ (t : TagFields). t.vid) q))
added_is Dei added settings d x tags outer inner p q =
    let both = outer.tag ∷ inner.tag ∷ [] in
    same_fields _ _ _ _ _ _ _ _ (tpid_by added.tpid settings tags both (ap (λ (t : TagFields). t.tpid) p) (ap (λ (t : TagFields). t.tpid) q))
    (pcp_by added.priority settings tags both d (ap (λ (t : TagFields). t.pcp) p) (ap (λ (t : TagFields). t.pcp) q))
    (dei_moved added.eligible x tags outer inner (ap (λ (t : TagFields). t.dei) p) (ap (λ (t : TagFields). t.dei) q))
    (vid_by added.vid tags both (ap (λ (t : TagFields). t.vid) p) (ap (λ (t : TagFields). t.vid) q))

-- the tag that is added, if one is
abbrev pub addition_lines : Part → Option AddedTag → TableSettings → Option ℕ → List Line → List Line
addition_lines part None settings d lines = []
addition_lines part (Some added) settings d lines = added_line part added settings d (outer_line lines) (inner_line lines) ∷ []

pub addition_is : (part : Part) (added : Option AddedTag) (settings : TableSettings) (d : Option ℕ) (x : ℕ) (lines : List Line)
    → addition_from added settings (map (at part x) lines) d ≡ map (at part x) (addition_lines part added settings d lines)
addition_is part None settings d x lines = refl
addition_is part (Some added) settings d x lines =
    ap (λ (tag : TagFields). tag ∷ [])
    (added_is part added settings d x (map (at part x) lines) (outer_line lines) (inner_line lines) (outer_is part x lines) (inner_is part x lines))
