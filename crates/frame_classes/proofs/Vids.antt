-- VIDs that stand for all, and the same bits of a packet, which hold its DSCP.
use Rattle.std.proofs.Common.{◌≡◌, ◌≢◌, ◌++◌, ℕ, ◌+◌, ◌*◌, ◌/◌, ◌%◌, ◌^◌, ◌<◌, ◌≤◌, ◌==◌, ◌&&◌, ◌||◌, Bool, true, false, List, [], ◌∷◌, Option, Some, None, arith, refl, ap, sym, subst, length, take, get_or, nat_lt, if◌then◌else◌, ◌⊎◌, inl, inr, ◌∙◌}
use Rattle.std.specs.Prelude.{All, Contains}
use Rattle.std.proofs.lemmas.Bool.{eqb-false, eqb-true, ltb-false, ltb-true, ne_eqb, true≢false}
use Rattle.std.proofs.lemmas.Option.{same_Some}
use Rattle.std.proofs.lemmas.List.Elements.{All-weaker}
use Rattle.frame_rows.specs.declared.ask.Ask.{Ask}
use Rattle.frame_rows.specs.declared.ask.Ask.TheVariants.{Any as Anything, Exactly, Between, TagType, NoTagType, Ethertype}
use Rattle.frame_rows.specs.declared.field.Field.{Field}
use Rattle.frame_rows.specs.declared.field.Field.TheVariants.{Length, FirstType, SecondType, ThirdType, FirstVid, SecondVid, ThirdVid, FirstPriority, SecondPriority, FirstEligible, SecondEligible}
use Rattle.frame_rows.specs.declared.field.Values.{Values}
use Rattle.frame_rows.specs.declared.source.DscpSource.{DscpSource}
use Rattle.frame_rows.specs.declared.source.Packet.{Packet}
use Rattle.frame_rows.specs.declared.source.Packet.TheVariants.{Ipv4, Ipv6, Other}
use Rattle.frame_rows.specs.declared.source.Source.{Source}
use Rattle.frame_rows.specs.declared.source.Source.TheVariants.{Fixed, FirstTag, SecondTag, Dscp}
use Rattle.frame_rows.specs.declared.row.Ends.{Ends}
use Rattle.frame_rows.specs.declared.row.Ends.TheVariants as ends
use Rattle.frame_rows.specs.declared.row.Row.{Row}
use Rattle.frame_rows.specs.Ask.{admits}
use Rattle.frame_rows.specs.Alike.{ends_read_all, marking_reads_all, row_reads_all}
use Rattle.frame_classes.specs.Choices.{IsUnnamed, is_asked, is_named, is_read, is_some_value, is_value, test_at}
use Rattle.frame_rows.specs.Field.{end_of, fields, place_of, type_behind, value_at, vid_behind, with_value}
use Rattle.frame_rows.specs.Fits.{asks_number}
use Rattle.frame_rows.specs.Words.{limit_of, packet_before, type_before}
use Rattle.frame_rows.specs.Source.{bits_by, dscp_behind, dscp_in, has_dscp, mapped, packet_of}
use Rattle.frame_rows.specs.Row.{ask_at, dscp_reads, ends_read, marking_reads, named_by}
use Rattle.frame_classes.specs.Splitting.{CanBe, HasSeveral, IsCovered, IsNear, IsOf, Stands, StandsFor}
use Rattle.frame_classes.specs.Left.{rows_at}
use Rattle.frame_rows.specs.Sight.{Side}
use Rattle.frame_classes.proofs.Several.{several_weaker}
use Rattle.frame_classes.proofs.Near.{value-with_other, value-with_same}
use Rattle.frame_classes.proofs.Numbers.{none_left, still_left}
use Rattle.frame_classes.proofs.SameReads.{MarkAlike, ReadAlike, marks_alike, reads_alike}
use Rattle.frame_classes.proofs.Standing.{CoverBy, IsCase, all_left, asks_numbers, other_can_be}

-- ---- twelve bits with a DSCP

-- all such bits are looked at
pub bits_found : (packet : Packet) (dscp vid : ℕ) → has_dscp packet ≡ true → vid < 2 ^ 12 → dscp_in packet vid ≡ Some dscp
    → (other : ℕ) × ((other < 64) × (bits_by packet dscp other ≡ vid))
bits_found Ipv4 dscp vid has small is =
    let dscp_is : vid / 2 ^ 2 % 2 ^ 6 ≡ dscp = same_Some (vid / 2 ^ 2 % 2 ^ 6) dscp is in
    let parts : vid ≡ vid / 256 * 256 + (vid / 4 % 64 * 4 + vid % 4) = omega arith in
    by_high (vid / 256) (vid % 4) (omega arith) (omega arith) (omega arith)
  where
    by_high : (high low : ℕ) → high < 16 → low < 4 → vid ≡ high * 256 + (dscp * 4 + low) → (other : ℕ) × ((other < 64) × (bits_by Ipv4 dscp other ≡ vid))
    by_high high low h l parts =
        let turned : (high + 11) % 16 < 16 = omega arith in
        let back : (5 + (high + 11) % 16) % 16 ≡ high = omega arith in
        by_other ((high + 11) % 16 * 4 + low) (omega arith) (quarter ((high + 11) % 16) l) (rest ((high + 11) % 16) l) back
      where
        quarter : (n : ℕ) → low < 4 → (n * 4 + low) / 4 ≡ n
        quarter n l = omega arith

        rest : (n : ℕ) → low < 4 → (n * 4 + low) % 4 ≡ low
        rest n l = omega arith

        by_other : (other : ℕ) → other < 64 → other / 4 ≡ (high + 11) % 16 → other % 4 ≡ low → (5 + (high + 11) % 16) % 16 ≡ high
            → (other : ℕ) × ((other < 64) × (bits_by Ipv4 dscp other ≡ vid))
        by_other other less p q back = (other, (less, rw (p, q, back) (omega (arith, parts))))
bits_found Ipv6 dscp vid has small is =
    let dscp_is : vid / 2 ^ 6 % 2 ^ 6 ≡ dscp = same_Some (vid / 2 ^ 6 % 2 ^ 6) dscp is in
    (vid % 64, (omega arith, omega arith))
bits_found Other dscp vid has small is = absurd (true≢false (sym has))

-- they are different
pub bits_apart : (packet : Packet) (dscp one other : ℕ) → dscp < 64 → one < other → other < 64 → bits_by packet dscp one ≢ bits_by packet dscp other
bits_apart Ipv4 dscp one other small less within same =
    by_parts ((5 + one / 4) % 16) ((5 + other / 4) % 16) (one % 4) (other % 4) refl refl refl refl same
  where
    by_parts : (high high' low low' : ℕ) → high ≡ (5 + one / 4) % 16 → high' ≡ (5 + other / 4) % 16 → low ≡ one % 4 → low' ≡ other % 4
        → high * 0x100 + dscp * 4 + low ≡ high' * 0x100 + dscp * 4 + low' → ⊥
    by_parts high high' low low' p p' q q' e =
        let high_same : high ≡ high' = omega arith in
        let low_same : low ≡ low' = omega arith in
        omega arith
bits_apart Ipv6 dscp one other small less within same = omega arith
bits_apart Other dscp one other small less within same = omega arith

-- which DSCP is in them
pub dscp_small : (packet : Packet) (vid : ℕ) → has_dscp packet ≡ true → (dscp : ℕ) × ((dscp < 64) × (dscp_in packet vid ≡ Some dscp))
dscp_small Ipv4 vid has = (vid / 2 ^ 2 % 2 ^ 6, (omega arith, refl))
dscp_small Ipv6 vid has = (vid / 2 ^ 6 % 2 ^ 6, (omega arith, refl))
dscp_small Other vid has = absurd (true≢false (sym has))

-- those of another packet have none
no_dscp : (packet : Packet) (one other : ℕ) → has_dscp packet ≡ false → dscp_in packet one ≡ dscp_in packet other
no_dscp Ipv4 one other h = absurd (true≢false h)
no_dscp Ipv6 one other h = absurd (true≢false h)
no_dscp Other one other h = refl

-- ---- VIDs that are named

or_either : (a b : Bool) → (a || b) ≡ true → (a ≡ true) ⊎ (b ≡ true)
or_either true b h = inl refl
or_either false b h = inr h

-- a value that some rows name is named by the first or by the others
pub named_first : (rows : List Row) (place : ℕ) (rest : List ℕ) (field : Field) (value : ℕ) → is_named rows (place ∷ rest) field value ≡ true
    → (test_at (λ row. is_value value (named_by (ask_at row field))) false rows place ≡ true) ⊎ (is_named rows rest field value ≡ true)
named_first rows place rest field value h =
    or_either (test_at (λ row. is_value value (named_by (ask_at row field))) false rows place) (is_named rows rest field value) h

pub none_named : (rows : List Row) (field : Field) (value : ℕ) → is_named rows [] field value ≡ true → ⊥
none_named rows field value h = true≢false (sym h)

-- ---- values that no row names

admits_unnamed : (ask : Ask) (one other : ℕ) → asks_number ask ≡ true → is_value one (named_by ask) ≡ false → is_value other (named_by ask) ≡ false
    → admits ask one ≡ admits ask other
admits_unnamed Anything one other fits p q = refl
admits_unnamed (Exactly only) one other fits p q =
    ne_eqb one only (λ e. eqb-false only one p (sym e)) ∙ sym (ne_eqb other only (λ e. eqb-false only other q (sym e)))
admits_unnamed (Between least most) one other fits p q = absurd (true≢false (sym fits))
admits_unnamed (TagType input filter) one other fits p q = absurd (true≢false (sym fits))
admits_unnamed (NoTagType input filter) one other fits p q = absurd (true≢false (sym fits))
admits_unnamed (Ethertype filter) one other fits p q = absurd (true≢false (sym fits))

unasked : (ask : Ask) (value : ℕ) → is_some_value (named_by ask) ≡ false → is_value value (named_by ask) ≡ false
unasked Anything value h = refl
unasked (Exactly only) value h = absurd (true≢false h)
unasked (Between least most) value h = refl
unasked (TagType input filter) value h = refl
unasked (NoTagType input filter) value h = refl
unasked (Ethertype filter) value h = refl

-- ---- what rows read of them

type_early : (tags : ℕ) → place_of (type_behind tags) < 4
type_early tags = by_count (nat_lt tags 1) (nat_lt tags 2) refl refl
  where
    by_count : (one two : Bool) → nat_lt tags 1 ≡ one → nat_lt tags 2 ≡ two → place_of (type_behind tags) < 4
    by_count true two p q = rw p (omega arith)
    by_count false true p q = rw (p, q) (omega arith)
    by_count false false p q = rw (p, q) (omega arith)

apart : (a b : ℕ) → b < a → a ≢ b
apart a b h e = omega arith

apart_below : (a b : ℕ) → a < b → a ≢ b
apart_below a b h e = omega arith

-- the type behind which the bits stand is the one that a DSCP there is read by
same_type : (field : Field) (tags : ℕ) → 3 < place_of field → place_of field < 7 → place_of field ≡ place_of (vid_behind tags)
    → type_before field ≡ type_behind tags
same_type field tags behind early is = by_count (nat_lt tags 1) (nat_lt tags 2) refl refl
  where
    by_field : (field : Field) (place : ℕ) → 3 < place_of field → place_of field < 7 → place_of field ≡ place → (place ≡ 4 → type_before field ≡ FirstType)
        × ((place ≡ 5 → type_before field ≡ SecondType) × (place ≡ 6 → type_before field ≡ ThirdType))
    by_field Length place behind early is = absurd (omega arith)
    by_field FirstType place behind early is = absurd (omega arith)
    by_field SecondType place behind early is = absurd (omega arith)
    by_field ThirdType place behind early is = absurd (omega arith)
    by_field FirstVid place behind early is = (λ e. refl, (λ e. absurd (omega arith), λ e. absurd (omega arith)))
    by_field SecondVid place behind early is = (λ e. absurd (omega arith), (λ e. refl, λ e. absurd (omega arith)))
    by_field ThirdVid place behind early is = (λ e. absurd (omega arith), (λ e. absurd (omega arith), λ e. refl))
    by_field FirstPriority place behind early is = absurd (omega arith)
    by_field SecondPriority place behind early is = absurd (omega arith)
    by_field FirstEligible place behind early is = absurd (omega arith)
    by_field SecondEligible place behind early is = absurd (omega arith)

    by_count : (one two : Bool) → nat_lt tags 1 ≡ one → nat_lt tags 2 ≡ two → type_before field ≡ type_behind tags
    by_count true two p q = rw p ((by_field field (place_of (vid_behind tags)) behind early is).0 (rw p refl))
    by_count false true p q = rw (p, q) ((by_field field (place_of (vid_behind tags)) behind early is).1.0 (rw (p, q) refl))
    by_count false false p q = rw (p, q) ((by_field field (place_of (vid_behind tags)) behind early is).1.1 (rw (p, q) refl))

-- the DSCP by bits that are set
dscp_set : (tags : ℕ) (field : Field) (values : Values) (one other : ℕ) → 3 < place_of field → place_of field < 7 → place_of field < length values.values
    → place_of field ≡ place_of (vid_behind tags) → dscp_in (packet_before field values) one ≡ dscp_in (packet_before field values) other
    → dscp_behind tags (with_value field one values) ≡ dscp_behind tags (with_value field other values)
dscp_set tags field values one other behind early within is same =
    by_parts (value_at Length (with_value field one values)) (value_at Length (with_value field other values))
    (value_at (type_behind tags) (with_value field one values)) (value_at (type_behind tags) (with_value field other values))
    (value_at (vid_behind tags) (with_value field one values)) (value_at (vid_behind tags) (with_value field other values))
    (value-with_other field Length one values (omega arith) ∙ sym (value-with_other field Length other values (omega arith)))
    (type one) (type other) (vid one) (vid other)
  where
    type : (v : ℕ) → value_at (type_behind tags) (with_value field v values) ≡ value_at (type_before field) values
    type v =
        let earlier = type_early tags in
        value-with_other field (type_behind tags) v values (omega (arith, earlier)) ∙ ap (λ (f : Field). value_at f values) (sym (same_type field tags behind early is))

    vid : (v : ℕ) → value_at (vid_behind tags) (with_value field v values) ≡ v
    vid v = ap (λ (i : ℕ). get_or (with_value field v values).values i 0) (sym is) ∙ value-with_same field v values within

    by_parts : (l l' t t' v v' : ℕ) → l ≡ l' → t ≡ value_at (type_before field) values → t' ≡ value_at (type_before field) values → v ≡ one → v' ≡ other
        → (if nat_lt l (16 + 4 * tags) then None else dscp_in (packet_of t) v) ≡ (if nat_lt l' (16 + 4 * tags) then None else dscp_in (packet_of t') v')
    by_parts l l' t t' v v' p q q' r r' = rw (p, q, q', r, r', same) refl

-- what a DSCP says of bits depends on the DSCP in them alone
reads_by_dscp : (source : DscpSource) (field : Field) (values : Values) (one other : ℕ) → 3 < place_of field → place_of field < 7
    → place_of field < length values.values
    → ((place_of field == place_of (vid_behind source.tags)) ≡ true → dscp_in (packet_before field values) one ≡ dscp_in (packet_before field values) other)
    → dscp_reads source values field one ≡ dscp_reads source values field other
reads_by_dscp source field values one other behind early within same = by_place (place_of field == place_of (vid_behind source.tags)) refl
  where
    not_first : (place_of field == 0) ≡ false
    not_first = ne_eqb (place_of field) 0 (apart (place_of field) 0 (omega arith))

    not_type : (place_of field == place_of (type_behind source.tags)) ≡ false
    not_type =
        let earlier = type_early source.tags in
        ne_eqb (place_of field) (place_of (type_behind source.tags)) (apart (place_of field) (place_of (type_behind source.tags)) (omega (arith, earlier)))

    by_place : (b : Bool) → (place_of field == place_of (vid_behind source.tags)) ≡ b → dscp_reads source values field one ≡ dscp_reads source values field other
    by_place true is =
        rw (not_first, not_type, is)
        (ap (mapped source) (dscp_set source.tags field values one other behind early within (eqb-true (place_of field) (place_of (vid_behind source.tags)) is) (same is)))
    by_place false is = rw (not_first, not_type, is) refl

row_by_dscp : (e : Ends) (field : Field) (values : Values) (one other : ℕ) → 3 < place_of field → place_of field < 7 → place_of field < length values.values
    → (ends_read_all field e ≡ true → dscp_in (packet_before field values) one ≡ dscp_in (packet_before field values) other)
    → ends_read e values field one ≡ ends_read e values field other
row_by_dscp (ends.Dropped reason) field values one other behind early within same = refl
row_by_dscp (ends.ByPriority source) field values one other behind early within same = by_source source same
  where
    not_at : (n : ℕ) → 6 < n → (place_of field == n) ≡ false
    not_at n h = ne_eqb (place_of field) n (apart_below (place_of field) n (omega arith))

    by_source : (s : Source)
        → (ends_read_all field (ends.ByPriority s) ≡ true → dscp_in (packet_before field values) one ≡ dscp_in (packet_before field values) other)
        → ends_read (ends.ByPriority s) values field one ≡ ends_read (ends.ByPriority s) values field other
    by_source (Fixed priority) h = refl
    by_source FirstTag h =
        let is = not_at 7 (omega arith) in
        rw is refl
    by_source SecondTag h =
        let is = not_at 8 (omega arith) in
        rw is refl
    by_source (Dscp d) h = reads_by_dscp d field values one other behind early within h

marked_by_dscp : (m : Option DscpSource) (field : Field) (values : Values) (one other : ℕ) → 3 < place_of field → place_of field < 7
    → place_of field < length values.values
    → (marking_reads_all field m ≡ true → dscp_in (packet_before field values) one ≡ dscp_in (packet_before field values) other)
    → marking_reads m values field one ≡ marking_reads m values field other
marked_by_dscp None field values one other behind early within same = refl
marked_by_dscp (Some source) field values one other behind early within same = reads_by_dscp source field values one other behind early within same

-- ---- one that isn't named stands for all of its DSCP

-- what is known of a field with a VID, and of the rows that are left
pub record IsVidCase (sides : List Side) (rows : List Row) (field : Field) (values : Values) (places : List ℕ) : Type 0 where
  pub rows_are : IsCase sides rows (take (place_of field) fields) values places
  pub eleven : length values.values ≡ 11
  pub behind : 3 < place_of field
  pub early : place_of field < 7
  pub long : end_of field ≤ value_at Length values

-- rows that depend on a DSCP have the same
abbrev pub SameDscp : List Row → Field → Values → ℕ → ℕ → Type 0
SameDscp left field values one other =
    All (λ row. row_reads_all field row ≡ true → dscp_in (packet_before field values) one ≡ dscp_in (packet_before field values) other) left

unnamed_stands : (sides : List Side) (rows : List Row) (field : Field) (values others : Values) (places : List ℕ) (value : ℕ)
    → IsVidCase sides rows field values places → IsNear rows (take (place_of field) fields) values others
    → All (λ row. is_value value (named_by (ask_at row field)) ≡ false) (rows_at rows places)
    → All (λ row. is_value (value_at field others) (named_by (ask_at row field)) ≡ false) (rows_at rows places)
    → SameDscp (rows_at rows places) field values value (value_at field others)
    → Stands (rows_at rows places) field values others value
unnamed_stands sides rows field values others places value is near unnamed other_unnamed same =
    record { each = each; longer = λ first. absurd (omega (arith, is.behind)) }
  where
    asks : All (λ row. asks_number (ask_at row field) ≡ true) (rows_at rows places)
    asks =
        still_left (λ row. asks_number (ask_at row field) ≡ true) rows (take (place_of field) fields) values places is.rows_are.left
        (asks_numbers sides rows field is.rows_are.fits is.behind)

    alike : All (λ row. ReadAlike row (take (place_of field) fields) values others) (rows_at rows places)
    alike =
        all_left (λ row. ReadAlike row (take (place_of field) fields) values others) rows (take (place_of field) fields) values others places
        is.rows_are.left near (λ row read marked. read)

    marked_alike : All (λ row. MarkAlike row (take (place_of field) fields) values others) (rows_at rows places)
    marked_alike =
        all_left (λ row. MarkAlike row (take (place_of field) fields) values others) rows (take (place_of field) fields) values others places
        is.rows_are.left near (λ row read marked. marked)

    within : place_of field < length values.values
    within =
        let early = is.early in
        omega (arith, early, is.eleven)

    each : All (λ row. StandsFor row field values value others (value_at field others)) (rows_at rows places)
    each k d h =
        let row = get_or (rows_at rows places) k d in
        record {
          admits = admits_unnamed (ask_at row field) value (value_at field others) (asks k d h) (unnamed k d h) (other_unnamed k d h);
          reads = λ _.
              row_by_dscp row.ends field values value (value_at field others) is.behind is.early within
              (λ read. same k d h (or_first (ends_read_all field row.ends) (marking_reads_all field row.marking) read))
              ∙ reads_alike row field values others within (alike k d h);
          marks = λ _.
              marked_by_dscp row.marking field values value (value_at field others) is.behind is.early within
              (λ read. same k d h (or_second (ends_read_all field row.ends) (marking_reads_all field row.marking) read))
              ∙ marks_alike row field values others within (marked_alike k d h);
        }
      where
        or_first : (a b : Bool) → a ≡ true → (a || b) ≡ true
        or_first true b h = refl
        or_first false b h = absurd (true≢false (sym h))

        or_second : (a b : Bool) → b ≡ true → (a || b) ≡ true
        or_second true b h = refl
        or_second false b h = h

pub vid_limit : (field : Field) → 3 < place_of field → place_of field < 7 → limit_of field ≡ 2 ^ 12
vid_limit Length behind early = absurd (omega arith)
vid_limit FirstType behind early = absurd (omega arith)
vid_limit SecondType behind early = absurd (omega arith)
vid_limit ThirdType behind early = absurd (omega arith)
vid_limit FirstVid behind early = refl
vid_limit SecondVid behind early = refl
vid_limit ThirdVid behind early = refl
vid_limit FirstPriority behind early = absurd (omega arith)
vid_limit SecondPriority behind early = absurd (omega arith)
vid_limit FirstEligible behind early = absurd (omega arith)
vid_limit SecondEligible behind early = absurd (omega arith)

can_be : (field : Field) (values : Values) (least value : ℕ) → 3 < place_of field → place_of field < 7 → end_of field ≤ value_at Length values
    → value < 2 ^ 12 → CanBe least (value_at Length values) field value
can_be field values least value behind early long small =
    record {
      below = subst (λ (n : ℕ). value < n) (sym (vid_limit field behind early)) small;
      absent = λ short. absurd (omega arith);
      long = λ first. absurd (omega arith);
    }

other_small : (least : ℕ) (field : Field) (others : Values) → 3 < place_of field → place_of field < 7 → IsOf least fields others → value_at field others < 2 ^ 12
other_small least field others behind early of =
    subst (λ (n : ℕ). value_at field others < n) (vid_limit field behind early) (other_can_be least others of field).below

-- ---- where nothing is asked

nothing_named : (rows : List Row) (field : Field) (places : List ℕ) (value : ℕ) → is_asked rows places field ≡ false
    → All (λ row. is_value value (named_by (ask_at row field)) ≡ false) (rows_at rows places)
nothing_named rows field places value not_asked =
    All-weaker (λ row. is_some_value (named_by (ask_at row field)) ≡ false) (λ row. is_value value (named_by (ask_at row field)) ≡ false)
    (λ row h. unasked (ask_at row field) value h) (rows_at rows places) (none_left (λ row. is_some_value (named_by (ask_at row field))) rows places not_asked)

-- a DSCP isn't there, or isn't read
same_by_none : (rows : List Row) (field : Field) (values : Values) (places : List ℕ) (one other : ℕ)
    → (has_dscp (packet_before field values) && is_read rows places field) ≡ false
    → SameDscp (rows_at rows places) field values one other
same_by_none rows field values places one other h = by_packet (has_dscp (packet_before field values)) refl h
  where
    by_packet : (b : Bool) → has_dscp (packet_before field values) ≡ b → (has_dscp (packet_before field values) && is_read rows places field) ≡ false
        → SameDscp (rows_at rows places) field values one other
    by_packet true is none =
        All-weaker (λ row. row_reads_all field row ≡ false)
        (λ row. row_reads_all field row ≡ true → dscp_in (packet_before field values) one ≡ dscp_in (packet_before field values) other)
        (λ row not_read reads. absurd (true≢false (sym reads ∙ not_read))) (rows_at rows places)
        (none_left (λ row. row_reads_all field row) rows places (rw is at none))
    by_packet false is none = λ k d h _. no_dscp (packet_before field values) one other is

-- several, each of which stands for all
pub plain_choices : (sides : List Side) (rows : List Row) (least : ℕ) (field : Field) (values : Values) (places choices : List ℕ) (count : ℕ)
    → IsVidCase sides rows field values places → count ≡ length sides
    → (has_dscp (packet_before field values) && is_read rows places field) ≡ false → is_asked rows places field ≡ false
    → All (λ c. c < 2 ^ 12) choices → HasSeveral count (λ c. Contains choices c) ⊎ ((v : ℕ) → v < 2 ^ 12 → Contains choices v)
    → CoverBy sides rows places least field values choices
plain_choices sides rows least field values places choices count is counted not_told not_asked fit several =
    record {
      within = All-weaker (λ c. c < 2 ^ 12) (CanBe least (value_at Length values) field)
          (λ c small. can_be field values least c is.behind is.early is.long small) choices fit;
      each = each;
    }
  where
    each : (others : Values) → IsOf least fields others → IsNear rows (take (place_of field) fields) values others
        → IsCovered sides places (rows_at rows places) field values others choices
    each others of near = by_case several
      where
        stands : (c : ℕ) → Stands (rows_at rows places) field values others c
        stands c =
            unnamed_stands sides rows field values others places c is near (nothing_named rows field places c not_asked)
            (nothing_named rows field places (value_at field others) not_asked) (same_by_none rows field values places c (value_at field others) not_told)

        by_case : HasSeveral count (λ c. Contains choices c) ⊎ ((v : ℕ) → v < 2 ^ 12 → Contains choices v)
            → IsCovered sides places (rows_at rows places) field values others choices
        by_case (inl some) =
            inr (inl (
              is.behind,
              subst (λ (n : ℕ). HasSeveral n (λ c. Contains choices c × Stands (rows_at rows places) field values others c)) counted
                  (several_weaker count (λ c. Contains choices c) (λ c. Contains choices c × Stands (rows_at rows places) field values others c)
                  (λ c there. (there, stands c)) some),
            ))
        by_case (inr all) = inl (all (value_at field others) (other_small least field others is.behind is.early of))

-- ---- where some are named

-- each that is named, and beside them several that aren't
named_choices : (sides : List Side) (rows : List Row) (least : ℕ) (field : Field) (values : Values) (places choices : List ℕ) (count : ℕ)
    → IsVidCase sides rows field values places → count ≡ length sides
    → All (λ c. c < 2 ^ 12) choices → ((c : ℕ) → c < 2 ^ 12 → is_named rows places field c ≡ true → Contains choices c)
    → ((v : ℕ) → v < 2 ^ 12 → is_named rows places field v ≡ false → Contains choices v
    ⊎ HasSeveral count (λ c. Contains choices c × ((is_named rows places field c ≡ false) × SameDscp (rows_at rows places) field values c v)))
    → CoverBy sides rows places least field values choices
named_choices sides rows least field values places choices count is counted fit named unnamed =
    record {
      within = All-weaker (λ c. c < 2 ^ 12) (CanBe least (value_at Length values) field)
          (λ c small. can_be field values least c is.behind is.early is.long small) choices fit;
      each = each;
    }
  where
    each : (others : Values) → IsOf least fields others → IsNear rows (take (place_of field) fields) values others
        → IsCovered sides places (rows_at rows places) field values others choices
    each others of near = by_name (is_named rows places field (value_at field others)) refl
      where
        small : value_at field others < 2 ^ 12
        small = other_small least field others is.behind is.early of

        stands : is_named rows places field (value_at field others) ≡ false → (c : ℕ)
            → Contains choices c × ((is_named rows places field c ≡ false) × SameDscp (rows_at rows places) field values c (value_at field others))
            → Contains choices c × Stands (rows_at rows places) field values others c
        stands h c (there, (free, same)) = (
          there,
          unnamed_stands sides rows field values others places c is near (none_left (λ row. is_value c (named_by (ask_at row field))) rows places free)
              (none_left (λ row. is_value (value_at field others) (named_by (ask_at row field))) rows places h) same,
        )

        by_name : (b : Bool) → is_named rows places field (value_at field others) ≡ b
            → IsCovered sides places (rows_at rows places) field values others choices
        by_name true h = inl (named (value_at field others) small h)
        by_name false h = by_case (unnamed (value_at field others) small h)
          where
            Good : ℕ → Type 0
            Good c = Contains choices c × ((is_named rows places field c ≡ false) × SameDscp (rows_at rows places) field values c (value_at field others))

            by_case : Contains choices (value_at field others) ⊎ HasSeveral count Good
                → IsCovered sides places (rows_at rows places) field values others choices
            by_case (inl there) = inl there
            by_case (inr some) =
                inr (inl (
                  is.behind,
                  subst (λ (n : ℕ). HasSeveral n (λ c. Contains choices c × Stands (rows_at rows places) field values others c)) counted
                      (several_weaker count Good (λ c. Contains choices c × Stands (rows_at rows places) field values others c) (stands h) some),
                ))

either : {X Y Z : Type 0} → (Y → Z) → X ⊎ Y → X ⊎ Z
either f (inl x) = inl x
either f (inr y) = inr (f y)

-- where no DSCP is read
pub by_name_choices : (sides : List Side) (rows : List Row) (least : ℕ) (field : Field) (values : Values) (places choices : List ℕ) (count : ℕ)
    → IsVidCase sides rows field values places → count ≡ length sides
    → (has_dscp (packet_before field values) && is_read rows places field) ≡ false
    → All (λ c. c < 2 ^ 12) choices → ((c : ℕ) → c < 2 ^ 12 → is_named rows places field c ≡ true → Contains choices c)
    → ((v : ℕ) → v < 2 ^ 12 → is_named rows places field v ≡ false
    → Contains choices v ⊎ HasSeveral count (λ c. Contains choices c × (is_named rows places field c ≡ false)))
    → CoverBy sides rows places least field values choices
by_name_choices sides rows least field values places choices count is counted not_told fit named others =
    named_choices sides rows least field values places choices count is counted fit named
    (λ v small h.
    either (several_weaker count (λ c. Contains choices c × (is_named rows places field c ≡ false))
    (λ c. Contains choices c × ((is_named rows places field c ≡ false) × SameDscp (rows_at rows places) field values c v))
    (λ c good. (good.0, (good.1, same_by_none rows field values places c v not_told)))) (others v small h))

-- where a DSCP is
pub by_dscp_choices : (sides : List Side) (rows : List Row) (least : ℕ) (field : Field) (values : Values) (places choices : List ℕ) (count : ℕ)
    → IsVidCase sides rows field values places → count ≡ length sides
    → All (λ c. c < 2 ^ 12) choices → ((c : ℕ) → c < 2 ^ 12 → is_named rows places field c ≡ true → Contains choices c)
    → ((v : ℕ) → v < 2 ^ 12 → is_named rows places field v ≡ false → Contains choices v
    ⊎ HasSeveral count (λ c. Contains choices c × IsUnnamed rows places field (packet_before field values) (dscp_in (packet_before field values) v) c))
    → CoverBy sides rows places least field values choices
by_dscp_choices sides rows least field values places choices count is counted fit named others =
    named_choices sides rows least field values places choices count is counted fit named
    (λ v small h.
    either (several_weaker count
    (λ c. Contains choices c × IsUnnamed rows places field (packet_before field values) (dscp_in (packet_before field values) v) c)
    (λ c. Contains choices c × ((is_named rows places field c ≡ false) × SameDscp (rows_at rows places) field values c v))
    (λ c good. (good.0, (good.1.unnamed, λ k d inside _. good.1.same)))) (others v small h))

-- ---- looking at values

pub one_more : (P : ℕ → Type 0) (count : ℕ) → ((n : ℕ) → n < count → P n) → P count → (n : ℕ) → n < count + 1 → P n
one_more P count before here n h = by_place (nat_lt n count) refl
  where
    by_place : (b : Bool) → nat_lt n count ≡ b → P n
    by_place true is = before n (ltb-true n count is)
    by_place false is =
        let past : count ≤ n = ltb-false n count is in
        let same : count ≡ n = omega arith in
        subst P same here

-- where bits are put that aren't named
pub put_bits : (named : ℕ → Bool) (choices more : List ℕ) (put bits : ℕ) → put ≡ bits → more ≡ (if named put then choices else choices ++ put ∷ [])
    → more ≡ (if named bits then choices else choices ++ bits ∷ [])
put_bits named choices more put bits is h = subst (λ (n : ℕ). more ≡ (if named n then choices else choices ++ n ∷ [])) is h

-- ---- what is named, place by place

pub named_further : (rows : List Row) (places rest : List ℕ) (place : ℕ) (field : Field) (choices more : List ℕ) → places ≡ place ∷ rest
    → ((c : ℕ) → Contains choices c → Contains more c)
    → (c : ℕ) → (test_at (λ row. is_value c (named_by (ask_at row field))) false rows place ≡ true → Contains more c)
    → Contains choices c ⊎ (is_named rows places field c ≡ true) → Contains more c ⊎ (is_named rows rest field c ≡ true)
named_further rows places rest place field choices more is kept c here (inl there) = inl (kept c there)
named_further rows places rest place field choices more is kept c here (inr named) =
    by_where (named_first rows place rest field c (subst (λ (ps : List ℕ). is_named rows ps field c ≡ true) is named))
  where
    by_where : (test_at (λ row. is_value c (named_by (ask_at row field))) false rows place ≡ true) ⊎ (is_named rows rest field c ≡ true)
        → Contains more c ⊎ (is_named rows rest field c ≡ true)
    by_where (inl first) = inl (here first)
    by_where (inr later) = inr later
