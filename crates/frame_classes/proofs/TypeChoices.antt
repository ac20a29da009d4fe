-- The types that are looked at stand for all.
use Rattle.std.proofs.Common.{◌≡◌, ℕ, ◌+◌, ◌%◌, ◌^◌, ◌<◌, ◌≤◌, ◌==◌, ◌||◌, ◌&&◌, not, Bool, true, false, List, [], ◌∷◌, arith, refl, sym, subst, length, take, get_or, ◌⊎◌, inl, inr, ◌∙◌}
use Rattle.std.specs.Prelude.{All, Any, Contains}
use Rattle.std.specs.List.{list_any}
use Rattle.std.proofs.lemmas.Bool.{and_parts, eqb-true, true≢false}
use Rattle.std.proofs.lemmas.List.{get_or_default}
use Rattle.std.proofs.lemmas.List.Elements.{All-cons, All-contains, All-from_recursion, All-more, All-nil, All-weaker}
use Rattle.std.proofs.lemmas.List.Folds.{Any-from_list_any}
use Rattle.frame_rows.specs.declared.ask.Ask.{Ask}
use Rattle.frame_rows.specs.declared.field.Field.{Field}
use Rattle.frame_rows.specs.declared.field.Field.TheVariants.{Length, FirstType, SecondType, ThirdType, FirstVid, SecondVid, ThirdVid, FirstPriority, SecondPriority, FirstEligible, SecondEligible}
use Rattle.frame_rows.specs.declared.field.Values.{Values}
use Rattle.frame_rows.specs.declared.row.Row.{Row}
use Rattle.frame_rows.specs.Field.{end_of, fields, place_of, value_at}
use Rattle.frame_rows.specs.Fits.{ask_fits, asks_type}
use Rattle.frame_rows.specs.Sight.{Side}
use Rattle.frame_rows.specs.Words.{limit_of}
use Rattle.frame_rows.specs.Row.{ask_at, named_by}
use Rattle.tag_view.specs.Tag.{is_tag_type}
use Rattle.frame_classes.specs.Choices.{HasSpare, are_alike, is_known_type, is_named, is_spare, is_value}
use Rattle.frame_classes.specs.Splitting.{CanBe, IsCovered, IsNear, IsOf, Stands, begins_tag}
use Rattle.frame_classes.specs.Left.{rows_at}
use Rattle.frame_classes.proofs.Numbers.{none_left, still_left}
use Rattle.frame_classes.proofs.Several.{turned_each}
use Rattle.frame_classes.proofs.Standing.{CoverBy, FitsSome, IsCase, field_within, fits_at, other_can_be, same_stands}
use Rattle.frame_classes.proofs.Types.{AsksSome, Covers, IsPlain, IsPlainFor, alike_stands, known_types, plain_begins, plain_stands}

-- ---- one more

covers_kept : (sides : List Side) (count : ℕ) (rows : List Row) (places : List ℕ) (values : Values) (field : Field) (choices more : List ℕ) (value : ℕ)
    → ((c : ℕ) → Contains choices c → Contains more c) → Covers sides count rows places values field choices value → Covers sides count rows places values field more value
covers_kept sides count rows places values field choices more value kept (i, c, within, is, stands) =
    let there = kept c (i, within, is) in
    (there.0, c, there.1, there.2, stands)

pub cover_more : (sides : List Side) (count : ℕ) (rows : List Row) (places : List ℕ) (values : Values) (field : Field) (choices more : List ℕ) (index : ℕ) → index < 8
    → ((c : ℕ) → Contains choices c → Contains more c) → Covers sides count rows places values field more (get_or known_types index 0)
    → All (Covers sides count rows places values field choices) (take index known_types) → All (Covers sides count rows places values field more) (take (index + 1) known_types)
cover_more sides count rows places values field choices more index within kept here before =
    All-more (Covers sides count rows places values field more) known_types index 0 within
    (All-weaker (Covers sides count rows places values field choices) (Covers sides count rows places values field more)
    (λ value. covers_kept sides count rows places values field choices more value kept) (take index known_types) before) here

cover_kept : (sides : List Side) (count : ℕ) (rows : List Row) (places : List ℕ) (values : Values) (field : Field) (choices more : List ℕ)
    → ((c : ℕ) → Contains choices c → Contains more c) → All (Covers sides count rows places values field choices) (take 8 known_types)
    → All (Covers sides count rows places values field more) known_types
cover_kept sides count rows places values field choices more kept before =
    All-weaker (Covers sides count rows places values field choices) (Covers sides count rows places values field more)
    (λ value. covers_kept sides count rows places values field choices more value kept) known_types before

pub fit_more : (choices more : List ℕ) (value : ℕ) → value < 2 ^ 16 → ((c : ℕ) → Contains more c → Contains choices c ⊎ (c ≡ value))
    → All (λ c. c < 2 ^ 16) choices → All (λ c. c < 2 ^ 16) more
fit_more choices more value small only before k d within =
    by_where (only (get_or more k d) (k, within, get_or_default more k (get_or more k d) d within))
  where
    by_where : Contains choices (get_or more k d) ⊎ (get_or more k d ≡ value) → get_or more k d < 2 ^ 16
    by_where (inl there) = All-contains (λ c. c < 2 ^ 16) choices (get_or more k d) before there
    by_where (inr is) = subst (λ (n : ℕ). n < 2 ^ 16) (sym is) small

-- ---- all

early_type : (input : ℕ) (field : Field) (ask : Ask) → 0 < place_of field → place_of field < 4 → ask_fits input field ask ≡ true → asks_type input ask ≡ true
early_type input Length ask behind early h = absurd (omega arith)
early_type input FirstType ask behind early h = h
early_type input SecondType ask behind early h = h
early_type input ThirdType ask behind early h = h
early_type input FirstVid ask behind early h = absurd (omega arith)
early_type input SecondVid ask behind early h = absurd (omega arith)
early_type input ThirdVid ask behind early h = absurd (omega arith)
early_type input FirstPriority ask behind early h = absurd (omega arith)
early_type input SecondPriority ask behind early h = absurd (omega arith)
early_type input FirstEligible ask behind early h = absurd (omega arith)
early_type input SecondEligible ask behind early h = absurd (omega arith)

type_limit : (field : Field) → 0 < place_of field → place_of field < 4 → limit_of field ≡ 2 ^ 16
type_limit Length behind early = absurd (omega arith)
type_limit FirstType behind early = refl
type_limit SecondType behind early = refl
type_limit ThirdType behind early = refl
type_limit FirstVid behind early = absurd (omega arith)
type_limit SecondVid behind early = absurd (omega arith)
type_limit ThirdVid behind early = absurd (omega arith)
type_limit FirstPriority behind early = absurd (omega arith)
type_limit SecondPriority behind early = absurd (omega arith)
type_limit FirstEligible behind early = absurd (omega arith)
type_limit SecondEligible behind early = absurd (omega arith)

asks_some : (sides : List Side) (field : Field) → 0 < place_of field → place_of field < 4 → (row : Row) → FitsSome sides row → AsksSome sides field row
asks_some sides field behind early row (i, side, within, is, fits) =
    (i, side, within, is, early_type side.settings.input_tpid field (ask_at row field) behind early (fits_at side.settings.input_tpid row fits field))

-- ---- a type that nothing asks for

not_true : (a : Bool) → not a ≡ true → a ≡ false
not_true true h = absurd (true≢false (sym h))
not_true false h = refl

or_none : (a b : Bool) → (a || b) ≡ false → (a ≡ false) × (b ≡ false)
or_none true b h = absurd (true≢false h)
or_none false b h = (refl, h)

each_none : (p : Side → Bool) (sides : List Side) → list_any p sides ≡ false → All (λ side. p side ≡ false) sides
each_none p [] h = All-nil (λ side. p side ≡ false)
each_none p (side ∷ rest) h =
    let parts = or_none (p side) (list_any p rest) h in
    All-cons (λ side. p side ≡ false) side rest parts.0 (each_none p rest parts.1)

-- it is plain
plain_by : (input type : ℕ) → is_tag_type input type ≡ false → is_known_type type ≡ false → IsPlain input type
plain_by input type tag known =
    let tags = or_none (type == 0x8100 || type == 0x88a8) (type == input) tag in
    let others = or_none (type == 0x8100) (type == 0x88a8) tags.0 in
    let k1 = or_none (type == 0x0800) _ known in
    let k2 = or_none (type == 0x86DD) _ k1.1 in
    let k3 = or_none (type == 0x0806) _ k2.1 in
    let k4 = or_none (type == 0x8863) _ k3.1 in
    let k5 = or_none (type == 0x8864) (type == 0x888E) k4.1 in
    record {
      customer = others.0;
      service = others.1;
      no_input = tags.1;
      ipv4 = k1.0;
      ipv6 = k2.0;
      arp = k3.0;
      discovery = k4.0;
      session = k5.0;
      eapol = k5.1;
    }

-- no row names it, and it begins no tag
pub record IsFree (sides : List Side) (rows : List Row) (places : List ℕ) (field : Field) (type : ℕ) : Type 0 where
  pub free : is_named rows places field type ≡ false
  pub begins : begins_tag sides type ≡ false
  pub known : is_known_type type ≡ false

spare_parts : (sides : List Side) (rows : List Row) (places : List ℕ) (field : Field) (type : ℕ) → is_spare sides rows places field type ≡ true
    → IsFree sides rows places field type
spare_parts sides rows places field type is =
    let parts = and_parts (not (is_named rows places field type)) (not (begins_tag sides type) && not (is_known_type type)) is in
    let others = and_parts (not (begins_tag sides type)) (not (is_known_type type)) parts.1 in
    record {
      free = not_true (is_named rows places field type) parts.0;
      begins = not_true (begins_tag sides type) others.0;
      known = not_true (is_known_type type) others.1;
    }

is_spare_by : (sides : List Side) (rows : List Row) (places : List ℕ) (field : Field) (type : ℕ) → is_named rows places field type ≡ false
    → begins_tag sides type ≡ false → is_known_type type ≡ false → is_spare sides rows places field type ≡ true
is_spare_by sides rows places field type free begins known = rw (free, begins, known) refl

plain_for : (sides : List Side) (type : ℕ) → begins_tag sides type ≡ false → is_known_type type ≡ false → IsPlainFor sides type
plain_for sides type begins known =
    All-weaker (λ side. is_tag_type side.settings.input_tpid type ≡ false) (λ side. IsPlain side.settings.input_tpid type)
    (λ side none. plain_by side.settings.input_tpid type none known) sides
    (each_none (λ (side : Side). is_tag_type side.settings.input_tpid type) sides begins)

-- ---- all types

pub type_choices : (sides : List Side) (count : ℕ) (rows : List Row) (least : ℕ) (field : Field) (values : Values) (places choices : List ℕ)
    → IsCase sides rows (take (place_of field) fields) values places → length sides ≤ 3 → count ≡ length sides → length values.values ≡ 11
    → 0 < place_of field → place_of field < 4 → end_of field ≤ value_at Length values → All (λ c. c < 2 ^ 16) choices
    → All (Covers sides count rows places values field choices) known_types
    → All (λ side. Covers sides count rows places values field choices side.settings.input_tpid) sides
    → ((c : ℕ) → is_named rows places field c ≡ true → Contains choices c)
    → ((v : ℕ) → v < 2 ^ 16 → is_spare sides rows places field v ≡ true → HasSpare sides rows places field values choices)
    → CoverBy sides rows places least field values choices
type_choices sides count rows least field values places choices case three counted eleven behind early long fits covers covers_inputs named spare =
    record {
      within = All-weaker (λ c. c < 2 ^ 16) (CanBe least (value_at Length values) field)
          (λ c small. record {
            below = subst (λ (n : ℕ). c < n) (sym (type_limit field behind early)) small;
            absent = λ short. absurd (omega arith);
            long = λ first. absurd (omega arith);
          }) choices fits;
      each = each;
    }
  where
    asks : All (AsksSome sides field) (rows_at rows places)
    asks =
        still_left (AsksSome sides field) rows (take (place_of field) fields) values places case.left
        (All-weaker (FitsSome sides) (AsksSome sides field) (asks_some sides field behind early) rows case.fits)

    each : (others : Values) → IsOf least fields others → IsNear rows (take (place_of field) fields) values others
        → IsCovered sides places (rows_at rows places) field values others choices
    each others of near =
        by_value (v == 0x8100) (v == 0x88a8) (v == 0x0800) (v == 0x86DD) (v == 0x0806) (v == 0x8863) (v == 0x8864) (v == 0x888E)
        (list_any (λ (side : Side). v == side.settings.input_tpid) sides) refl refl refl refl refl refl refl refl refl
      where
        v : ℕ
        v = value_at field others

        by_cover : (w : ℕ) → Stands (rows_at rows places) field values others w → Covers sides count rows places values field choices w
            → Any (Stands (rows_at rows places) field values others) choices
        by_cover w stands (i, c, within, is, inl same) = (i, c, within, is, subst (Stands (rows_at rows places) field values others) (sym same) stands)
        by_cover w stands (i, c, within, is, inr (apart, alike)) =
            (i, c, within, is, alike_stands rows field values others c w places alike stands (λ first. absurd (omega arith)))

        known : (w : ℕ) → value_at field others ≡ w → Covers sides count rows places values field choices w
            → IsCovered sides places (rows_at rows places) field values others choices
        known w at (i, c, within, is, inl same) = inl (subst (Contains choices) (same ∙ sym at) (i, within, is))
        known w at (i, c, within, is, inr (apart, alike)) =
            inr (inr (
              inl (record { early = early; type = by_apart apart }),
              by_cover w (same_stands rows field values others w places case.left near eleven (field_within field) (sym at) (λ first. absurd (omega arith)))
                  (i, c, within, is, inr (apart, alike)),
            ))
          where
            by_apart : (begins_tag sides w ≡ false ⊎ count ≤ 1) ⊎ (place_of field ≡ 3)
                → (begins_tag sides (value_at field others) ≡ false ⊎ length sides ≤ 1) ⊎ ((place_of field ≡ 0) ⊎ (place_of field ≡ 3))
            by_apart (inl (inl none)) = inl (inl (subst (λ (n : ℕ). begins_tag sides n ≡ false) (sym at) none))
            by_apart (inl (inr one)) = inl (inr (omega (arith, counted)))
            by_apart (inr third) = inr (inr third)

        same : (w : ℕ) → (value_at field others == w) ≡ true → Covers sides count rows places values field choices w
            → IsCovered sides places (rows_at rows places) field values others choices
        same w is covered = known w (eqb-true (value_at field others) w is) covered

        input : Any (λ side. (value_at field others == side.settings.input_tpid) ≡ true) sides
            → IsCovered sides places (rows_at rows places) field values others choices
        input (i, side, within, is, at) =
            same side.settings.input_tpid at
            (All-contains (λ s. Covers sides count rows places values field choices s.settings.input_tpid) sides side covers_inputs (i, within, is))

        none_names : (c : ℕ) → is_named rows places field c ≡ false → All (λ row. is_value c (named_by (ask_at row field)) ≡ false) (rows_at rows places)
        none_names c free = none_left (λ row. is_value c (named_by (ask_at row field))) rows places free

        -- with one of which nothing asks, too
        unnamed : IsPlainFor sides v → is_named rows places field v ≡ false → HasSpare sides rows places field values choices
            → IsCovered sides places (rows_at rows places) field values others choices
        unnamed is free has =
            let parts = spare_parts sides rows places field has.spare has.is in
            inr (inr (
              inl (record { early = early; type = inl (inl (plain_begins sides v is)) }),
              by_cover has.spare (plain_stands sides (rows_at rows places) field values others has.spare behind early asks (none_names has.spare parts.free)
                  (none_names v free) (plain_for sides has.spare parts.begins parts.known) is) (covers_spare has.there parts.begins),
            ))
          where
            covers_spare : Any (λ c. (c ≡ has.spare) ⊎ (are_alike rows places values field c has.spare ≡ true)) choices → begins_tag sides has.spare ≡ false
                → Covers sides count rows places values field choices has.spare
            covers_spare (i, c, within, is, inl same) begins = (i, c, within, is, inl same)
            covers_spare (i, c, within, is, inr alike) begins = (i, c, within, is, inr (inl (inl begins), alike))

        plain : IsPlainFor sides v → is_known_type v ≡ false → IsCovered sides places (rows_at rows places) field values others choices
        plain is known = by_name (is_named rows places field v) refl
          where
            by_name : (b : Bool) → is_named rows places field v ≡ b → IsCovered sides places (rows_at rows places) field values others choices
            by_name true h = inl (named v h)
            by_name false h =
                unnamed is h (spare v (subst (λ (n : ℕ). v < n) (type_limit field behind early) (other_can_be least others of field).below)
                (is_spare_by sides rows places field v h (plain_begins sides v is) known))

        by_value : (c s four six a d p e i : Bool) → (value_at field others == 0x8100) ≡ c → (value_at field others == 0x88a8) ≡ s
            → (value_at field others == 0x0800) ≡ four → (value_at field others == 0x86DD) ≡ six
            → (value_at field others == 0x0806) ≡ a → (value_at field others == 0x8863) ≡ d → (value_at field others == 0x8864) ≡ p
            → (value_at field others == 0x888E) ≡ e → list_any (λ (side : Side). value_at field others == side.settings.input_tpid) sides ≡ i
            → IsCovered sides places (rows_at rows places) field values others choices
        by_value true s four six a d p e i hc hs h4 h6 ha hd hp he hi = same 0x8100 hc (covers 0 0 (omega arith))
        by_value false true four six a d p e i hc hs h4 h6 ha hd hp he hi = same 0x88a8 hs (covers 2 0 (omega arith))
        by_value false false true six a d p e i hc hs h4 h6 ha hd hp he hi = same 0x0800 h4 (covers 1 0 (omega arith))
        by_value false false false true a d p e i hc hs h4 h6 ha hd hp he hi = same 0x86DD h6 (covers 3 0 (omega arith))
        by_value false false false false true d p e i hc hs h4 h6 ha hd hp he hi = same 0x0806 ha (covers 4 0 (omega arith))
        by_value false false false false false true p e i hc hs h4 h6 ha hd hp he hi = same 0x8863 hd (covers 5 0 (omega arith))
        by_value false false false false false false true e i hc hs h4 h6 ha hd hp he hi = same 0x8864 hp (covers 6 0 (omega arith))
        by_value false false false false false false false true i hc hs h4 h6 ha hd hp he hi = same 0x888E he (covers 7 0 (omega arith))
        by_value false false false false false false false false true hc hs h4 h6 ha hd hp he hi =
            input (Any-from_list_any (λ (side : Side). value_at field others == side.settings.input_tpid) sides hi)
        by_value false false false false false false false false false hc hs h4 h6 ha hd hp he hi =
            plain (All-weaker (λ side. (value_at field others == side.settings.input_tpid) ≡ false) (λ side. IsPlain side.settings.input_tpid (value_at field others))
            (λ side none. record { customer = hc; service = hs; no_input = none; ipv4 = h4; ipv6 = h6; arp = ha; discovery = hd; session = hp; eapol = he })
            sides (each_none (λ (side : Side). value_at field others == side.settings.input_tpid) sides hi)) (rw (h4, h6, ha, hd, hp, he) refl)

-- by what code looks at
known_fit : All (λ c. c < 2 ^ 16) known_types
known_fit =
    All-from_recursion (λ c. c < 2 ^ 16) known_types
    (omega arith, (omega arith, (omega arith, (omega arith, (omega arith, (omega arith, (omega arith, (omega arith, tt))))))))

pub known_small : (index : ℕ) → index < 8 → get_or known_types index 0 < 2 ^ 16
known_small index within = known_fit index 0 within

pub cover_all : (sides : List Side) (count : ℕ) (rows : List Row) (places : List ℕ) (values : Values) (field : Field) (choices more : List ℕ) (index : ℕ)
    → index ≡ 8 → ((c : ℕ) → Contains choices c → Contains more c) → All (Covers sides count rows places values field choices) (take index known_types)
    → All (Covers sides count rows places values field more) known_types
cover_all sides count rows places values field choices more index all kept before =
    cover_kept sides count rows places values field choices more kept
    (subst (λ (n : ℕ). All (Covers sides count rows places values field choices) (take n known_types)) all before)

-- more are put behind them
pub inputs_kept : (sides : List Side) (count : ℕ) (rows : List Row) (places : List ℕ) (values : Values) (field : Field) (choices more : List ℕ)
    → ((c : ℕ) → Contains choices c → Contains more c)
    → All (λ side. Covers sides count rows places values field choices side.settings.input_tpid) sides
    → All (λ side. Covers sides count rows places values field more side.settings.input_tpid) sides
inputs_kept sides count rows places values field choices more kept before =
    All-weaker (λ side. Covers sides count rows places values field choices side.settings.input_tpid)
    (λ side. Covers sides count rows places values field more side.settings.input_tpid)
    (λ side. covers_kept sides count rows places values field choices more side.settings.input_tpid kept) sides before

pub spare_kept : (sides : List Side) (rows : List Row) (places : List ℕ) (field : Field) (values : Values) (choices more : List ℕ)
    → ((c : ℕ) → Contains choices c → Contains more c) → HasSpare sides rows places field values choices → HasSpare sides rows places field values more
spare_kept sides rows places field values choices more kept has =
    record { spare = has.spare; is = has.is; there = by_place has.there }
  where
    by_place : Any (λ c. (c ≡ has.spare) ⊎ (are_alike rows places values field c has.spare ≡ true)) choices
        → Any (λ c. (c ≡ has.spare) ⊎ (are_alike rows places values field c has.spare ≡ true)) more
    by_place (i, c, within, is, stands) =
        let there = kept c (i, within, is) in
        (there.0, c, there.1, there.2, stands)

-- ---- a spare type is looked for

-- each type is tried in turn
pub type_at : (v : ℕ) → v < 2 ^ 16 → (k : ℕ) × ((k < 2 ^ 16) × ((0x88b5 + k) % 2 ^ 16 ≡ v))
type_at v small = turned_each (2 ^ 16) 0x88b5 v (omega arith) small

-- ---- input TPIDs, side by side

-- those of the first so many sides
pub inputs_more : (sides : List Side) (count : ℕ) (rows : List Row) (places : List ℕ) (values : Values) (field : Field) (choices more : List ℕ) (index : ℕ)
    (d : Side) → index < length sides → ((c : ℕ) → Contains choices c → Contains more c)
    → Covers sides count rows places values field more (get_or sides index d).settings.input_tpid
    → All (λ side. Covers sides count rows places values field choices side.settings.input_tpid) (take index sides)
    → All (λ side. Covers sides count rows places values field more side.settings.input_tpid) (take (index + 1) sides)
inputs_more sides count rows places values field choices more index d within kept here before =
    All-more (λ side. Covers sides count rows places values field more side.settings.input_tpid) sides index d within
    (All-weaker (λ side. Covers sides count rows places values field choices side.settings.input_tpid)
    (λ side. Covers sides count rows places values field more side.settings.input_tpid)
    (λ side. covers_kept sides count rows places values field choices more side.settings.input_tpid kept) (take index sides) before) here
