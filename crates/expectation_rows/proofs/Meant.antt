-- A frame that passes a row of a filter is read with the row's tags, and its DSCP alone decides whether it is admitted.
use Rattle.std.proofs.Common.{◌≡◌, ℕ, ◌+◌, ◌*◌, ◌<◌, ◌≤◌, ◌^◌, ◌==◌, Bool, true, false, ◌&&◌, List, [], ◌∷◌, Option, arith, refl, ap, sym, length, drop, min, nat_le, ◌∙◌}
use Rattle.std.specs.Prelude.{All}
use Rattle.std.proofs.lemmas.Bool.{and_parts, eqb-true, leb-true}
use Rattle.tag_view.specs.Tag.{TagFields, is_tag_type}
use Rattle.tag_view.specs.Frame.{Reading, tag_at, type_at, with_tags}
use Rattle.tag_view.specs.Dscp.{dscp_of}
use Rattle.treatment.specs.Treatment.{inner_of, outer_of}
use Rattle.frame_rows.specs.declared.ask.Ask.{Ask}
use Rattle.frame_rows.specs.declared.field.Field.TheVariants.{Length, FirstType, SecondType, ThirdType, FirstVid, SecondVid, FirstPriority, SecondPriority, FirstEligible, SecondEligible}
use Rattle.frame_rows.specs.declared.field.Values.{Values}
use Rattle.frame_rows.specs.declared.row.Row.{Row}
use Rattle.frame_rows.specs.Field.{fields, value_at, values_of, word_at}
use Rattle.frame_rows.specs.Row.{passes}
use Rattle.frame_rows.proofs.Faults.{IsRead, read_tagged, read_twice_tagged, read_untagged}
use Rattle.frame_rows.proofs.Reading.{tagged, twice_tagged, untagged}
use Rattle.frame_rows.proofs.Words.{word_there}
use Rattle.frame_expectation.specs.Filter.{asks_nothing, is_as, is_number, is_tag, is_there, is_type}
use Rattle.expectation_rows.specs.declared.filter.Asked.{Asked}
use Rattle.expectation_rows.specs.Rows.{filter_row, filter_rows, may_have_none, may_have_one, may_have_two, none_asks, none_row, none_rows, of_each, one_asks, one_row, one_rows, rows_with_one, rows_with_two, two_asks, two_row, two_rows}
use Rattle.expectation_rows.proofs.Offered.{All-of_each, All-offered}
use Rattle.expectation_rows.proofs.Tags.{begins_none, tag_is, third_asked, type_asked}
use Rattle.std.proofs.lemmas.List.Elements.{All-append}

-- a frame that is read, and passes a row of a filter
pub record IsMeant (asked : Asked) (bytes : List ℕ) (row : Row) : Type 0 where
  pub frame : Reading
  pub read : IsRead asked.settings.input_tpid bytes frame
  pub two : length frame.tags ≤ 2
  pub long : 14 + 4 * length frame.tags ≤ length bytes
  pub as_asked : is_as asked.filter frame ≡ is_there asked.filter.dscp (dscp_of frame.rest)
  pub asks : List Ask
  pub is : row ≡ filter_row asked (outer_of frame.tags).tpid (inner_of frame.tags).tpid (length frame.tags) asks

abbrev pub Means : Asked → List ℕ → Row → Type 0
Means asked bytes row = passes fields row (values_of bytes) ≡ true → IsMeant asked bytes row

-- ---- values and words

pub long_at : (least : ℕ) (bytes : List ℕ) → (nat_le least (value_at Length (values_of bytes)) && nat_le (value_at Length (values_of bytes)) 24) ≡ true
    → least ≤ length bytes
unfolding values_of
long_at least bytes h = let within : least ≤ min 24 (length bytes) = leb-true least (min 24 (length bytes)) (and_parts _ _ h).0 in omega arith

pub first_type : (bytes : List ℕ) → 14 ≤ length bytes → value_at FirstType (values_of bytes) ≡ type_at 12 bytes
unfolding values_of
first_type bytes long = word_there 12 bytes long

pub second_type : (bytes : List ℕ) → 18 ≤ length bytes → value_at SecondType (values_of bytes) ≡ type_at 16 bytes
unfolding values_of
second_type bytes long = word_there 16 bytes long

-- ---- frames without a tag

none_means : (asked : Asked) (bytes : List ℕ) → All (λ b. b < 2 ^ 8) bytes → may_have_none asked ≡ true → Means asked bytes (none_row asked)
none_means asked bytes fits may pass =
    let values = values_of bytes in
    let input = asked.settings.input_tpid in
    let filter = asked.filter in
    let first = and_parts _ _ pass in
    let second = and_parts _ _ first.1 in
    let number = and_parts (is_number filter.tags 0) _ may in
    let outer = and_parts (asks_nothing filter.outer) _ number.1 in
    let inner = and_parts (asks_nothing filter.inner) _ outer.1 in
    let long : 14 ≤ length bytes = long_at 14 bytes first.0 in
    let value_none : is_tag_type input (value_at FirstType values) ≡ false =
    begins_none input (value_at FirstType values) filter.ethertype inner.1 second.0 in
    let none : is_tag_type input (type_at 12 bytes) ≡ false = ap (is_tag_type input) (sym (first_type bytes long)) ∙ value_none in
    let is = untagged input bytes long none fits in
    let type : is_type filter.ethertype (type_at 0 (drop 12 bytes)) ≡ true =
    ap (is_type filter.ethertype) (sym is.type) ∙ sym (type_asked input (value_at FirstType values) filter.ethertype value_none) ∙ second.0 in
    record {
      frame = with_tags bytes 0 [];
      read = read_untagged input bytes long none fits;
      two = omega arith;
      long = omega arith;
      as_asked = rw (number.0, outer.0, inner.0, type) refl;
      asks = none_asks filter input;
      is = refl;
    }

-- ---- frames with one

one_means : (asked : Asked) (tpid : ℕ) (bytes : List ℕ) → All (λ b. b < 2 ^ 8) bytes → is_tag_type asked.settings.input_tpid tpid ≡ true
    → may_have_one asked tpid ≡ true → Means asked bytes (one_row asked tpid)
one_means asked tpid bytes fits begins may pass =
    let values = values_of bytes in
    let input = asked.settings.input_tpid in
    let filter = asked.filter in
    let tag = tag_at 0 (drop 12 bytes) in
    let of_length = and_parts _ _ pass in
    let of_first = and_parts _ _ of_length.1 in
    let of_second = and_parts _ _ of_first.1 in
    let of_vid = and_parts _ _ of_second.1 in
    let of_priority = and_parts _ _ of_vid.1 in
    let of_eligible = and_parts _ _ of_priority.1 in
    let number = and_parts (is_number filter.tags 1) _ may in
    let outer = and_parts (asks_nothing filter.outer) _ number.1 in
    let inner = and_parts (is_number filter.inner.tpid tpid) _ outer.1 in
    let long : 18 ≤ length bytes = long_at 18 bytes of_length.0 in
    let value_is : value_at FirstType values ≡ tpid = eqb-true (value_at FirstType values) tpid of_first.0 in
    let tag_begins : is_tag_type input (type_at 12 bytes) ≡ true =
    ap (is_tag_type input) (sym (first_type bytes (omega arith)) ∙ value_is) ∙ begins in
    let value_none : is_tag_type input (value_at SecondType values) ≡ false =
    begins_none input (value_at SecondType values) filter.ethertype inner.1 of_second.0 in
    let none : is_tag_type input (type_at 16 bytes) ≡ false = ap (is_tag_type input) (sym (second_type bytes long)) ∙ value_none in
    let is = tagged input bytes long tag_begins none fits in
    let type : is_type filter.ethertype (type_at 0 (drop 16 bytes)) ≡ true =
    ap (is_type filter.ethertype) (sym is.type) ∙ sym (type_asked input (value_at SecondType values) filter.ethertype value_none) ∙ of_second.0 in
    let tag_asked : is_tag filter.inner tag ≡ true =
    tag_is filter.inner tag (value_at FirstType values) (value_at FirstVid values) (value_at FirstPriority values) (value_at FirstEligible values)
    is.passes.is_tag (ap (is_number filter.inner.tpid) value_is ∙ inner.0)
    (record { vid_asked = of_vid.0; priority_asked = of_priority.0; eligible_asked = of_eligible.0 }) in
    let same : tpid ≡ tag.tpid = sym value_is ∙ sym is.passes.is_tag.tpid_same in
    record {
      frame = with_tags bytes 1 (tag ∷ []);
      read = read_tagged input bytes long tag_begins none fits;
      two = omega arith;
      long = omega arith;
      as_asked = rw (number.0, outer.0, tag_asked, type) refl;
      asks = one_asks filter input tpid;
      is = ap (λ (n : ℕ). filter_row asked n n 1 (one_asks filter input tpid)) same;
    }

-- ---- frames with two

two_means : (asked : Asked) (outer inner : ℕ) (bytes : List ℕ) → All (λ b. b < 2 ^ 8) bytes → is_tag_type asked.settings.input_tpid outer ≡ true
    → is_tag_type asked.settings.input_tpid inner ≡ true → may_have_two asked outer inner ≡ true → Means asked bytes (two_row asked outer inner)
two_means asked outer inner bytes fits begins begins' may pass =
    let values = values_of bytes in
    let input = asked.settings.input_tpid in
    let filter = asked.filter in
    let first = tag_at 0 (drop 12 bytes) in
    let second = tag_at 4 (drop 12 bytes) in
    let of_length = and_parts _ _ pass in
    let of_first = and_parts _ _ of_length.1 in
    let of_second = and_parts _ _ of_first.1 in
    let of_third = and_parts _ _ of_second.1 in
    let of_vid = and_parts _ _ of_third.1 in
    let of_vid' = and_parts _ _ of_vid.1 in
    let of_priority = and_parts _ _ of_vid'.1 in
    let of_priority' = and_parts _ _ of_priority.1 in
    let of_eligible = and_parts _ _ of_priority'.1 in
    let of_eligible' = and_parts _ _ of_eligible.1 in
    let number = and_parts (is_number filter.tags 2) _ may in
    let tpids = and_parts (is_number filter.outer.tpid outer) (is_number filter.inner.tpid inner) number.1 in
    let long : 22 ≤ length bytes = long_at 22 bytes of_length.0 in
    let value_is : value_at FirstType values ≡ outer = eqb-true (value_at FirstType values) outer of_first.0 in
    let value_is' : value_at SecondType values ≡ inner = eqb-true (value_at SecondType values) inner of_second.0 in
    let tag_begins : is_tag_type input (type_at 12 bytes) ≡ true =
    ap (is_tag_type input) (sym (first_type bytes (omega arith)) ∙ value_is) ∙ begins in
    let tag_begins' : is_tag_type input (type_at 16 bytes) ≡ true =
    ap (is_tag_type input) (sym (second_type bytes (omega arith)) ∙ value_is') ∙ begins' in
    let is = twice_tagged input bytes long tag_begins tag_begins' fits in
    let type : is_type filter.ethertype (type_at 0 (drop 20 bytes)) ≡ true =
    ap (is_type filter.ethertype) (sym is.type) ∙ sym (third_asked (value_at ThirdType values) filter.ethertype) ∙ of_third.0 in
    let first_asked : is_tag filter.outer first ≡ true =
    tag_is filter.outer first (value_at FirstType values) (value_at FirstVid values) (value_at FirstPriority values) (value_at FirstEligible values)
    is.passes.is_outer (ap (is_number filter.outer.tpid) value_is ∙ tpids.0)
    (record { vid_asked = of_vid.0; priority_asked = of_priority.0; eligible_asked = of_eligible.0 }) in
    let second_asked : is_tag filter.inner second ≡ true =
    tag_is filter.inner second (value_at SecondType values) (value_at SecondVid values) (value_at SecondPriority values) (value_at SecondEligible values)
    is.passes.is_inner (ap (is_number filter.inner.tpid) value_is' ∙ tpids.1)
    (record { vid_asked = of_vid'.0; priority_asked = of_priority'.0; eligible_asked = of_eligible'.0 }) in
    let same : outer ≡ first.tpid = sym value_is ∙ sym is.passes.is_outer.tpid_same in
    let same' : inner ≡ second.tpid = sym value_is' ∙ sym is.passes.is_inner.tpid_same in
    record {
      frame = with_tags bytes 2 (first ∷ second ∷ []);
      read = read_twice_tagged input bytes long tag_begins tag_begins' fits;
      two = omega arith;
      long = omega arith;
      as_asked = rw (number.0, first_asked, second_asked, type) refl;
      asks = two_asks filter outer inner;
      is =
          ap (λ (n : ℕ). filter_row asked n inner 2 (two_asks filter outer inner)) same
          ∙ ap (λ (n : ℕ). filter_row asked first.tpid n 2 (two_asks filter outer inner)) same';
    }

-- ---- all of them

pub all_mean : (asked : Asked) (bytes : List ℕ) → All (λ b. b < 2 ^ 8) bytes → All (Means asked bytes) (filter_rows asked)
all_mean asked bytes fits =
    let P = Means asked bytes in
    let input = asked.settings.input_tpid in
    All-append P (none_rows asked) _ (All-offered P (may_have_none asked) (none_row asked) (none_means asked bytes fits))
    (All-append P (one_rows asked) (two_rows asked)
    (All-of_each P input (rows_with_one asked) (λ tpid begins.
    All-offered P (may_have_one asked tpid) (one_row asked tpid) (one_means asked tpid bytes fits begins)))
    (All-of_each P input (λ outer. of_each input (rows_with_two asked outer)) (λ outer begins.
    All-of_each P input (rows_with_two asked outer) (λ inner begins'.
    All-offered P (may_have_two asked outer inner) (two_row asked outer inner) (two_means asked outer inner bytes fits begins begins')))))
