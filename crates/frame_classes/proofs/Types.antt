-- Types that stand for all, and values that are like one that stands for others.
use Rattle.std.proofs.Common.{◌≡◌, ◌≢◌, ℕ, ◌<◌, ◌≤◌, ◌==◌, Bool, true, false, ◌&&◌, ◌||◌, List, [], ◌∷◌, Option, Some, None, arith, refl, ap, map, sym, subst, get_or, nat_lt, ◌⊎◌, ◌∙◌}
use Rattle.std.specs.Prelude.{All, Any as HasOne, slice_get}
use Rattle.std.specs.List.{list_all, list_any}
use Rattle.std.proofs.lemmas.Bool.{eqb-false, eqb-true, ne_eqb, true≢false}
use Rattle.std.proofs.lemmas.List.Elements.{All-cons, All-contains, All-nil, All-weaker}
use Rattle.std.proofs.lemmas.List.Folds.{list_any_none}
use Rattle.frame_rows.specs.Sight.{Side}
use Rattle.frame_classes.specs.Left.{rows_at}
use Rattle.frame_classes.specs.Told.{side_by}
use Rattle.frame_rows.specs.declared.rows.Rows.{Rows}
use Rattle.tag_view.specs.Tag.{is_tag_type}
use Rattle.vlan_rule.specs.declared.filter.EthertypeFilter.{EthertypeFilter}
use Rattle.vlan_rule.specs.declared.filter.EthertypeFilter.TheVariants as ethertype
use Rattle.vlan_rule.specs.Choice.{has_type}
use Rattle.frame_rows.specs.declared.ask.Ask.{Ask}
use Rattle.frame_rows.specs.declared.ask.Ask.TheVariants.{Any, Exactly, Between, TagType, NoTagType, Ethertype}
use Rattle.frame_rows.specs.declared.field.Field.{Field}
use Rattle.frame_rows.specs.declared.field.Field.TheVariants.{Length}
use Rattle.frame_rows.specs.declared.field.Values.{Values}
use Rattle.frame_rows.specs.declared.source.DscpSource.{DscpSource}
use Rattle.frame_rows.specs.declared.source.Packet.TheVariants.{Other}
use Rattle.frame_rows.specs.declared.source.Source.{Source}
use Rattle.frame_rows.specs.declared.source.Source.TheVariants.{Fixed, FirstTag, SecondTag, Dscp}
use Rattle.frame_rows.specs.declared.row.Ends.{Ends}
use Rattle.frame_rows.specs.declared.row.Ends.TheVariants as ends
use Rattle.frame_rows.specs.declared.row.Row.{Row}
use Rattle.frame_rows.specs.Ask.{admits}
use Rattle.frame_rows.specs.Alike.{alike_by, is_alike}
use Rattle.frame_classes.specs.Choices.{are_alike, is_value, test_at}
use Rattle.frame_rows.specs.Field.{place_of, type_behind, value_at, vid_behind}
use Rattle.frame_rows.specs.Fits.{asks_type}
use Rattle.frame_rows.specs.Source.{packet_of}
use Rattle.frame_rows.specs.Row.{ask_at, named_by, dscp_reads, ends_read, marking_reads, row_admits, row_marks, row_reads, source_reads}
use Rattle.frame_classes.specs.Splitting.{Stands, StandsFor, begins_tag}

-- ---- a value that is like one that stands for others

and_left : (a b : Bool) → (a && b) ≡ true → a ≡ true
and_left true b h = refl
and_left false b h = h

and_right : (a b : Bool) → (a && b) ≡ true → b ≡ true
and_right true b h = h
and_right false b h = absurd (true≢false (sym h))

all_at : (test : Row → Bool) (rows : List Row) (places : List ℕ) → list_all (test_at test true rows) places ≡ true
    → All (λ row. test row ≡ true) (rows_at rows places)
all_at test rows [] h = All-nil (λ row. test row ≡ true)
all_at test rows (place ∷ rest) h =
    by_row (slice_get rows place) refl (all_at test rows rest (and_right (test_at test true rows place) (list_all (test_at test true rows) rest) h))
  where
    by_row : (row : Option Row) → slice_get rows place ≡ row → All (λ row. test row ≡ true) (rows_at rows rest)
        → All (λ row. test row ≡ true) (rows_at rows (place ∷ rest))
    by_row None is others = rw is others
    by_row (Some row) is others =
        let here : test_at test true rows place ≡ true = and_left (test_at test true rows place) (list_all (test_at test true rows) rest) h in
        rw is (All-cons (λ row. test row ≡ true) row (rows_at rows rest) (rw is at here) others)

alike_both : (a b : Bool) (one other : ℕ) → alike_by a b one other ≡ true → a ≡ b
alike_both true true one other h = refl
alike_both true false one other h = absurd (true≢false (sym h))
alike_both false true one other h = absurd (true≢false (sym h))
alike_both false false one other h = refl

alike_reads : (a b : Bool) (one other : ℕ) → alike_by a b one other ≡ true → a ≡ true → one ≡ other
alike_reads true true one other h is = eqb-true one other h
alike_reads true false one other h is = absurd (true≢false (sym h))
alike_reads false b one other h is = absurd (true≢false (sym is))

alike_for : (row : Row) (field : Field) (values others : Values) (one other value : ℕ) → is_alike values field one other row ≡ true
    → StandsFor row field values other others value → StandsFor row field values one others value
alike_for row field values others one other value alike stands =
    let read = alike_by (row_admits row field one) (row_admits row field other) (row_reads row values field one) (row_reads row values field other) in
    let marked = alike_by (row_admits row field one) (row_admits row field other) (row_marks row values field one) (row_marks row values field other) in
    let alike_read = and_left read marked alike in
    let alike_marked = and_right read marked alike in
    let same = alike_both (row_admits row field one) (row_admits row field other) (row_reads row values field one) (row_reads row values field other) alike_read in
    record {
      admits = same ∙ stands.admits;
      reads = λ is.
          alike_reads (row_admits row field one) (row_admits row field other) (row_reads row values field one) (row_reads row values field other) alike_read is
          ∙ stands.reads (sym same ∙ is);
      marks = λ is.
          alike_reads (row_admits row field one) (row_admits row field other) (row_marks row values field one) (row_marks row values field other) alike_marked is
          ∙ stands.marks (sym same ∙ is);
    }

pub alike_stands : (rows : List Row) (field : Field) (values others : Values) (one other : ℕ) (places : List ℕ)
    → are_alike rows places values field one other ≡ true → Stands (rows_at rows places) field values others other
    → (place_of field ≡ 0 → value_at Length others ≤ one) → Stands (rows_at rows places) field values others one
alike_stands rows field values others one other places alike stands longer =
    record {
      each = λ k d h.
          alike_for (get_or (rows_at rows places) k d) field values others one other (value_at field others)
          (all_at (is_alike values field one other) rows places alike k d h) (stands.each k d h);
      longer = longer;
    }

-- ---- types of which nothing is asked or read

-- no tag's, no filter's and no packet's
pub record IsPlain (input type : ℕ) : Type 0 where
  pub customer : (type == 0x8100) ≡ false
  pub service : (type == 0x88a8) ≡ false
  pub no_input : (type == input) ≡ false
  pub ipv4 : (type == 0x0800) ≡ false
  pub ipv6 : (type == 0x86DD) ≡ false
  pub arp : (type == 0x0806) ≡ false
  pub discovery : (type == 0x8863) ≡ false
  pub session : (type == 0x8864) ≡ false
  pub eapol : (type == 0x888E) ≡ false

pub plain_tag : (input type : ℕ) → IsPlain input type → is_tag_type input type ≡ false
plain_tag input type is = rw (is.customer, is.service, is.no_input) refl

plain_filter : (f : EthertypeFilter) (input one other : ℕ) → IsPlain input one → IsPlain input other → has_type f one ≡ has_type f other
plain_filter ethertype.Any input one other p q = refl
plain_filter ethertype.Ipv4 input one other p q = p.ipv4 ∙ sym q.ipv4
plain_filter ethertype.Pppoe input one other p q = rw (p.discovery, p.session, q.discovery, q.session) refl
plain_filter ethertype.Arp input one other p q = p.arp ∙ sym q.arp
plain_filter ethertype.Ipv6 input one other p q = p.ipv6 ∙ sym q.ipv6
plain_filter ethertype.Eapol input one other p q = p.eapol ∙ sym q.eapol

plain_admits : (ask : Ask) (input one other : ℕ) → asks_type input ask ≡ true → is_value one (named_by ask) ≡ false → is_value other (named_by ask) ≡ false
    → IsPlain input one → IsPlain input other → admits ask one ≡ admits ask other
plain_admits Any input one other h free free' p q = refl
plain_admits (Exactly only) input one other h free free' p q =
    ne_eqb one only (λ e. eqb-false only one free (sym e)) ∙ sym (ne_eqb other only (λ e. eqb-false only other free' (sym e)))
plain_admits (Between least most) input one other h free free' p q = absurd (true≢false (sym h))
plain_admits (TagType type f) input one other h free free' p q =
    let is = sym (eqb-true type input h) in
    let a = plain_tag type one (subst (λ (n : ℕ). IsPlain n one) is p) in
    let b = plain_tag type other (subst (λ (n : ℕ). IsPlain n other) is q) in
    rw (a, b) refl
plain_admits (NoTagType type f) input one other h free free' p q =
    let is = sym (eqb-true type input h) in
    let a = plain_tag type one (subst (λ (n : ℕ). IsPlain n one) is p) in
    let b = plain_tag type other (subst (λ (n : ℕ). IsPlain n other) is q) in
    rw (a, b) (plain_filter f input one other p q)
plain_admits (Ethertype f) input one other h free free' p q = plain_filter f input one other p q

plain_packet : (input type : ℕ) → IsPlain input type → packet_of type ≡ Other
plain_packet input type is = rw (is.ipv4, is.ipv6) refl

vid_late : (tags : ℕ) → 3 < place_of (vid_behind tags)
vid_late tags = by_count (nat_lt tags 1) (nat_lt tags 2) refl refl
  where
    by_count : (one two : Bool) → nat_lt tags 1 ≡ one → nat_lt tags 2 ≡ two → 3 < place_of (vid_behind tags)
    by_count true two p q = rw p (omega arith)
    by_count false true p q = rw (p, q) (omega arith)
    by_count false false p q = rw (p, q) (omega arith)

plain_dscp : (source : DscpSource) (field : Field) (input one other : ℕ) (values others : Values) → 0 < place_of field → place_of field < 4
    → IsPlain input one → IsPlain input other → dscp_reads source values field one ≡ dscp_reads source others field other
plain_dscp source field input one other values others behind early p q =
    by_type (place_of field == place_of (type_behind source.tags)) refl
  where
    not_first : (place_of field == 0) ≡ false
    not_first = ne_eqb (place_of field) 0 (apart (place_of field) 0 behind)
      where
        apart : (a b : ℕ) → b < a → a ≢ b
        apart a b h e = omega arith

    not_vid : (place_of field == place_of (vid_behind source.tags)) ≡ false
    not_vid =
        let late = vid_late source.tags in
        ne_eqb (place_of field) (place_of (vid_behind source.tags)) (apart (place_of field) (place_of (vid_behind source.tags)) (omega (arith, late)))
      where
        apart : (a b : ℕ) → a < b → a ≢ b
        apart a b h e = omega arith

    by_type : (b : Bool) → (place_of field == place_of (type_behind source.tags)) ≡ b
        → dscp_reads source values field one ≡ dscp_reads source others field other
    by_type true is =
        let a = plain_packet input one p in
        let b = plain_packet input other q in
        rw (not_first, is, a, b) refl
    by_type false is = rw (not_first, is, not_vid) refl

plain_reads : (row : Row) (field : Field) (input one other : ℕ) (values others : Values) → 0 < place_of field → place_of field < 4
    → IsPlain input one → IsPlain input other → row_reads row values field one ≡ row_reads row others field other
plain_reads row field input one other values others behind early p q = by_ends row.ends
  where
    not_at : (n : ℕ) → 3 < n → (place_of field == n) ≡ false
    not_at n h = ne_eqb (place_of field) n (apart (place_of field) n (omega arith))
      where
        apart : (a b : ℕ) → a < b → a ≢ b
        apart a b h e = omega arith

    by_source : (s : Source) → source_reads s values field one ≡ source_reads s others field other
    by_source (Fixed priority) = refl
    by_source FirstTag =
        let is = not_at 7 (omega arith) in
        rw is refl
    by_source SecondTag =
        let is = not_at 8 (omega arith) in
        rw is refl
    by_source (Dscp source) = plain_dscp source field input one other values others behind early p q

    by_ends : (e : Ends) → ends_read e values field one ≡ ends_read e others field other
    by_ends (ends.Dropped reason) = refl
    by_ends (ends.ByPriority source) = by_source source

plain_marks : (row : Row) (field : Field) (input one other : ℕ) (values others : Values) → 0 < place_of field → place_of field < 4
    → IsPlain input one → IsPlain input other → row_marks row values field one ≡ row_marks row others field other
plain_marks row field input one other values others behind early p q = by_marking row.marking
  where
    by_marking : (m : Option DscpSource) → marking_reads m values field one ≡ marking_reads m others field other
    by_marking None = refl
    by_marking (Some source) = plain_dscp source field input one other values others behind early p q

-- for the input TPIDs of all sides
abbrev pub IsPlainFor : List Side → ℕ → Type 0
IsPlainFor sides type = All (λ side. IsPlain side.settings.input_tpid type) sides

-- a type is asked for by the input TPID of some side, or none
abbrev pub AsksSome : List Side → Field → Row → Type 0
AsksSome sides field row = HasOne (λ side. asks_type side.settings.input_tpid (ask_at row field) ≡ true) sides

-- one of them stands for all
pub plain_stands : (sides : List Side) (left : List Row) (field : Field) (values others : Values) (type : ℕ) → 0 < place_of field → place_of field < 4
    → All (AsksSome sides field) left → All (λ row. is_value type (named_by (ask_at row field)) ≡ false) left
    → All (λ row. is_value (value_at field others) (named_by (ask_at row field)) ≡ false) left
    → IsPlainFor sides type → IsPlainFor sides (value_at field others) → Stands left field values others type
plain_stands sides left field values others type behind early asks free free' p q =
    record { each = λ k d h. by_side (get_or left k d) (asks k d h) (free k d h) (free' k d h); longer = λ first. absurd (omega arith) }
  where
    by_side : (row : Row) → AsksSome sides field row → is_value type (named_by (ask_at row field)) ≡ false
        → is_value (value_at field others) (named_by (ask_at row field)) ≡ false → StandsFor row field values type others (value_at field others)
    by_side row (i, side, within, is, ask) none none' =
        let input = side.settings.input_tpid in
        let one = All-contains (λ s. IsPlain s.settings.input_tpid type) sides side p (i, within, is) in
        let other = All-contains (λ s. IsPlain s.settings.input_tpid (value_at field others)) sides side q (i, within, is) in
        record {
          admits = plain_admits (ask_at row field) input type (value_at field others) ask none none' one other;
          reads = λ _. plain_reads row field input type (value_at field others) values others behind early one other;
          marks = λ _. plain_marks row field input type (value_at field others) values others behind early one other;
        }

-- and begins no tag
pub plain_begins : (sides : List Side) (type : ℕ) → IsPlainFor sides type → begins_tag sides type ≡ false
plain_begins sides type plain =
    list_any_none (λ (side : Side). is_tag_type side.settings.input_tpid type) sides
    (All-weaker (λ side. IsPlain side.settings.input_tpid type) (λ side. is_tag_type side.settings.input_tpid type ≡ false)
    (λ side h. plain_tag side.settings.input_tpid type h) sides plain)

-- of sides by their rows
pub begins_by_rows : (sides : List Rows) (type : ℕ) → begins_tag (map side_by sides) type ≡ list_any (λ rows. is_tag_type rows.settings.input_tpid type) sides
begins_by_rows [] type = refl
begins_by_rows (rows ∷ rest) type = ap (λ (b : Bool). is_tag_type rows.settings.input_tpid type || b) (begins_by_rows rest type)

-- ---- types that are looked at

abbrev pub known_types : List ℕ
known_types = 0x8100 ∷ 0x0800 ∷ 0x88a8 ∷ 0x86dd ∷ 0x0806 ∷ 0x8863 ∷ 0x8864 ∷ 0x888e ∷ []

-- one of some values is another, or like it: this where it begins no tag, or there is one side
abbrev pub Covers : List Side → ℕ → List Row → List ℕ → Values → Field → List ℕ → ℕ → Type 0
Covers sides count rows places values field choices value =
    HasOne (λ c. (c ≡ value) ⊎ (((begins_tag sides value ≡ false ⊎ count ≤ 1) ⊎ (place_of field ≡ 3)) × (are_alike rows places values field c value ≡ true))) choices
