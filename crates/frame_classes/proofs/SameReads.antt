-- What rows read of one value, behind values that they don't tell apart.
use Rattle.std.proofs.Common.{◌≡◌, ◌≢◌, ℕ, suc, ◌+◌, ◌*◌, ◌<◌, ◌≤◌, ◌==◌, Bool, true, false, List, Option, Some, None, arith, refl, ap, sym, subst, length, length-take, take, get_or, nat_le, nat_lt, if◌then◌else◌, ◌∙◌}
use Rattle.std.specs.Prelude.{All}
use Rattle.std.proofs.lemmas.Bool.{eq-eqb, eqb-true, le-ltb, leb-false, leb-true, lt-ltb, ne_eqb}
use Rattle.std.proofs.lemmas.List.{get_or-take, set-get_or}
use Rattle.frame_rows.specs.declared.field.Field.{Field}
use Rattle.frame_rows.specs.declared.field.Field.TheVariants.{Length, FirstType, SecondType, ThirdType, FirstVid, SecondVid, ThirdVid, FirstPriority, SecondPriority, FirstEligible, SecondEligible}
use Rattle.frame_rows.specs.declared.field.Values.{Values}
use Rattle.frame_rows.specs.declared.source.Packet.{Packet}
use Rattle.frame_rows.specs.declared.source.Packet.TheVariants.{Ipv4, Ipv6, Other}
use Rattle.frame_rows.specs.declared.source.DscpSource.{DscpSource}
use Rattle.frame_rows.specs.declared.source.Source.{Source}
use Rattle.frame_rows.specs.declared.source.Source.TheVariants.{Fixed, FirstTag, SecondTag, Dscp}
use Rattle.frame_rows.specs.declared.row.Ends.{Ends}
use Rattle.frame_rows.specs.declared.row.Ends.TheVariants as ends
use Rattle.frame_rows.specs.declared.row.Row.{Row}
use Rattle.frame_rows.specs.Field.{fields, place_of, type_behind, value_at, vid_behind, with_value}
use Rattle.frame_rows.specs.Source.{dscp_behind, dscp_in, packet_of}
use Rattle.frame_rows.specs.Row.{dscp_reads, ends_read, marking_reads, packet_number, row_marks, row_reads, source_reads}
use Rattle.frame_classes.proofs.Near.{dscp_reads-same, type_before, type_first, value-with_other, value-with_same}

-- ---- fields before another

-- what holds of the fields before some place holds of each
at_place : (P : Field → Type 0) (n k : ℕ) → All P (take n fields) → k < n → k < 11 → P (get_or fields k Length)
at_place P n k h before within =
    let long : k < length (take n fields) = omega (arith, length-take n fields) in
    subst P (get_or-take n fields k Length before) (h k Length long)

pub before : (P : Field → Type 0) (n : ℕ) → All P (take n fields) → (field : Field) → place_of field < n → P field
before P n h Length less = at_place P n 0 h less (omega arith)
before P n h FirstType less = at_place P n 1 h less (omega arith)
before P n h SecondType less = at_place P n 2 h less (omega arith)
before P n h ThirdType less = at_place P n 3 h less (omega arith)
before P n h FirstVid less = at_place P n 4 h less (omega arith)
before P n h SecondVid less = at_place P n 5 h less (omega arith)
before P n h ThirdVid less = at_place P n 6 h less (omega arith)
before P n h FirstPriority less = at_place P n 7 h less (omega arith)
before P n h SecondPriority less = at_place P n 8 h less (omega arith)
before P n h FirstEligible less = at_place P n 9 h less (omega arith)
before P n h SecondEligible less = at_place P n 10 h less (omega arith)

-- ---- a DSCP by what is read before it

-- packets of one number are one
packet_same : (p q : Packet) → packet_number p ≡ packet_number q → p ≡ q
packet_same Ipv4 Ipv4 e = refl
packet_same Ipv4 Ipv6 e = absurd (omega arith)
packet_same Ipv4 Other e = absurd (omega arith)
packet_same Ipv6 Ipv4 e = absurd (omega arith)
packet_same Ipv6 Ipv6 e = refl
packet_same Ipv6 Other e = absurd (omega arith)
packet_same Other Ipv4 e = absurd (omega arith)
packet_same Other Ipv6 e = absurd (omega arith)
packet_same Other Other e = refl

abbrev one_or_zero : Bool → ℕ
one_or_zero b = if b then 1 else 0

-- a frame is long enough where the other is
flag_same : (least one other : ℕ) → one_or_zero (nat_le least one) ≡ one_or_zero (nat_le least other) → nat_lt one least ≡ nat_lt other least
flag_same least one other e = by_flags (nat_le least one) (nat_le least other) refl refl
  where
    one_not_zero : suc 0 ≡ 0 → ⊥
    one_not_zero e = omega arith

    by_flags : (a b : Bool) → nat_le least one ≡ a → nat_le least other ≡ b → nat_lt one least ≡ nat_lt other least
    by_flags true true p q =
        let h : least ≤ one = leb-true least one p in
        let k : least ≤ other = leb-true least other q in
        le-ltb one least h ∙ sym (le-ltb other least k)
    by_flags true false p q = absurd (one_not_zero (rw (p, q) at e))
    by_flags false true p q = absurd (one_not_zero (sym (rw (p, q) at e)))
    by_flags false false p q =
        let h : one < least = leb-false least one p in
        let k : other < least = leb-false least other q in
        lt-ltb one least h ∙ sym (lt-ltb other least k)

dscp_same : (tags : ℕ) (one other : Values) → nat_lt (value_at Length one) (16 + 4 * tags) ≡ nat_lt (value_at Length other) (16 + 4 * tags)
    → packet_of (value_at (type_behind tags) one) ≡ packet_of (value_at (type_behind tags) other)
    → value_at (vid_behind tags) one ≡ value_at (vid_behind tags) other → dscp_behind tags one ≡ dscp_behind tags other
dscp_same tags one other length packet vid =
    by_parts (nat_lt (value_at Length one) (16 + 4 * tags)) (nat_lt (value_at Length other) (16 + 4 * tags))
    (packet_of (value_at (type_behind tags) one)) (packet_of (value_at (type_behind tags) other)) (value_at (vid_behind tags) one)
    (value_at (vid_behind tags) other) length packet vid
  where
    by_parts : (a b : Bool) (p q : Packet) (v w : ℕ) → a ≡ b → p ≡ q → v ≡ w → (if a then None else dscp_in p v) ≡ (if b then None else dscp_in q w)
    by_parts a b p q v w e f g = rw (e, f, g) refl

-- ---- what is read of others' value

-- a value that is set as it was
own : (field : Field) (values : Values) → value_at field (with_value field (value_at field values) values) ≡ value_at field values
own field values = ap (λ (items : List ℕ). get_or items (place_of field) 0) (set-get_or values.values (place_of field) 0)

dscp_reads_alike : (source : DscpSource) (field : Field) (values others : Values) → place_of field < length values.values
    → All (λ f. dscp_reads source values f (value_at f values) ≡ dscp_reads source others f (value_at f others)) (take (place_of field) fields)
    → dscp_reads source values field (value_at field others) ≡ dscp_reads source others field (value_at field others)
dscp_reads_alike source field values others within alike =
    dscp_reads-same source field (value_at field others) values others (λ is.
    let here : place_of field ≡ place_of (vid_behind source.tags) = eqb-true (place_of field) (place_of (vid_behind source.tags)) is in
    let type = type_before source.tags in
    let first = type_first source.tags in
    dscp_same source.tags (with_value field (value_at field others) values) (with_value field (value_at field others) others)
    (rw (value-with_other field Length (value_at field others) values (omega arith), value-with_other field Length (value_at field others) others (omega arith))
    (flag_same (16 + 4 * source.tags) (value_at Length values) (value_at Length others) (at Length (omega arith))))
    (rw (value-with_other field (type_behind source.tags) (value_at field others) values (omega arith), value-with_other field (type_behind source.tags) (value_at field others) others (omega arith))
    (packet_same (packet_of (value_at (type_behind source.tags) values)) (packet_of (value_at (type_behind source.tags) others))
    (sym (of_type values (value_at (type_behind source.tags) values)) ∙ at (type_behind source.tags) (omega arith) ∙ of_type others (value_at (type_behind source.tags) others))))
    (ap (λ (i : ℕ). get_or (with_value field (value_at field others) values).values i 0) (sym here)
    ∙ value-with_same field (value_at field others) values within ∙ sym (own field others)
    ∙ ap (λ (i : ℕ). get_or (with_value field (value_at field others) others).values i 0) here))
  where
    at : (f : Field) → place_of f < place_of field → dscp_reads source values f (value_at f values) ≡ dscp_reads source others f (value_at f others)
    at f less = before (λ f. dscp_reads source values f (value_at f values) ≡ dscp_reads source others f (value_at f others)) (place_of field) alike f less

    of_type : (w : Values) (v : ℕ) → dscp_reads source w (type_behind source.tags) v ≡ packet_number (packet_of v)
    of_type w v =
        let not_first : (place_of (type_behind source.tags) == 0) ≡ false = ne_eqb (place_of (type_behind source.tags)) 0 (λ e. not_zero (place_of (type_behind source.tags)) (type_first source.tags) e) in
        let same : (place_of (type_behind source.tags) == place_of (type_behind source.tags)) ≡ true = eq-eqb (place_of (type_behind source.tags)) (place_of (type_behind source.tags)) refl in
        rw (not_first, same) refl
      where
        not_zero : (n : ℕ) → 0 < n → n ≢ 0
        not_zero n h e = omega arith

-- what is read of a row's fields that come first is alike
abbrev pub ReadAlike : Row → List Field → Values → Values → Type 0
ReadAlike row some values others = All (λ f. row_reads row values f (value_at f values) ≡ row_reads row others f (value_at f others)) some

-- so it is of others' value behind them
pub reads_alike : (row : Row) (field : Field) (values others : Values) → place_of field < length values.values
    → ReadAlike row (take (place_of field) fields) values others
    → row_reads row values field (value_at field others) ≡ row_reads row others field (value_at field others)
reads_alike row field values others within alike = by_ends row.ends alike
  where
    by_source : (s : Source) → All (λ f. source_reads s values f (value_at f values) ≡ source_reads s others f (value_at f others)) (take (place_of field) fields)
        → source_reads s values field (value_at field others) ≡ source_reads s others field (value_at field others)
    by_source (Fixed priority) h = refl
    by_source FirstTag h = refl
    by_source SecondTag h = refl
    by_source (Dscp source) h = dscp_reads_alike source field values others within h

    by_ends : (e : Ends) → All (λ f. ends_read e values f (value_at f values) ≡ ends_read e others f (value_at f others)) (take (place_of field) fields)
        → ends_read e values field (value_at field others) ≡ ends_read e others field (value_at field others)
    by_ends (ends.Dropped reason) h = refl
    by_ends (ends.ByPriority source) h = by_source source h

-- what the priorities of added tags depend on is
abbrev pub MarkAlike : Row → List Field → Values → Values → Type 0
MarkAlike row some values others = All (λ f. row_marks row values f (value_at f values) ≡ row_marks row others f (value_at f others)) some

pub marks_alike : (row : Row) (field : Field) (values others : Values) → place_of field < length values.values
    → MarkAlike row (take (place_of field) fields) values others
    → row_marks row values field (value_at field others) ≡ row_marks row others field (value_at field others)
marks_alike row field values others within alike = by_marking row.marking alike
  where
    by_marking : (m : Option DscpSource)
        → All (λ f. marking_reads m values f (value_at f values) ≡ marking_reads m others f (value_at f others)) (take (place_of field) fields)
        → marking_reads m values field (value_at field others) ≡ marking_reads m others field (value_at field others)
    by_marking None h = refl
    by_marking (Some source) h = dscp_reads_alike source field values others within h
