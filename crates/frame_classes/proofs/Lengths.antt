-- Lengths that stand for all: each the greatest of those that rows don't tell apart.
use Rattle.std.proofs.Common.{◌≡◌, ℕ, zero, suc, ◌+◌, ◌*◌, ◌<◌, ◌≤◌, ◌==◌, ◌&&◌, ◌||◌, Bool, true, false, List, [], ◌∷◌, arith, refl, sym, subst, get_or, min, nat_le, nat_lt, ◌⊎◌, inl, inr, Option, Some, None}
use Rattle.std.specs.Prelude.{All, Any, Contains}
use Rattle.std.proofs.lemmas.Bool.{eqb-true, leb-false, leb-true, ltb-false, ltb-true, true≢false}
use Rattle.std.proofs.lemmas.List.{get_or_default}
use Rattle.std.proofs.lemmas.List.Elements.{All-weaker}
use Rattle.std.proofs.Math.Nat.{min-eq_left, min-le_left}
use Rattle.frame_rows.specs.declared.ask.Ask.{Ask}
use Rattle.frame_rows.specs.declared.ask.Ask.TheVariants.{Any as Anything, Exactly, Between, TagType, NoTagType, Ethertype}
use Rattle.frame_rows.specs.declared.field.Field.TheVariants.{Length}
use Rattle.frame_rows.specs.declared.field.Values.{Values}
use Rattle.frame_rows.specs.declared.source.Source.{Source}
use Rattle.frame_rows.specs.declared.source.Source.TheVariants.{Fixed, FirstTag, SecondTag, Dscp}
use Rattle.frame_rows.specs.declared.row.Ends.{Ends}
use Rattle.frame_rows.specs.declared.row.Ends.TheVariants as ends
use Rattle.frame_rows.specs.declared.row.Row.{Row}
use Rattle.frame_rows.specs.Ask.{admits}
use Rattle.frame_classes.specs.Choices.{IsTried, are_alike}
use Rattle.frame_rows.specs.Field.{fields, value_at}
use Rattle.frame_rows.specs.Fits.{asks_length, ends_fit, is_least, is_most, marking_fits}
use Rattle.frame_rows.specs.Row.{ask_at, ends_read, marking_reads}
use Rattle.frame_classes.specs.Splitting.{CanBe, IsCovered as IsStoodFor, IsNear, IsOf, Stands}
use Rattle.frame_classes.specs.Left.{rows_at}
use Rattle.frame_rows.specs.Sight.{Side}
use Rattle.frame_rows.specs.declared.source.DscpSource.{DscpSource}
use Rattle.frame_classes.proofs.Numbers.{still_left}
use Rattle.frame_classes.proofs.Standing.{CoverBy, FitsSome, IsCase, ends_fits_at, fits_at, marking_fits_at, other_can_be}
use Rattle.frame_classes.proofs.Types.{alike_stands}

-- ---- lengths that nothing tells apart

-- a length is at least another, and reaches no further end of a field
pub record IsSame (length other : ℕ) : Type 0 where
  pub longer : other ≤ length
  pub at_14 : 14 ≤ length → 14 ≤ other
  pub at_16 : 16 ≤ length → 16 ≤ other
  pub at_18 : 18 ≤ length → 18 ≤ other
  pub at_20 : 20 ≤ length → 20 ≤ other
  pub at_22 : 22 ≤ length → 22 ≤ other
  pub at_24 : 24 ≤ length → 24 ≤ other
  pub small : length ≤ 24

-- the lengths that are looked at
abbrev pub known_lengths : List ℕ
known_lengths = 24 ∷ 23 ∷ 21 ∷ 19 ∷ 17 ∷ 15 ∷ 13 ∷ []

-- one of them is like a length
pub record HasGreatest (length : ℕ) : Type 0 where
  pub place : ℕ
  pub within : place < 7
  pub same : IsSame (get_or known_lengths place 0) length

greatest_by : (place greatest length : ℕ) → place < 7 → get_or known_lengths place 0 ≡ greatest → IsSame greatest length → HasGreatest length
greatest_by place greatest length within is same =
    record { place = place; within = within; same = subst (λ (n : ℕ). IsSame n length) (sym is) same }

pub greatest : (length : ℕ) → length < 25 → HasGreatest length
greatest length small =
    by_case (nat_lt length 14) (nat_lt length 16) (nat_lt length 18) (nat_lt length 20) (nat_lt length 22) (nat_lt length 24) refl refl refl refl refl refl
  where
    by_case : (a b c d e f : Bool) → nat_lt length 14 ≡ a → nat_lt length 16 ≡ b → nat_lt length 18 ≡ c → nat_lt length 20 ≡ d → nat_lt length 22 ≡ e
        → nat_lt length 24 ≡ f → HasGreatest length
    by_case true b c d e f p q r s t u =
        let h : length < 14 = ltb-true length 14 p in
        greatest_by 6 13 length (omega arith) refl
        (record { longer = omega arith; at_14 = λ h. omega arith; at_16 = λ h. omega arith; at_18 = λ h. omega arith; at_20 = λ h. omega arith; at_22 = λ h. omega arith; at_24 = λ h. omega arith; small = omega arith })
    by_case false true c d e f p q r s t u =
        let l : 14 ≤ length = ltb-false length 14 p in
        let h : length < 16 = ltb-true length 16 q in
        greatest_by 5 15 length (omega arith) refl
        (record { longer = omega arith; at_14 = λ h. omega arith; at_16 = λ h. omega arith; at_18 = λ h. omega arith; at_20 = λ h. omega arith; at_22 = λ h. omega arith; at_24 = λ h. omega arith; small = omega arith })
    by_case false false true d e f p q r s t u =
        let l : 16 ≤ length = ltb-false length 16 q in
        let h : length < 18 = ltb-true length 18 r in
        greatest_by 4 17 length (omega arith) refl
        (record { longer = omega arith; at_14 = λ h. omega arith; at_16 = λ h. omega arith; at_18 = λ h. omega arith; at_20 = λ h. omega arith; at_22 = λ h. omega arith; at_24 = λ h. omega arith; small = omega arith })
    by_case false false false true e f p q r s t u =
        let l : 18 ≤ length = ltb-false length 18 r in
        let h : length < 20 = ltb-true length 20 s in
        greatest_by 3 19 length (omega arith) refl
        (record { longer = omega arith; at_14 = λ h. omega arith; at_16 = λ h. omega arith; at_18 = λ h. omega arith; at_20 = λ h. omega arith; at_22 = λ h. omega arith; at_24 = λ h. omega arith; small = omega arith })
    by_case false false false false true f p q r s t u =
        let l : 20 ≤ length = ltb-false length 20 s in
        let h : length < 22 = ltb-true length 22 t in
        greatest_by 2 21 length (omega arith) refl
        (record { longer = omega arith; at_14 = λ h. omega arith; at_16 = λ h. omega arith; at_18 = λ h. omega arith; at_20 = λ h. omega arith; at_22 = λ h. omega arith; at_24 = λ h. omega arith; small = omega arith })
    by_case false false false false false true p q r s t u =
        let l : 22 ≤ length = ltb-false length 22 t in
        let h : length < 24 = ltb-true length 24 u in
        greatest_by 1 23 length (omega arith) refl
        (record { longer = omega arith; at_14 = λ h. omega arith; at_16 = λ h. omega arith; at_18 = λ h. omega arith; at_20 = λ h. omega arith; at_22 = λ h. omega arith; at_24 = λ h. omega arith; small = omega arith })
    by_case false false false false false false p q r s t u =
        let l : 24 ≤ length = ltb-false length 24 u in
        greatest_by 0 24 length (omega arith) refl
        (record { longer = omega arith; at_14 = λ h. omega arith; at_16 = λ h. omega arith; at_18 = λ h. omega arith; at_20 = λ h. omega arith; at_22 = λ h. omega arith; at_24 = λ h. omega arith; small = omega arith })

-- ---- what rows make of them

same_least : (least length other : ℕ) → (least ≤ length → least ≤ other) → other ≤ length → nat_le least length ≡ nat_le least other
same_least least length other reaches longer = by_both (nat_le least length) (nat_le least other) refl refl
  where
    by_both : (a b : Bool) → nat_le least length ≡ a → nat_le least other ≡ b → nat_le least length ≡ nat_le least other
    by_both true true p q = rw (p, q) refl
    by_both true false p q =
        let there : least ≤ other = reaches (leb-true least length p) in
        let not_there : other < least = leb-false least other q in
        absurd (omega arith)
    by_both false true p q =
        let there : least ≤ other = leb-true least other q in
        let not_there : length < least = leb-false least length p in
        absurd (omega arith)
    by_both false false p q = rw (p, q) refl

same_most : (most length other : ℕ) → (most < length → most < other) → other ≤ length → nat_le length most ≡ nat_le other most
same_most most length other reaches longer = by_both (nat_le length most) (nat_le other most) refl refl
  where
    by_both : (a b : Bool) → nat_le length most ≡ a → nat_le other most ≡ b → nat_le length most ≡ nat_le other most
    by_both true true p q = rw (p, q) refl
    by_both true false p q =
        let there : length ≤ most = leb-true length most p in
        let not_there : most < other = leb-false other most q in
        absurd (omega arith)
    by_both false true p q =
        let there : other ≤ most = leb-true other most q in
        let not_there : most < other = reaches (leb-false length most p) in
        absurd (omega arith)
    by_both false false p q = rw (p, q) refl

-- a number that is one of four
one_of_four : (P : ℕ → Type 0) (a b c d n : ℕ) → (n == a || n == b || n == c || n == d) ≡ true → P a → P b → P c → P d → P n
one_of_four P a b c d n is pa pb pc pd = by_case (n == a) (n == b) (n == c) (n == d) refl refl refl refl
  where
    by_case : (one two three four : Bool) → (n == a) ≡ one → (n == b) ≡ two → (n == c) ≡ three → (n == d) ≡ four → P n
    by_case true two three four p q r s = subst P (sym (eqb-true n a p)) pa
    by_case false true three four p q r s = subst P (sym (eqb-true n b q)) pb
    by_case false false true four p q r s = subst P (sym (eqb-true n c r)) pc
    by_case false false false true p q r s = subst P (sym (eqb-true n d s)) pd
    by_case false false false false p q r s = absurd (true≢false (sym (rw (p, q, r, s) at is)))

and_left : (a b : Bool) → (a && b) ≡ true → a ≡ true
and_left true b h = refl
and_left false b h = h

and_right : (a b : Bool) → (a && b) ≡ true → b ≡ true
and_right true b h = h
and_right false b h = absurd (true≢false (sym h))

same_admits : (ask : Ask) (length other : ℕ) → asks_length ask ≡ true → IsSame length other → admits ask length ≡ admits ask other
same_admits Anything length other fits same = refl
same_admits (Exactly only) length other fits same = absurd (true≢false (sym fits))
same_admits (Between least most) length other fits same =
    let reach =
    one_of_four (λ (n : ℕ). n ≤ length → n ≤ other) 0 14 18 22 least (and_left (is_least least) (is_most most) fits) (λ h. omega arith) same.at_14 same.at_18
    same.at_22 in
    let pass =
    one_of_four (λ (n : ℕ). n < length → n < other) 13 17 21 24 most (and_right (is_least least) (is_most most) fits)
    (λ h. let k : 14 ≤ other = same.at_14 (omega arith) in omega arith)
    (λ h. let k : 18 ≤ other = same.at_18 (omega arith) in omega arith)
    (λ h. let k : 22 ≤ other = same.at_22 (omega arith) in omega arith) (λ h. let k : length ≤ 24 = same.small in absurd (omega arith)) in
    rw (same_least least length other reach same.longer, same_most most length other pass same.longer) refl
same_admits (TagType input filter) length other fits same = absurd (true≢false (sym fits))
same_admits (NoTagType input filter) length other fits same = absurd (true≢false (sym fits))
same_admits (Ethertype filter) length other fits same = absurd (true≢false (sym fits))

-- the DSCP behind at most two tags is there, or isn't
dscp_end : (tags length other : ℕ) → tags < 3 → IsSame length other → 16 + 4 * tags ≤ length → 16 + 4 * tags ≤ other
dscp_end tags length other few same h = by_count (nat_lt tags 1) (nat_lt tags 2) refl refl
  where
    by_count : (one two : Bool) → nat_lt tags 1 ≡ one → nat_lt tags 2 ≡ two → 16 + 4 * tags ≤ other
    by_count true two p q =
        let none : tags < 1 = ltb-true tags 1 p in
        let k : 16 ≤ other = same.at_16 (omega arith) in
        omega arith
    by_count false true p q =
        let some : 1 ≤ tags = ltb-false tags 1 p in
        let one : tags < 2 = ltb-true tags 2 q in
        let k : 20 ≤ other = same.at_20 (omega arith) in
        omega arith
    by_count false false p q =
        let more : 2 ≤ tags = ltb-false tags 2 q in
        let k : 24 ≤ other = same.at_24 (omega arith) in
        omega arith

same_reads : (e : Ends) (values others : Values) (length other : ℕ) → ends_fit e ≡ true → IsSame length other
    → ends_read e values Length length ≡ ends_read e others Length other
same_reads (ends.Dropped reason) values others length other fits same = refl
same_reads (ends.ByPriority source) values others length other fits same = by_source source fits
  where
    by_source : (s : Source) → ends_fit (ends.ByPriority s) ≡ true → ends_read (ends.ByPriority s) values Length length ≡ ends_read (ends.ByPriority s) others Length other
    by_source (Fixed priority) h = refl
    by_source FirstTag h = refl
    by_source SecondTag h = refl
    by_source (Dscp d) h =
        let few : d.tags < 3 = ltb-true d.tags 3 h in
        rw (same_least (16 + 4 * d.tags) length other (dscp_end d.tags length other few same) same.longer) refl

same_marks : (m : Option DscpSource) (values others : Values) (length other : ℕ) → marking_fits m ≡ true → IsSame length other
    → marking_reads m values Length length ≡ marking_reads m others Length other
same_marks None values others length other fits same = refl
same_marks (Some d) values others length other fits same =
    let few : d.tags < 3 = ltb-true d.tags 3 fits in
    rw (same_least (16 + 4 * d.tags) length other (dscp_end d.tags length other few same) same.longer) refl

-- what rows that fit ask and read of lengths, whatever the input TPID is
record LengthFits (row : Row) : Type 0 where
  pub asks : asks_length (ask_at row Length) ≡ true
  pub ends : ends_fit row.ends ≡ true
  pub marking : marking_fits row.marking ≡ true

length_fits_by : (sides : List Side) (row : Row) → FitsSome sides row → LengthFits row
length_fits_by sides row (i, side, within, is, fits) =
    let input = side.settings.input_tpid in
    record { asks = fits_at input row fits Length; ends = ends_fits_at input row fits; marking = marking_fits_at input row fits }

same_length : (left : List Row) (values others : Values) (length : ℕ) → All LengthFits left → IsSame length (value_at Length others)
    → Stands left Length values others length
same_length left values others length fits same =
    record {
      each = λ k d h.
          let row = get_or left k d in
          let fit = fits k d h in
          record {
            admits = same_admits (ask_at row Length) length (value_at Length others) fit.asks same;
            reads = λ _. same_reads row.ends values others length (value_at Length others) fit.ends same;
            marks = λ _. same_marks row.marking values others length (value_at Length others) fit.marking same;
          };
      longer = λ _. same.longer;
    }

-- ---- what was looked at

pub and_so : {X Y Z : Type 0} → X ⊎ Y → Z → X ⊎ (Y × Z)
and_so (inl x) z = inl x
and_so (inr y) z = inr (y, z)

-- a length is there, or a greater one that is like it
abbrev pub IsCovered : List Row → List ℕ → Values → List ℕ → ℕ → Type 0
IsCovered rows places values choices length =
    Any (λ c. ((c ≡ length) ⊎ (are_alike rows places values Length c length ≡ true)) × (length ≤ c)) choices

-- so it is for the first so many that a frame can have; all are at least as great as the next
pub record AreCovered (rows : List Row) (places : List ℕ) (values : Values) (least : ℕ) (choices : List ℕ) (count : ℕ) : Type 0 where
  pub each : (k : ℕ) → k < count → IsTried least (get_or known_lengths k 0) → IsCovered rows places values choices (get_or known_lengths k 0)
  pub greater : (c : ℕ) → Contains choices c → get_or known_lengths count 0 ≤ c
  pub fit : (c : ℕ) → Contains choices c → (c ≤ 24) × IsTried least c

pub none_covered : (rows : List Row) (places : List ℕ) (values : Values) (least : ℕ) (choices : List ℕ) → choices ≡ []
    → AreCovered rows places values least choices 0
none_covered rows places values least choices none =
    subst (λ (cs : List ℕ). AreCovered rows places values least cs 0) (sym none) (record {
      each = λ k h. absurd (omega arith);
      greater = λ c h. absurd (nothing h.1);
      fit = λ c h. absurd (nothing h.1);
    })
  where
    nothing : {k : ℕ} → k < 0 → ⊥
    nothing h = omega arith

-- they descend
descend : (k : ℕ) → k < 7 → get_or known_lengths (k + 1) 0 ≤ get_or known_lengths k 0
descend k within = by_place k within
  where
    by_place : (k : ℕ) → k < 7 → get_or known_lengths (k + 1) 0 ≤ get_or known_lengths k 0
    by_place zero h = omega arith
    by_place (suc zero) h = omega arith
    by_place (suc (suc zero)) h = omega arith
    by_place (suc (suc (suc zero))) h = omega arith
    by_place (suc (suc (suc (suc zero)))) h = omega arith
    by_place (suc (suc (suc (suc (suc zero))))) h = omega arith
    by_place (suc (suc (suc (suc (suc (suc zero)))))) h = omega arith
    by_place (suc (suc (suc (suc (suc (suc (suc k))))))) h = absurd (omega arith)

known_most : (k : ℕ) → k < 7 → get_or known_lengths k 0 ≤ 24
known_most k within = by_place k within
  where
    by_place : (k : ℕ) → k < 7 → get_or known_lengths k 0 ≤ 24
    by_place zero h = omega arith
    by_place (suc zero) h = omega arith
    by_place (suc (suc zero)) h = omega arith
    by_place (suc (suc (suc zero))) h = omega arith
    by_place (suc (suc (suc (suc zero)))) h = omega arith
    by_place (suc (suc (suc (suc (suc zero))))) h = omega arith
    by_place (suc (suc (suc (suc (suc (suc zero)))))) h = omega arith
    by_place (suc (suc (suc (suc (suc (suc (suc k))))))) h = absurd (omega arith)

-- what contains a value also holds it where something is asked of each
both : (P Q : ℕ → Type 0) (choices : List ℕ) → Any P choices → ((c : ℕ) → Contains choices c → Q c) → Any (λ c. P c × Q c) choices
both P Q choices (i, c, within, is, holds) each = (i, c, within, is, (holds, each c (i, within, is)))

pub cover_next : (rows : List Row) (places : List ℕ) (values : Values) (least : ℕ) (choices more : List ℕ) (count : ℕ) → count < 7
    → ((c : ℕ) → Contains choices c → Contains more c)
    → ((c : ℕ) → Contains more c → Contains choices c ⊎ ((c ≡ get_or known_lengths count 0) × IsTried least (get_or known_lengths count 0)))
    → (IsTried least (get_or known_lengths count 0)
    → Any (λ c. (c ≡ get_or known_lengths count 0) ⊎ (are_alike rows places values Length c (get_or known_lengths count 0) ≡ true)) more)
    → AreCovered rows places values least choices count → AreCovered rows places values least more (count + 1)
cover_next rows places values least choices more count within kept only stands before =
    record { each = each; greater = λ c h. later c (greater c h); fit = fit }
  where
    greater : (c : ℕ) → Contains more c → get_or known_lengths count 0 ≤ c
    greater c h = by_where (only c h)
      where
        by_where : Contains choices c ⊎ ((c ≡ get_or known_lengths count 0) × IsTried least (get_or known_lengths count 0)) → get_or known_lengths count 0 ≤ c
        by_where (inl there) = before.greater c there
        by_where (inr (is, tried)) = omega arith

    later : (c : ℕ) → get_or known_lengths count 0 ≤ c → get_or known_lengths (count + 1) 0 ≤ c
    later c h =
        let next = descend count within in
        omega arith

    fit : (c : ℕ) → Contains more c → (c ≤ 24) × IsTried least c
    fit c h = by_where (only c h)
      where
        by_where : Contains choices c ⊎ ((c ≡ get_or known_lengths count 0) × IsTried least (get_or known_lengths count 0)) → (c ≤ 24) × IsTried least c
        by_where (inl there) = before.fit c there
        by_where (inr (is, tried)) =
            let most = known_most count within in
            (omega arith, subst (IsTried least) (sym is) tried)

    old : (k : ℕ) → IsCovered rows places values choices (get_or known_lengths k 0) → IsCovered rows places values more (get_or known_lengths k 0)
    old k (i, c, inside, is, holds) =
        let there = kept c (i, inside, is) in
        (there.0, c, there.1, there.2, holds)

    each : (k : ℕ) → k < count + 1 → IsTried least (get_or known_lengths k 0) → IsCovered rows places values more (get_or known_lengths k 0)
    each k h tried = by_place (nat_lt k count) refl
      where
        by_place : (b : Bool) → nat_lt k count ≡ b → IsCovered rows places values more (get_or known_lengths k 0)
        by_place true is =
            let less : k < count = ltb-true k count is in
            old k (before.each k less tried)
        by_place false is =
            let past : count ≤ k = ltb-false k count is in
            let here : count ≡ k = omega arith in
            subst (λ (n : ℕ). IsCovered rows places values more (get_or known_lengths n 0)) here
            (both (λ c. (c ≡ get_or known_lengths count 0) ⊎ (are_alike rows places values Length c (get_or known_lengths count 0) ≡ true))
            (λ c. get_or known_lengths count 0 ≤ c) more (stands (subst (λ (n : ℕ). IsTried least (get_or known_lengths n 0)) (sym here) tried)) greater)

-- ---- all

-- the greatest is looked at
tried_greatest : (least length other : ℕ) → min 24 least ≤ other → other ≤ length → length ≤ 24 → IsTried least length
tried_greatest least length other long longer small = by_case (nat_le least length) refl
  where
    by_case : (b : Bool) → nat_le least length ≡ b → IsTried least length
    by_case true is = inr (leb-true least length is)
    by_case false is =
        let past : length < least = leb-false least length is in
        by_least (nat_le 24 least) refl past
      where
        by_least : (b : Bool) → nat_le 24 least ≡ b → length < least → IsTried least length
        by_least true h past =
            let all : min 24 least ≡ 24 = min-eq_left (leb-true 24 least h) in
            inl (omega arith)
        by_least false h past =
            let short : least < 24 = leb-false 24 least h in
            absurd (omega (arith, long))

pub length_choices : (sides : List Side) (rows : List Row) (least : ℕ) (values : Values) (places choices : List ℕ) (count : ℕ) → count ≡ 7
    → IsCase sides rows [] values places → AreCovered rows places values least choices count → CoverBy sides rows places least Length values choices
length_choices sides rows least values places choices count all is covered =
    record { within = within; each = each }
  where
    within : All (CanBe least (value_at Length values) Length) choices
    within k d h =
        let fit = covered.fit (get_or choices k d) (k, h, get_or_default choices k (get_or choices k d) d h) in
        record {
          below = omega (arith, fit.0);
          absent = λ short. absurd (omega arith);
          long = λ _. long (get_or choices k d) fit.0 fit.1;
        }
      where
        long : (c : ℕ) → c ≤ 24 → IsTried least c → min 24 least ≤ c
        long c most (inl is) =
            let h = min-le_left 24 least in
            omega arith
        long c most (inr h) = omega arith

    left_fits : All LengthFits (rows_at rows places)
    left_fits = still_left LengthFits rows [] values places is.left (All-weaker (FitsSome sides) LengthFits (length_fits_by sides) rows is.fits)

    each : (others : Values) → IsOf least fields others → IsNear rows [] values others
        → IsStoodFor sides places (rows_at rows places) Length values others choices
    each others of near =
        let can = other_can_be least others of Length in
        let found = greatest (value_at Length others) can.below in
        let tried = tried_greatest least (get_or known_lengths found.place 0) (value_at Length others) (can.long refl) found.same.longer found.same.small in
        inr (inr (
          inl (record { early = omega arith; type = inr (inl refl) }),
          by_cover (get_or known_lengths found.place 0) found.same (covered.each found.place (omega (arith, found.within)) tried),
        ))
      where
        by_cover : (length : ℕ) → IsSame length (value_at Length others) → IsCovered rows places values choices length
            → Any (Stands (rows_at rows places) Length values others) choices
        by_cover length same (i, c, inside, there, (inl here, greater)) = (
          i,
          c,
          inside,
          there,
          subst (Stands (rows_at rows places) Length values others) (sym here) (same_length (rows_at rows places) values others length left_fits same),
        )
        by_cover length same (i, c, inside, there, (inr alike, greater)) =
            let longer = same.longer in (
              i,
              c,
              inside,
              there,
              alike_stands rows Length values others c length places alike (same_length (rows_at rows places) values others length left_fits same)
                  (λ _. omega arith),
            )
