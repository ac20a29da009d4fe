-- Of several values that stand for another, one by which sides see frames otherwise as they do by that.
use Rattle.std.proofs.Common.{◌≡◌, ◌≢◌, ℕ, ◌<◌, ◌==◌, Bool, true, false, not, ◌||◌, [], ◌∷◌, Option, Some, None, arith, refl, ap, sym, length, ◌∙◌}
use Rattle.std.specs.Prelude.{All, IsTrue}
use Rattle.std.proofs.lemmas.Bool.{true≢false}
use Rattle.std.proofs.lemmas.List.Elements.{All-head, All-tail}
use Rattle.frame_rows.specs.declared.class.Ending.{Ending}
use Rattle.frame_rows.specs.declared.class.Ending.TheVariants.{Gem, Dropped}
use Rattle.frame_rows.specs.declared.field.Field.{Field}
use Rattle.frame_rows.specs.declared.field.Values.{Values}
use Rattle.frame_rows.specs.declared.row.Row.{Row}
use Rattle.frame_rows.specs.Field.{fields, place_of, value_at, with_value}
use Rattle.frame_rows.specs.Fits.{row_fits}
use Rattle.frame_rows.specs.Words.{limit_of}
use Rattle.frame_rows.specs.Source.{dscp_behind}
use Rattle.frame_rows.specs.Row.{ending_of, first_row, passes}
use Rattle.frame_rows.specs.Rows.{IsMarked}
use Rattle.frame_rows.specs.Sight.{Side, endings_apart, rows_apart, seen_apart}
use Rattle.frame_rows.proofs.Means.{found_has}
use Rattle.frame_classes.specs.Beside.{SideFits, SideMarks}
use Rattle.frame_classes.specs.Splitting.{HasSeveral, IsNear}
use Rattle.frame_classes.proofs.Points.{two_points}
use Rattle.frame_classes.proofs.Pairs.{IsPair, agree_at, seen_changed, seen_if, seen_others}

-- ---- endings that differ

-- they differ all the more where the tags do
more_apart : (reasons : Bool) (one other : Ending) (b : Bool) → endings_apart reasons one other false ≡ true → endings_apart reasons one other b ≡ true
more_apart reasons (Gem gem) (Gem gem') b h = by_gem (not (gem == gem')) h
  where
    by_gem : (a : Bool) → (a || false) ≡ true → (a || b) ≡ true
    by_gem true h = refl
    by_gem false h = absurd (true≢false (sym h))
more_apart reasons (Gem gem) (Dropped reason) b h = refl
more_apart reasons (Dropped reason) (Gem gem) b h = refl
more_apart reasons (Dropped reason) (Dropped reason') b h = h

-- and so, where tags that are the same with one value are with another
pub apart_through : (reasons : Bool) (one other : Ending) (here there : Bool) → (there ≡ true → here ≡ true)
    → endings_apart reasons one other (not here) ≡ true → endings_apart reasons one other (not there) ≡ true
apart_through reasons one other here true through h =
    ap (λ (b : Bool). endings_apart reasons one other (not b)) (sym (through refl)) ∙ h
apart_through reasons one other true false through h = more_apart reasons one other true h
apart_through reasons one other false false through h = h

-- ---- the first rows of two sides

none_apart : (reasons : Bool) (one other : Side) (others : Values) (row row' : Option Row) → rows_apart reasons one other others row row' ≡ true
    → (r : Row) × ((r' : Row) × ((row ≡ Some r) × (row' ≡ Some r')))
none_apart reasons one other others None row' h = absurd (true≢false (sym h))
none_apart reasons one other others (Some row) None h = absurd (true≢false (sym h))
none_apart reasons one other others (Some row) (Some row') h = (row, (row', (refl, refl)))

-- two sides that see others otherwise
pub pair_of : (reasons : Bool) (one other : Side) (others : Values) → length others.values ≡ 11 → SideFits one → SideFits other → SideMarks one → SideMarks other
    → seen_apart reasons one other others ≡ true → (row : Row) × ((row' : Row) × IsPair one other others row row')
pair_of reasons one other others eleven fits fits' marked marked' apart =
    by_rows (none_apart reasons one other others (first_row one.rows others) (first_row other.rows others) apart)
  where
    by_rows : (r : Row) × ((r' : Row) × ((first_row one.rows others ≡ Some r) × (first_row other.rows others ≡ Some r')))
        → (row : Row) × ((row' : Row) × IsPair one other others row row')
    by_rows (row, (row', (is, is'))) = (
      row,
      (
        row',
        record {
          eleven = eleven;
          first = is;
          second = is';
          fit = found_has (λ row. IsTrue (row_fits one.settings.input_tpid row)) (λ row. passes fields row others) one.rows row fits is;
          fit' = found_has (λ row. IsTrue (row_fits other.settings.input_tpid row)) (λ row. passes fields row others) other.rows row' fits' is';
          marked = found_has (IsMarked one.settings) (λ row. passes fields row others) one.rows row marked is;
          marked' = found_has (IsMarked other.settings) (λ row. passes fields row others) other.rows row' marked' is';
        },
      ),
    )

-- where tags that are the same with a value are so with others', both see the frame with it otherwise as they see others
pub stays_apart : (reasons : Bool) (one other : Side) (field : Field) (others : Values) (row row' : Row) (c : ℕ) → IsPair one other others row row'
    → IsNear one.rows fields (with_value field c others) others → IsNear other.rows fields (with_value field c others) others
    → (agree_at one other field others row row' c ≡ true → agree_at one other field others row row' (value_at field others) ≡ true)
    → seen_apart reasons one other others ≡ true → seen_apart reasons one other (with_value field c others) ≡ true
stays_apart reasons one other field others row row' c pair near near' through apart =
    seen_changed reasons one other field others row row' c pair near near'
    ∙ apart_through reasons (ending_of one.endings row.ends others) (ending_of other.endings row'.ends others)
    (agree_at one other field others row row' (value_at field others)) (agree_at one other field others row row' c) through
    (sym (seen_others reasons one other field others row row' pair) ∙ apart)

-- ---- values that are none of two

-- of values that are good, at most one isn't as it should be, and any other is shown
pub record Relation (good : ℕ → Type 0) (shown : ℕ → Bool) : Type 0 where
  pub bad : ℕ → Bool
  pub two : (x y : ℕ) → good x → good y → x ≢ y → bad x ≡ true → bad y ≡ true → ⊥
  pub enough : (x : ℕ) → good x → bad x ≡ false → shown x ≡ true

pub choose_one : {good : ℕ → Type 0} {shown : ℕ → Bool} → HasSeveral 2 good → Relation good shown → (c : ℕ) × (good c × (shown c ≡ true))
choose_one {good} {shown} several relation = by_first (several [] (omega arith))
  where
    by_first : (c : ℕ) × (good c × All (λ other. c ≢ other) []) → (c : ℕ) × (good c × (shown c ≡ true))
    by_first (c, (is_good, any)) = by_bad (relation.bad c) refl
      where
        by_bad : (b : Bool) → relation.bad c ≡ b → (c : ℕ) × (good c × (shown c ≡ true))
        by_bad false fine = (c, (is_good, relation.enough c is_good fine))
        by_bad true bad = by_second (several (c ∷ []) (omega arith))
          where
            by_second : (d : ℕ) × (good d × All (λ other. d ≢ other) (c ∷ [])) → (c : ℕ) × (good c × (shown c ≡ true))
            by_second (d, (good_d, apart)) = by_other (relation.bad d) refl
              where
                by_other : (b : Bool) → relation.bad d ≡ b → (c : ℕ) × (good c × (shown c ≡ true))
                by_other false fine = (d, (good_d, relation.enough d good_d fine))
                by_other true bad' = absurd (relation.two d c good_d is_good (All-head (λ other. d ≢ other) c [] apart) bad' bad)

-- of three, one is shown by both
pub choose_two : {good : ℕ → Type 0} {shown shown' : ℕ → Bool} → HasSeveral 3 good → Relation good shown → Relation good shown'
    → (c : ℕ) × (good c × ((shown c ≡ true) × (shown' c ≡ true)))
choose_two {good} {shown} {shown'} several one other = by_first (several [] (omega arith))
  where
    Answer : Type 0
    Answer = (c : ℕ) × (good c × ((shown c ≡ true) × (shown' c ≡ true)))

    -- a value that is bad by one: the others are fine by it
    past_one : (c : ℕ) → good c → one.bad c ≡ true → Answer
    past_one c good_c bad = by_second (several (c ∷ []) (omega arith))
      where
        fine : (d : ℕ) → good d → d ≢ c → one.bad d ≡ false
        fine d good_d apart = by_bad (one.bad d) refl
          where
            by_bad : (b : Bool) → one.bad d ≡ b → one.bad d ≡ false
            by_bad false is = is
            by_bad true is = absurd (one.two d c good_d good_c apart is bad)

        by_second : (d : ℕ) × (good d × All (λ other. d ≢ other) (c ∷ [])) → Answer
        by_second (d, (good_d, apart)) = by_bad (other.bad d) refl
          where
            from_c : d ≢ c
            from_c = All-head (λ other. d ≢ other) c [] apart

            by_bad : (b : Bool) → other.bad d ≡ b → Answer
            by_bad false is = (d, (good_d, (one.enough d good_d (fine d good_d from_c), other.enough d good_d is)))
            by_bad true is = by_third (several (c ∷ d ∷ []) (omega arith))
              where
                by_third : (e : ℕ) × (good e × All (λ other. e ≢ other) (c ∷ d ∷ [])) → Answer
                by_third (e, (good_e, apart')) = by_last (other.bad e) refl
                  where
                    from_c' : e ≢ c
                    from_c' = All-head (λ other. e ≢ other) c (d ∷ []) apart'

                    from_d : e ≢ d
                    from_d = All-head (λ other. e ≢ other) d [] (All-tail (λ other. e ≢ other) c (d ∷ []) apart')

                    by_last : (b : Bool) → other.bad e ≡ b → Answer
                    by_last false is' = (e, (good_e, (one.enough e good_e (fine e good_e from_c'), other.enough e good_e is')))
                    by_last true is' = absurd (other.two e d good_e good_d from_d is' is)

    -- and a value that is bad by the other alone
    past_other : (c : ℕ) → good c → other.bad c ≡ true → Answer
    past_other c good_c bad = by_second (several (c ∷ []) (omega arith))
      where
        fine : (d : ℕ) → good d → d ≢ c → other.bad d ≡ false
        fine d good_d apart = by_bad (other.bad d) refl
          where
            by_bad : (b : Bool) → other.bad d ≡ b → other.bad d ≡ false
            by_bad false is = is
            by_bad true is = absurd (other.two d c good_d good_c apart is bad)

        by_second : (d : ℕ) × (good d × All (λ other. d ≢ other) (c ∷ [])) → Answer
        by_second (d, (good_d, apart)) = by_bad (one.bad d) refl
          where
            from_c : d ≢ c
            from_c = All-head (λ other. d ≢ other) c [] apart

            by_bad : (b : Bool) → one.bad d ≡ b → Answer
            by_bad false is = (d, (good_d, (one.enough d good_d is, other.enough d good_d (fine d good_d from_c))))
            by_bad true is = by_third (several (c ∷ d ∷ []) (omega arith))
              where
                by_third : (e : ℕ) × (good e × All (λ other. e ≢ other) (c ∷ d ∷ [])) → Answer
                by_third (e, (good_e, apart')) = by_last (one.bad e) refl
                  where
                    from_c' : e ≢ c
                    from_c' = All-head (λ other. e ≢ other) c (d ∷ []) apart'

                    from_d : e ≢ d
                    from_d = All-head (λ other. e ≢ other) d [] (All-tail (λ other. e ≢ other) c (d ∷ []) apart')

                    by_last : (b : Bool) → one.bad e ≡ b → Answer
                    by_last false is' = (e, (good_e, (one.enough e good_e is', other.enough e good_e (fine e good_e from_c'))))
                    by_last true is' = absurd (one.two e d good_e good_d from_d is' is)

    by_first : (c : ℕ) × (good c × All (λ other. c ≢ other) []) → Answer
    by_first (c, (good_c, any)) = by_both (one.bad c) (other.bad c) refl refl
      where
        by_both : (a b : Bool) → one.bad c ≡ a → other.bad c ≡ b → Answer
        by_both true b is is' = past_one c good_c is
        by_both false true is is' = past_other c good_c is'
        by_both false false is is' = (c, (good_c, (one.enough c good_c is, other.enough c good_c is')))

-- ---- what is seen otherwise with all but one of them

pub relation_of : (reasons : Bool) (one other : Side) (field : Field) (others : Values) (row row' : Row) (good : ℕ → Type 0) → IsPair one other others row row'
    → 3 < place_of field → ((x : ℕ) → good x → x < limit_of field)
    → ((x : ℕ) → good x → IsNear one.rows fields (with_value field x others) others)
    → ((x : ℕ) → good x → IsNear other.rows fields (with_value field x others) others)
    → seen_apart reasons one other others ≡ true → Relation good (λ x. seen_apart reasons one other (with_value field x others))
relation_of reasons one other field others row row' good pair late below near near' apart = by_endings (endings_apart reasons ends ends' false) refl
  where
    ends : Ending
    ends = ending_of one.endings row.ends others

    ends' : Ending
    ends' = ending_of other.endings row'.ends others

    v : ℕ
    v = value_at field others

    at_others : seen_if reasons one other others row row' (agree_at one other field others row row' v) ≡ true
    at_others = sym (seen_others reasons one other field others row row' pair) ∙ apart

    by_endings : (b : Bool) → endings_apart reasons ends ends' false ≡ b → Relation good (λ x. seen_apart reasons one other (with_value field x others))
    by_endings true is =
        record {
          bad = λ x. false;
          two = λ x y p q e h k. true≢false (sym h);
          enough = λ x p h.
              seen_changed reasons one other field others row row' x pair (near x p) (near' x p)
              ∙ more_apart reasons ends ends' (not (agree_at one other field others row row' x)) is;
        }
    by_endings false is =
        record {
          bad = agree_at one other field others row row';
          two = λ x y p q e h k.
              true≢false (sym at_others
              ∙ ap (λ (b : Bool). endings_apart reasons ends ends' (not b))
              (two_points one.settings other.settings row row' _ (dscp_behind row.tags others) (dscp_behind row'.tags others) field others x y v late pair.eleven
              (below x p) (below y q) e h k)
              ∙ is);
          enough = λ x p h.
              stays_apart reasons one other field others row row' x pair (near x p) (near' x p) (λ t. absurd (true≢false (sym t ∙ h))) apart;
        }
