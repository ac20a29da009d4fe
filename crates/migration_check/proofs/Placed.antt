-- Rows that ask what other rows ask, row by row: each frame has the row at its place.
use Rattle.std.proofs.Common.{◌≡◌, ◌∙◌, ◌+◌, ◌<◌, ◌≤◌, ◌⊎◌, ℕ, Bool, true, false, List, [], ◌∷◌, Option, Some, None, inl, inr, suc, arith, refl, ap, subst, sym, get_or, length}
use Rattle.std.specs.Prelude.{map, slice_index_or}
use Rattle.std.specs.List.{list_all}
use Rattle.std.specs.Option.{option_map}
use Rattle.std.proofs.lemmas.Bool.{cases_lt}
use Rattle.std.proofs.lemmas.List.{get_or_default, length-map}
use Rattle.mib_state.specs.Entities.{Entities}
use Rattle.frame_rows.specs.declared.ask.Ask.{Ask}
use Rattle.frame_rows.specs.declared.ask.Ask.TheVariants.{Any}
use Rattle.frame_rows.specs.declared.class.FrameClass.{FrameClass}
use Rattle.frame_rows.specs.declared.class.Use.{Use}
use Rattle.frame_rows.specs.declared.field.Values.{Values}
use Rattle.frame_rows.specs.declared.row.Row.{Row}
use Rattle.frame_rows.specs.declared.rows.Rows.{Rows}
use Rattle.frame_rows.specs.Ask.{admits}
use Rattle.frame_rows.specs.Class.{class_of}
use Rattle.frame_rows.specs.Field.{fields, place_of, value_at, values_of}
use Rattle.frame_rows.specs.Row.{class_of_row, first_row, passes, runt_row}
use Rattle.frame_rows.specs.Rows.{Mean}
use Rattle.frame_rows.specs.Sight.{AreSeen, IsLike, Leaves, Lost, Side, Sight, sight_by_row, sight_of}
use Rattle.frame_classes.specs.Classes.{IsFrame}
use Rattle.frame_classes.specs.Differences.{IsTorn}
use Rattle.frame_classes.specs.Told.{side_by}
use Rattle.migration_check.specs.Following.{AreAskedAlike, ChangedAreWhole, IsFollowed, IsHitlessBy, IsWholeBy, sight_at}
use Rattle.migration_check.specs.Migration.{IsHitlessAt}
use Rattle.migration_check.specs.Telling.{Tells}

-- ---- the first row that asks nothing else

first_asks : (a b : List Ask) (rest others : List (List Ask)) → a ∷ rest ≡ b ∷ others → a ≡ b
first_asks a b rest others e = cc

later_asks : (a b : List Ask) (rest others : List (List Ask)) → a ∷ rest ≡ b ∷ others → rest ≡ others
later_asks a b rest others e = cc

no_asks : (a : List Ask) (rest : List (List Ask)) → a ∷ rest ≡ [] → ⊥
no_asks a rest e = cc

passes_alike : (one other : Row) (values : Values) → one.asks ≡ other.asks → passes fields other values ≡ passes fields one values
passes_alike one other values same =
    ap (λ (asks : List Ask). list_all (λ field. admits (slice_index_or asks (place_of field) Any) (value_at field values)) fields) (sym same)

-- the first of either stands at one place, or there is none
pub record IsAtPlace (xs ys : List Row) (values : Values) : Type 0 where
  pub place : ℕ
  pub within : place < length ys
  pub one : first_row xs values ≡ Some (get_or xs place runt_row)
  pub other : first_row ys values ≡ Some (get_or ys place runt_row)

abbrev pub IsPlaced : List Row → List Row → Values → Type 0
IsPlaced xs ys values = ((first_row xs values ≡ None) × (first_row ys values ≡ None)) ⊎ IsAtPlace xs ys values

behind : (x y : Row) (xs ys : List Row) (values : Values) → passes fields x values ≡ false → passes fields y values ≡ false → IsPlaced xs ys values
    → IsPlaced (x ∷ xs) (y ∷ ys) values
behind x y xs ys values is is' (inl none) = inl (rw is none.0, rw is' none.1)
behind x y xs ys values is is' (inr at) = inr (record {
  place = suc at.place;
  within = omega (arith, at.within);
  one = rw is at.one;
  other = rw is' at.other;
})

first_of_both : (x y : Row) (xs ys : List Row) (values : Values) → passes fields x values ≡ true → passes fields y values ≡ true
    → IsPlaced (x ∷ xs) (y ∷ ys) values
first_of_both x y xs ys values is is' = inr (record {
  place = 0;
  within = omega arith;
  one = rw is refl;
  other = rw is' refl;
})

pub same_place : (xs ys : List Row) (values : Values) → map (λ (row : Row). row.asks) xs ≡ map (λ (row : Row). row.asks) ys → IsPlaced xs ys values
same_place [] [] values same = inl (refl, refl)
same_place [] (y ∷ ys) values same = absurd (no_asks y.asks _ (sym same))
same_place (x ∷ xs) [] values same = absurd (no_asks x.asks _ same)
same_place (x ∷ xs) (y ∷ ys) values same =
    by_pass (passes fields x values) refl (same_place xs ys values (later_asks x.asks y.asks _ _ same))
  where
    by_pass : (b : Bool) → passes fields x values ≡ b → IsPlaced xs ys values → IsPlaced (x ∷ xs) (y ∷ ys) values
    by_pass true is later = first_of_both x y xs ys values is (passes_alike x y values (first_asks x.asks y.asks _ _ same) ∙ is)
    by_pass false is later = behind x y xs ys values is (passes_alike x y values (first_asks x.asks y.asks _ _ same) ∙ is) later

pub same_length : (xs ys : List Row) → map (λ (row : Row). row.asks) xs ≡ map (λ (row : Row). row.asks) ys → length xs ≡ length ys
same_length xs ys same =
    sym (length-map xs (λ (row : Row). row.asks)) ∙ ap (λ (asks : List (List Ask)). length asks) same ∙ length-map ys (λ (row : Row). row.asks)

-- ---- what is seen by it

same_sight : (one other : Side) (o : Option Row) (bytes : List ℕ) → one.settings ≡ other.settings → one.endings ≡ other.endings
    → sight_by_row other o bytes ≡ sight_by_row one o bytes
same_sight one other None bytes p q = refl
same_sight one other (Some row) bytes p q = rw (p, q) refl

some_class : (one other : FrameClass) → Some one ≡ Some other → one ≡ other
some_class one other e = cc

used_by : (f : Entities) (port : ℕ) (side : Side) (bytes : List ℕ) (row : Row) → first_row side.rows (values_of bytes) ≡ Some row
    → option_map (λ (row : Row). class_of_row side.endings row (values_of bytes)) (first_row side.rows (values_of bytes)) ≡ Some (class_of f port bytes)
    → (class_of f port bytes).used ≡ row.used
used_by f port side bytes row first class =
    sym (ap (λ (c : FrameClass). c.used) (some_class (class_of_row side.endings row (values_of bytes)) (class_of f port bytes)
    (sym (ap (option_map (λ (row : Row). class_of_row side.endings row (values_of bytes))) first) ∙ class)))

-- a frame that is seen as before is torn no more than it was
as_before : (e f g : Entities) (port : ℕ) (last : Side) (bytes : List ℕ) → IsFrame 0 bytes → IsWholeBy e g port last → sight_of f port bytes ≡ sight_at last bytes
    → IsTorn e f g port bytes → ⊥
as_before e f g port last bytes frame was same torn =
    was.whole bytes frame (λ like. torn.before (subst (λ (s : Sight). IsLike s (sight_of e port bytes)) (sym same) like))
    (λ like. torn.after (subst (λ (s : Sight). IsLike s (sight_of g port bytes)) (sym same) like))

whole_at : (e f g : Entities) (port : ℕ) (last next : Side) → AreAskedAlike last next → AreSeen f port next → Mean f port next.endings next.rows
    → ChangedAreWhole e f g port last.rows next.rows → IsWholeBy e g port last → (bytes : List ℕ) → IsFrame 0 bytes → IsTorn e f g port bytes
    → IsPlaced last.rows next.rows (values_of bytes) → ⊥
whole_at e f g port last next alike seen mean changed was bytes frame torn (inl none) =
    as_before e f g port last bytes frame was (seen.sight bytes frame.bytes_fit ∙ ap (λ (o : Option Row). sight_by_row next o bytes) none.1
    ∙ ap (λ (o : Option Row). sight_by_row last o bytes) (sym none.0)) torn
whole_at e f g port last next alike seen mean changed was bytes frame torn (inr at) = by_change (changed.each at.place runt_row at.within)
  where
    by_change : (get_or last.rows at.place runt_row ≡ get_or next.rows at.place runt_row) ⊎ IsHitlessBy e f g port (get_or next.rows at.place runt_row).used → ⊥
    by_change (inl same) =
        as_before e f g port last bytes frame was (seen.sight bytes frame.bytes_fit ∙ ap (λ (o : Option Row). sight_by_row next o bytes) at.other
        ∙ same_sight last next (Some (get_or next.rows at.place runt_row)) bytes alike.settings alike.endings
        ∙ ap (λ (o : Option Row). sight_by_row last o bytes) (sym (at.one ∙ ap (λ (r : Row). Some r) same))) torn
    by_change (inr whole) =
        whole.whole bytes frame (used_by f port next bytes (get_or next.rows at.place runt_row) at.other (mean.class bytes frame.bytes_fit)) torn

pub whole : (e f g : Entities) (port : ℕ) (last next : Side) → AreAskedAlike last next → AreSeen f port next → Mean f port next.endings next.rows
    → ChangedAreWhole e f g port last.rows next.rows → IsWholeBy e g port last → IsHitlessAt e f g port
whole e f g port last next alike seen mean changed was = record {
  whole = λ bytes frame torn.
      whole_at e f g port last next alike seen mean changed was bytes frame torn (same_place last.rows next.rows (values_of bytes) alike.asks);
}

-- ---- what is told

pub told : (e f g : Entities) (port : ℕ) (last next : Side) (are : Bool) → AreAskedAlike last next → AreSeen f port next → Mean f port next.endings next.rows
    → (are ≡ true → ChangedAreWhole e f g port last.rows next.rows) → (are ≡ false → IsHitlessAt e f g port → ⊥) → IsWholeBy e g port last
    → Tells are (IsHitlessAt e f g port)
told e f g port last next true alike seen mean holds fails was = whole e f g port last next alike seen mean (holds refl) was
told e f g port last next false alike seen mean holds fails was = fails refl

-- none of the frames of one use is torn, where none is
pub by_use : (e f g : Entities) (port : ℕ) (used : Use) → IsHitlessAt e f g port → IsHitlessBy e f g port used
by_use e f g port used all = record { whole = λ bytes frame is torn. all.whole bytes frame torn }

-- ---- row by row

abbrev pub IsRowWhole : Entities → Entities → Entities → ℕ → List Row → List Row → ℕ → Row → Type 0
IsRowWhole e f g port last next place d = (get_or last place d ≡ get_or next place d) ⊎ IsHitlessBy e f g port (get_or next place d).used

-- one row more
pub changed_more : (e f g : Entities) (port : ℕ) (last next : List Row) (i : ℕ) (row beside : Row) → i < length last → i < length next
    → row ≡ get_or last i row → beside ≡ get_or next i beside
    → ((place : ℕ) (d : Row) → place < i → IsRowWhole e f g port last next place d) → (row ≡ beside) ⊎ IsHitlessBy e f g port beside.used
    → (place : ℕ) (d : Row) → place < i + 1 → IsRowWhole e f g port last next place d
changed_more e f g port last next i row beside long long' is is' before here place d within = by_case (cases_lt place i)
  where
    by_here : i ≡ place → (row ≡ beside) ⊎ IsHitlessBy e f g port beside.used → IsRowWhole e f g port last next place d
    by_here at (inl same) =
        inl (ap (λ (n : ℕ). get_or last n d) (sym at) ∙ get_or_default last i d row long ∙ sym is ∙ same ∙ is' ∙ get_or_default next i beside d long'
        ∙ ap (λ (n : ℕ). get_or next n d) at)
    by_here at (inr whole) =
        inr (subst (λ (r : Row). IsHitlessBy e f g port r.used) (is' ∙ get_or_default next i beside d long' ∙ ap (λ (n : ℕ). get_or next n d) at) whole)

    by_case : (place < i) ⊎ (i ≤ place) → IsRowWhole e f g port last next place d
    by_case (inl less) = before place d less
    by_case (inr least) =
        let at : i ≡ place = omega (arith, within, least) in
        by_here at here

-- ---- rows that were whole

-- the configuration before is whole by its own
like_itself : (s : Sight) → IsLike s s
like_itself (Leaves gem bytes) = (refl, refl)
like_itself (Lost reason) = tt

pub whole_first : (e g : Entities) (port : ℕ) (side : Side) → AreSeen e port side → IsWholeBy e g port side
whole_first e g port side seen = record {
  whole = λ bytes frame before after.
      before (subst (λ (s : Sight). IsLike s (sight_of e port bytes)) (seen.sight bytes frame.bytes_fit) (like_itself (sight_of e port bytes)));
}

-- and so is one between that tears none
pub whole_next : (e f g : Entities) (port : ℕ) (side : Side) → AreSeen f port side → IsHitlessAt e f g port → IsWholeBy e g port side
whole_next e f g port side seen all = record {
  whole = λ bytes frame before after.
      let is = seen.sight bytes frame.bytes_fit in
      all.whole bytes frame (record {
        before = λ like. before (subst (λ (s : Sight). IsLike s (sight_of e port bytes)) is like);
        after = λ like. after (subst (λ (s : Sight). IsLike s (sight_of g port bytes)) is like);
      });
}

-- ---- one step on

pub followed_none : (e f g : Entities) (port : ℕ) (is : Bool) → is ≡ false → Tells is (IsHitlessAt e f g port) → IsHitlessAt e f g port → ⊥
followed_none e f g port true is told = absurd (cc is)
followed_none e f g port false is told = told

pub followed : (e f g : Entities) (port : ℕ) (side : Side) (is : Bool) → is ≡ true → Tells is (IsHitlessAt e f g port) → AreSeen f port side
    → IsFollowed e f g port (Some side)
followed e f g port side true is told seen = (told, seen)
followed e f g port side false is told seen = absurd (cc is)

-- what was given says it
pub given_some : (e f g : Entities) (port : ℕ) (given : Option Rows) (next : Rows) → given ≡ Some next → IsFollowed e f g port (option_map side_by given)
    → IsFollowed e f g port (Some (side_by next))
given_some e f g port given next is told = subst (λ (o : Option Rows). IsFollowed e f g port (option_map side_by o)) is told

pub given_none : (e f g : Entities) (port : ℕ) (given : Option Rows) → given ≡ None → IsFollowed e f g port (option_map side_by given)
    → IsHitlessAt e f g port → ⊥
given_none e f g port given is told = subst (λ (o : Option Rows). IsFollowed e f g port (option_map side_by o)) is told
