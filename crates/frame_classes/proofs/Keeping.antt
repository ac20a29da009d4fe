-- What is told of one case, kept.
use Rattle.std.proofs.Common.{◌≡◌, ℕ, ◌<◌, ◌≤◌, Bool, true, false, if◌then◌else◌, List, [], Option, Some, None, arith, refl, ap, sym, subst, length, get_or, ◌∙◌}
use Rattle.std.specs.Prelude.{All, Any, Contains, IsTrue, map}
use Rattle.std.proofs.lemmas.Bool.{true≢false}
use Rattle.std.proofs.lemmas.List.Elements.{All-nil}
use Rattle.std.proofs.lemmas.List.{get_or-map, length-map, take_all}
use Rattle.frame_rows.specs.declared.class.Use.{Use}
use Rattle.frame_rows.specs.declared.field.Values.{Values}
use Rattle.frame_rows.specs.Field.{fields}
use Rattle.frame_rows.specs.Sight.{Side}
use Rattle.frame_classes.specs.declared.found.Sample.{Sample}
use Rattle.frame_classes.specs.declared.told.Told.{Told}
use Rattle.frame_classes.specs.Found.{Ascend, number_of, put_in, told_of}
use Rattle.frame_classes.specs.Splitting.{Agree, AreAllFound, AreMore, AreTold, AreWanted, IsOf, IsSample}
use Rattle.frame_classes.specs.Told.{classes_at, is_shown, is_wanted, told_by, told_fits, told_number}
use Rattle.frame_classes.proofs.PutIn.{All-put_in, ascend_by_put_in, kept_by_put_in, there_by_put_in}
use Rattle.frame_classes.proofs.ToldNumbers.{told_same}

-- ---- at the last field

-- values that agree in all fields are the same
values_same : (values others : Values) → length values.values ≡ 11 → Agree 11 values others → others ≡ values
values_same values others eleven agree =
    ap of_items (sym (take_all 11 others.values (full others.values agree.0)) ∙ agree.1 ∙ take_all 11 values.values (full values.values eleven))
  where
    of_items : List ℕ → Values
    of_items items = record { values = items }

    full : (xs : List ℕ) → length xs ≡ 11 → length xs ≤ 11
    full xs e = omega arith

some_same : (one other : Told) → Some one ≡ Some other → one ≡ other
some_same one other e = cc

none_some : (told : Told) → None ≡ Some told → ⊥
none_some told e = cc

pub all_at_leaf : (sides : List Side) (wanted : Option Use) (least : ℕ) (values : Values) (samples : List Sample) → length values.values ≡ 11
    → ((told : Told) → told_by sides values ≡ Some told → is_wanted wanted told ≡ true → Contains (told_of samples) told)
    → AreAllFound sides wanted least 11 values samples
all_at_leaf sides wanted least values samples eleven there =
    record {
      found = λ others told of agree tells looked.
          there told (subst (λ (v : Values). told_by sides v ≡ Some told) (values_same values others eleven agree) tells) looked;
    }

-- what is told is what the sides' classes say, if it is shown
told_shown : (sides : List Side) (values : Values) (told : Told) → classes_at sides values ≡ Some told → is_shown sides values ≡ true
    → told_by sides values ≡ Some told
told_shown sides values told classes shown = rw shown classes

pub told_is : (sides : List Side) (values : Values) (told other : Told) → classes_at sides values ≡ Some told → told_by sides values ≡ Some other → told ≡ other
told_is sides values told other classes tells = by_shown (is_shown sides values) refl tells
  where
    by_shown : (b : Bool) → is_shown sides values ≡ b → (if is_shown sides values then classes_at sides values else None) ≡ Some other → told ≡ other
    by_shown true is h = some_same told other (sym classes ∙ (rw is at h))
    by_shown false is h = absurd (none_some other (rw is at h))

-- ---- nothing more

pub none_more : (sides : List Side) (least : ℕ) (before : List Sample) → All (IsSample sides least) before → Ascend before → AreMore sides least before before
none_more sides least before samples ascend = record { kept = λ told h. h; samples = samples; ascend = ascend }

-- where no class is
pub none_told : (sides : List Side) (wanted : Option Use) (least : ℕ) (values : Values) (samples : List Sample) → length values.values ≡ 11
    → None ≡ classes_at sides values → AreAllFound sides wanted least 11 values samples
none_told sides wanted least values samples eleven none =
    all_at_leaf sides wanted least values samples eleven (λ told tells looked. absurd (never told tells))
  where
    never : (told : Told) → told_by sides values ≡ Some told → ⊥
    never told tells = by_shown (is_shown sides values) refl tells
      where
        by_shown : (b : Bool) → is_shown sides values ≡ b → (if is_shown sides values then classes_at sides values else None) ≡ Some told → ⊥
        by_shown true is h = none_some told (none ∙ (rw is at h))
        by_shown false is h = none_some told (rw is at h)

-- where it isn't to be told
pub not_shown : (sides : List Side) (wanted : Option Use) (least : ℕ) (values : Values) (samples : List Sample) → length values.values ≡ 11
    → is_shown sides values ≡ false → AreAllFound sides wanted least 11 values samples
not_shown sides wanted least values samples eleven hidden =
    all_at_leaf sides wanted least values samples eleven (λ told tells looked. absurd (none_some told (rw hidden at tells)))

-- something whose number is there is there
pub told_there : (sides : List Side) (least : ℕ) (told : Told) (samples : List Sample) → IsTrue (told_fits told) → All (IsSample sides least) samples
    → Any (λ s. number_of s ≡ told_number told) samples → Contains (told_of samples) told
told_there sides least told samples fits all (k, sample, within, is, same) =
    (k, within_too, get_or-map (λ s. s.told) samples k sample told within ∙ at_place)
  where
    within_too : k < length (map (λ (s : Sample). s.told) samples)
    within_too =
        let same = length-map samples (λ (s : Sample). s.told) in
        omega arith

    here : get_or samples k sample ≡ sample
    here = is

    at_place : (get_or samples k sample).told ≡ told
    at_place = ap (λ (s : Sample). s.told) here ∙ told_same sample.told told (subst (λ (s : Sample). IsTrue (told_fits s.told)) here (all k sample within).fits) fits same

pub there_before : (sides : List Side) (wanted : Option Use) (least : ℕ) (values : Values) (told : Told) (samples : List Sample) → length values.values ≡ 11
    → classes_at sides values ≡ Some told → IsTrue (told_fits told) → All (IsSample sides least) samples
    → Any (λ s. number_of s ≡ told_number told) samples → AreAllFound sides wanted least 11 values samples
there_before sides wanted least values told samples eleven classes fits all there =
    all_at_leaf sides wanted least values samples eleven (λ other tells looked.
    subst (λ (t : Told). Contains (told_of samples) t) (told_is sides values told other classes tells) (told_there sides least told samples fits all there))

-- ---- one more

pub leaf_more : (sides : List Side) (least : ℕ) (values : Values) (told : Told) (before after : List Sample) → classes_at sides values ≡ Some told
    → is_shown sides values ≡ true → IsOf least fields values → IsTrue (told_fits told) → All (IsSample sides least) before → Ascend before
    → after ≡ put_in (record { told = told; values = values }) before → AreMore sides least before after
leaf_more sides least values told before after classes shown of fits samples ascend grown =
    let new : Sample = record { told = told; values = values } in
    subst (λ (after : List Sample). AreMore sides least before after) (sym grown) (record {
      kept = kept_by_put_in new before;
      samples = All-put_in (IsSample sides least) new before (record { told = told_shown sides values told classes shown; values = of; fits = fits }) samples;
      ascend = ascend_by_put_in new before ascend;
    })

pub leaf_every : (sides : List Side) (wanted : Option Use) (least : ℕ) (values : Values) (told : Told) (before after : List Sample) → length values.values ≡ 11
    → classes_at sides values ≡ Some told → IsTrue (told_fits told) → All (IsSample sides least) before
    → after ≡ put_in (record { told = told; values = values }) before → AreAllFound sides wanted least 11 values after
leaf_every sides wanted least values told before after eleven classes fits samples grown =
    let new : Sample = record { told = told; values = values } in
    subst (λ (after : List Sample). AreAllFound sides wanted least 11 values after) (sym grown)
    (all_at_leaf sides wanted least values (put_in new before) eleven (λ other tells looked.
    subst (λ (t : Told). Contains (told_of (put_in new before)) t) (told_is sides values told other classes tells)
    (there_by_put_in new before (λ k d within equal. told_same (get_or before k d).told told (samples k d within).fits fits equal))))

-- what isn't looked for needn't be there
pub not_wanted : (sides : List Side) (wanted : Option Use) (least : ℕ) (values : Values) (told : Told) (samples : List Sample) → length values.values ≡ 11
    → classes_at sides values ≡ Some told → is_wanted wanted told ≡ false → AreAllFound sides wanted least 11 values samples
not_wanted sides wanted least values told samples eleven classes other =
    all_at_leaf sides wanted least values samples eleven (λ t tells looked.
    absurd (true≢false (sym looked ∙ ap (is_wanted wanted) (sym (told_is sides values told t classes tells)) ∙ other)))

-- and what is put there is looked for
pub wanted_more : (wanted : Option Use) (values : Values) (told : Told) (before after : List Sample) → is_wanted wanted told ≡ true
    → after ≡ put_in (record { told = told; values = values }) before → AreWanted wanted before → AreWanted wanted after
wanted_more wanted values told before after looked grown all =
    subst (AreWanted wanted) (sym grown) (All-put_in (λ (s : Sample). is_wanted wanted s.told ≡ true) (record { told = told; values = values }) before looked all)

-- ---- all frames

pub told_of_all : (sides : List Side) (wanted : Option Use) (least : ℕ) (before after : List Sample) → AreMore sides least before after
    → (AreWanted wanted before → AreWanted wanted after) → before ≡ []
    → ((values : Values) → AreAllFound sides wanted least 0 values after) → AreTold sides wanted least after
told_of_all sides wanted least before after more looked none every =
    record {
      samples_tell = more.samples;
      wanted_all = looked (subst (AreWanted wanted) (sym none) (All-nil (λ (s : Sample). is_wanted wanted s.told ≡ true)));
      every = λ others told of eleven tells. (every others).found others told of (eleven, refl) tells;
      ascend = more.ascend;
    }
