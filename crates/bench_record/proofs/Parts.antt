-- What is written part by part.
use Rattle.std.proofs.Common.{◌≡◌, ◌≤◌, ◌<◌, ◌+◌, ◌/◌, ◌%◌, ◌++◌, ◌∷◌, [], ℕ, zero, suc, List, Option, Result, Ok, Err, append_assoc, get_or, length, map, slice_index, take, drop, refl, ap, sym, ◌∙◌, arith, length-append, subst}
use Rattle.std.specs.Prelude.{OnErr, OnOk}
use Rattle.std.specs.List.{flat_map}
use Rattle.std.specs.Io.KnownBytes.{Appends}
use Rattle.std.proofs.KnownBytes.{Appends-trans}
use Rattle.std.proofs.lemmas.List.{append-nil, take-append-le}
use Rattle.std.proofs.lemmas.List.Folds.{flat_map-map}
use Rattle.std.proofs.Math.ListN.{take-append-drop}
use Rattle.std.proofs.Math.Seq.{drop-cons, take-append-add}
use Rattle.hex.specs.Hex.{encode_lower, encode_with, lower_digits}
use Rattle.text_writing.specs.Written.{AppendsPart}
use Rattle.bench_record.specs.Text.{line_of, lines_of, text_of, timed_shown}
use Rattle.bench_history.specs.declared.event.Event.TheVariants.{Ended}
use Rattle.bench_record.specs.declared.event.TimedEvent.{TimedEvent}

-- a part behind bytes
pub part_behind : (a b c : Option (List ℕ)) (bytes more : List ℕ) → Appends a b bytes → AppendsPart b c more → AppendsPart a c (bytes ++ more)
part_behind a b c bytes more first part =
    (length bytes + part.0, simp length-append (omega (arith, part.1)), rw (take-append-add bytes more part.0) (Appends-trans a b c bytes (take part.0 more) first part.2))

-- a part of the first of two
pub part_before : (a b : Option (List ℕ)) (bytes more : List ℕ) → AppendsPart a b bytes → AppendsPart a b (bytes ++ more)
part_before a b bytes more part =
    (part.0, simp length-append (omega (arith, part.1)), rw (take-append-le part.0 bytes more part.1) part.2)

-- ---- digits, piece by piece

pub split_again : (n : ℕ) (xs front back : List ℕ) → front ≡ take n xs → back ≡ drop n xs → xs ≡ front ++ back
split_again n xs front back is_front is_back =
    sym (ap (λ ys. ys ++ back) is_front ∙ ap (λ ys. take n xs ++ ys) is_back ∙ take-append-drop n xs)

pub none_left : (xs : List ℕ) → length xs ≡ 0 → xs ≡ []
none_left [] is = refl
none_left (x ∷ xs) is = absurd (omega (arith, is))

-- with the digits of these bytes, all of them are written
pub record IsWritten (before now : Option (List ℕ)) (rest bytes : List ℕ) : Type 0 where
  pub front : List ℕ
  pub so_far : Appends before now front
  pub whole : front ++ encode_lower rest ≡ encode_lower bytes

drop-past : {X : Type 0} (n : ℕ) (xs : List X) → length xs ≤ n → drop n xs ≡ []
drop-past zero [] past = refl
drop-past zero (x ∷ xs) past = absurd (omega (arith, past))
drop-past (suc n) [] past = refl
drop-past (suc n) (x ∷ xs) past = drop-past n xs (omega (arith, past))

no_digits : encode_lower [] ≡ []
unfolding encode_with
no_digits = refl

digits-append : (xs ys : List ℕ) → encode_lower (xs ++ ys) ≡ encode_lower xs ++ encode_lower ys
unfolding encode_with
digits-append [] ys = refl
digits-append (x ∷ xs) ys = ap (λ zs. slice_index lower_digits (x / 16) ∷ slice_index lower_digits (x % 16) ∷ zs) (digits-append xs ys)

pub none_written : (a b : Option (List ℕ)) (bytes : List ℕ) → Appends a b [] → IsWritten a b bytes bytes
none_written a b bytes nothing = record { front = []; so_far = nothing; whole = refl }

pub more_written : (a b c : Option (List ℕ)) (piece behind rest bytes : List ℕ) → rest ≡ piece ++ behind → IsWritten a b rest bytes
    → Appends b c (encode_lower piece) → IsWritten a c behind bytes
more_written a b c piece behind rest bytes is written more = record {
  front = written.front ++ encode_lower piece;
  so_far = Appends-trans a b c written.front (encode_lower piece) written.so_far more;
  whole =
      append_assoc written.front (encode_lower piece) (encode_lower behind)
      ∙ ap (λ xs. written.front ++ xs) (sym (ap encode_lower is ∙ digits-append piece behind)) ∙ written.whole;
}

pub part_written : (a b c : Option (List ℕ)) (piece behind rest bytes : List ℕ) → rest ≡ piece ++ behind → IsWritten a b rest bytes
    → AppendsPart b c (encode_lower piece) → AppendsPart a c (encode_lower bytes)
part_written a b c piece behind rest bytes is written part =
    subst (AppendsPart a c) (ap (λ xs. written.front ++ xs) (sym (ap encode_lower is ∙ digits-append piece behind)) ∙ written.whole)
    (part_behind a b c written.front (encode_lower piece ++ encode_lower behind) written.so_far (part_before b c (encode_lower piece) (encode_lower behind) part))

pub all_written : (a b : Option (List ℕ)) (rest bytes : List ℕ) → rest ≡ [] → IsWritten a b rest bytes → Appends a b (encode_lower bytes)
all_written a b rest bytes is written =
    subst (Appends a b) (sym (append-nil written.front) ∙ ap (λ xs. written.front ++ xs) (sym (ap encode_lower is ∙ no_digits)) ∙ written.whole) written.so_far

-- ---- the texts of elements, one by one

-- with the texts of the elements from one on, those of all are written
pub record IsTold (X : Type 0) (text : X → List ℕ) (before now : Option (List ℕ)) (i : ℕ) (xs : List X) : Type 0 where
  pub front : List ℕ
  pub so_far : Appends before now front
  pub whole : front ++ flat_map text (drop i xs) ≡ flat_map text xs

next_text : (X : Type 0) (text : X → List ℕ) (xs : List X) (i : ℕ) (d : X) → i < length xs
    → flat_map text (drop i xs) ≡ text (get_or xs i d) ++ flat_map text (drop (i + 1) xs)
next_text X text xs i d within =
    let next : suc i ≡ i + 1 = omega arith in
    ap (λ (ys : List X). flat_map text ys) (drop-cons xs i d within) ∙ ap (λ n. text (get_or xs i d) ++ flat_map text (drop n xs)) next

pub none_told : (X : Type 0) (text : X → List ℕ) (a b : Option (List ℕ)) (xs : List X) → Appends a b [] → IsTold X text a b 0 xs
none_told X text a b xs nothing = record { front = []; so_far = nothing; whole = refl }

pub more_told : (X : Type 0) (text : X → List ℕ) (a b c : Option (List ℕ)) (i : ℕ) (xs : List X) (d : X) → i < length xs → IsTold X text a b i xs
    → Appends b c (text (get_or xs i d)) → IsTold X text a c (i + 1) xs
more_told X text a b c i xs d within told more = record {
  front = told.front ++ text (get_or xs i d);
  so_far = Appends-trans a b c told.front (text (get_or xs i d)) told.so_far more;
  whole =
      append_assoc told.front (text (get_or xs i d)) (flat_map text (drop (i + 1) xs))
      ∙ ap (λ (ys : List ℕ). told.front ++ ys) (sym (next_text X text xs i d within)) ∙ told.whole;
}

pub part_told : (X : Type 0) (text : X → List ℕ) (a b c : Option (List ℕ)) (i : ℕ) (xs : List X) (d : X) → i < length xs → IsTold X text a b i xs
    → AppendsPart b c (text (get_or xs i d)) → AppendsPart a c (flat_map text xs)
part_told X text a b c i xs d within told part =
    subst (AppendsPart a c) (ap (λ (ys : List ℕ). told.front ++ ys) (sym (next_text X text xs i d within)) ∙ told.whole)
    (part_behind a b c told.front (text (get_or xs i d) ++ flat_map text (drop (i + 1) xs)) told.so_far
    (part_before b c (text (get_or xs i d)) (flat_map text (drop (i + 1) xs)) part))

told_whole : (X : Type 0) (text : X → List ℕ) (a b : Option (List ℕ)) (i : ℕ) (xs : List X) → length xs ≤ i → (told : IsTold X text a b i xs)
    → told.front ≡ flat_map text xs
told_whole X text a b i xs past told =
    sym (append-nil told.front) ∙ ap (λ (ys : List X). told.front ++ flat_map text ys) (sym (drop-past i xs past)) ∙ told.whole

pub all_told : (X : Type 0) (text : X → List ℕ) (a b : Option (List ℕ)) (i : ℕ) (xs : List X) → length xs ≤ i → IsTold X text a b i xs
    → Appends a b (flat_map text xs)
all_told X text a b i xs past told = subst (Appends a b) (told_whole X text a b i xs past told) told.so_far

-- a part of what follows
pub part_last : (X : Type 0) (text : X → List ℕ) (a b c : Option (List ℕ)) (more : List ℕ) (i : ℕ) (xs : List X) → length xs ≤ i → IsTold X text a b i xs
    → AppendsPart b c more → AppendsPart a c (flat_map text xs ++ more)
part_last X text a b c more i xs past told part =
    part_behind a b c (flat_map text xs) more (all_told X text a b i xs past told) part

-- ---- the text of events

-- the line of the end
abbrev pub last_line : List ℕ
last_line = 101 ∷ 10 ∷ []

last_is : line_of Ended ≡ last_line
unfolding encode_with
last_is = refl

-- the lines of an event of the program
abbrev pub lines_at : Option (List (List ℕ)) → TimedEvent → List ℕ
lines_at names timed = lines_of names (timed_shown timed)

pub text_is : (names : Option (List (List ℕ))) (events : List TimedEvent) → flat_map (lines_at names) events ++ last_line ≡ text_of names (map timed_shown events)
text_is names events =
    ap (λ (line : List ℕ). flat_map (lines_at names) events ++ line) (sym last_is)
    ∙ ap (λ (lines : List ℕ). lines ++ line_of Ended) (sym (flat_map-map (lines_of names) timed_shown events))

-- ---- results

pub any_err : {T E : Type 0} (r : Result T E) (P : Type 0) → P → OnErr r P
any_err (Ok x) P is = tt
any_err (Err e) P is = is

pub err_weaker : {T E : Type 0} (r : Result T E) (P Q : Type 0) → (P → Q) → OnErr r P → OnErr r Q
err_weaker (Ok x) P Q then_so is = tt
err_weaker (Err e) P Q then_so is = then_so is

pub ok_weaker : {T E : Type 0} (r : Result T E) (P Q : Type 0) → (P → Q) → OnOk r P → OnOk r Q
ok_weaker (Ok x) P Q then_so is = then_so is
ok_weaker (Err e) P Q then_so is = tt

-- ---- one text and then another

pub part_first : {T E : Type 0} (r : Result T E) (a b : Option (List ℕ)) (p x y : List ℕ) → p ≡ x → AppendsPart a b p → OnErr r (AppendsPart a b (x ++ y))
part_first r a b p x y same part = any_err r (AppendsPart a b (x ++ y)) (part_before a b x y (subst (AppendsPart a b) same part))

pub ok_both : {T E : Type 0} (r : Result T E) (a b c : Option (List ℕ)) (p q x y : List ℕ) → p ≡ x → q ≡ y → Appends a b p → OnOk r (Appends b c q)
    → OnOk r (Appends a c (x ++ y))
ok_both r a b c p q x y first second done more =
    ok_weaker r (Appends b c q) (Appends a c (x ++ y))
    (λ last. Appends-trans a b c x y (subst (Appends a b) first done) (subst (Appends b c) second last)) more

pub err_both : {T E : Type 0} (r : Result T E) (a b c : Option (List ℕ)) (p q x y : List ℕ) → p ≡ x → q ≡ y → Appends a b p → OnErr r (AppendsPart b c q)
    → OnErr r (AppendsPart a c (x ++ y))
err_both r a b c p q x y first second done more =
    err_weaker r (AppendsPart b c q) (AppendsPart a c (x ++ y))
    (λ part. part_behind a b c x y (subst (Appends a b) first done) (subst (AppendsPart b c) second part)) more

pub ok_as : {T E : Type 0} (r : Result T E) (a c : Option (List ℕ)) (x y : List ℕ) → x ≡ y → OnOk r (Appends a c x) → OnOk r (Appends a c y)
ok_as r a c x y same done = subst (λ (z : List ℕ). OnOk r (Appends a c z)) same done

pub err_as : {T E : Type 0} (r : Result T E) (a c : Option (List ℕ)) (x y : List ℕ) → x ≡ y → OnErr r (AppendsPart a c x) → OnErr r (AppendsPart a c y)
err_as r a c x y same done = subst (λ (z : List ℕ). OnErr r (AppendsPart a c z)) same done

pub joined : (a b c d e f g : List ℕ) → (a ++ b) ++ ((((c ++ d) ++ e) ++ f) ++ g) ≡ (((((a ++ b) ++ c) ++ d) ++ e) ++ f) ++ g
joined a b c d e f g = simp append_assoc
