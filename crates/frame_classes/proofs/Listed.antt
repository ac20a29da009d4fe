-- What is listed of frames is what is told of all.
use Rattle.std.proofs.Common.{◌≡◌, ℕ, suc, ◌+◌, ◌-◌, ◌/◌, ◌%◌, ◌^◌, ◌<◌, ◌≤◌, Bool, true, false, List, [], ◌∷◌, ◌++◌, Option, Some, arith, refl, ap, sym, subst, length, length-append, min, get_or, nat_lt, ◌∙◌}
use Rattle.std.specs.Prelude.{All, Contains, IfOk, Result, Ok, Err, map}
use Rattle.std.specs.List.Sorted.{IsStrictlyIncreasing}
use Rattle.std.proofs.lemmas.Bool.{ltb-false, ltb-true, lt-ltb}
use Rattle.std.proofs.lemmas.List.{length-map, get_or-map, get_or_append_left, get_or-append_right, get_or_default}
use Rattle.std.proofs.lemmas.List.Elements.{All-from_recursion}
use Rattle.frame_rows.specs.declared.class.FrameClass.{FrameClass}
use Rattle.frame_rows.specs.declared.class.Use.{Use}
use Rattle.frame_rows.specs.declared.field.Field.{Field}
use Rattle.frame_rows.specs.declared.field.Field.TheVariants.{FirstType, SecondType, ThirdType, FirstVid, SecondVid, ThirdVid, FirstPriority, SecondPriority, FirstEligible, SecondEligible}
use Rattle.frame_rows.specs.Field.{end_of, fields, place_of, value_at, values_of, word_at}
use Rattle.frame_rows.specs.Sight.{Side}
use Rattle.frame_rows.specs.Words.{limit_of}
use Rattle.frame_rows.proofs.Words.{type_fits}
use Rattle.frame_classes.specs.declared.found.Sample.{Sample}
use Rattle.frame_classes.specs.declared.told.Told.{Told}
use Rattle.frame_classes.specs.declared.told.Told.TheVariants.{One, Two, Three}
use Rattle.frame_classes.specs.Classes.{IsFrame}
use Rattle.frame_classes.specs.Found.{number_of, told_of}
use Rattle.frame_classes.specs.Listed.{count_told, tell}
use Rattle.frame_classes.specs.Splitting.{AreExamplesOf, AreTold, CanBe, IsFrameOf, IsOf}
use Rattle.frame_classes.specs.Told.{is_wanted, told_by, told_number}

-- ---- one example more

pub none_yet : (least : ℕ) (samples : List Sample) → AreExamplesOf least 0 samples []
none_yet least samples =
    record { count_same = refl; told = λ k d other h. absurd (omega arith); each = λ k d other h. absurd (omega arith) }

-- an example is that of a sample
pub record IsExampleOf (least : ℕ) (sample : Sample) (example : Told × List ℕ) : Type 0 where
  pub told : example.0 ≡ sample.told
  pub frame : IsFrameOf least sample example.1

pub one_more : (least count : ℕ) (samples : List Sample) (examples more : List (Told × List ℕ)) (example : Told × List ℕ)
    → AreExamplesOf least count samples examples → count < length samples → ((d : Sample) → IsExampleOf least (get_or samples count d) example)
    → more ≡ examples ++ example ∷ [] → AreExamplesOf least (count + 1) samples more
one_more least count samples examples more example are within is grown =
    let before = are.count_same in
    let all = length-append examples (example ∷ []) in
    subst (AreExamplesOf least (count + 1) samples) (sym grown) (record {
      count_same = omega (arith, before, all);
      told = λ k d other h. (each k d other h).told;
      each = λ k d other h. (each k d other h).frame;
    })
  where
    at_end : (k : ℕ) (d : Sample) (other : Told × List ℕ) → k ≡ count → IsExampleOf least (get_or samples k d) (get_or (examples ++ example ∷ []) k other)
    at_end k d other e =
        subst (IsExampleOf least (get_or samples k d))
        (sym (get_or-append_right examples (example ∷ []) count k other are.count_same (omega arith) ∙ ap (λ (i : ℕ). get_or (example ∷ []) i other) (none_left k e)))
        (subst (λ (i : ℕ). IsExampleOf least (get_or samples i d) example) (sym e) (is d))
      where
        none_left : (k : ℕ) → k ≡ count → k - count ≡ 0
        none_left k e = omega arith

    each : (k : ℕ) (d : Sample) (other : Told × List ℕ) → k < count + 1
        → IsExampleOf least (get_or samples k d) (get_or (examples ++ example ∷ []) k other)
    each k d other h = by_case (nat_lt k count) refl
      where
        by_case : (b : Bool) → nat_lt k count ≡ b → IsExampleOf least (get_or samples k d) (get_or (examples ++ example ∷ []) k other)
        by_case true p =
            let short : k < count = ltb-true k count p in
            let before = are.count_same in
            subst (IsExampleOf least (get_or samples k d)) (sym (get_or_append_left examples (example ∷ []) other k (omega (arith, before))))
            (record { told = are.told k d other short; frame = are.each k d other short })
        by_case false p =
            let long : count ≤ k = ltb-false k count p in
            at_end k d other (omega arith)

-- what classes tell, where one more is listed
tell_grown : {E X : Type 0} (part : E → X × List ℕ) (told : X → Told) (before : List E) (new : E)
    → tell told (map part (before ++ new ∷ [])) ≡ tell told (map part before) ++ (told (part new).0, (part new).1) ∷ []
tell_grown part told [] new = refl
tell_grown part told (first ∷ rest) new =
    ap (λ (more : List (Told × List ℕ)). (told (part first).0, (part first).1) ∷ more) (tell_grown part told rest new)

pub one_told : {E X : Type 0} (part : E → X × List ℕ) (told : X → Told) (least place : ℕ) (samples : List Sample) (sample : Sample) (before after : List E) (new : E)
    → AreExamplesOf least place samples (tell told (map part before)) → place < length samples → sample ≡ get_or samples place sample
    → sample.told ≡ told (part new).0 → IsFrameOf least sample (part new).1 → after ≡ before ++ new ∷ []
    → AreExamplesOf least (place + 1) samples (tell told (map part after))
one_told {E = E} part told least place samples sample before after new are within there is frame grown =
    one_more least place samples (tell told (map part before)) (tell told (map part after)) (told (part new).0, (part new).1) are within
    (λ d. subst (λ (s : Sample). IsExampleOf least s (told (part new).0, (part new).1)) (there ∙ get_or_default samples place sample d within)
    (record { told = sym is; frame = frame }))
    (ap (λ (items : List E). tell told (map part items)) grown ∙ tell_grown part told before new)

-- what isn't left out
pub not_one : (told : Told) → count_told told ≡ 1 → ((class : FrameClass) → told ≡ One class → ⊥) → ⊥
not_one (One class) count other = other class refl
not_one (Two before after) count other = absurd (omega (arith, count))
not_one (Three before here after) count other = absurd (omega (arith, count))

pub not_two : (told : Told) → count_told told ≡ 2 → ((before after : FrameClass) → told ≡ Two before after → ⊥) → ⊥
not_two (One class) count other = absurd (omega (arith, count))
not_two (Two before after) count other = other before after refl
not_two (Three before here after) count other = absurd (omega (arith, count))

pub not_three : (told : Told) → count_told told ≡ 3 → ((before here after : FrameClass) → told ≡ Three before here after → ⊥) → ⊥
not_three (One class) count other = absurd (omega (arith, count))
not_three (Two before after) count other = absurd (omega (arith, count))
not_three (Three before here after) count other = other before here after refl

-- ---- the values of a frame are such

word_fits : (place : ℕ) (bytes : List ℕ) → All (λ b. b < 2 ^ 8) bytes → word_at place bytes < 2 ^ 16
word_fits place bytes fits = by_case (nat_lt (length bytes) (place + 2)) refl
  where
    by_case : (b : Bool) → nat_lt (length bytes) (place + 2) ≡ b → word_at place bytes < 2 ^ 16
    by_case true is = rw is (omega arith)
    by_case false is = rw is (type_fits place bytes fits)

word_cut : (place : ℕ) (bytes : List ℕ) → length bytes < place + 2 → word_at place bytes ≡ 0
word_cut place bytes short =
    let is = lt-ltb (length bytes) (place + 2) short in
    rw is refl

-- a part of a word
part_can_be : (least : ℕ) (bytes : List ℕ) (field : Field) (place : ℕ) (f : ℕ → ℕ) → place + 2 ≡ end_of field → place + 2 ≤ 24 → 0 < place_of field
    → ((word : ℕ) → word < 2 ^ 16 → f word < limit_of field) → f 0 ≡ 0 → All (λ b. b < 2 ^ 8) bytes
    → CanBe least (min 24 (length bytes)) field (f (word_at place bytes))
part_can_be least bytes field place f end within behind below none fits =
    record {
      below = below (word_at place bytes) (word_fits place bytes fits);
      absent = λ short. ap f (word_cut place bytes (omega (arith, end))) ∙ none;
      long = λ first. absurd (omega arith);
    }

pub of_frame : (least : ℕ) (bytes : List ℕ) → IsFrame least bytes → IsOf least fields (values_of bytes)
unfolding values_of
of_frame least bytes frame =
    All-from_recursion (λ field. CanBe least (min 24 (length bytes)) field (value_at field (values_of bytes))) fields (
      record { below = omega arith; absent = λ short. absurd (omega arith); long = λ _. long },
      (
        part_can_be least bytes FirstType 12 (λ n. n) refl (omega arith) (omega arith) (λ w h. h) refl frame.bytes_fit,
        (
          part_can_be least bytes SecondType 16 (λ n. n) refl (omega arith) (omega arith) (λ w h. h) refl frame.bytes_fit,
          (
            part_can_be least bytes ThirdType 20 (λ n. n) refl (omega arith) (omega arith) (λ w h. h) refl frame.bytes_fit,
            (
              part_can_be least bytes FirstVid 14 (λ n. n % 2 ^ 12) refl (omega arith) (omega arith) (λ w h. omega arith) refl frame.bytes_fit,
              (
                part_can_be least bytes SecondVid 18 (λ n. n % 2 ^ 12) refl (omega arith) (omega arith) (λ w h. omega arith) refl frame.bytes_fit,
                (
                  part_can_be least bytes ThirdVid 22 (λ n. n % 2 ^ 12) refl (omega arith) (omega arith) (λ w h. omega arith) refl frame.bytes_fit,
                  (
                    part_can_be least bytes FirstPriority 14 (λ n. n / 2 ^ 13) refl (omega arith) (omega arith) (λ w h. omega arith) refl frame.bytes_fit,
                    (
                      part_can_be least bytes SecondPriority 18 (λ n. n / 2 ^ 13) refl (omega arith) (omega arith) (λ w h. omega arith) refl frame.bytes_fit,
                      (
                        part_can_be least bytes FirstEligible 14 (λ n. n / 2 ^ 12 % 2) refl (omega arith) (omega arith) (λ w h. omega arith) refl frame.bytes_fit,
                        (
                          part_can_be least bytes SecondEligible 18 (λ n. n / 2 ^ 12 % 2) refl (omega arith) (omega arith) (λ w h. omega arith) refl frame.bytes_fit,
                          tt,
                        ),
                      ),
                    ),
                  ),
                ),
              ),
            ),
          ),
        ),
      ),
    )
  where
    long : min 24 least ≤ min 24 (length bytes)
    long =
        let h = frame.long in
        omega (arith, h)

-- ---- what is listed

-- the frame beside what is told is told of so
pub record IsSaid (sides : List Side) (least : ℕ) (example : Told × List ℕ) : Type 0 where
  pub frame : IsFrame least example.1
  pub told : told_by sides (values_of example.1) ≡ Some example.0

told_in : List (Told × List ℕ) → List Told
told_in examples = map (λ example. example.0) examples

-- it is all that is told of frames, once and in order
pub record AreSaid (sides : List Side) (wanted : Option Use) (least : ℕ) (examples : List (Told × List ℕ)) : Type 0 where
  pub each : All (IsSaid sides least) examples
  pub looked_for : All (λ example. is_wanted wanted example.0 ≡ true) examples
  pub every : (bytes : List ℕ) (told : Told) → IsFrame least bytes → told_by sides (values_of bytes) ≡ Some told → is_wanted wanted told ≡ true
      → Contains (map (λ (example : Told × List ℕ). example.0) examples) told
  pub once : IsStrictlyIncreasing (map told_number (map (λ (example : Told × List ℕ). example.0) examples))

same_told : (samples : List Sample) (examples : List (Told × List ℕ)) → length examples ≡ length samples
    → ((k : ℕ) (d : Sample) (other : Told × List ℕ) → k < length samples → (get_or examples k other).0 ≡ (get_or samples k d).told)
    → told_in examples ≡ told_of samples
unfolding told_in
same_told [] [] count each = refl
same_told [] (example ∷ rest) count each = absurd (omega arith)
same_told (sample ∷ samples) [] count each = absurd (omega arith)
same_told (sample ∷ samples) (example ∷ rest) count each =
    ap (λ (told : Told). told ∷ told_in rest) (each 0 sample example (omega arith))
    ∙ ap (λ (told : List Told). sample.told ∷ told) (same_told samples rest (omega arith) (λ k d other h. each (suc k) d other (omega arith)))

numbers_same : (samples : List Sample) → map told_number (told_of samples) ≡ map number_of samples
numbers_same [] = refl
numbers_same (sample ∷ rest) = ap (λ (numbers : List ℕ). number_of sample ∷ numbers) (numbers_same rest)

eleven_values : (bytes : List ℕ) → length (values_of bytes).values ≡ 11
unfolding values_of
eleven_values bytes = refl

pub are_said : (sides : List Side) (wanted : Option Use) (least : ℕ) (samples : List Sample) (examples : List (Told × List ℕ))
    → AreTold sides wanted least samples → AreExamplesOf least (length samples) samples examples → AreSaid sides wanted least examples
unfolding told_in
are_said sides wanted least samples examples are written =
    record {
      each = each;
      looked_for = λ k other h.
          let count = written.count_same in
          let there : k < length samples = omega (arith, count, h) in
          looked k other there (record { told = other.0; values = values_of [] });
      every = λ bytes told frame is looked. subst (λ (list : List Told). Contains list told) (sym same)
          (are.every (values_of bytes) told (of_frame least bytes frame) (eleven_values bytes) is looked);
      once = subst IsStrictlyIncreasing (sym (ap (map told_number) same ∙ numbers_same samples)) are.ascend;
    }
  where
    same : told_in examples ≡ told_of samples
    same = same_told samples examples written.count_same written.told

    looked : (k : ℕ) (other : Told × List ℕ) → k < length samples → Sample → is_wanted wanted (get_or examples k other).0 ≡ true
    looked k other there d = ap (is_wanted wanted) (written.told k d other there) ∙ are.wanted_all k d there

    at : (k : ℕ) (other : Told × List ℕ) → k < length samples → Sample → IsSaid sides least (get_or examples k other)
    at k other there d =
        let is = written.each k d other there in
        let sample = are.samples_tell k d there in
        record {
          frame = is.frame sample.values;
          told = ap (told_by sides) (is.values sample.values) ∙ sample.told ∙ ap (λ (t : Told). Some t) (sym (written.told k d other there));
        }

    each : All (IsSaid sides least) examples
    each k other h =
        let count = written.count_same in
        let there : k < length samples = omega (arith, count) in
        at k other there (record { told = other.0; values = values_of [] })

-- ---- as classes

-- what is told by each
pub said_at : {X : Type 0} (sides : List Side) (least : ℕ) (told : X → Told) (list : List (X × List ℕ)) → All (IsSaid sides least) (tell told list)
    → (k : ℕ) (d : X × List ℕ) → k < length list → IsSaid sides least (told (get_or list k d).0, (get_or list k d).1)
said_at {X} sides least told list said k d h =
    let f : X × List ℕ → Told × List ℕ = λ each. (told each.0, each.1) in
    let count = length-map list f in
    subst (IsSaid sides least) (get_or-map f list k d (f d) h) (said k (f d) (omega (arith, count)))

pub told_same : {X : Type 0} (told : X → Told) (list : List (X × List ℕ))
    → map (λ (example : Told × List ℕ). example.0) (tell told list) ≡ map told (map (λ (each : X × List ℕ). each.0) list)
told_same told [] = refl
told_same told (each ∷ rest) = ap (λ (more : List Told). told each.0 ∷ more) (told_same told rest)

pub contains_of : {X Y : Type 0} (f : X → Y) (xs : List X) (x : X) → ((a b : X) → f a ≡ f b → a ≡ b) → Contains (map f xs) (f x) → Contains xs x
contains_of f xs x back there =
    let k = there.0 in
    let count = length-map xs f in
    let h = there.1 in
    let within : k < length xs = omega (arith, count, h) in
    (k, within, back (get_or xs k x) x (sym (get_or-map f xs k x (f x) within) ∙ there.2))

-- numbers that are others and as much more ascend with them
pub rising_less : {X : Type 0} (f : X → ℕ) (g : X → Told) (more : ℕ) (xs : List X) → ((x : X) → told_number (g x) ≡ f x + more)
    → IsStrictlyIncreasing (map told_number (map g xs)) → IsStrictlyIncreasing (map f xs)
rising_less f g more [] is up k h = absurd (omega arith)
rising_less {X} f g more (x ∷ rest) is up k h =
    let all : List X = x ∷ rest in
    let count = length-map all f in
    let count' = length-map all g in
    let count'' = length-map (map g all) told_number in
    let within : k + 1 < length all = omega (arith, count, h) in
    let here = at k (omega arith) in
    let next = at (k + 1) within in
    let here' = at' k (omega arith) in
    let next' = at' (k + 1) within in
    let rises = up k (omega (arith, count', count'')) in
    omega (arith, here, next, here', next', rises)
  where
    at : (i : ℕ) → i < length (x ∷ rest) → get_or (map f (x ∷ rest)) i 0 ≡ f (get_or (x ∷ rest) i x)
    at i within = get_or-map f (x ∷ rest) i x 0 within

    at' : (i : ℕ) → i < length (x ∷ rest) → get_or (map told_number (map g (x ∷ rest))) i 0 ≡ f (get_or (x ∷ rest) i x) + more
    at' i within =
        let count = length-map (x ∷ rest) g in
        get_or-map told_number (map g (x ∷ rest)) i (g x) 0 (omega (arith, count, within))
        ∙ ap told_number (get_or-map g (x ∷ rest) i x (g x) within) ∙ is (get_or (x ∷ rest) i x)

-- what follows of a result that is Ok
pub if_ok : {A E : Type 0} (P Q : A → Type 0) (r : Result A E) → ((a : A) → P a → Q a) → IfOk r P → IfOk r Q
if_ok P Q (Ok a) f h = f a h
if_ok P Q (Err e) f h = tt
