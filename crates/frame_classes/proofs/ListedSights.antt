-- What is listed of frames, by what their sides mean.
use Rattle.std.proofs.Common.{◌≡◌, ℕ, ◌+◌, ◌^◌, ◌<◌, Bool, true, false, ◌&&◌, List, [], ◌∷◌, Option, Some, None, arith, refl, ap, sym, subst, get_or, if◌then◌else◌, ◌∙◌}
use Rattle.std.specs.Prelude.{All, Contains, map}
use Rattle.std.specs.List.Sorted.{IsStrictlyIncreasing}
use Rattle.std.proofs.lemmas.Bool.{eq-eqb, eqb-true, true≢false}
use Rattle.std.proofs.lemmas.List.{get_or-map, length-map}
use Rattle.std.proofs.lemmas.List.Elements.{All-from_recursion}
use Rattle.mib_state.specs.Entities.{Entities}
use Rattle.frame_rows.specs.declared.class.FrameClass.{FrameClass}
use Rattle.frame_rows.specs.declared.class.Use.{Use}
use Rattle.frame_rows.specs.declared.class.Use.TheVariants.{Unread, NoTable, Entry, NoEntry}
use Rattle.frame_rows.specs.Class.{class_number, class_of}
use Rattle.frame_rows.specs.Field.{values_of}
use Rattle.frame_rows.specs.Sight.{AreSeenApart, IsLike, IsSide, Side, seen_apart, sight_of}
use Rattle.frame_rows.proofs.SeenApart.{values_tell_apart}
use Rattle.frame_classes.specs.declared.found.Sample.{Sample}
use Rattle.frame_classes.specs.declared.told.Told.{Told}
use Rattle.frame_classes.specs.declared.told.Told.TheVariants.{One, Two, Three}
use Rattle.frame_classes.specs.Classes.{AreClasses, IsFrame, classes_in}
use Rattle.frame_classes.specs.Differences.{AreApartBy, AreDifferences, AreTorn, AreTornBy, AreTornByRows, IsTear, IsTorn, IsTornRow, is_torn_by, pair_number, pairs_in, triple_number, triples_in}
use Rattle.frame_classes.specs.Listed.{count_told, of_one, of_three, of_two, tell}
use Rattle.frame_classes.specs.Splitting.{AreTold}
use Rattle.frame_classes.specs.Told.{class_at, is_wanted, one_of, same_use, three_of, told_by, told_number, two_of}
use Rattle.frame_classes.proofs.Listed.{AreSaid, contains_of, rising_less, said_at, told_same}

-- ---- what is told

none_some : (told : Told) → None ≡ Some told → ⊥
none_some told e = cc

-- what is told is shown
shown : (b : Bool) (told : Option Told) (some : Told) → (if b then told else None) ≡ Some some → (b ≡ true) × (told ≡ Some some)
shown true told some is = (refl, is)
shown false told some is = absurd (none_some some is)

show : (b : Bool) (told : Option Told) (some : Told) → b ≡ true → told ≡ Some some → (if b then told else None) ≡ Some some
show b told some p is = ap (λ (c : Bool). if c then told else None) p ∙ is

two_is : (one other : Option FrameClass) (c d : FrameClass) → one ≡ Some c → other ≡ Some d → two_of one other ≡ Some (Two c d)
two_is one other c d p q = ap (λ (o : Option FrameClass). two_of o other) p ∙ ap (λ (o : Option FrameClass). two_of (Some c) o) q

three_is : (one other last : Option FrameClass) (b c d : FrameClass) → one ≡ Some b → other ≡ Some c → last ≡ Some d → three_of one other last ≡ Some (Three b c d)
three_is one other last b c d p q r =
    ap (λ (o : Option FrameClass). three_of o other last) p ∙ ap (λ (o : Option FrameClass). three_of (Some b) o last) q
    ∙ ap (λ (o : Option FrameClass). three_of (Some b) (Some c) o) r

one_same : (c d : FrameClass) → Some (One c) ≡ Some (One d) → c ≡ d
one_same c d e = cc

two_first : (a b c d : FrameClass) → Some (Two a b) ≡ Some (Two c d) → a ≡ c
two_first a b c d e = cc

two_second : (a b c d : FrameClass) → Some (Two a b) ≡ Some (Two c d) → b ≡ d
two_second a b c d e = cc

-- both classes are there
two_parts : (one other : Option FrameClass) (c d : FrameClass) → two_of one other ≡ Some (Two c d) → (one ≡ Some c) × (other ≡ Some d)
two_parts None other c d h = absurd (none_some (Two c d) h)
two_parts (Some a) None c d h = absurd (none_some (Two c d) h)
two_parts (Some a) (Some b) c d h =
    (ap (λ (k : FrameClass). Some k) (two_first a b c d h), ap (λ (k : FrameClass). Some k) (two_second a b c d h))

class_same : (c d : FrameClass) → Some c ≡ Some d → c ≡ d
class_same c d e = cc

three_first : (a b c x y z : FrameClass) → Some (Three a b c) ≡ Some (Three x y z) → a ≡ x
three_first a b c x y z e = cc

three_second : (a b c x y z : FrameClass) → Some (Three a b c) ≡ Some (Three x y z) → b ≡ y
three_second a b c x y z e = cc

three_third : (a b c x y z : FrameClass) → Some (Three a b c) ≡ Some (Three x y z) → c ≡ z
three_third a b c x y z e = cc

both : (a b : Bool) → (a && b) ≡ true → (a ≡ true) × (b ≡ true)
both true b h = (refl, h)
both false b h = absurd (true≢false (sym h))

and_both : (a b : Bool) → a ≡ true → b ≡ true → (a && b) ≡ true
and_both a b p q = ap (λ (x : Bool). x && b) p ∙ q

-- the class of a frame is that by its side
class_is : (e : Entities) (port : ℕ) (side : Side) → IsSide e port side → (bytes : List ℕ) → All (λ b. b < 2 ^ 8) bytes
    → class_at side (values_of bytes) ≡ Some (class_of e port bytes)
class_is e port side is bytes fits = is.mean.class bytes fits

-- a listed tells so
told_listed : {X : Type 0} (sides : List Side) (wanted : Option Use) (least : ℕ) (told : X → Told) (list : List (X × List ℕ)) (x : X) → AreSaid sides wanted least (tell told list)
    → ((a b : X) → told a ≡ told b → a ≡ b) → (bytes : List ℕ) → IsFrame least bytes → told_by sides (values_of bytes) ≡ Some (told x)
    → is_wanted wanted (told x) ≡ true
    → Contains (map (λ (each : X × List ℕ). each.0) list) x
told_listed {X} sides wanted least told list x said back bytes frame is looked =
    contains_of told (map (λ (each : X × List ℕ). each.0) list) x back
    (subst (λ (all : List Told). Contains all (told x)) (told_same told list) (said.every bytes (told x) frame is looked))

-- ---- one configuration

pub are_classes : (e : Entities) (port least : ℕ) (side : Side) (list : List (FrameClass × List ℕ)) → IsSide e port side
    → AreSaid (side ∷ []) None least (tell of_one list) → AreClasses e port least list
are_classes e port least side list is said =
    record {
      each = λ k d h.
          let example = get_or list k d in
          let one = said_at (side ∷ []) least of_one list said.each k d h in
          record {
            frame = one.frame;
            has_class = one_same (class_of e port example.1) example.0 (sym (one_by example.1 one.frame) ∙ one.told);
          };
      every = λ bytes frame. told_listed (side ∷ []) None least of_one list (class_of e port bytes) said back bytes frame (one_by bytes frame) refl;
      once = rising_less class_number of_one 1 (classes_in list) (λ c. refl) (subst IsStrictlyIncreasing (ap (map told_number) (told_same of_one list)) said.once);
    }
  where
    one_by : (bytes : List ℕ) → IsFrame least bytes → one_of (class_at side (values_of bytes)) ≡ Some (One (class_of e port bytes))
    one_by bytes frame = ap one_of (class_is e port side is bytes frame.bytes_fit)

    back : (a b : FrameClass) → of_one a ≡ of_one b → a ≡ b
    back a b same = one_same a b (ap (λ (t : Told). Some t) same)

-- ---- two

pair_same : (p q : FrameClass × FrameClass) → Some (of_two p) ≡ Some (of_two q) → p ≡ q
pair_same (a, b) (c, d) e = let first = two_first a b c d e in let second = two_second a b c d e in cc

pub are_apart_by : (least : ℕ) (one other : Side) (list : List ((FrameClass × FrameClass) × List ℕ))
    → AreSaid (one ∷ other ∷ []) None least (tell of_two list) → AreApartBy one other least list
are_apart_by least one other list said =
    record {
      each = λ k d h.
          let difference = get_or list k d in
          let two = said_at (one ∷ other ∷ []) least of_two list said.each k d h in
          let told = shown (apart difference.1) (classes difference.1) (of_two difference.0) two.told in
          let parts = two_parts (class_at one (values_of difference.1)) (class_at other (values_of difference.1)) difference.0.0 difference.0.1 told.1 in
          record { frame = two.frame; before = parts.0; after = parts.1; apart = told.0 };
      every = λ bytes before after frame is is' differ.
          told_listed (one ∷ other ∷ []) None least of_two list (before, after) said
          (λ p q same. pair_same p q (ap (λ (t : Told). Some t) same)) bytes frame
          (show (apart bytes) (classes bytes) (Two before after) differ
          (two_is (class_at one (values_of bytes)) (class_at other (values_of bytes)) before after is is')) refl;
      once =
          rising_less pair_number of_two (2 ^ 26 + 1) (pairs_in list) (λ p. omega arith)
          (subst IsStrictlyIncreasing (ap (map told_number) (told_same of_two list)) said.once);
    }
  where
    apart : List ℕ → Bool
    apart bytes = seen_apart true one other (values_of bytes)

    classes : List ℕ → Option Told
    classes bytes = two_of (class_at one (values_of bytes)) (class_at other (values_of bytes))

pub are_differences : (e f : Entities) (port least : ℕ) (one other : Side) (list : List ((FrameClass × FrameClass) × List ℕ))
    → IsSide e port one → IsSide f port other → AreApartBy one other least list → AreDifferences e f port least list
are_differences e f port least one other list is is' by_rows =
    record {
      each = λ k d h.
          let difference = get_or list k d in
          let two = by_rows.each k d h in
          let fits = two.frame.bytes_fit in
          record {
            frame = two.frame;
            before = class_same (class_of e port difference.1) difference.0.0 (sym (class_is e port one is difference.1 fits) ∙ two.before);
            after = class_same (class_of f port difference.1) difference.0.1 (sym (class_is f port other is' difference.1 fits) ∙ two.after);
            differ = tell_apart.apart difference.1 fits two.apart;
          };
      every = λ bytes frame differ.
          by_rows.every bytes (class_of e port bytes) (class_of f port bytes) frame (class_is e port one is bytes frame.bytes_fit)
          (class_is f port other is' bytes frame.bytes_fit) (is_apart bytes frame differ (apart bytes) refl);
      once = by_rows.once;
    }
  where
    tell_apart : AreSeenApart e f port one other
    tell_apart = values_tell_apart.tell e f port one other is is'

    apart : List ℕ → Bool
    apart bytes = seen_apart true one other (values_of bytes)

    is_apart : (bytes : List ℕ) → IsFrame least bytes → (sight_of e port bytes ≡ sight_of f port bytes → ⊥) → (b : Bool) → apart bytes ≡ b → apart bytes ≡ true
    is_apart bytes frame differ true p = p
    is_apart bytes frame differ false p = absurd (differ (tell_apart.same bytes frame.bytes_fit p))

-- ---- three

triple_same : (p q : FrameClass × FrameClass × FrameClass) → Some (of_three p) ≡ Some (of_three q) → p ≡ q
triple_same (a, b, c) (x, y, z) e =
    let first = three_first a b c x y z e in let second = three_second a b c x y z e in let third = three_third a b c x y z e in cc

three_parts : (one other last : Option FrameClass) (b c d : FrameClass) → three_of one other last ≡ Some (Three b c d)
    → (one ≡ Some b) × ((other ≡ Some c) × (last ≡ Some d))
three_parts None other last b c d h = absurd (none_some (Three b c d) h)
three_parts (Some x) None last b c d h = absurd (none_some (Three b c d) h)
three_parts (Some x) (Some y) None b c d h = absurd (none_some (Three b c d) h)
three_parts (Some x) (Some y) (Some z) b c d h = (
  ap (λ (k : FrameClass). Some k) (three_first x y z b c d h),
  (ap (λ (k : FrameClass). Some k) (three_second x y z b c d h), ap (λ (k : FrameClass). Some k) (three_third x y z b c d h)),
)

-- by rows: those that are looked for are torn, and all of those that are looked for are listed
record AreRowTears (before here after : Side) (least : ℕ) (wanted : Option Use) (tears : List ((FrameClass × FrameClass × FrameClass) × List ℕ)) : Type 0 where
  each : All (IsTornRow before here after least) tears
  looked_for : All (λ tear. is_wanted wanted (of_three tear.0) ≡ true) tears
  every : (bytes : List ℕ) (b h a : FrameClass) → IsFrame least bytes → class_at before (values_of bytes) ≡ Some b
      → class_at here (values_of bytes) ≡ Some h → class_at after (values_of bytes) ≡ Some a → is_wanted wanted (of_three (b, h, a)) ≡ true
      → is_torn_by before here after (values_of bytes) ≡ true → Contains (triples_in tears) (b, h, a)
  once : IsStrictlyIncreasing (map triple_number (triples_in tears))

row_tears : (least : ℕ) (wanted : Option Use) (before here after : Side) (list : List ((FrameClass × FrameClass × FrameClass) × List ℕ))
    → AreSaid (before ∷ here ∷ after ∷ []) wanted least (tell of_three list) → AreRowTears before here after least wanted list
row_tears least wanted before here after list said =
    record {
      each = λ k d h.
          let tear = get_or list k d in
          let three = said_at (before ∷ here ∷ after ∷ []) least of_three list said.each k d h in
          let told = shown (is_torn_by before here after (values_of tear.1)) (classes tear.1) (of_three tear.0) three.told in
          let parts = three_parts (class_at before (values_of tear.1)) (class_at here (values_of tear.1)) (class_at after (values_of tear.1))
          tear.0.0 tear.0.1 tear.0.2 told.1 in
          record { frame = three.frame; before = parts.0; here = parts.1.0; after = parts.1.1; torn = told.0 };
      looked_for = λ k d h.
          let f : (FrameClass × FrameClass × FrameClass) × List ℕ → Told × List ℕ = λ each. (of_three each.0, each.1) in
          let count = length-map list f in
          ap (λ (t : Told × List ℕ). is_wanted wanted t.0) (sym (get_or-map f list k d (of_three d.0, d.1) h))
          ∙ said.looked_for k (of_three d.0, d.1) (omega (arith, count, h));
      every = λ bytes b h a frame is is' is'' looked torn.
          told_listed (before ∷ here ∷ after ∷ []) wanted least of_three list (b, h, a) said
          (λ p q same. triple_same p q (ap (λ (t : Told). Some t) same)) bytes frame
          (show (is_torn_by before here after (values_of bytes)) (classes bytes) (Three b h a) torn
          (three_is (class_at before (values_of bytes)) (class_at here (values_of bytes)) (class_at after (values_of bytes)) b h a is is' is'')) looked;
      once =
          rising_less triple_number of_three (2 ^ 52 + 2 ^ 26 + 1) (triples_in list) (λ t. omega arith)
          (subst IsStrictlyIncreasing (ap (map told_number) (told_same of_three list)) said.once);
    }
  where
    classes : List ℕ → Option Told
    classes bytes = three_of (class_at before (values_of bytes)) (class_at here (values_of bytes)) (class_at after (values_of bytes))

-- and so by configurations
record AreTears (e f g : Entities) (port least : ℕ) (wanted : Option Use) (tears : List ((FrameClass × FrameClass × FrameClass) × List ℕ)) : Type 0 where
  each : All (IsTear e f g port least) tears
  every : (bytes : List ℕ) → IsFrame least bytes → IsTorn e f g port bytes
      → is_wanted wanted (of_three (class_of e port bytes, class_of f port bytes, class_of g port bytes)) ≡ true
      → Contains (triples_in tears) (class_of e port bytes, class_of f port bytes, class_of g port bytes)
  once : IsStrictlyIncreasing (map triple_number (triples_in tears))

are_tears : (e f g : Entities) (port least : ℕ) (wanted : Option Use) (before here after : Side) (list : List ((FrameClass × FrameClass × FrameClass) × List ℕ))
    → IsSide e port before → IsSide f port here → IsSide g port after → AreRowTears before here after least wanted list
    → AreTears e f g port least wanted list
are_tears e f g port least wanted before here after list is is' is'' rows =
    record {
      each = λ k d h.
          let tear = get_or list k d in
          let three = rows.each k d h in
          let fits = three.frame.bytes_fit in
          let torn = both (apart before tear.1) (apart after tear.1) three.torn in
          record {
            frame = three.frame;
            before = class_same (class_of e port tear.1) tear.0.0 (sym (class_is e port before is tear.1 fits) ∙ three.before);
            here = class_same (class_of f port tear.1) tear.0.1 (sym (class_is f port here is' tear.1 fits) ∙ three.here);
            after = class_same (class_of g port tear.1) tear.0.2 (sym (class_is g port after is'' tear.1 fits) ∙ three.after);
            torn = record { before = from_before.unlike tear.1 fits torn.0; after = from_after.unlike tear.1 fits torn.1 };
          };
      every = λ bytes frame torn looked.
          rows.every bytes (class_of e port bytes) (class_of f port bytes) (class_of g port bytes) frame
          (class_is e port before is bytes frame.bytes_fit) (class_is f port here is' bytes frame.bytes_fit) (class_is g port after is'' bytes frame.bytes_fit)
          looked (is_apart bytes frame torn);
      once = rows.once;
    }
  where
    from_before : AreSeenApart f e port here before
    from_before = values_tell_apart.tell f e port here before is' is

    from_after : AreSeenApart f g port here after
    from_after = values_tell_apart.tell f g port here after is' is''

    apart : Side → List ℕ → Bool
    apart side bytes = seen_apart false here side (values_of bytes)

    one_apart : (e' : Entities) (side : Side) (bytes : List ℕ) → IsFrame least bytes → AreSeenApart f e' port here side
        → (IsLike (sight_of f port bytes) (sight_of e' port bytes) → ⊥) → (b : Bool) → apart side bytes ≡ b → apart side bytes ≡ true
    one_apart e' side bytes frame tells unlike true p = p
    one_apart e' side bytes frame tells unlike false p = absurd (unlike (tells.like bytes frame.bytes_fit p))

    is_apart : (bytes : List ℕ) → IsFrame least bytes → IsTorn e f g port bytes → (apart before bytes && apart after bytes) ≡ true
    is_apart bytes frame torn =
        and_both (apart before bytes) (apart after bytes) (one_apart e before bytes frame from_before torn.before (apart before bytes) refl)
        (one_apart g after bytes frame from_after torn.after (apart after bytes) refl)

pub are_torn : (e f g : Entities) (port least : ℕ) (before here after : Side) (list : List ((FrameClass × FrameClass × FrameClass) × List ℕ))
    → IsSide e port before → IsSide f port here → IsSide g port after
    → AreSaid (before ∷ here ∷ after ∷ []) None least (tell of_three list) → AreTorn e f g port least list
are_torn e f g port least before here after list is is' is'' said =
    let tears = are_tears e f g port least None before here after list is is' is'' (row_tears least None before here after list said) in
    record { each = tears.each; every = λ bytes frame torn. tears.every bytes frame torn refl; once = tears.once }

-- those of one use
use_is : (one other : Use) → same_use one other ≡ true → one ≡ other
use_is Unread Unread h = refl
use_is NoTable NoTable h = refl
use_is (Entry number) (Entry other) h = ap (λ (n : ℕ). Entry n) (eqb-true number other h)
use_is NoEntry NoEntry h = refl
use_is Unread NoTable h = absurd (true≢false (sym h))
use_is Unread (Entry number) h = absurd (true≢false (sym h))
use_is Unread NoEntry h = absurd (true≢false (sym h))
use_is NoTable Unread h = absurd (true≢false (sym h))
use_is NoTable (Entry number) h = absurd (true≢false (sym h))
use_is NoTable NoEntry h = absurd (true≢false (sym h))
use_is (Entry number) Unread h = absurd (true≢false (sym h))
use_is (Entry number) NoTable h = absurd (true≢false (sym h))
use_is (Entry number) NoEntry h = absurd (true≢false (sym h))
use_is NoEntry Unread h = absurd (true≢false (sym h))
use_is NoEntry NoTable h = absurd (true≢false (sym h))
use_is NoEntry (Entry number) h = absurd (true≢false (sym h))

use_self : (used : Use) → same_use used used ≡ true
use_self Unread = refl
use_self NoTable = refl
use_self (Entry number) = eq-eqb number number refl
use_self NoEntry = refl

pub are_torn_by_rows : (least : ℕ) (used : Use) (before here after : Side) (list : List ((FrameClass × FrameClass × FrameClass) × List ℕ))
    → AreSaid (before ∷ here ∷ after ∷ []) (Some used) least (tell of_three list) → AreTornByRows before here after least used list
are_torn_by_rows least used before here after list said =
    let tears = row_tears least (Some used) before here after list said in
    record {
      each = tears.each;
      uses = λ k d h. use_is (get_or list k d).0.1.used used (tears.looked_for k d h);
      every = λ bytes b h a frame is is' is'' same torn.
          tears.every bytes b h a frame is is' is'' (ap (λ (u : Use). same_use u used) same ∙ use_self used) torn;
      once = tears.once;
    }

pub are_torn_by : (e f g : Entities) (port least : ℕ) (used : Use) (before here after : Side) (list : List ((FrameClass × FrameClass × FrameClass) × List ℕ))
    → IsSide e port before → IsSide f port here → IsSide g port after → AreTornByRows before here after least used list
    → AreTornBy e f g port least used list
are_torn_by e f g port least used before here after list is is' is'' rows =
    let tears = are_tears e f g port least (Some used) before here after list is is' is'' (record {
      each = rows.each;
      looked_for = λ k d h. ap (λ (u : Use). same_use u used) (rows.uses k d h) ∙ use_self used;
      every = λ bytes b h a frame at at' at'' looked torn. rows.every bytes b h a frame at at' at'' (use_is h.used used looked) torn;
      once = rows.once;
    }) in
    record {
      each = tears.each;
      uses = rows.uses;
      every = λ bytes frame torn same. tears.every bytes frame torn (ap (λ (u : Use). same_use u used) same ∙ use_self used);
      once = tears.once;
    }

-- ---- what the calls ask

pub one_all : {X : Type 0} (P : X → Type 0) (x : X) → P x → All P (x ∷ [])
one_all P x p = All-from_recursion P (x ∷ []) (p, tt)

pub two_all : {X : Type 0} (P : X → Type 0) (x y : X) → P x → P y → All P (x ∷ y ∷ [])
two_all P x y p q = All-from_recursion P (x ∷ y ∷ []) (p, (q, tt))

pub three_all : {X : Type 0} (P : X → Type 0) (x y z : X) → P x → P y → P z → All P (x ∷ y ∷ z ∷ [])
three_all P x y z p q r = All-from_recursion P (x ∷ y ∷ z ∷ []) (p, (q, (r, tt)))

-- each sample tells of as many classes as there are sides
some_same : (told some : Told) → Some told ≡ Some some → told ≡ some
some_same told some e = cc

counts : (count : ℕ) (told some : Told) → count_told told ≡ count → Some told ≡ Some some → count_told some ≡ count
counts count told some is same = subst (λ (t : Told). count_told t ≡ count) (some_same told some same) is

one_counts : (one : Option FrameClass) (told : Told) → one_of one ≡ Some told → count_told told ≡ 1
one_counts None told is = absurd (none_some told is)
one_counts (Some c) told is = counts 1 (One c) told refl is

two_counts : (one other : Option FrameClass) (told : Told) → two_of one other ≡ Some told → count_told told ≡ 2
two_counts None other told is = absurd (none_some told is)
two_counts (Some c) None told is = absurd (none_some told is)
two_counts (Some c) (Some d) told is = counts 2 (Two c d) told refl is

three_counts : (one other last : Option FrameClass) (told : Told) → three_of one other last ≡ Some told → count_told told ≡ 3
three_counts None other last told is = absurd (none_some told is)
three_counts (Some b) None last told is = absurd (none_some told is)
three_counts (Some b) (Some c) None told is = absurd (none_some told is)
three_counts (Some b) (Some c) (Some d) told is = counts 3 (Three b c d) told refl is

pub all_one : (side : Side) (least : ℕ) (samples : List Sample) → AreTold (side ∷ []) None least samples → All (λ s. count_told s.told ≡ 1) samples
all_one side least samples are k d h =
    let sample = get_or samples k d in
    one_counts (class_at side sample.values) sample.told (are.samples_tell k d h).told

pub all_two : (one other : Side) (least : ℕ) (samples : List Sample) → AreTold (one ∷ other ∷ []) None least samples
    → All (λ s. count_told s.told ≡ 2) samples
all_two one other least samples are k d h =
    let sample = get_or samples k d in
    let classes = two_of (class_at one sample.values) (class_at other sample.values) in
    two_counts (class_at one sample.values) (class_at other sample.values) sample.told
    (shown (seen_apart true one other sample.values) classes sample.told (are.samples_tell k d h).told).1

pub all_three : (before here after : Side) (wanted : Option Use) (least : ℕ) (samples : List Sample) → AreTold (before ∷ here ∷ after ∷ []) wanted least samples
    → All (λ s. count_told s.told ≡ 3) samples
all_three before here after wanted least samples are k d h =
    let sample = get_or samples k d in
    let classes = three_of (class_at before sample.values) (class_at here sample.values) (class_at after sample.values) in
    three_counts (class_at before sample.values) (class_at here sample.values) (class_at after sample.values) sample.told
    (shown (seen_apart false here before sample.values && seen_apart false here after sample.values) classes sample.told (are.samples_tell k d h).told).1
