-- What is kept of doubtful frames, when one more event says that one of some left.
use Rattle.std.proofs.Common.{◌≡◌, ℕ, ◌+◌, ◌-◌, Bool, true, false, ◌||◌, ◌&&◌, cond, List, [], ◌∷◌, ◌++◌, length, take, drop, zero, suc, ◌≤◌, refl, ap, sym, ◌∙◌, arith, slice_index_or}
use Rattle.std.specs.Prelude.{◌==◌, max, nat_le, map}
use Rattle.std.specs.List.{count_by, list_all, list_any}
use Rattle.std.proofs.lemmas.List.{map-append}
use Rattle.std.proofs.lemmas.List.Folds.{fold-map, list_all-append, list_any-append}
use Rattle.std.proofs.lemmas.Bool.{and_from, and_parts, eq-eqb, or_left, or_right, leb-true, le-leb}
use Rattle.bench_history.proofs.Added.{counted}
use Rattle.bench_history.proofs.Reaching.{AreApart, each_up_to, raised_behind, reach_more, reach_raised}
use Rattle.bench_history.specs.Among.{are_in_order}
use Rattle.bench_history.specs.History.{are_among, have_left, is_among}
use Rattle.bench_history.specs.Doubts.{IsDoubted, frames_of, last_or, missing_of, raised, reach_of, reach_on, settles}
use Rattle.bench_history.specs.declared.doubts.Doubt.{Doubt}
use Rattle.bench_history.specs.declared.doubts.Doubts.{Doubts}

-- ---- frames among frames

among_more : (frames : List ℕ) (n : ℕ) (some : List ℕ) → are_among frames some ≡ true → are_among (n ∷ frames) some ≡ true
among_more frames n [] is = refl
among_more frames n (m ∷ some) is =
    let both = and_parts (is_among frames m) (are_among frames some) is in
    and_from (is_among (n ∷ frames) m) (are_among (n ∷ frames) some) (or_right (n == m) (is_among frames m) both.0) (among_more frames n some both.1)

among_themselves : (frames : List ℕ) → are_among frames frames ≡ true
among_themselves [] = refl
among_themselves (n ∷ frames) =
    and_from (is_among (n ∷ frames) n) (are_among (n ∷ frames) frames) (or_left (n == n) (is_among frames n) (eq-eqb n n refl))
    (among_more frames n frames (among_themselves frames))

-- ---- how many events are missing

one_less : (b : Bool) (all count more : ℕ) → more ≡ count + cond b 1 0 → all - more ≡ cond b (all - count - 1) (all - count)
one_less true all count more is = omega arith
one_less false all count more is = omega arith

missing_with : (named : List (List ℕ)) (some frames : List ℕ)
    → missing_of (named ++ some ∷ []) frames ≡ cond (are_among frames some) (missing_of named frames - 1) (missing_of named frames)
missing_with named some frames =
    one_less (are_among frames some) (length frames) (count_by (are_among frames) named) (count_by (are_among frames) (named ++ some ∷ []))
    (counted (are_among frames) named some)

raised_missing : (some : List ℕ) (named : List (List ℕ)) (doubts : List Doubt)
    → map (λ (doubt : Doubt). doubt.missing) doubts ≡ map (missing_of named) (frames_of doubts)
    → map (λ (doubt : Doubt). doubt.missing) (map (raised some) doubts) ≡ map (missing_of (named ++ some ∷ [])) (frames_of doubts)
raised_missing some named [] is = refl
raised_missing some named (doubt ∷ doubts) is =
    let frames = doubt.frames.items in
    let first : doubt.missing ≡ missing_of named frames = cc in
    let others : map (λ (d : Doubt). d.missing) doubts ≡ map (missing_of named) (frames_of doubts) = cc in
    let one : cond (are_among frames some) (doubt.missing - 1) doubt.missing ≡ missing_of (named ++ some ∷ []) frames =
    ap (λ m. cond (are_among frames some) (m - 1) m) first ∙ sym (missing_with named some frames) in
    let more = raised_missing some named doubts others in
    ap (λ m. m ∷ map (λ (d : Doubt). d.missing) (map (raised some) doubts)) one ∙ ap (λ (ms : List ℕ). missing_of (named ++ some ∷ []) frames ∷ ms) more

pub raised_frames : (some : List ℕ) (doubts : List Doubt) → frames_of (map (raised some) doubts) ≡ frames_of doubts
raised_frames some [] = refl
raised_frames some (doubt ∷ doubts) = ap (λ (fs : List (List ℕ)). doubt.frames.items ∷ fs) (raised_frames some doubts)

-- ---- which frames are used up

none_missing : (all count : ℕ) → (all - count == 0) ≡ nat_le all count
none_missing all count = grind arith

either_order : (a b : Bool) → (a && b) ≡ (b && a)
either_order true true = refl
either_order true false = refl
either_order false true = refl
either_order false false = refl

last_first : (a b : Bool) → (a || b) ≡ (b || (a || false))
last_first true true = refl
last_first true false = refl
last_first false true = refl
last_first false false = refl

absorbed : (a b : Bool) → (b ≡ true → a ≡ true) → (a || b) ≡ a
absorbed true b more = refl
absorbed false true more = sym (more refl)
absorbed false false more = refl

settles_by : (n : ℕ) (named : List (List ℕ)) (doubt : Doubt) → doubt.missing ≡ missing_of named doubt.frames.items
    → settles n doubt ≡ (is_among doubt.frames.items n && have_left doubt.frames.items named)
settles_by n named doubt is =
    let frames = doubt.frames.items in
    ap (λ m. (m == 0) && is_among frames n) is ∙ ap (λ (b : Bool). b && is_among frames n) (none_missing (length frames) (count_by (are_among frames) named))
    ∙ either_order (have_left frames named) (is_among frames n)

settled_by : (n : ℕ) (named : List (List ℕ)) (doubts : List Doubt)
    → map (λ (doubt : Doubt). doubt.missing) doubts ≡ map (missing_of named) (frames_of doubts)
    → list_any (settles n) doubts ≡ list_any (λ frames. is_among frames n && have_left frames named) (frames_of doubts)
settled_by n named [] is = refl
settled_by n named (doubt ∷ doubts) is =
    let first : doubt.missing ≡ missing_of named doubt.frames.items = cc in
    let others : map (λ (d : Doubt). d.missing) doubts ≡ map (missing_of named) (frames_of doubts) = cc in
    let behind = settled_by n named doubts others in
    ap (λ (b : Bool). b || list_any (settles n) doubts) (settles_by n named doubt first)
    ∙ ap (λ (b : Bool). (is_among doubt.frames.items n && have_left doubt.frames.items named) || b) behind

still_left : (named : List (List ℕ)) (some frames : List ℕ) → have_left frames named ≡ true → have_left frames (named ++ some ∷ []) ≡ true
still_left named some frames is =
    le-leb (length frames) (count_by (are_among frames) (named ++ some ∷ []))
    (omega (arith, leb-true (length frames) (count_by (are_among frames) named) is, counted (are_among frames) named some))

still_any : (n : ℕ) (named : List (List ℕ)) (some : List ℕ) (all : List (List ℕ))
    → list_any (λ frames. is_among frames n && have_left frames named) all ≡ true
    → list_any (λ frames. is_among frames n && have_left frames (named ++ some ∷ [])) all ≡ true
still_any n named some [] is = is
still_any n named some (frames ∷ all) is =
    step (is_among frames n) (have_left frames named) (have_left frames (named ++ some ∷ [])) _ _ (still_left named some frames) (still_any n named some all) is
  where
    step : (a h i b c : Bool) → (h ≡ true → i ≡ true) → (b ≡ true → c ≡ true) → ((a && h) || b) ≡ true → ((a && i) || c) ≡ true
    step true true i b c first behind is = or_left i c (first refl)
    step true false i b c first behind is = or_right i c (behind is)
    step false h i b c first behind is = behind is

either_way : (a b c : Bool) → (a ≡ true → c ≡ true) → (b || c) ≡ ((a || b) || c)
either_way true true c more = refl
either_way true false c more = more refl
either_way false b c more = refl

any_before : (n i : ℕ) (doubts : List Doubt) → list_any (settles n) (take i doubts) ≡ true → list_any (settles n) doubts ≡ true
any_before n zero doubts is = cc is
any_before n (suc i) [] is = is
any_before n (suc i) (doubt ∷ doubts) is = step (settles n doubt) _ (any_before n i doubts) is
  where
    step : (a b : Bool) → (b ≡ true → list_any (settles n) doubts ≡ true) → (a || b) ≡ true → (a || list_any (settles n) doubts) ≡ true
    step true b more is = refl
    step false b more is = more is

-- the doubts that end before those frames have settled already
pub settled_behind : (named : List (List ℕ)) (some : List ℕ) (old : Doubts) (i n : ℕ) → IsDoubted named old → AreApart some (take i old.doubts.items)
    → (list_any (settles n) (map (raised some) (drop i old.doubts.items)) || slice_index_or old.used_up.items n false)
    ≡ (list_any (settles n) (map (raised some) old.doubts.items) || slice_index_or old.used_up.items n false)
settled_behind named some old i n was apart =
    let olds = old.doubts.items in
    let lacked : map (λ (d : Doubt). d.missing) olds ≡ map (missing_of named) (frames_of olds) =
    was.missing ∙ ap (λ (fs : List (List ℕ)). map (missing_of named) fs) (sym was.frames) in
    let by_all : List ℕ → Bool = λ fs. is_among fs n && have_left fs named in
    let kept : list_any (settles n) olds ≡ slice_index_or old.used_up.items n false =
    settled_by n named olds lacked ∙ ap (λ (fs : List (List ℕ)). list_any by_all fs) was.frames ∙ sym (was.used_up n) in
    either_way (list_any (settles n) (take i olds)) (list_any (settles n) (map (raised some) (drop i olds))) (slice_index_or old.used_up.items n false)
    (λ is. sym kept ∙ any_before n i olds is)
    ∙ ap (λ (b : Bool). b || slice_index_or old.used_up.items n false)
    (sym (list_any-append (settles n) (take i olds) (map (raised some) (drop i olds))) ∙ ap (λ (ds : List Doubt). list_any (settles n) ds) (raised_behind some i olds apart))

-- ---- all of it

pub doubted : (named : List (List ℕ)) (some : List ℕ) (old new : Doubts) (doubt : Doubt) → IsDoubted named old
    → new.doubts.items ≡ map (raised some) old.doubts.items ++ doubt ∷ []
    → doubt.frames.items ≡ some
    → doubt.missing ≡ length some - (count_by (λ (d : Doubt). are_among some d.frames.items) old.doubts.items + 1)
    → are_in_order some ≡ true
    → doubt.reach ≡ max (reach_of (map (raised some) old.doubts.items)) (last_or 0 some)
    → ((n : ℕ) → slice_index_or new.doubtful.items n false ≡ (is_among some n || slice_index_or old.doubtful.items n false))
    → ((n : ℕ) → slice_index_or new.used_up.items n false
    ≡ (settles n doubt || (list_any (settles n) (map (raised some) old.doubts.items) || slice_index_or old.used_up.items n false)))
    → IsDoubted (named ++ some ∷ []) new
doubted named some old new doubt was doubts frames missing order far doubtful used_up =
    let all : List (List ℕ) = named ++ some ∷ [] in
    let before : List Doubt = map (raised some) old.doubts.items in
    let names : frames_of before ≡ named = raised_frames some old.doubts.items ∙ was.frames in
    let lacked : map (λ (d : Doubt). d.missing) old.doubts.items ≡ map (missing_of named) (frames_of old.doubts.items) =
    was.missing ∙ ap (λ (fs : List (List ℕ)). map (missing_of named) fs) (sym was.frames) in
    let raised_lack : map (λ (d : Doubt). d.missing) before ≡ map (missing_of all) (frames_of old.doubts.items) = raised_missing some named old.doubts.items lacked in
    let lacks : map (λ (d : Doubt). d.missing) before ≡ map (missing_of all) named =
    raised_lack ∙ ap (λ (fs : List (List ℕ)). map (missing_of all) fs) was.frames in
    let count : count_by (λ (d : Doubt). are_among some d.frames.items) old.doubts.items ≡ count_by (are_among some) named =
    sym (fold-map (λ a x. a + cond (are_among some x) 1 0) (λ (d : Doubt). d.frames.items) 0 old.doubts.items)
    ∙ ap (λ (fs : List (List ℕ)). count_by (are_among some) fs) was.frames in
    let itself : count_by (are_among some) all ≡ count_by (are_among some) named + 1 =
    counted (are_among some) named some ∙ ap (λ (b : Bool). count_by (are_among some) named + cond b 1 0) (among_themselves some) in
    let own : doubt.missing ≡ missing_of all some = omega (arith, missing, count, itself) in
    record {
      frames =
          ap (λ (ds : List Doubt). frames_of ds) doubts ∙ map-append (λ (d : Doubt). d.frames.items) before (doubt ∷ [])
          ∙ ap (λ (fs : List (List ℕ)). fs ++ doubt.frames.items ∷ []) names ∙ ap (λ (f : List ℕ). named ++ f ∷ []) frames;
      missing =
          ap (λ (ds : List Doubt). map (λ (d : Doubt). d.missing) ds) doubts ∙ map-append (λ (d : Doubt). d.missing) before (doubt ∷ [])
          ∙ ap (λ (ms : List ℕ). ms ++ doubt.missing ∷ []) lacks ∙ ap (λ m. map (missing_of all) named ++ m ∷ []) own
          ∙ sym (map-append (missing_of all) named (some ∷ []));
      in_order = list_all-append are_in_order named (some ∷ []) ∙ and_from (list_all are_in_order named) (are_in_order some && true) was.in_order (and_from (are_in_order some) true order refl);
      reach =
          let ahead : reach_of before ≤ doubt.reach = omega (arith, far) in
          let last : last_or 0 some ≤ doubt.reach = omega (arith, far) in
          let own : list_all (λ k. nat_le k doubt.reach) doubt.frames.items ≡ true =
          ap (λ (fs : List ℕ). list_all (λ k. nat_le k doubt.reach) fs) frames
          ∙ each_up_to doubt.reach some order last in
          ap (λ (ds : List Doubt). reach_on 0 ds) doubts
          ∙ reach_more 0 before doubt (reach_raised some 0 old.doubts.items ∙ was.reach) ahead own;
      doubtful = λ n.
          doubtful n ∙ ap (λ (b : Bool). is_among some n || b) (was.doubtful n)
          ∙ last_first (is_among some n) (list_any (λ fs. is_among fs n) named) ∙ sym (list_any-append (λ fs. is_among fs n) named (some ∷ []));
      used_up = λ n.
          let by_all : List ℕ → Bool = λ fs. is_among fs n && have_left fs all in
          let last : settles n doubt ≡ by_all some =
          settles_by n all doubt (own ∙ ap (λ (f : List ℕ). missing_of all f) (sym frames)) ∙ ap by_all frames in
          let others : list_any (settles n) before ≡ list_any by_all named =
          settled_by n all before (lacks ∙ ap (λ (fs : List (List ℕ)). map (missing_of all) fs) (sym names)) ∙ ap (λ (fs : List (List ℕ)). list_any by_all fs) names in
          let old_ones : (list_any by_all named || slice_index_or old.used_up.items n false) ≡ list_any by_all named =
          absorbed (list_any by_all named) (slice_index_or old.used_up.items n false) (λ set. still_any n named some named (sym (was.used_up n) ∙ set)) in
          used_up n ∙ ap (λ (b : Bool). b || (list_any (settles n) before || slice_index_or old.used_up.items n false)) last
          ∙ ap (λ (b : Bool). by_all some || (b || slice_index_or old.used_up.items n false)) others
          ∙ ap (λ (b : Bool). by_all some || b) old_ones ∙ last_first (by_all some) (list_any by_all named) ∙ sym (list_any-append by_all named (some ∷ []));
    }
