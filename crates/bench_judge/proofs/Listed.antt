-- Deviations that are listed one after the other.
use Rattle.std.proofs.Common.{◌≡◌, ◌==◌, ◌<◌, ◌≤◌, ◌-◌, ℕ, Bool, true, false, List, [], ◌∷◌, ◌++◌, length, take, Some, slice_get, inl, inr, refl, ap, sym, subst, ◌∙◌, arith, append-nil, length-append, true≢false}
use Rattle.std.specs.Prelude.{slice_set}
use Rattle.std.proofs.lemmas.Bool.{eqb-true}
use Rattle.std.proofs.lemmas.List.{append_assoc}
use Rattle.std.proofs.lemmas.Option.{same_Some, slice_get_within}
use Rattle.bench_history.specs.declared.event.Event.{Event}
use Rattle.bench_judge.specs.Deviations.{AreAscending, AreDeviations, AreWithout, IsFindings, taken_back}
use Rattle.bench_judge.specs.Explained.{IsExplained}
use Rattle.bench_judge.specs.Judged.{IsDeviation, IsExplanation}
use Rattle.bench_judge.specs.Terms.{Terms, ground_in}
use Rattle.bench_judge.specs.Walk.{AreSound}
use Rattle.bench_judge.specs.declared.judgement.Deviation.{Deviation}
use Rattle.bench_judge.specs.declared.judgement.Deviations.{Deviations}
use Rattle.bench_judge.specs.declared.judgement.Explanation.{Explanation}
use Rattle.bench_judge.specs.declared.judgement.Findings.TheVariants.{Explained, Deviates}
use Rattle.bench_answers.proofs.Places.{element_at, get_pushed}
use Rattle.bench_judge.proofs.Raised.{no_events}
use Rattle.bench_judge.proofs.TakenBack.{explained_without, place_behind, sound_without, unexplained}

-- no line stands behind another
abbrev AreUpTo : List Deviation → ℕ → Type 0
AreUpTo list line = (k : ℕ) (d : Deviation) → slice_get list k ≡ Some d → d.line ≤ line

-- these are the first deviations of events, and others are the events of which their claims are taken back
pub record AreSoFar (terms : Terms) (most : ℕ) (events others : List Event) (list : List Deviation) : Type 0 where
  pub sound : AreSound others
  pub none : list ≡ [] → others ≡ events
  pub more : (rest : List Deviation) (cut : Bool) → AreDeviations terms others rest cut → AreDeviations terms events (list ++ rest) cut
  pub line : ℕ
  pub before : IsExplained terms (take line others)
  pub up_to : AreUpTo list line
  pub ascend : AreAscending list
  pub within : length list ≤ most

pub so_far_none : (terms : Terms) (most : ℕ) (events : List Event) (list : List Deviation) → list ≡ [] → AreSound events → AreSoFar terms most events events list
so_far_none terms most events [] none sound =
    record {
      sound = sound;
      none = λ _. refl;
      more = λ rest cut are. are;
      line = 0;
      before = record {
        admitted = λ i event at. cc at;
        versions = λ n. 0;
        choice = no_events (ground_in terms) terms.settings.padded terms.settings.unordered (λ n. 0);
      };
      up_to = λ k d at. cc at;
      ascend = λ j k one other at. cc at;
      within = omega arith;
    }
so_far_none terms most events (d ∷ list) none sound = cc none

-- ---- one more

-- what is left where the claim of a deviation is taken back
pub without_line : (terms : Terms) (others next : List Event) (d : Deviation) (is : IsDeviation terms others d)
    → ((event : Event) → slice_get others (d.line - 1) ≡ Some event → next ≡ slice_set others (d.line - 1) (taken_back event))
    → AreWithout others is.place next
without_line terms others next d is back =
    let here = element_at others is.place is.first.within in
    let place : d.line - 1 ≡ is.place = omega (arith, is.line) in
    record {
      event = here.0;
      at = here.1;
      rest = back here.0 (ap (λ (k : ℕ). slice_get others k) place ∙ here.1) ∙ ap (λ (k : ℕ). slice_set others k (taken_back here.0)) place;
    }

up_to_more : (list : List Deviation) (d : Deviation) (line : ℕ) → AreUpTo list line → line < d.line → AreUpTo (list ++ d ∷ []) d.line
up_to_more list d line up less k e at =
    elim (get_pushed list d k e at) [
      | inl old ↦ omega (arith, up k e old, less)
      | inr last ↦ let same = ap (λ (x : Deviation). x.line) last.1 in omega (arith, same)
    ]

ascend_more : (list : List Deviation) (d : Deviation) (line : ℕ) → AreUpTo list line → line < d.line → AreAscending list → AreAscending (list ++ d ∷ [])
ascend_more list d line up less ascend j k one other at_j at_k before =
    elim (get_pushed list d k other at_k) [
      | inl old_k ↦
          elim (get_pushed list d j one at_j) [
            | inl old_j ↦ ascend j k one other old_j old_k before
            | inr last_j ↦ absurd (omega (arith, slice_get_within list k other old_k, last_j.0, before))
          ]
      | inr last_k ↦
          elim (get_pushed list d j one at_j) [
            | inl old_j ↦ let same = ap (λ (x : Deviation). x.line) last_k.1 in omega (arith, up j one old_j, less, same)
            | inr last_j ↦ absurd (omega (arith, last_j.0, last_k.0, before))
          ]
    ]

pushed_some : (list : List Deviation) (d : Deviation) → list ++ d ∷ [] ≡ [] → ⊥
pushed_some [] d is = cc is
pushed_some (e ∷ list) d is = cc is

pub so_far_more : (terms : Terms) (most : ℕ) (events others next : List Event) (list : List Deviation) (d : Deviation) → AreSoFar terms most events others list
    → (is : IsDeviation terms others d) → AreWithout others is.place next → length list < most → AreSoFar terms most events next (list ++ d ∷ [])
so_far_more terms most events others next list d so_far is w room =
    let behind = place_behind terms others so_far.line is.place so_far.before is.first in
    let less : so_far.line < d.line = omega (arith, behind, is.line) in
    record {
      sound = sound_without terms others next d so_far.sound is w;
      none = λ no. absurd (pushed_some list d no);
      more = λ rest cut are.
          subst (λ all. AreDeviations terms events all cut) (sym (append_assoc list (d ∷ []) rest))
          (so_far.more (d ∷ rest) cut (is, λ same without. subst (λ (xs : List Event). AreDeviations terms xs rest cut) (one_without others is.place next same w without) are));
      line = d.line;
      before = subst (λ n. IsExplained terms (take n next)) (sym is.line) (explained_without terms others next is.place is.first.before w);
      up_to = up_to_more list d so_far.line so_far.up_to less;
      ascend = ascend_more list d so_far.line so_far.up_to less so_far.ascend;
      within = omega (arith, room, length-append list (d ∷ []));
    }
  where
    one_without : (xs : List Event) (place : ℕ) (one other : List Event) → AreWithout xs place one → AreWithout xs place other → one ≡ other
    one_without xs place one other w v =
        let same : w.event ≡ v.event = same_Some w.event v.event (sym w.at ∙ v.at) in
        w.rest ∙ ap (λ (e : Event). slice_set xs place (taken_back e)) same ∙ sym v.rest

-- ---- the end

none_explained : (terms : Terms) (events : List Event) (list : List Deviation) (cut : Bool) → AreDeviations terms events list cut → (list ≡ [] → cut ≡ true)
    → IsExplained terms events → ⊥
none_explained terms events [] true are some is = are is
none_explained terms events [] false are some is = absurd (cc (some refl))
none_explained terms events (d ∷ list) cut are some is = unexplained terms events are.0.place are.0.first is

-- a list that isn't empty by its length
pub some_items : {A : Type 0} (list : List A) (count : ℕ) → count ≡ length list → (count == 0) ≡ false → list ≡ [] → ⊥
some_items list count same some none = true≢false (sym (ap (λ (n : ℕ). n == 0) (same ∙ ap (λ (xs : List _). length xs) none)) ∙ some)

pub no_items : {A : Type 0} (list : List A) (count : ℕ) → count ≡ length list → (count == 0) ≡ true → list ≡ []
no_items [] count same none = refl
no_items (x ∷ list) count same none = absurd (omega (arith, same, eqb-true count 0 none))

-- no line deviates
pub explained_at_once : (terms : Terms) (most : ℕ) (events others : List Event) (list : List Deviation) (explanation : Explanation)
    → AreSoFar terms most events others list → list ≡ [] → IsExplanation terms others explanation → IsFindings terms most events (Explained explanation)
explained_at_once terms most events others list explanation so_far none is = subst (λ (xs : List Event). IsExplanation terms xs explanation) (so_far.none none) is

-- no more lines deviate
pub all_listed : (terms : Terms) (most : ℕ) (events others : List Event) (found : Deviations) → found.more ≡ false → (found.list.items ≡ [] → ⊥)
    → AreSoFar terms most events others found.list.items → IsExplained terms others → IsFindings terms most events (Deviates found)
all_listed terms most events others found whole some so_far is =
    let list = found.list.items in
    let are : AreDeviations terms events list false =
    subst (λ all. AreDeviations terms events all false) (append-nil list) (so_far.more [] false is) in
    record {
      unexplained = none_explained terms events list false are (λ no. absurd (some no));
      deviations = subst (AreDeviations terms events list) (sym whole) are;
      ascend = so_far.ascend;
      within = so_far.within;
      cut = λ more. cc (sym whole ∙ more);
    }

-- more do, and the list is full
pub some_listed : (terms : Terms) (most : ℕ) (events others : List Event) (found : Deviations) (d : Deviation) → found.more ≡ true → most ≤ length found.list.items
    → AreSoFar terms most events others found.list.items → IsDeviation terms others d → IsFindings terms most events (Deviates found)
some_listed terms most events others found d cut full so_far is =
    let list = found.list.items in
    let are : AreDeviations terms events list true =
    subst (λ all. AreDeviations terms events all true) (append-nil list) (so_far.more [] true (unexplained terms others is.place is.first)) in
    record {
      unexplained = none_explained terms events list true are (λ _. refl);
      deviations = subst (AreDeviations terms events list) (sym cut) are;
      ascend = so_far.ascend;
      within = so_far.within;
      cut = λ _. omega (arith, full, so_far.within);
    }
