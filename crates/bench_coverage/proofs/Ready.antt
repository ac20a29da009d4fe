-- A passage at a version, and the class of a frame there.
use Rattle.std.proofs.Common.{◌≡◌, ℕ, ◌+◌, ◌-◌, ◌<◌, ◌≤◌, ◌^◌, Bool, true, false, List, take, Some, None, Ok, refl, ap, sym, subst, ◌∙◌, arith}
use Rattle.std.specs.Prelude.{All, Decides, if◌then◌else◌, slice_get}
use Rattle.std.proofs.lemmas.List.Elements.{All-from_get_or}
use Rattle.hex.specs.Hex.{decode_of}
use Rattle.hex.proofs.HexLemmas.{decode_of-ok}
use Rattle.omci_msg.specs.declared.request.Request.{Request}
use Rattle.mib_state.specs.Entities.{Entities}
use Rattle.mib_state.specs.Step.{left}
use Rattle.mib_state.specs.After.{after}
use Rattle.frame_meaning.specs.Meaning.{meaning, read_at, table_at}
use Rattle.frame_rows.specs.declared.class.Ending.{Ending}
use Rattle.frame_rows.specs.declared.class.FrameClass.{FrameClass}
use Rattle.frame_rows.specs.declared.class.Use.{Use}
use Rattle.frame_rows.specs.Class.{class_of, ending_by}
use Rattle.frame_rows.specs.Rows.{Mean}
use Rattle.frame_rows.specs.Use.{use_by, use_of}
use Rattle.frame_sameness.specs.Same.{AreSame}
use Rattle.script_heads.specs.Heads.{IsHeadOf}
use Rattle.bench_coverage.specs.Known.{AreKnown}
use Rattle.bench_coverage.specs.Passage.{IsPassage, IsReady, entities_in}
use Rattle.bench_coverage.specs.Stretches.{Begins, IsInStretch, entities_by}
use Rattle.bench_coverage.specs.Uses.{AreUsesAt}
use Rattle.bench_coverage.specs.declared.passage.Passage.{Passage}
use Rattle.bench_coverage.proofs.Afters.{last_by, last_inside, next_by, next_inside, past_end}
use Rattle.bench_coverage.proofs.Heads.{class_alike}
use Rattle.bench_coverage.proofs.Stretched.{begins_next}

-- what is kept is of these entities, which are those of the version
pub ready_from : (passage : Passage) (e f : Entities) → IsPassage passage → e ≡ passage.states.here → f ≡ passage.states.here
    → AreUsesAt (table_at e passage.port) passage.uses → Mean f passage.port passage.rows.endings passage.rows.rows.items
    → AreKnown (entities_in passage passage.version) passage.port passage.known → IsReady passage
ready_from passage e f passes same_e same_f uses mean known =
    record {
      passes = passes;
      uses = subst (λ (x : Entities). AreUsesAt (table_at x passage.port) passage.uses) (same_e ∙ passes.here) uses;
      mean = subst (λ (x : Entities). Mean x passage.port passage.rows.endings passage.rows.rows.items) (same_f ∙ passes.here) mean;
      known = known;
    }

-- version 0
pub begun_by : (requests : List Request) (base : ℕ) (e : Entities) → e ≡ after (take base requests) → e ≡ entities_by requests base 0
begun_by requests base e is = let same : base ≡ base + 0 = omega arith in is ∙ ap (λ (n : ℕ). after (take n requests)) same

-- ---- the next version

module _ (old : Passage) (passes : IsPassage old) where
  pub next_here : (q : Request) → slice_get old.requests.now (old.base + old.version) ≡ Some q
      → left q.action old.states.here q ≡ entities_in old (old.version + 1)
  next_here q at =
      ap (λ (e : Entities). left q.action e q) passes.here ∙ sym (next_by old.requests.now old.base old.version q at)

  pub next_before : (q : Request) → slice_get old.requests.now (old.base + old.version) ≡ Some q
      → left q.action old.states.before.entities q ≡ entities_in old (old.version + 1)
  next_before q at =
      ap (λ (e : Entities). left q.action e q) passes.before ∙ sym (next_by old.requests.now old.base old.version q at)

  pub next_first : (q : Request) → slice_get old.requests.now (old.base + old.version) ≡ Some q
      → (e f : Entities) (same : Bool) (first : ℕ) → e ≡ old.states.before.entities → f ≡ left q.action old.states.here q
      → Decides same (AreSame e f old.port old.least) → first ≡ (if same then old.first else (old.version + 1))
      → IsInStretch (entities_in old) old.port old.least first (old.version + 1)
  next_first q at e f same first same_e same_f decides is =
      subst (λ (n : ℕ). IsInStretch (entities_in old) old.port old.least n (old.version + 1)) (sym is)
      (next_inside (entities_in old) old.port old.least old.first old.version same passes.inside
      (subst (λ (x : Entities). Decides same (AreSame x (entities_in old (old.version + 1)) old.port old.least)) (same_e ∙ passes.before)
      (subst (λ (x : Entities). Decides same (AreSame e x old.port old.least)) (same_f ∙ next_here q at) decides)))

  -- no request leads to it
  pub stays_last : slice_get old.requests.now (old.base + old.version) ≡ None → IsPassage (record old { version = old.version + 1 })
  stays_last none =
      let past = past_end old.requests.now (old.base + old.version) none in
      let same = sym (last_by old.requests.now old.base old.version past) in
      record {
        inside = last_inside old.requests.now old.base old.port old.least old.first old.version past passes.inside;
        before = passes.before ∙ same;
        here = passes.here ∙ same;
      }

-- ---- a version, by the request that leads to it

module _ (requests : List Request) (base v place : ℕ) (q : Request) (some : 1 ≤ v) (is_place : place ≡ base + (v - 1)) (at : slice_get requests place ≡ Some q) where
  next_of : left q.action (after (take place requests)) q ≡ entities_by requests base (v - 1 + 1)
  next_of =
      ap (λ (n : ℕ). left q.action (after (take n requests)) q) is_place
      ∙ sym (next_by requests base (v - 1) q (subst (λ (n : ℕ). slice_get requests n ≡ Some q) is_place at))

  pub left_there : (e f : Entities) → e ≡ after (take place requests) → f ≡ left q.action e q → f ≡ entities_by requests base v
  left_there e f before is =
      let same : v - 1 + 1 ≡ v = omega (arith, some) in
      is ∙ ap (λ (x : Entities). left q.action x q) before ∙ next_of ∙ ap (entities_by requests base) same

  -- some frame tells it from the one before
  pub begins_there : (port least : ℕ) (e f : Entities) (same : Bool) → e ≡ after (take place requests) → f ≡ after (take place requests)
      → Decides same (AreSame e (left q.action f q) port least) → same ≡ false → Begins (entities_by requests base) port least v
  begins_there port least e f same is_e is_f decides apart =
      let entities = entities_by requests base in
      let before : e ≡ entities (v - 1) = is_e ∙ ap (λ (n : ℕ). after (take n requests)) is_place in
      let next : left q.action f q ≡ entities (v - 1 + 1) = ap (λ (x : Entities). left q.action x q) is_f ∙ next_of in
      let back : v - 1 + 1 ≡ v = omega (arith, some) in
      subst (λ (n : ℕ). Begins entities port least n) back
      (begins_next entities port least (v - 1)
      (λ step.
      let yes = decides.1 (subst (λ (x : Entities). AreSame x (left q.action f q) port least) (sym before)
      (subst (λ (x : Entities). AreSame (entities (v - 1)) x port least) (sym next) step)) in
      let none : true ≡ false = sym yes ∙ apart in absurd (cc none)))

-- ---- the class of a frame

abbrev pub of_parts : Use → Ending → FrameClass
of_parts used ending = record { used = used; ending = ending }

class_by_parts : (e : Entities) (port : ℕ) (head : List ℕ) (used : Use) (ending : Ending) → used ≡ use_by (table_at e port) (read_at (table_at e port) head)
    → ending ≡ ending_by (meaning e port head) → of_parts used ending ≡ class_of e port head
unfolding class_of use_of
class_by_parts e port head used ending is_used is_ending = rw (is_used, is_ending) refl

pub bytes_fit : (digits bytes : List ℕ) → decode_of digits ≡ Ok bytes → All (λ b. b < 2 ^ 8) bytes
bytes_fit digits bytes is =
    let fit = (decode_of-ok digits bytes is).3 in
    All-from_get_or (λ (b : ℕ). b < 2 ^ 8) bytes 0 (λ i within. let b = fit i in omega (arith, b))

-- by bytes that begin as the frame does
pub class_is : (passage : Passage) (ready : IsReady passage) (bytes head : List ℕ) (used : Use) (ending : Ending) → All (λ b. b < 2 ^ 8) bytes
    → All (λ b. b < 2 ^ 8) head → IsHeadOf bytes head
    → used ≡ use_by (table_at (entities_in passage passage.version) passage.port) (read_at (table_at (entities_in passage passage.version) passage.port) head)
    → ending ≡ ending_by (meaning passage.states.here passage.port head)
    → of_parts used ending ≡ class_of (entities_in passage passage.version) passage.port bytes
class_is passage ready bytes head used ending fits fit is is_used is_ending =
    let e = entities_in passage passage.version in
    class_by_parts e passage.port head used ending is_used
    (is_ending ∙ ap (λ (x : Entities). ending_by (meaning x passage.port head)) ready.passes.here)
    ∙ class_alike e passage.port passage.rows.endings passage.rows.rows.items bytes head ready.mean fits fit is
