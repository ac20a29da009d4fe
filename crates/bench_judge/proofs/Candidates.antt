-- What is said of frames of which one left, by frames as they are kept.
use Rattle.std.proofs.Common.{◌≡◌, ◌<◌, ◌+◌, ◌-◌, ℕ, List, [], ◌∷◌, ◌++◌, length, map, take, get_or, Some, Vec, slice_get, inl, inr, refl, ap, sym, subst, ◌∙◌, arith, append_assoc}
use Rattle.std.specs.Prelude.{Contains}
use Rattle.std.specs.declared.alloc.Global.{Global}
use Rattle.std.proofs.lemmas.List.{append-nil, map-append}
use Rattle.std.proofs.lemmas.Option.{get_or_from_slice_get}
use Rattle.omci_msg.specs.declared.request.Request.{Request}
use Rattle.mib_state.specs.After.{after}
use Rattle.frame_meaning.specs.Meaning.{meaning}
use Rattle.bench_history.specs.declared.event.Event.{Event}
use Rattle.bench_history.specs.declared.event.Event.TheVariants.{Entered}
use Rattle.bench_history.specs.declared.extent.Extent.{Extent}
use Rattle.bench_answers.specs.Asked.{requests_of}
use Rattle.bench_answers.specs.Windows.{least_behind, most_behind}
use Rattle.bench_judge.specs.Terms.{Terms, ground_in}
use Rattle.bench_judge.specs.Judged.{AreRuns, IsCandidate}
use Rattle.bench_judge.specs.Walk.{IsKeptAsSent, IsWalk}
use Rattle.bench_judge.specs.declared.frame.Frame.{Frame}
use Rattle.bench_judge.specs.declared.judgement.Candidate.{Candidate}
use Rattle.bench_judge.specs.declared.judgement.Run.{Run}
use Rattle.bench_judge.specs.declared.walk.Walk.{Walk}
use Rattle.bench_judge.proofs.Lists.{read_is}
use Rattle.bench_judge.proofs.Numbered.{in_rest, is_first}
use Rattle.bench_answers.proofs.Places.{element_at, get_in_front, get_pushed}
use Rattle.bench_answers.specs.Ground.{Ground}

-- ---- one frame

module _ (terms : Terms) (events : List Event) (walk : Walk) (known : IsWalk terms events walk) (n : ℕ) (frame d : Frame)
    (within : n < length walk.frames.items) (read : frame ≡ get_or walk.frames.items n d) where
  pub kept_there : slice_get walk.frames.items n ≡ Some frame
  kept_there =
      let here = element_at walk.frames.items n within in
      here.1 ∙ ap (λ (f : Frame). Some f) (sym (read ∙ get_or_from_slice_get walk.frames.items n here.0 d here.1))

  abbrev pub kept : IsKeptAsSent (ground_in terms) (take walk.walked events) n frame
  kept = known.sent n frame kept_there

  there : (frame.sent < walk.walked) × (slice_get events frame.sent ≡ Some (Entered frame.port kept.extent kept.bytes))
  there = get_in_front walk.walked events frame.sent (Entered frame.port kept.extent kept.bytes) kept.entered

  pub sent_within : frame.sent < length events
  sent_within = omega (arith, there.0, known.within)

  pub sent_is : (event : Event) → event ≡ get_or events frame.sent event → event ≡ Entered frame.port kept.extent kept.bytes
  sent_is event seen = read_is events frame.sent event (Entered frame.port kept.extent kept.bytes) seen there.1

  -- what is said of it
  pub candidate_is : (extent : Extent) (sent : List ℕ) (at_least at_most : ℕ) (runs : Vec Run Global) → extent ≡ kept.extent → sent ≡ kept.bytes
      → at_least ≡ frame.least - walk.base → at_most ≡ length walk.requests.items - walk.base
      → (requests : List Request) (bytes : List ℕ) → requests ≡ walk.requests.items → bytes ≡ sent
      → AreRuns (λ v. meaning (after (take (walk.base + v) requests)) frame.port bytes) bytes at_least at_most runs.items
      → IsCandidate (ground_in terms) (take walk.walked events)
      (record { number = n; port = frame.port; sent_line = frame.sent + 1; extent = extent; sent = sent; at_least = at_least; at_most = at_most; runs = runs })
  candidate_is extent sent at_least at_most runs known_to spelled least most requests bytes same_requests same_bytes are =
      let front : List Event = take walk.walked events in
      let all : requests ≡ requests_of (ground_in terms) front = same_requests ∙ known.requests in
      record {
        is = record {
          place = frame.sent;
          port = frame.port;
          extent = kept.extent;
          bytes = kept.bytes;
          entered = kept.entered;
          number = kept.number;
        };
        port = refl;
        line = refl;
        extent = known_to;
        sent = spelled;
        at_least = least ∙ ap (λ n. n - walk.base) kept.least ∙ ap (λ b. least_behind (ground_in terms) (take frame.sent front) - b) known.base;
        at_most = most ∙ ap (λ (qs : List Request). length qs - walk.base) known.requests ∙ ap (λ b. most_behind (ground_in terms) front - b) known.base;
        runs = subst (λ n. AreRuns (λ v. meaning (after (take (n + v) (requests_of (ground_in terms) front))) frame.port kept.bytes) kept.bytes at_least at_most runs.items) known.base
            (subst (λ qs. AreRuns (λ v. meaning (after (take (walk.base + v) qs)) frame.port kept.bytes) kept.bytes at_least at_most runs.items) all
            (subst (λ b. AreRuns (λ v. meaning (after (take (walk.base + v) requests)) frame.port b) b at_least at_most runs.items) (same_bytes ∙ spelled) are));
      }

-- ---- several frames

-- what is said of the frames so far, and the numbers that are left
pub record AreCandidates (grounds : Ground) (events : List Event) (walk : Walk) (all : List ℕ) (so_far : List Candidate) (left : List ℕ) : Type 0 where
  pub numbers : map (λ (c : Candidate). c.number) so_far ++ left ≡ all
  pub known : (n : ℕ) → Contains left n → n < length walk.frames.items
  pub each : (k : ℕ) (c : Candidate) → slice_get so_far k ≡ Some c → IsCandidate grounds (take walk.walked events) c

pub first_known : (walk : Walk) (n : ℕ) (old new : List ℕ) → old ≡ n ∷ new → ((m : ℕ) → Contains old m → m < length walk.frames.items) → n < length walk.frames.items
first_known walk n old new is known = known n (subst (λ l. Contains l n) (sym is) (is_first n new))

pub candidates_more : (grounds : Ground) (events : List Event) (walk : Walk) (all : List ℕ) (so_far more : List Candidate) (n : ℕ) (old new : List ℕ) (c : Candidate)
    → old ≡ n ∷ new → more ≡ so_far ++ c ∷ [] → c.number ≡ n → IsCandidate grounds (take walk.walked events) c
    → AreCandidates grounds events walk all so_far old → AreCandidates grounds events walk all more new
candidates_more grounds events walk all so_far more n old new c first pushed number is are =
    let numbers : List Candidate → List ℕ = λ cs. map (λ (x : Candidate). x.number) cs in
    record {
      numbers =
          ap (λ (cs : List Candidate). numbers cs ++ new) pushed
          ∙ ap (λ (ns : List ℕ). ns ++ new) (map-append (λ (x : Candidate). x.number) so_far (c ∷ []))
          ∙ append_assoc (numbers so_far) (c.number ∷ []) new
          ∙ ap (λ (m : ℕ). numbers so_far ++ m ∷ new) number
          ∙ ap (λ (ns : List ℕ). numbers so_far ++ ns) (sym first) ∙ are.numbers;
      known = λ m has. are.known m (subst (λ l. Contains l m) (sym first) (in_rest n new m has));
      each = λ k other at.
          elim (get_pushed so_far c k other (ap (λ (cs : List Candidate). slice_get cs k) (sym pushed) ∙ at)) [
            | inl there ↦ are.each k other there
            | inr last ↦ subst (IsCandidate grounds (take walk.walked events)) last.1 is
          ];
    }

pub no_candidates : (grounds : Ground) (events : List Event) (walk : Walk) (all : List ℕ) → ((n : ℕ) → Contains all n → n < length walk.frames.items) → AreCandidates grounds events walk all [] all
no_candidates grounds events walk all known = record { numbers = refl; known = known; each = λ k c at. cc at }

-- none is left
pub all_numbers : (ns left all : List ℕ) → left ≡ [] → ns ++ left ≡ all → ns ≡ all
all_numbers ns left all none is = sym (append-nil ns) ∙ ap (λ (l : List ℕ). ns ++ l) (sym none) ∙ is
