-- What is known of the first event that isn't admitted.
use Rattle.std.proofs.Common.{◌≡◌, ℕ, ◌+◌, ◌<◌, Bool, true, not, nat_lt, List, [], ◌∷◌, length, map, take, get_or, Some, None, slice_get, inl, inr, refl, ap, sym, subst, ◌∙◌, arith}
use Rattle.std.specs.Prelude.{Contains}
use Rattle.std.specs.List.{list_all}
use Rattle.std.proofs.lemmas.Bool.{and_parts, ltb-true}
use Rattle.bench_history.specs.Among.{OneOf}
use Rattle.bench_history.specs.declared.event.Event.{Event}
use Rattle.bench_history.specs.declared.event.Event.TheVariants.{Sent, Replied, Excused, Entered, Left, LeftOneOf, Strayed, Dropped, Lost, Waited, Ended, Nothing}
use Rattle.bench_history.specs.declared.extent.Extent.{Extent}
use Rattle.bench_history.specs.declared.gem.SeenGem.{SeenGem}
use Rattle.bench_judge.specs.Admitted.{IsAdmitted}
use Rattle.bench_answers.specs.Right.{IsAwaited, IsNext}
use Rattle.bench_answers.specs.declared.awaited.Awaited.{Awaited}
use Rattle.bench_history.specs.History.{frames_in, has_ended, is_open}
use Rattle.bench_judge.specs.Judged.{IsCandidate, IsUnasked, IsWrongOneOf, IsWrongReply}
use Rattle.bench_judge.specs.Walk.{AreSound, IsWalk}
use Rattle.bench_judge.specs.declared.judgement.Candidate.{Candidate}
use Rattle.bench_judge.specs.declared.judgement.WrongOneOf.{WrongOneOf}
use Rattle.bench_judge.specs.declared.judgement.WrongReply.{WrongReply}
use Rattle.bench_judge.specs.Terms.{Terms, ground_in}
use Rattle.bench_judge.specs.declared.walk.Walk.{Walk}
use Rattle.bench_judge.proofs.Lists.{in_front, read_is}
use Rattle.bench_judge.proofs.Numbered.{first_or_rest}

some_is : {A : Type 0} (x y : A) → Some x ≡ Some y → x ≡ y
some_is x y is = cc is

-- what holds of all numbers holds of each
all_at : (p : ℕ → Bool) (xs : List ℕ) → list_all p xs ≡ true → (n : ℕ) → Contains xs n → p n ≡ true
all_at p [] all n has = absurd (omega (arith, has.1))
all_at p (x ∷ xs) all n has =
    let both = and_parts (p x) (list_all p xs) all in
    elim (first_or_rest x xs n has) [ inl first ↦ ap p first ∙ both.0 | inr rest ↦ all_at p xs both.1 n rest ]

module _ (terms : Terms) (events : List Event) (walk : Walk) (known : IsWalk terms events walk) (within : walk.walked < length events) where
  -- the event behind what was walked
  pub event_there : (event : Event) → event ≡ get_or events walk.walked event → slice_get events walk.walked ≡ Some event
  event_there event read =
      let w = known.refused within in
      w.is ∙ ap Some (sym (read_is events walk.walked event w.seen read w.is))

  -- it isn't admitted
  pub refused_is : (event : Event) → slice_get events walk.walked ≡ Some event → IsAdmitted terms (take walk.walked events) event → ⊥
  refused_is event at admitted =
      let w = known.refused within in
      w.refused (subst (IsAdmitted terms (take walk.walked events)) (some_is event w.seen (sym at ∙ w.is)) admitted)

  pub awaited_of : (awaited : Awaited) → walk.awaited ≡ Some awaited → IsAwaited (ground_in terms) (take walk.walked events) awaited
  awaited_of awaited is = subst (IsNext (ground_in terms) (take walk.walked events)) is known.awaited

  pub sent_before : (awaited : Awaited) → walk.awaited ≡ Some awaited → awaited.sent < length events
  sent_before awaited is =
      let a = awaited_of awaited is in
      let lt = (in_front walk.walked awaited.sent events (Sent a.sent.message) a.sent.sent).0 in
      omega (arith, lt, within)

  pub wrong_is : (awaited : Awaited) (bytes : List ℕ) (r : WrongReply) → walk.awaited ≡ Some awaited → slice_get events walk.walked ≡ Some (Replied bytes)
      → r ≡ record { request_line = awaited.sent + 1; reply = bytes; model = awaited.reply }
      → IsWrongReply (ground_in terms) (take walk.walked events) (slice_get events walk.walked) r
  wrong_is awaited bytes r is there same =
      let a = awaited_of awaited is in
      subst (IsWrongReply (ground_in terms) (take walk.walked events) (slice_get events walk.walked)) (sym same) (record {
        seen = there;
        wrong = refused_is (Replied bytes) there;
        answers = a.answers;
        sent = awaited.sent;
        line = refl;
        next = a.sent;
        model = a.reply;
      })

  pub unasked_is : (bytes : List ℕ) → walk.awaited ≡ None → slice_get events walk.walked ≡ Some (Replied bytes)
      → IsUnasked (ground_in terms) (take walk.walked events) (slice_get events walk.walked) bytes
  unasked_is bytes is there = record {
    seen = there;
    wrong = refused_is (Replied bytes) there;
    none = subst (IsNext (ground_in terms) (take walk.walked events)) is known.awaited;
  }

  -- ---- one of several frames

  -- each that is named was sent
  pub named_within : (gem : SeenGem) (extent : Extent) (among : OneOf) → AreSound events → slice_get events walk.walked ≡ Some (LeftOneOf gem extent among)
      → (n : ℕ) → Contains among.numbers n → n < length walk.frames.items
  named_within gem extent among sound at n has =
      let front : List Event = take walk.walked events in
      let open_yet : is_open n front ≡ true = all_at (λ m. is_open m front) among.numbers (sound walk.walked (LeftOneOf gem extent among) at) n has in
      let sent = ltb-true n (frames_in front) (and_parts (nat_lt n (frames_in front)) (not (has_ended n front)) open_yet).0 in
      omega (arith, sent, known.count)

  pub one_of_is : (w : WrongOneOf) (among : OneOf) → slice_get events walk.walked ≡ Some (LeftOneOf w.gem w.extent among) → w.frame ≡ among.frame
      → (numbers : List ℕ) → numbers ≡ among.numbers → map (λ (c : Candidate). c.number) w.candidates.items ≡ numbers
      → ((k : ℕ) (c : Candidate) → slice_get w.candidates.items k ≡ Some c → IsCandidate (ground_in terms) (take walk.walked events) c)
      → IsWrongOneOf (ground_in terms) terms.settings.padded events walk.walked w
  one_of_is w among at frame numbers same all each = record {
    among = among;
    seen = at;
    frame = frame;
    none = λ one. refused_is (LeftOneOf w.gem w.extent among) at one;
    numbers = all ∙ same;
    each = each;
  }

  -- every other event is admitted
  pub no_other : (event : Event) → slice_get events walk.walked ≡ Some event → ((bytes : List ℕ) → event ≡ Replied bytes → ⊥)
      → ((gem : SeenGem) (extent : Extent) (among : OneOf) → event ≡ LeftOneOf gem extent among → ⊥)
      → ((gem : SeenGem) (extent : Extent) (bytes : List ℕ) → event ≡ Strayed gem extent bytes → ⊥) → ⊥
  no_other (Replied bytes) at replied one stray = replied bytes refl
  no_other (LeftOneOf gem extent among) at replied one stray = one gem extent among refl
  no_other (Strayed gem extent bytes) at replied one stray = stray gem extent bytes refl
  no_other (Sent message) at replied one stray = refused_is (Sent message) at tt
  no_other (Excused bytes) at replied one stray = refused_is (Excused bytes) at tt
  no_other (Entered port extent bytes) at replied one stray = refused_is (Entered port extent bytes) at tt
  no_other (Left gem extent number bytes) at replied one stray = refused_is (Left gem extent number bytes) at tt
  no_other (Dropped number) at replied one stray = refused_is (Dropped number) at tt
  no_other (Lost number) at replied one stray = refused_is (Lost number) at tt
  no_other (Waited replies) at replied one stray = refused_is (Waited replies) at tt
  no_other Ended at replied one stray = refused_is Ended at tt
  no_other Nothing at replied one stray = refused_is Nothing at tt
