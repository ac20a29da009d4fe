-- The law, over all events of a run in turn.
use Rattle.std.proofs.Common.{◌≡◌, ℕ, ◌==◌, max, Bool, true, false, if◌then◌else◌, List, [], ◌∷◌, ◌++◌, length, fold, Option, Some, None, IsSome, Contains, refl, sym, ap, ◌∙◌, subst, arith, append_assoc, append-nil}
use Rattle.std.proofs.lemmas.Bool.Decides.{nat_tests}
use Rattle.std.proofs.lemmas.List.Sums.{fold-append}
use Rattle.std.proofs.lemmas.Grind.{flat_map-append}
use Rattle.omci_msg.specs.declared.Request.{Request}
use Rattle.mib_state.specs.Entities.{Entities}
use Rattle.mib_state.specs.After.{after, accepted, is_accepted}
use Rattle.mib_upload.specs.Upload.{DeskState, answered, start}
use Rattle.frame_meaning.specs.Meaning.{meaning}
use Rattle.plan_publish.specs.World.{LaneState, World, opening, with_lane, Event, Message, Publish, Tell, Enter, Forward, Leave, IsPossible, IsRun, happens, world_after, decided, Replied, Gave, Decided}
use Rattle.plan_publish.specs.Interleavings.{is_publish, is_enter, request_in, requests_in, accepted_in, desk_after, published_by, entered_with, token_to, tokens_to, RepliesFollow, TokensCount, VerdictsAreOfAPrefix, PrefixesReachTokens, SeenIsGreatest}
use Rattle.plan_publish.proofs.Parts.{desk_entities}
use Rattle.plan_publish.proofs.Last.{accepted_more, published_is, published_is_not, entered_is, entered_is_not}
use Rattle.plan_publish.proofs.Numbers.{none_in, reaches}
use Rattle.plan_publish.proofs.Fitting.{SharedFits, LaneFits, token_is, shared_message, shared_publish, shared_lane, lane_message, lane_publish, lane_told, lane_enters, lane_leaves}

-- ---- what events say of themselves, with one event more

requests_push : (es : List Event) (e : Event) → requests_in (es ++ e ∷ []) ≡ requests_in es ++ request_in e
requests_push es e = flat_map-append request_in es (e ∷ []) ∙ ap (λ l. requests_in es ++ l) (append-nil (request_in e))

requests_same : (es : List Event) (e : Event) → request_in e ≡ [] → requests_in (es ++ e ∷ []) ≡ requests_in es
requests_same es e none = requests_push es e ∙ (ap (λ l. requests_in es ++ l) none ∙ append-nil (requests_in es))

accepted_same : (es : List Event) (e : Event) → request_in e ≡ [] → accepted_in (es ++ e ∷ []) ≡ accepted_in es
accepted_same es e none = ap accepted (requests_same es e none)

tokens_push : (l : ℕ) (es : List Event) (e : Event) → tokens_to l (es ++ e ∷ []) ≡ tokens_to l es ++ token_to l e
tokens_push l es e = flat_map-append (token_to l) es (e ∷ []) ∙ ap (λ ts. tokens_to l es ++ ts) (append-nil (token_to l e))

tokens_same : (l : ℕ) (es : List Event) (e : Event) → token_to l e ≡ [] → tokens_to l (es ++ e ∷ []) ≡ tokens_to l es
tokens_same l es e none = tokens_push l es e ∙ (ap (λ ts. tokens_to l es ++ ts) none ∙ append-nil (tokens_to l es))

-- ---- the world fits the events before it

record WorldFits (es : List Event) (w : World) : Type 0 where
  desk : w.desk ≡ desk_after (requests_in es)
  shared : SharedFits (accepted_in es) (published_by es) w
  lane : (l : ℕ) → LaneFits (accepted_in es) (published_by es) (entered_with l es) (tokens_to l es) (w.lane l)

shared_as : {all known : List Request} {n m : ℕ} {w : World} → known ≡ all → m ≡ n → SharedFits all n w → SharedFits known m w
shared_as {w} p q f = subst (λ (x : List Request × ℕ). SharedFits x.0 x.1 w) (λ i. (sym p i, sym q i)) f

lane_as : {all known : List Request} {n m entered held : ℕ} {told heard : List ℕ} {s : LaneState}
    → known ≡ all → m ≡ n → held ≡ entered → heard ≡ told → LaneFits all n entered told s → LaneFits known m held heard s
lane_as {s} p q r t f =
    subst (λ (x : List Request × ℕ × ℕ × List ℕ). LaneFits x.0 x.1 x.2 x.3 s) (λ i. (sym p i, sym q i, sym r i, sym t i)) f

same_lane : (k : ℕ) → (k == k) ≡ true
same_lane k = grind (arith, nat_tests)

-- an event that is no message and no publish
abbrev IsQuiet : Event → Type 0
IsQuiet e = (request_in e ≡ []) × (is_publish e ≡ false)

module _ (es : List Event) (w : World) (f : WorldFits es w) where
  abbrev all : List Request
  all = accepted_in es

  abbrev n : ℕ
  n = published_by es

  abbrev accepts : Request → Bool
  accepts q = is_accepted w.desk.mib.entities q

  all_push : (q : Request) → accepted_in (es ++ Message q ∷ []) ≡ (if accepts q then all ++ q ∷ [] else all)
  all_push q =
      let before : w.desk.mib.entities ≡ after (requests_in es) =
      ap (λ (d : DeskState). d.mib.entities) f.desk ∙ desk_entities start (requests_in es) in
      accepted_more es (Message q ∷ [])
      ∙ (ap (λ (e : Entities). all ++ (if is_accepted e q then q ∷ [] else [])) (sym before) ∙ by_case (accepts q))
    where
      by_case : (b : Bool) → all ++ (if b then q ∷ [] else []) ≡ (if b then all ++ q ∷ [] else all)
      by_case true = refl
      by_case false = append-nil all

  fits_message : (q : Request) → WorldFits (es ++ Message q ∷ []) (happens w (Message q))
  fits_message q = record {
    desk =
        ap (λ (d : DeskState). (answered d q).1) f.desk
        ∙ (sym (fold-append (λ (d : DeskState) (r : Request). (answered d r).1) start (requests_in es) (q ∷ []))
        ∙ ap desk_after (sym (requests_push es (Message q))));
    shared =
        shared_as (all_push q) (published_is_not es (Message q) refl)
        (shared_message f.shared q (accepts q) (answered w.desk q).1);
    lane = λ l.
        lane_as (all_push q) (published_is_not es (Message q) refl) (entered_is_not l es (Message q) refl)
        (tokens_same l es (Message q) refl)
        (lane_message (f.lane l) q (accepts q) f.shared.few);
  }

  -- the desk after an event without a request
  desk_same : (e : Event) → request_in e ≡ [] → w.desk ≡ desk_after (requests_in (es ++ e ∷ []))
  desk_same e none = f.desk ∙ ap desk_after (sym (requests_same es e none))

  fits_publish : WorldFits (es ++ Publish ∷ []) (happens w Publish)
  fits_publish = record {
    desk = desk_same Publish refl;
    shared = shared_as (accepted_same es Publish refl) (published_is es Publish refl) (shared_publish f.shared);
    lane = λ l.
        lane_as (accepted_same es Publish refl) (published_is es Publish refl) (entered_is_not l es Publish refl)
        (tokens_same l es Publish refl)
        (lane_publish (f.lane l) (length all) f.shared.few);
  }

  -- a quiet event changes lanes alone
  fits_quiet : (e : Event) (lane : ℕ → LaneState) → IsQuiet e
      → ((l : ℕ) → LaneFits all n (entered_with l (es ++ e ∷ [])) (tokens_to l (es ++ e ∷ [])) (lane l))
      → WorldFits (es ++ e ∷ []) (record w { lane = lane })
  fits_quiet e lane quiet each = record {
    desk = desk_same e quiet.0;
    shared = shared_as (accepted_same es e quiet.0) (published_is_not es e quiet.1) (shared_lane f.shared lane);
    lane = λ l. lane_as (accepted_same es e quiet.0) (published_is_not es e quiet.1) refl refl (each l);
  }

  -- one that is about lane k changes no other
  fits_one : (e : Event) (k : ℕ) (now : LaneState) → IsQuiet e
      → LaneFits all n (entered_with k (es ++ e ∷ [])) (tokens_to k (es ++ e ∷ [])) now
      → ((l : ℕ) → (k == l) ≡ false → (is_enter l e ≡ false) × (token_to l e ≡ []))
      → WorldFits (es ++ e ∷ []) (with_lane w k now)
  fits_one e k now quiet this others = fits_quiet e (with_lane w k now).lane quiet (λ l. by_case l (k == l) refl)
    where
      by_case : (l : ℕ) (b : Bool) → (k == l) ≡ b
          → LaneFits all n (entered_with l (es ++ e ∷ [])) (tokens_to l (es ++ e ∷ [])) (if b then now else w.lane l)
      by_case l true is =
          let same : k ≡ l = grind (arith, nat_tests) in
          subst (λ (j : ℕ). LaneFits all n (entered_with j (es ++ e ∷ [])) (tokens_to j (es ++ e ∷ [])) now) same this
      by_case l false is =
          let other = others l is in lane_as refl refl (entered_is_not l es e other.0) (tokens_same l es e other.1) (f.lane l)

  fits_tell : (k token : ℕ) → (w.lane k).holds ≡ None → Contains w.tokens token
      → WorldFits (es ++ Tell k token ∷ []) (happens w (Tell k token))
  fits_tell k token out given =
      let heard : tokens_to k (es ++ Tell k token ∷ []) ≡ tokens_to k es ++ token ∷ [] =
      tokens_push k es (Tell k token) ∙ ap (λ b. tokens_to k es ++ (if b then token ∷ [] else [])) (same_lane k) in
      fits_one (Tell k token) k (record (w.lane k) { seen = max (w.lane k).seen token }) (refl, refl)
      (lane_as refl refl (entered_is_not k es (Tell k token) refl) heard
      (lane_told (f.lane k) token out (f.shared.tokens token given)))
      (λ l is. (refl, ap (λ (b : Bool). if b then token ∷ [] else []) is))

  fits_enter : (k : ℕ) → WorldFits (es ++ Enter k ∷ []) (happens w (Enter k))
  fits_enter k =
      fits_one (Enter k) k (record { seen = max (w.lane k).seen w.count; holds = Some w.published }) (refl, refl)
      (lane_as refl refl (entered_is k k es true (same_lane k)) (tokens_same k es (Enter k) refl)
      (lane_enters (f.lane k) w.published w.count f.shared.published f.shared.count))
      (λ l is. (is, refl))

  fits_leave : (k : ℕ) → WorldFits (es ++ Leave k ∷ []) (happens w (Leave k))
  fits_leave k =
      fits_one (Leave k) k (record (w.lane k) { holds = None }) (refl, refl)
      (lane_as refl refl (entered_is_not k es (Leave k) refl) (tokens_same k es (Leave k) refl)
      (lane_leaves (f.lane k)))
      (λ l is. (refl, refl))

  fits_forward : (k port : ℕ) (bytes : List ℕ) → WorldFits (es ++ Forward k port bytes ∷ []) w
  fits_forward k port bytes =
      fits_quiet (Forward k port bytes) w.lane (refl, refl)
      (λ l.
      lane_as refl refl (entered_is_not l es (Forward k port bytes) refl) (tokens_same l es (Forward k port bytes) refl)
      (f.lane l))

-- ---- over all events

happens_fits : (lanes : ℕ) (es : List Event) (w : World) (e : Event) → IsPossible lanes w e → WorldFits es w
    → WorldFits (es ++ e ∷ []) (happens w e)
happens_fits lanes es w (Message q) can f = fits_message es w f q
happens_fits lanes es w Publish can f = fits_publish es w f
happens_fits lanes es w (Tell k token) can f = fits_tell es w f k token can.1 can.2
happens_fits lanes es w (Enter k) can f = fits_enter es w f k
happens_fits lanes es w (Forward k port bytes) can f = fits_forward es w f k port bytes
happens_fits lanes es w (Leave k) can f = fits_leave es w f k

opening_fits : WorldFits [] opening
opening_fits = record {
  desk = refl;
  shared = record { count = refl; few = omega arith; published = refl; pending = refl; tokens = λ t has. absurd (none_in t has) };
  lane = λ l. record { few = omega arith; seen_few = omega arith; seen = refl; holds = λ e is. absurd (cc is) };
}

-- the world fits what happened, and what comes next is possible in it
record Reached (lanes : ℕ) (past rest : List Event) (w : World) : Type 0 where
  fits : WorldFits past w
  run : IsRun lanes w rest

reached_from : (lanes : ℕ) (before : List Event) (w : World) (past rest : List Event)
    → IsRun lanes w (past ++ rest) → WorldFits before w → Reached lanes (before ++ past) rest (fold happens w past)
reached_from lanes before w [] rest run f =
    record { fits = subst (λ (l : List Event). WorldFits l w) (sym (append-nil before)) f; run = run }
reached_from lanes before w (e ∷ past) rest run f =
    subst (λ (l : List Event). Reached lanes l rest (fold happens (happens w e) past)) (append_assoc before (e ∷ []) past)
    (reached_from lanes (before ++ e ∷ []) (happens w e) past rest run.1 (happens_fits lanes before w e run.0 f))

reached : (lanes : ℕ) (past rest : List Event) → IsRun lanes opening (past ++ rest) → Reached lanes past rest (world_after past)
reached lanes past rest run = reached_from lanes [] opening past rest run opening_fits

-- ---- the law

pub replies_follow : RepliesFollow
replies_follow lanes past rest q run =
    let at = reached lanes past (Message q ∷ rest) run in ap (λ (d : DeskState). Replied (answered d q).0) at.fits.desk

pub tokens_count : TokensCount
tokens_count lanes past rest run =
    let at = reached lanes past (Publish ∷ rest) run in
    ap Gave (token_is at.fits.shared)

-- a lane that is in
holds_some : (held : Option Entities) → IsSome held → (e : Entities) × (held ≡ Some e)
holds_some None some = absurd (cc some)
holds_some (Some e) some = (e, refl)

pub verdicts_are_of_a_prefix : VerdictsAreOfAPrefix
verdicts_are_of_a_prefix lanes past rest l port bytes run =
    let at = reached lanes past (Forward l port bytes ∷ rest) run in
    let h = holds_some ((world_after past).lane l).holds at.run.0.1 in
    ap (λ (o : Option Entities). decided o port bytes) h.1
    ∙ ap (λ (e : Entities). Decided (meaning e port bytes)) ((at.fits.lane l).holds h.0 h.1).0

pub prefixes_reach_tokens : PrefixesReachTokens
prefixes_reach_tokens lanes past rest l port bytes token run told =
    let at = reached lanes past (Forward l port bytes ∷ rest) run in
    let this = at.fits.lane l in
    let h = holds_some ((world_after past).lane l).holds at.run.0.1 in
    omega (arith, reaches (entered_with l past) (tokens_to l past) token told, this.seen, (this.holds h.0 h.1).1)

pub seen_is_greatest : SeenIsGreatest
seen_is_greatest lanes past rest l run = let at = reached lanes past rest run in (at.fits.lane l).seen
