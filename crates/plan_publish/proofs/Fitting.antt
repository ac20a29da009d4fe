-- What is true of a world by the events before it, and that each event keeps it so.
use Rattle.std.proofs.Common.{◌≡◌, ℕ, ◌≤◌, max, Bool, true, false, if◌then◌else◌, List, [], ◌∷◌, ◌++◌, length, take, drop, Some, None, Contains, sym, ap, ◌∙◌, ⊎_elim, arith, length-append, length-drop, take_all}
use Rattle.std.proofs.lemmas.List.{take-append-le, drop-append-le, take-append-drop, drop_all}
use Rattle.std.proofs.lemmas.List.Elements.{Contains-append_cases}
use Rattle.omci_msg.specs.declared.Request.{Request}
use Rattle.mib_state.specs.Entities.{Entities, nothing}
use Rattle.mib_state.specs.After.{after, after_from}
use Rattle.mib_upload.specs.Upload.{DeskState}
use Rattle.plan_publish.specs.World.{LaneState, World, Publish, token_of, happens}
use Rattle.plan_publish.specs.Interleavings.{greatest}
use Rattle.plan_publish.proofs.Parts.{after-append}
use Rattle.plan_publish.proofs.Numbers.{only_one, greatest-push, greatest_is}

-- ---- what is true of a world, by the accepted requests, how many are published, and what a lane entered with and was told

-- what the control and its lanes share
pub record SharedFits (all : List Request) (n : ℕ) (w : World) : Type 0 where
  pub count : w.count ≡ n
  pub few : n ≤ length all
  pub published : w.published ≡ after (take n all)
  pub pending : w.pending ≡ drop n all
  pub tokens : (t : ℕ) → Contains w.tokens t → t ≤ n

-- a lane
pub record LaneFits (all : List Request) (n entered : ℕ) (told : List ℕ) (s : LaneState) : Type 0 where
  pub few : entered ≤ n
  pub seen_few : s.seen ≤ n
  pub seen : s.seen ≡ greatest entered told
  pub holds : (e : Entities) → s.holds ≡ Some e → (e ≡ after (take entered all)) × (s.seen ≡ entered)

-- ---- each event

module _ {all : List Request} {n : ℕ} {w : World} (f : SharedFits all n w) where
  -- one more request is accepted, or none
  pub shared_message : (q : Request) (b : Bool) (d : DeskState)
      → SharedFits (if b then all ++ q ∷ [] else all) n
      (record w { desk = d; pending = if b then w.pending ++ q ∷ [] else w.pending })
  shared_message q false d = record {
    count = f.count;
    few = f.few;
    published = f.published;
    pending = f.pending;
    tokens = f.tokens;
  }
  shared_message q true d = record {
    count = f.count;
    few = omega (arith, f.few, length-append all (q ∷ []));
    published = f.published ∙ ap after (sym (take-append-le n all (q ∷ []) f.few));
    pending = ap (λ l. l ++ q ∷ []) f.pending ∙ sym (drop-append-le n all (q ∷ []) f.few);
    tokens = f.tokens;
  }

  pub token_is : token_of w ≡ length all
  token_is = omega (arith, f.count, ap length f.pending, length-drop n all, f.few)

  pub shared_publish : SharedFits all (length all) (happens w Publish)
  shared_publish = record {
    count = token_is;
    few = omega arith;
    published =
        (λ i. after_from (f.published i) (f.pending i))
        ∙ (sym (after-append nothing (take n all) (drop n all))
        ∙ ap after (take-append-drop n all ∙ sym (take_all (length all) all (omega arith))));
    pending = sym (drop_all (length all) all (omega arith));
    tokens = λ t has.
        ⊎_elim (λ (h : Contains (token_of w ∷ []) t). omega (arith, token_is, only_one (token_of w) t h))
        (λ (h : Contains w.tokens t). omega (arith, f.tokens t h, f.few))
        (Contains-append_cases (token_of w ∷ []) w.tokens t has);
  }

  -- another state of a lane changes nothing that is shared
  pub shared_lane : (lane : ℕ → LaneState) → SharedFits all n (record w { lane = lane })
  shared_lane lane = record { count = f.count; few = f.few; published = f.published; pending = f.pending; tokens = f.tokens }

module _ {all : List Request} {n entered : ℕ} {told : List ℕ} {s : LaneState} (f : LaneFits all n entered told s) where
  pub lane_message : (q : Request) (b : Bool) → n ≤ length all → LaneFits (if b then all ++ q ∷ [] else all) n entered told s
  lane_message q false few = f
  lane_message q true few = record {
    few = f.few;
    seen_few = f.seen_few;
    seen = f.seen;
    holds = λ e is.
        let h = f.holds e is in (h.0 ∙ ap after (sym (take-append-le entered all (q ∷ []) (omega (arith, few, f.few)))), h.1);
  }

  pub lane_publish : (m : ℕ) → n ≤ m → LaneFits all m entered told s
  lane_publish m more =
      record { few = omega (arith, f.few); seen_few = omega (arith, f.seen_few); seen = f.seen; holds = f.holds }

  pub lane_told : (t : ℕ) → s.holds ≡ None → t ≤ n → LaneFits all n entered (told ++ t ∷ []) (record s { seen = max s.seen t })
  lane_told t out given = record {
    few = f.few;
    seen_few = omega (arith, f.seen_few);
    seen = ap (λ (k : ℕ). max k t) f.seen ∙ sym (greatest-push entered t told);
    holds = λ e is. let no : None ≡ Some e = sym out ∙ is in absurd (cc no);
  }

  pub lane_enters : (e : Entities) (count : ℕ) → e ≡ after (take n all) → count ≡ n
      → LaneFits all n n told (record { seen = max s.seen count; holds = Some e })
  lane_enters e count is counted =
      let now : max s.seen count ≡ n = omega (arith, f.seen_few, counted) in
      let top : greatest entered told ≤ n = omega (arith, f.seen_few, f.seen) in record {
        few = omega arith;
        seen_few = omega (arith, now);
        seen = now ∙ sym (greatest_is entered n told f.few top);
        holds = λ held same. let same_one : e ≡ held = cc same in (sym same_one ∙ is, now);
      }

  pub lane_leaves : LaneFits all n entered told (record s { holds = None })
  lane_leaves = record { few = f.few; seen_few = f.seen_few; seen = f.seen; holds = λ e is. absurd (cc is) }
