-- What requests before the first event leave, one request on.
use Rattle.std.proofs.Common.{◌≡◌, ◌<◌, ◌+◌, ℕ, Bool, cond, List, [], ◌∷◌, ◌++◌, length, take, get_or, refl, ap, sym, subst, ◌∙◌, append-nil}
use Rattle.std.proofs.lemmas.List.{append_assoc, take_more}
use Rattle.omci_msg.specs.declared.request.Request.{Request}
use Rattle.mib_state.specs.Entities.{Entities}
use Rattle.mib_state.specs.After.{accepted_from, after_from, is_accepted}
use Rattle.mib_upload.specs.Upload.{DeskState, answered}
use Rattle.bench_reply.specs.Replies.{Wanted}
use Rattle.bench_reply.specs.declared.expected.Expected.{Expected}
use Rattle.bench_answers.specs.Asked.{wanted_from}
use Rattle.bench_answers.specs.Kept.{AreExpected, IsBegun, IsExpectedAdded}
use Rattle.bench_answers.specs.declared.asking.Asking.{Asking}
use Rattle.bench_answers.proofs.Requests.{accepted_behind, cond_last, desk_more, entities_from, wanted_at, wanted_more}
use Rattle.bench_answers.proofs.Sending.{expected_by}

pub none_expected : (modelled : Bool) (expected : List Expected) → expected ≡ [] → AreExpected modelled [] expected
none_expected modelled expected none = record {
  count = ap (λ (es : List Expected). length es) none;
  each = λ k w e at here. absurd (cc at);
}

pub begun_none : (asking : Asking) (expected : List Expected) → expected ≡ [] → IsBegun [] asking asking expected
begun_none asking expected none = record {
  modelled = refl;
  repeats = refl;
  last = refl;
  due = refl;
  expected = refl;
  desk = refl;
  requests = sym (append-nil asking.requests.items);
  replies = none_expected asking.modelled expected none;
}

pub begun_more : (qs : List Request) (q : Request) (first old new : Asking) (before behind : List Expected)
    → new ≡ record old { desk = (answered old.desk q).1; requests = new.requests }
    → new.requests.items ≡ cond (is_accepted old.desk.mib.entities q) (old.requests.items ++ q ∷ []) old.requests.items
    → IsExpectedAdded old.modelled q.wants_answer (record { request = q; reply = (answered old.desk q).0 }) before behind
    → IsBegun qs first old before → IsBegun (qs ++ q ∷ []) first new behind
begun_more qs q first old new before behind rest requests added is =
    let e : Entities = first.desk.mib.entities in
    let earlier : List Request = accepted_from e qs in
    let same : old.desk.mib.entities ≡ after_from e qs = ap (λ (s : DeskState). s.mib.entities) is.desk ∙ entities_from first.desk qs in
    record {
      modelled = ap (λ (a : Asking). a.modelled) rest ∙ is.modelled;
      repeats = ap (λ (a : Asking). a.repeats) rest ∙ is.repeats;
      last = ap (λ (a : Asking). a.last) rest ∙ is.last;
      due = ap (λ (a : Asking). a.due) rest ∙ is.due;
      expected = ap (λ (a : Asking). a.expected) rest ∙ is.expected;
      desk = ap (λ (a : Asking). a.desk) rest ∙ ap (λ (s : DeskState). (answered s q).1) is.desk ∙ sym (desk_more first.desk qs q);
      requests =
          requests ∙ ap (λ (rs : List Request). cond (is_accepted old.desk.mib.entities q) (rs ++ q ∷ []) rs) is.requests
          ∙ ap (λ (f : Entities). cond (is_accepted f q) (first.requests.items ++ earlier ++ q ∷ []) (first.requests.items ++ earlier)) same
          ∙ sym (cond_last (is_accepted (after_from e qs) q) (first.requests.items ++ earlier) q)
          ∙ append_assoc first.requests.items earlier (cond (is_accepted (after_from e qs) q) (q ∷ []) [])
          ∙ ap (λ (rs : List Request). first.requests.items ++ rs) (sym (accepted_behind e qs q));
      replies =
          let wants : wanted_from first.desk (qs ++ q ∷ []) ≡ cond q.wants_answer (wanted_from first.desk qs ++ wanted_at old.desk q ∷ []) (wanted_from first.desk qs) =
          wanted_more first.desk qs q
          ∙ ap (λ (s : DeskState). cond q.wants_answer (wanted_from first.desk qs ++ wanted_at s q ∷ []) (wanted_from first.desk qs)) (sym is.desk) in
          subst (λ (ws : List Wanted). AreExpected first.modelled ws behind) (sym wants)
          (expected_by first.modelled q.wants_answer (wanted_from first.desk qs) (wanted_at old.desk q) before behind
          (subst (λ (b : Bool). IsExpectedAdded b q.wants_answer (wanted_at old.desk q) before behind) is.modelled added) is.replies);
    }

-- the requests up to and with one
pub begun_with : (requests : List Request) (i : ℕ) (q d : Request) (first old new : Asking) (before behind : List Expected) → i < length requests → q ≡ get_or requests i d
    → new ≡ record old { desk = (answered old.desk q).1; requests = new.requests }
    → new.requests.items ≡ cond (is_accepted old.desk.mib.entities q) (old.requests.items ++ q ∷ []) old.requests.items
    → IsExpectedAdded old.modelled q.wants_answer (record { request = q; reply = (answered old.desk q).0 }) before behind
    → IsBegun (take i requests) first old before → IsBegun (take (i + 1) requests) first new behind
begun_with requests i q d first old new before behind within here rest accepts added is =
    subst (λ (qs : List Request). IsBegun qs first new behind) (sym (take_more requests i d within ∙ ap (λ r. take i requests ++ r ∷ []) (sym here)))
    (begun_more (take i requests) q first old new before behind rest accepts added is)
