use Rattle.std.proofs.Common.{◌≡◌, ◌∙◌, ◌&&◌, ◌++◌, ◌∷◌, [], List, ℕ, true, false, if◌then◌else◌, length, map, ap, arith, sym, refl}
use Rattle.std.specs.List.{list_all}
use Rattle.std.specs.Str.{bytes_eq}
use Rattle.std.proofs.lemmas.Bool.{and_from}
use Rattle.std.proofs.lemmas.Grind.{common_steps}
use Rattle.std.proofs.lemmas.List.{map_push}
use Rattle.std.proofs.lemmas.List.Folds.{list_all-append}
use Rattle.std.proofs.lemmas.Result.{IfOk-weaker}
use Rattle.bench_record.specs.Index.{core_shown, has_key, is_long, kept_shown, queue_of}
use Rattle.bench_record.specs.Keys.{is_same_key}
use Rattle.bench_record.specs.Matching.{SentFrame}
use Rattle.bench_record.specs.declared.core_key.CoreKey.{CoreKey}
use Rattle.std.specs.Prelude.{Some}
use Rattle.bench_record.proofs.Indexes.{sent_index}
use Rattle.bench_record.proofs.Walks.{same_count}
use Rattle.bench_record.proofs.walk.Walk.enter_as.Goals as goal

pub returns-clause-seen : goal.returns-clause-seen
returns-clause-seen c = λ lost since seen is long.
    let core = core_shown c.args.core in
    let x : SentFrame = record { time = c.args.time; core = core; has_left = false; hidden_before = length seen.hidden } in
    let shortest = c.args.self.now.shortest in
    let key : CoreKey = c.key.result in
    let number : c.args.number ≡ length seen.frames.sent = c.requires ∙ sym (same_count lost since seen c.args.self.now is) in
    let has : (other : CoreKey) → has_key shortest other (Some x) ≡ is_same_key key other =
    λ other.
    sym (ap (λ (xs : List ℕ). bytes_eq xs other.addresses.now && bytes_eq key.rest.now other.rest.now) c.key.ensures.addresses
    ∙ ap (λ (xs : List ℕ). bytes_eq core.addresses other.addresses.now && bytes_eq xs other.rest.now) c.key.ensures.rest) in
    let count : c.len.result ≡ length c.args.self.now.hidden.items = grind (arith, common_steps) in
    let hidden : c.len.result ≡ length seen.hidden = count ∙ ap (λ (xs : List ℕ). length xs) is.hidden in
    let all_long = λ (sent : SentFrame). is_long shortest sent.core in
    IfOk-weaker c.send.result _ _ (λ done sends. record {
      sent =
          ap (λ xs. map kept_shown xs) c.in_ok-push.ensures.items ∙ map_push kept_shown c.args.self.now.sent.items _
          ∙ ap (λ n. map kept_shown c.args.self.now.sent.items ++ record { time = c.args.time; core = core; has_left = false; hidden_before = n } ∷ []) hidden
          ∙ ap (λ (xs : List SentFrame). xs ++ x ∷ []) is.sent;
      waiting =
          sent_index lost shortest seen.frames x since key c.args.self.now.waiting c.send.new.self
          (λ other. sends other ∙ ap (λ n. if is_same_key key other then queue_of c.args.self.now.waiting key ++ n ∷ [] else queue_of c.args.self.now.waiting other) number)
          has is.waiting;
      doubts = is.doubts;
      long =
          list_all-append all_long seen.frames.sent (x ∷ [])
          ∙ and_from (list_all all_long seen.frames.sent) (all_long x && true) is.long (and_from (all_long x) true long refl);
      replies = is.replies;
      events = is.events;
      passed = is.passed;
      hidden = is.hidden;
      unnumbered = is.unnumbered;
    }) c.send.ensures
