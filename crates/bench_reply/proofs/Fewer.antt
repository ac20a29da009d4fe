-- What is compared of replies with fewer of their contents.
use Rattle.std.proofs.Common.{◌≡◌, ℕ, Bool, true, false, List, refl}
use Rattle.bench_reply.specs.Replies.{IsReplyTo, Wanted, is_compared}

compared_before : (now before : Bool) (w : Wanted) (byte : ℕ) → (before ≡ true → now ≡ true) → is_compared now w byte ≡ true → is_compared before w byte ≡ true
compared_before now false w byte allow compared = refl
compared_before true true w byte allow compared = compared
compared_before false true w byte allow compared = absurd (cc (allow refl))

-- a right reply is right where only what the model determines is compared
pub fewer_compared : (now before : Bool) (w : Wanted) (bytes : List ℕ) → (before ≡ true → now ≡ true) → IsReplyTo before w bytes → IsReplyTo now w bytes
fewer_compared now before w bytes allow is = record {
  reply = is.reply;
  read = is.read;
  tci = is.tci;
  action = is.action;
  class = is.class;
  instance = is.instance;
  contents = λ byte compared. is.contents byte (compared_before now before w byte allow compared);
}
