-- What is computed of replies is what is said of them.
use Rattle.std.proofs.Common.{◌≡◌, ℕ, zero, suc, Bool, true, false, List, [], ◌∷◌, Result, Ok, Err, Some, Decides, slice_get, refl, ap, sym, ◌∙◌}
use Rattle.std.specs.Prelude.{◌==◌, ◌&&◌, ◌||◌, not}
use Rattle.std.proofs.lemmas.Bool.{eq-eqb, eqb-true}
use Rattle.std.proofs.lemmas.Option.{same_Some}
use Rattle.omci_msg.specs.declared.fault.MsgFault.{MsgFault}
use Rattle.omci_msg.specs.declared.reply.Reply.{Reply}
use Rattle.omci_msg.specs.Message.{code_of, reply_of}
use Rattle.bench_reply.specs.Replies.{HasHeadOf, IsReplyTo, Wanted, are_same, has_head, is_compared, is_head_same, is_none_compared, is_read_as, is_reply}
use Rattle.bench_reply.proofs.Actions.{same_code}

-- two tests of one fact are the same
pub decided_alike : {P : Type 0} (a b : Bool) → Decides a P → Decides b P → a ≡ b
decided_alike true true one other = refl
decided_alike true false one other = sym (other.1 (one.0 refl))
decided_alike false true one other = one.1 (other.0 refl)
decided_alike false false one other = refl

both : (a b : Bool) → (a && b) ≡ true → (a ≡ true) × (b ≡ true)
both true b is = (refl, is)
both false b is = absurd (cc is)

and_of : (a b : Bool) → a ≡ true → b ≡ true → (a && b) ≡ true
and_of true b one other = other
and_of false b one other = absurd (cc one)

-- ---- heads

-- the fields of a head are the same
pub record IsHead (model reply : Reply) : Type 0 where
  pub tci : reply.tci ≡ model.tci
  pub action : reply.action ≡ model.action
  pub class : reply.class ≡ model.class
  pub instance : reply.instance ≡ model.instance

head_is : (model reply : Reply) → is_head_same model reply ≡ true → IsHead model reply
head_is model reply is =
    let four = both (reply.tci == model.tci && code_of reply.action == code_of model.action && reply.class == model.class) (reply.instance == model.instance) is in
    let three = both (reply.tci == model.tci && code_of reply.action == code_of model.action) (reply.class == model.class) four.0 in
    let two = both (reply.tci == model.tci) (code_of reply.action == code_of model.action) three.0 in
    record {
      tci = eqb-true reply.tci model.tci two.0;
      action = same_code reply.action model.action (eqb-true (code_of reply.action) (code_of model.action) two.1);
      class = eqb-true reply.class model.class three.1;
      instance = eqb-true reply.instance model.instance four.1;
    }

is_head : (model reply : Reply) → IsHead model reply → is_head_same model reply ≡ true
is_head model reply is =
    and_of (reply.tci == model.tci && code_of reply.action == code_of model.action && reply.class == model.class) (reply.instance == model.instance)
    (and_of (reply.tci == model.tci && code_of reply.action == code_of model.action) (reply.class == model.class)
    (and_of (reply.tci == model.tci) (code_of reply.action == code_of model.action)
    (eq-eqb reply.tci model.tci is.tci) (eq-eqb (code_of reply.action) (code_of model.action) (ap code_of is.action)))
    (eq-eqb reply.class model.class is.class)) (eq-eqb reply.instance model.instance is.instance)

ok_same : (r : Result Reply MsgFault) (x y : Reply) → r ≡ Ok x → r ≡ Ok y → x ≡ y
ok_same (Ok z) x y one other = cc (sym one ∙ other)
ok_same (Err fault) x y one other = absurd (cc one)

-- what was read passes a test
read_so : (test : Reply → Bool) (r : Result Reply MsgFault) → is_read_as test r ≡ true → (reply : Reply) × (r ≡ Ok reply) × (test reply ≡ true)
read_so test (Ok reply) is = (reply, refl, is)
read_so test (Err fault) is = absurd (cc is)

so_read : (test : Reply → Bool) (r : Result Reply MsgFault) (reply : Reply) → r ≡ Ok reply → test reply ≡ true → is_read_as test r ≡ true
so_read test r reply read is = ap (is_read_as test) read ∙ is

pub head_decided : (model : Reply) (bytes : List ℕ) → Decides (has_head model bytes) (HasHeadOf model bytes)
head_decided model bytes = (
  λ yes.
      let seen = read_so (is_head_same model) (reply_of bytes) yes in
      let head = head_is model seen.0 seen.2 in
      record { reply = seen.0; read = seen.1; tci = head.tci; action = head.action; class = head.class; instance = head.instance },
  λ has. so_read (is_head_same model) (reply_of bytes) has.reply has.read
      (is_head model has.reply (record { tci = has.tci; action = has.action; class = has.class; instance = has.instance })),
)

-- ---- contents

-- bytes agree with others wherever these are compared
abbrev Agree : (ℕ → Bool) → List ℕ → List ℕ → Type 0
Agree compared seen model = (k : ℕ) → compared k ≡ true → slice_get seen k ≡ slice_get model k

not_so : (b : Bool) → not b ≡ true → b ≡ true → ⊥
not_so true is so = absurd (cc is)
not_so false is so = absurd (cc so)

not_of : (b : Bool) → (b ≡ true → ⊥) → not b ≡ true
not_of true never = absurd (never refl)
not_of false never = refl

none_agree : (c : ℕ → Bool) (ys : List ℕ) → is_none_compared c ys ≡ true → Agree c [] ys
none_agree c [] is k compared = refl
none_agree c (y ∷ ys) is zero compared = absurd (not_so (c 0) (both (not (c 0)) _ is).0 compared)
none_agree c (y ∷ ys) is (suc k) compared = none_agree (λ n. c (suc n)) ys (both (not (c 0)) _ is).1 k compared

agree_none : (c : ℕ → Bool) (ys : List ℕ) → Agree c [] ys → is_none_compared c ys ≡ true
agree_none c [] agree = refl
agree_none c (y ∷ ys) agree =
    and_of (not (c 0)) _ (not_of (c 0) (λ compared. cc (agree 0 compared))) (agree_none (λ n. c (suc n)) ys (λ k compared. agree (suc k) compared))

either_so : (b same : Bool) → (not b || same) ≡ true → b ≡ true → same ≡ true
either_so true same is so = is
either_so false same is so = absurd (cc so)

so_either : (b same : Bool) → (b ≡ true → same ≡ true) → (not b || same) ≡ true
so_either true same is = is refl
so_either false same is = refl

same_agree : (c : ℕ → Bool) (xs ys : List ℕ) → are_same c xs ys ≡ true → Agree c xs ys
same_agree c [] ys is k compared = none_agree c ys is k compared
same_agree c (x ∷ xs) [] is k compared = sym (none_agree c (x ∷ xs) is k compared)
same_agree c (x ∷ xs) (y ∷ ys) is zero compared = ap Some (eqb-true x y (either_so (c 0) (x == y) (both (not (c 0) || x == y) _ is).0 compared))
same_agree c (x ∷ xs) (y ∷ ys) is (suc k) compared = same_agree (λ n. c (suc n)) xs ys (both (not (c 0) || x == y) _ is).1 k compared

agree_same : (c : ℕ → Bool) (xs ys : List ℕ) → Agree c xs ys → are_same c xs ys ≡ true
agree_same c [] ys agree = agree_none c ys agree
agree_same c (x ∷ xs) [] agree = agree_none c (x ∷ xs) (λ k compared. sym (agree k compared))
agree_same c (x ∷ xs) (y ∷ ys) agree =
    and_of (not (c 0) || x == y) _ (so_either (c 0) (x == y) (λ compared. eq-eqb x y (same_Some x y (agree 0 compared))))
    (agree_same (λ n. c (suc n)) xs ys (λ k compared. agree (suc k) compared))

-- ---- right replies

module _ (modelled : Bool) (w : Wanted) (bytes : List ℕ) where
  abbrev test : Reply → Bool
  test reply = is_head_same w.reply reply && are_same (is_compared modelled w) reply.contents w.reply.contents

  computed : is_reply modelled w bytes ≡ true → IsReplyTo modelled w bytes
  computed passes =
      let seen = read_so test (reply_of bytes) passes in
      let two = both (is_head_same w.reply seen.0) (are_same (is_compared modelled w) seen.0.contents w.reply.contents) seen.2 in
      let head = head_is w.reply seen.0 two.0 in
      record {
        reply = seen.0;
        read = seen.1;
        tci = head.tci;
        action = head.action;
        class = head.class;
        instance = head.instance;
        contents = same_agree (is_compared modelled w) seen.0.contents w.reply.contents two.1;
      }

  computes : IsReplyTo modelled w bytes → is_reply modelled w bytes ≡ true
  computes is =
      so_read test (reply_of bytes) is.reply is.read
      (and_of (is_head_same w.reply is.reply) (are_same (is_compared modelled w) is.reply.contents w.reply.contents)
      (is_head w.reply is.reply (record { tci = is.tci; action = is.action; class = is.class; instance = is.instance }))
      (agree_same (is_compared modelled w) is.reply.contents w.reply.contents is.contents))

  pub reply_decided : Decides (is_reply modelled w bytes) (IsReplyTo modelled w bytes)
  reply_decided = (computed, computes)
