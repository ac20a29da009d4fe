-- What is written is read.
use Rattle.std.proofs.Common.{◌≡◌, ◌<◌, ℕ, ◌+◌, ◌*◌, ◌/◌, ◌%◌, ◌^◌, Bool, true, false, if◌then◌else◌, List, [], ◌∷◌, ◌++◌, length, Ok, inl, inr, refl, arith, length-append}
use Rattle.std.specs.Prelude.{◌==◌}
use Rattle.std.proofs.lemmas.Bool.{cases_lt}
use Rattle.std.proofs.lemmas.List.{take_at}
use Rattle.byteorder.specs.Endian.{big_bytes, big_number}
use Rattle.byteorder.specs.Numbers.{big_number-reads_back}
use Rattle.omci_msg.specs.Message.{code_of, action_in, number_at, contents_of, is_message_length, is_for_another, asks_answer, acknowledges, is_request, is_reply, spelling, trailer, read_as, request_fields, request_of, request_type, request_spelling, reply_fields, reply_of, reply_type, reply_spelling, FieldsFit}
use Rattle.omci_msg.specs.declared.action.Action.{Action}
use Rattle.omci_msg.specs.declared.fault.MsgFault.{MsgFault}
use Rattle.omci_msg.specs.declared.fault.MsgFault.TheVariants.{NotRequest, NotReply}
use Rattle.omci_msg.specs.declared.request.Request.{Request}
use Rattle.omci_msg.specs.declared.reply.Reply.{Reply}
use Rattle.omci_msg.proofs.Codes.{action_of-code_of, none_above}

-- ---- the message type

-- a number over 31 is that of no action
code-small : (a : Action) → code_of a < 32
code-small a =
    elim (cases_lt (code_of a) 32) [
      | inl small ↦ small
      | inr large ↦ absurd (let none = none_above (code_of a) large in let some = action_of-code_of a in cc)
    ]

-- a message type by its bits AR and AK and its code
record IsType (kind : ℕ) (ar ak : Bool) (code : ℕ) : Type 0 where
  pub for_this_end : is_for_another kind ≡ false
  pub asks : asks_answer kind ≡ ar
  pub answers : acknowledges kind ≡ ak
  pub number : kind % 32 ≡ code

type_by_bits : (ar ak n : ℕ) → ar < 2 → ak < 2 → n < 32 → IsType (ar * 64 + ak * 32 + n) (ar == 1) (ak == 1) n
type_by_bits ar ak n har hak small =
    let destination : (ar * 64 + ak * 32 + n) / 2 ^ 7 % 2 ≡ 0 = omega arith in
    let asks : (ar * 64 + ak * 32 + n) / 2 ^ 6 % 2 ≡ ar = omega arith in
    let answers : (ar * 64 + ak * 32 + n) / 2 ^ 5 % 2 ≡ ak = omega arith in
    record {
      for_this_end = rw destination refl;
      asks = rw asks refl;
      answers = rw answers refl;
      number = omega arith;
    }

type_asked : (wants : Bool) (n : ℕ) → n < 32 → IsType ((if wants then 0x40 else 0) + n) wants false n
type_asked true n small = type_by_bits 1 0 n (omega arith) (omega arith) small
type_asked false n small = type_by_bits 0 0 n (omega arith) (omega arith) small

type_answered : (n : ℕ) → n < 32 → IsType (0x20 + n) false true n
type_answered n small = type_by_bits 0 1 n (omega arith) (omega arith) small

action_back : (a : Action) (kind : ℕ) → kind % 32 ≡ code_of a → action_in kind ≡ a
action_back a kind e = rw (e, action_of-code_of a) refl

-- ---- the fields

-- the fields of a spelling are those that it was made of
record ReadsFields (tci kind class instance : ℕ) (contents : List ℕ) : Type 0 where
  pub tci_read : number_at 0 (spelling tci kind class instance contents) ≡ tci
  pub class_read : number_at 4 (spelling tci kind class instance contents) ≡ class
  pub instance_read : number_at 6 (spelling tci kind class instance contents) ≡ instance
  pub contents_read : contents_of (spelling tci kind class instance contents) ≡ contents
  pub whole : is_message_length (length (spelling tci kind class instance contents)) ≡ true

number_read : (x : ℕ) (rest : List ℕ) → x < 2 ^ 16 → big_number 2 (big_bytes 2 x ++ rest) ≡ x
number_read x rest fits = big_number-reads_back 2 x rest fits

fields_read : (tci kind class instance : ℕ) (contents : List ℕ) → FieldsFit tci class instance contents → ReadsFields tci kind class instance contents
fields_read tci kind class instance contents fit =
    let behind : List ℕ = contents ++ trailer in
    record {
      tci_read = number_read tci (kind ∷ 0x0a ∷ [] ++ big_bytes 2 class ++ big_bytes 2 instance ++ behind) fit.tci_fits;
      class_read = number_read class (big_bytes 2 instance ++ behind) fit.class_fits;
      instance_read = number_read instance behind fit.instance_fits;
      contents_read = take_at contents trailer 32 fit.contents_whole;
      whole = rw (length-append contents trailer, fit.contents_whole) refl;
    }

-- ---- the whole message

read_back : {A : Type 0} (is_expected : ℕ → Bool) (unexpected : MsgFault) (fields : List ℕ → A) (message : A) (tci kind class instance : ℕ) (contents : List ℕ)
    → ReadsFields tci kind class instance contents → is_for_another kind ≡ false → is_expected kind ≡ true
    → fields (spelling tci kind class instance contents) ≡ message
    → read_as is_expected unexpected fields (spelling tci kind class instance contents) ≡ Ok message
read_back is_expected unexpected fields message tci kind class instance contents read for_this_end expected same =
    rw (read.whole, for_this_end, expected, same) refl

pub request_read : (q : Request) → FieldsFit q.tci q.class q.instance q.contents → request_of (request_spelling q) ≡ Ok q
unfolding request_of request_spelling
request_read q fit =
    let kind = request_type q in
    let type = type_asked q.wants_answer (code_of q.action) (code-small q.action) in
    let read = fields_read q.tci kind q.class q.instance q.contents fit in
    let action = action_back q.action kind type.number in
    read_back is_request NotRequest request_fields q q.tci kind q.class q.instance q.contents read type.for_this_end (rw type.answers refl)
    (rw (read.tci_read, action, type.asks, read.class_read, read.instance_read, read.contents_read) refl)

pub reply_read : (r : Reply) → FieldsFit r.tci r.class r.instance r.contents → reply_of (reply_spelling r) ≡ Ok r
unfolding reply_of reply_spelling
reply_read r fit =
    let kind = reply_type r in
    let type = type_answered (code_of r.action) (code-small r.action) in
    let read = fields_read r.tci kind r.class r.instance r.contents fit in
    let action = action_back r.action kind type.number in
    read_back is_reply NotReply reply_fields r r.tci kind r.class r.instance r.contents read type.for_this_end (rw (type.asks, type.answers) refl)
    (rw (read.tci_read, action, read.class_read, read.instance_read, read.contents_read) refl)
